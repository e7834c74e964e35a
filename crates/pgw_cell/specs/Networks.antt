-- What is read of a network's field in the code, as the network that it is.
use Rattle.std.specs.Prelude.{Result, Ok, Err}
use Rattle.pgw_wire.specs.declared.kind.Break.{Break}
use Rattle.pgw_scalar.specs.Networks.{Network}
use Rattle.pgw_cell.specs.declared.network.NetworkField.{NetworkField}

abbrev pub network_of_field : NetworkField → Network
network_of_field f = record { six = f.six; prefix = f.prefix; address = f.address.now }

abbrev pub network_answer : Result NetworkField Break → Result Network Break
network_answer (Ok f) = Ok (network_of_field f)
network_answer (Err kind) = Err kind
