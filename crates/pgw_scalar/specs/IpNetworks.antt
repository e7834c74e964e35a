-- Which network a value of the Rust type `IpNetwork` is.
use Rattle.std.specs.Prelude.{true, false}
use Rattle.pgw_scalar.specs.Networks.{Network}
use Rattle.pgw_scalar.specs.declared.networks.IpNetwork.{IpNetwork}
use Rattle.pgw_scalar.specs.declared.networks.IpNetwork.TheVariants.{V4, V6}

abbrev pub network_of : IpNetwork → Network
network_of (V4 n) = record { six = false; prefix = n.prefix; address = n.ip }
network_of (V6 n) = record { six = true; prefix = n.prefix; address = n.ip }
