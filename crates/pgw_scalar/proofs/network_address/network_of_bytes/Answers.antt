-- Where the family is known, the piece is the four bytes in front of the address and the address.
use Rattle.pgw_scalar.proofs.NetworkAnswers.{with_header}
use Rattle.pgw_scalar.proofs.network_address.network_of_bytes.Goals as goal

pub returns-in-2-clause-network : goal.returns-in-2-clause-network
returns-in-2-clause-network c =
    with_header c.args.type_byte 2 c.args.bytes.now c.network_of_four.result c.in-len4-up.len_at_least c.in-2.is c.if-third-type_byte.false c.network_of_four.ensures.network

pub returns-in-3-clause-network : goal.returns-in-3-clause-network
returns-in-3-clause-network c =
    with_header c.args.type_byte 3 c.args.bytes.now c.network_of_six.result c.in-len4-up.len_at_least c.in-3.is c.if-third-type_byte.false c.network_of_six.ensures.network
