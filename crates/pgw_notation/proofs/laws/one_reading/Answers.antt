use Rattle.pgw_notation.proofs.Exact.{type_or_fault, one_type, one_fault, not_both, one_text}
use Rattle.pgw_notation.proofs.laws.one_reading.Goals as goal

pub returns : goal.returns
returns c = record {
  type_or_fault = type_or_fault;
  one_type = one_type;
  one_fault = one_fault;
  not_both = not_both;
  one_text = one_text;
}
