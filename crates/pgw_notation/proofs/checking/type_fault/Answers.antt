use Rattle.pgw_notation.proofs.Checked.{check_fault, check_none, check_each_fault, check_each_text}
use Rattle.pgw_notation.proofs.checking.type_fault.Goals as goal

pub returns : goal.returns
returns c =
    let text = c.args.text.now in
    let r = c.check_text.result in
    let a = c.check_text.ensures in
    record {
      fault = check_fault text r a;
      none = check_none text r a;
      each_fault = check_each_fault text r a;
      each_text = check_each_text text r a;
    }
