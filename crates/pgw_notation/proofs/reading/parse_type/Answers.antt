use Rattle.std.proofs.Common.{◌≡◌, Err, ap, subst}
use Rattle.pgw_notation.specs.Faults.{IsFaultOf}
use Rattle.pgw_notation.specs.declared.fault.TypeFault.TheVariants.{NoMemory}
use Rattle.pgw_notation.proofs.Exact.{one_fault, not_both, answers_text, answers_fault, answers_each_text}
use Rattle.pgw_notation.proofs.reading.parse_type.Goals as goal

pub returns-in-Some : goal.returns-in-Some
returns-in-Some c =
    let text = c.args.text.now in
    let found = c.in-Some.fault in
    let is = c.in-Some.ensures.fault in
    record {
      text = tt;
      fault = λ fault some e. let same : found ≡ fault = cc in subst (λ f. IsFaultOf f text) same is;
      no_memory = λ e. let same : found ≡ NoMemory = cc in absurd (subst (λ f. IsFaultOf f text) same is);
      each_fault = λ fault h. ap Err (one_fault text found fault is h);
      each_text = λ t h. absurd (not_both text t found h is);
    }

pub returns-in-None : goal.returns-in-None
returns-in-None c =
    let text = c.args.text.now in
    let r = c.read_text.result in
    let a = c.read_text.ensures in
    let is = c.in-None.ensures.none in
    record {
      text = answers_text text r a;
      fault = answers_fault text r a;
      no_memory = λ e. is;
      each_fault = λ fault h. absurd (not_both text is.0 fault is.1 h);
      each_text = answers_each_text text r a;
    }
