use Rattle.std.proofs.Common.{rules, ◌≡◌, Ok, [], length, ◌++◌, take, arith, length-append, length-drop, refl, sym, ap, ◌∙◌}
use Rattle.std.proofs.lemmas.List.{length-take-le, take_all}
use Rattle.pgw_wire.proofs.Taking.{took_then, took_weaker, took_consumed, took_kept, takes_done, takes_error}
use Rattle.pgw_copy.specs.Reader.{truncated, read_fault}
use Rattle.pgw_copy.specs.declared.fault.CopyReadError.TheVariants.{Truncated, ReadFault}
use Rattle.pgw_copy.proofs.Buffers.{filled_more}
use Rattle.pgw_copy.proofs.filling.fill_by_reads.Goals as goal

pub returns-in-Ok-eq0 : goal.returns-in-Ok-eq0
returns-in-Ok-eq0 g c = record {
  takes = takes_error Truncated _ _
      (took_then c.loop-filled.invariant.took
      (took_consumed _ _ (take c.in-Ok-eq0.field-0 c.read.new.buf) (λ taken. length taken ≡ 0) (search rules) c.read.ensures.goes_on (ap (λ n. length (take n c.read.new.buf)) c.in-Ok-eq0.field-0-test))
      (λ x y e none. truncated refl (omega (arith, none, ap length e, length-append x y, length-take-le c.loop-filled.filled c.loop-filled.buf (omega arith)))))
      (λ _. c.in-Ok-eq0.ensures.end (ap Ok c.in-Ok-eq0.field-0-test) (omega (arith, length-drop c.loop-filled.filled c.loop-filled.buf, c.read.auto.buf)))
      (λ h. absurd (cc));
}

pub loop-filled-preserved : goal.loop-filled-preserved
loop-filled-preserved g c = record {
  within = search rules;
  took = took_then c.loop-filled.invariant.took (took_consumed _ _ (take c.in-Ok.n c.read.new.buf) (λ taken. taken ≡ take c.in-Ok.n c.read.new.buf) (search rules) c.read.ensures.goes_on refl)
      (λ x y e f. ap (λ l. l ++ y) e ∙ ap (λ l. take c.loop-filled.filled c.loop-filled.buf ++ l) f ∙ sym (filled_more _ _ _ _ _ (omega arith) (omega (arith, c.in-Ok.ensures.within, c.read.auto.buf))));
}

pub returns-in-Err : goal.returns-in-Err
returns-in-Err g c = record {
  takes = takes_error ReadFault _ _
      (took_then c.loop-filled.invariant.took (took_kept _ _ (λ taken. taken ≡ []) (search rules) c.read.ensures.goes_on refl)
      (λ x y e none. read_fault refl (omega (arith, ap length none, ap length e, length-append x y, length-take-le c.loop-filled.filled c.loop-filled.buf (omega arith)))))
      (λ h. absurd (cc))
      (λ _. omega (arith, c.loop-filled.invariant.took.goes_on.0, c.in-Err.ensures.failed));
}

pub returns : goal.returns
returns g c = record {
  takes = takes_done _ _ _ (took_weaker c.loop-filled.invariant.took (λ x e. e ∙ take_all _ _ (omega arith)));
}
