-- The three numbers stand one behind the other.
use Rattle.std.proofs.Common.{◌≡◌, ℕ, ℤ, List, rules, ◌++◌, w32, w64, refl, ap, ◌∙◌}
use Rattle.std.specs.Int.{Width}
use Rattle.std.proofs.lemmas.Int.{to_z-of_z}
use Rattle.std.proofs.lemmas.List.{append_assoc}
use mir.Val.{SFits, to_z, of_z}
use Rattle.pgw_scalar.specs.Whole.{signed_bytes}
use Rattle.pgw_time.specs.Interval.{interval_bytes, interval_of}
use Rattle.pgw_time.proofs.interval.PgIntervalToSqlInterval.to_sql.Goals as goal

-- what is appended, as the bytes of the number
appended : (w : Width) (before after piece : List ℕ) (n : ℤ) → SFits w n → after ≡ before ++ piece → piece ≡ signed_bytes w (to_z w (of_z w n)) → after ≡ before ++ signed_bytes w n
appended w before after piece n fits ok is = ok ∙ ap (λ l. before ++ l) (is ∙ ap (signed_bytes w) (to_z-of_z w n fits))

-- what is appended thrice
joined : (start first second third a b c : List ℕ) → first ≡ start ++ a → second ≡ first ++ b → third ≡ second ++ c → third ≡ start ++ (a ++ b ++ c)
joined start first second third a b c one two three =
    rw (three, two, one) (ap (λ l. l ++ c) (append_assoc start a b) ∙ append_assoc start (a ++ b) c)

pub returns : goal.returns
returns g c =
    let v = c.args.self.now in
    let one = appended w64 _ _ _ v.microseconds (search rules) c.in_ok-write_all.ensures.ok c.to_be_bytes.ensures in
    let two = appended w32 _ _ _ v.days (search rules) c.in_ok-write_all-2.ensures.ok c.to_be_bytes-2.ensures in
    let three = appended w32 _ _ _ v.months (search rules) c.in_ok-write_all-3.ensures.ok c.to_be_bytes-3.ensures in
    record {
      bytes = interval_bytes (interval_of v);
      buffer = joined _ _ _ _ (signed_bytes w64 v.microseconds) (signed_bytes w32 v.days) (signed_bytes w32 v.months) one two three;
      answer = (refl, refl);
      same = search rules;
      lookup = search rules;
    }
