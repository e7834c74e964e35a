use Rattle.std.proofs.Common.{◌≡◌, ◌∷◌, codes, length, map, string_bytes, sym, ap, subst, ◌∙◌, rules}
use Rattle.std.proofs.lemmas.List.{length-map}
use Rattle.pgcopy.specs.Words.{plan_of_texts}
use Rattle.pgcopy.specs.WordsRead.{AreColumns}
use Rattle.pgcopy.proofs.AllWords.{no_type_of_all, too_many_of_all, all_read}
use Rattle.pgcopy.proofs.Plans.{wrong_together}
use Rattle.pgcopy.proofs.words.read_all.Goals as goal

pub returns-then-seen-eq0-clause-err : goal.returns-then-seen-eq0-clause-err
returns-then-seen-eq0-clause-err c =
    let words : map string_bytes c.args.words.now ≡ codes "copy" ∷ map string_bytes c.in-Some.rest.now = search rules in
    let read = c.in_ok-seen.ensures.ok in
    let rest = map string_bytes c.in-Some.rest.now in
    ap plan_of_texts words ∙ wrong_together rest _ (no_type_of_all rest (length c.args.words.now) c.in_ok-seen.seen.types (sym (length-map c.args.words.now string_bytes) ∙ ap length words) read.0.types (search rules)) read.1

pub returns-then-seen-gt-COLUMNS_MAX-clause-err : goal.returns-then-seen-gt-COLUMNS_MAX-clause-err
returns-then-seen-gt-COLUMNS_MAX-clause-err c =
    let words : map string_bytes c.args.words.now ≡ codes "copy" ∷ map string_bytes c.in-Some.rest.now = search rules in
    let read = c.in_ok-seen.ensures.ok in
    let rest = map string_bytes c.in-Some.rest.now in
    ap plan_of_texts words ∙ wrong_together rest _ (too_many_of_all rest (length c.args.words.now) c.in_ok-seen.seen.types (sym (length-map c.args.words.now string_bytes) ∙ ap length words) read.0.types (search rules)) read.1

pub returns-clause-ok : goal.returns-clause-ok
returns-clause-ok c =
    let words : map string_bytes c.args.words.now ≡ codes "copy" ∷ map string_bytes c.in-Some.rest.now = search rules in
    let read = c.in_ok-seen.ensures.ok in
    subst (λ ws. AreColumns c.in_ok-seen.seen ws) (sym words) (all_read (map string_bytes c.in-Some.rest.now) c.in_ok-seen.seen read.0 read.1 (search rules) (search rules))
