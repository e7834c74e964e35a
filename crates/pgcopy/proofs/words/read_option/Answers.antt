use Rattle.std.proofs.Common.{sym, ap, ◌∙◌, option_map}
use Rattle.pgcopy.specs.OidWords.{given_entry}
use Rattle.pgcopy.specs.Words.{number_of, texts}
use Rattle.pgcopy.proofs.ReadingWords.{rows_seen, field_seen, oid_new, oid_seen}
use Rattle.pgcopy.proofs.words.read_option.Goals as goal

pub returns-in_ok-rows : goal.returns-in_ok-rows
returns-in_ok-rows c = λ seen all option.
    let is = sym c.behind.ensures ∙ ap (option_map (λ x. x.now)) c.in-Some.is in
    let given = c.in_ok-rows.ensures ∙ ap (number_of 18446744073709551615 c.in-Some.digits.now) c.is_some.ensures in
    rows_seen c.args.seen c.in_ok-rows.rows c.args.word.now c.in-Some.digits.now (texts c.args.before.now) seen all option is given

pub returns-in_ok-field : goal.returns-in_ok-field
returns-in_ok-field c = λ seen all option.
    let is = sym c.behind-in_default.ensures ∙ ap (option_map (λ x. x.now)) c.in-Some-behind.is in
    let given = c.in_ok-field.ensures ∙ ap (number_of 2147483647 c.in-Some-behind.digits.now) c.is_some-in-Some-behind.ensures in
    field_seen c.args.seen c.in_ok-field.field c.args.word.now c.in-Some-behind.digits.now (texts c.args.before.now) seen all option is given

pub returns-in-Some-2 : goal.returns-in-Some-2
returns-in-Some-2 c = λ seen all option.
    let no_rows = sym c.behind.ensures ∙ ap (option_map (λ x. x.now)) c.in_default.is in
    let no_field = sym c.behind-in_default.ensures ∙ ap (option_map (λ x. x.now)) c.in_default-behind.is in
    let gives = sym c.oids_of.ensures ∙ ap (option_map given_entry) c.in-Some-oids_of.is in
    let new = oid_new (texts c.args.before.now) c.args.word.now (given_entry c.in-Some-oids_of.given) gives (sym c.is_given.ensures ∙ c.if-is_given.false) in
    oid_seen c.args.seen c.args.word.now (texts c.args.before.now) seen all option no_rows no_field new
