use Rattle.std.proofs.Common.{sym, ◌∙◌}
use Rattle.pgcopy.specs.Numbers.{read_number}
use Rattle.pgcopy.specs.OidWords.{names_in}
use Rattle.pgcopy.proofs.OidWords.{uncut, uncut_again, cut_twice, no_oid, no_array_oid, no_names, made}
use Rattle.pgcopy.proofs.oid_words.given_oids.Goals as goal

pub returns-in_err-named : goal.returns-in_err-named
returns-in_err-named c = rw c.from_residual.ensures (uncut c.args.text.now c.split_once.result c.split_once.ensures.cases c.in_err-named.was)

pub returns-in_err-oid : goal.returns-in_err-oid
returns-in_err-oid c =
    rw c.from_residual-in_err-oid.ensures (uncut_again c.args.text.now (c.in_ok-named.named, c.in_ok-named.oids) c.split_once.result c.split_once-2.result c.split_once.ensures.cases c.in_ok-named.was c.split_once-2.ensures.cases c.in_err-oid.was)

pub returns-in_err-oid-2 : goal.returns-in_err-oid-2
returns-in_err-oid-2 c =
    let whole = cut_twice c.args.text.now (c.in_ok-named.named, c.in_ok-named.oids) (c.in_ok-oid.oid, c.in_ok-oid.array_oid) c.split_once.result c.split_once-2.result c.split_once.ensures.cases c.in_ok-named.was c.split_once-2.ensures.cases c.in_ok-oid.was in
    rw c.from_residual-in_err-oid-2.ensures (no_oid (names_in c.in_ok-named.named.now) (read_number 4294967295 c.in_ok-oid.oid.now) (read_number 4294967295 c.in_ok-oid.array_oid.now) (sym c.oid_in.ensures ∙ c.in_err-oid-2.was) ∙ whole)

pub returns-in_err-array_oid : goal.returns-in_err-array_oid
returns-in_err-array_oid c =
    let whole = cut_twice c.args.text.now (c.in_ok-named.named, c.in_ok-named.oids) (c.in_ok-oid.oid, c.in_ok-oid.array_oid) c.split_once.result c.split_once-2.result c.split_once.ensures.cases c.in_ok-named.was c.split_once-2.ensures.cases c.in_ok-oid.was in
    rw c.from_residual-in_err-array_oid.ensures (no_array_oid (names_in c.in_ok-named.named.now) (read_number 4294967295 c.in_ok-oid.oid.now) (read_number 4294967295 c.in_ok-oid.array_oid.now) (sym c.oid_in-2.ensures ∙ c.in_err-array_oid.was) ∙ whole)

pub returns-else-are_names : goal.returns-else-are_names
returns-else-are_names c =
    let whole = cut_twice c.args.text.now (c.in_ok-named.named, c.in_ok-named.oids) (c.in_ok-oid.oid, c.in_ok-oid.array_oid) c.split_once.result c.split_once-2.result c.split_once.ensures.cases c.in_ok-named.was c.split_once-2.ensures.cases c.in_ok-oid.was in
    no_names (names_in c.in_ok-named.named.now) c.names_in.result.0.now c.names_in.result.1.now (read_number 4294967295 c.in_ok-oid.oid.now) (read_number 4294967295 c.in_ok-oid.array_oid.now) c.names_in.ensures (sym c.are_names.ensures ∙ c.if-are_names.false) ∙ whole

pub returns-then-are_names : goal.returns-then-are_names
returns-then-are_names c =
    let whole = cut_twice c.args.text.now (c.in_ok-named.named, c.in_ok-named.oids) (c.in_ok-oid.oid, c.in_ok-oid.array_oid) c.split_once.result c.split_once-2.result c.split_once.ensures.cases c.in_ok-named.was c.split_once-2.ensures.cases c.in_ok-oid.was in
    made (names_in c.in_ok-named.named.now) c.names_in.result.0.now c.names_in.result.1.now (read_number 4294967295 c.in_ok-oid.oid.now) (read_number 4294967295 c.in_ok-oid.array_oid.now) c.in_ok-oid-2.oid c.in_ok-array_oid.array_oid c.names_in.ensures (sym c.are_names.ensures ∙ c.if-are_names.true) (sym c.oid_in.ensures ∙ c.in_ok-oid-2.was) (sym c.oid_in-2.ensures ∙ c.in_ok-array_oid.was) ∙ whole
