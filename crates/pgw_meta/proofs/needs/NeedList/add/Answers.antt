use Rattle.std.proofs.Common.{◌∙◌, refl, ap, Bool}
use Rattle.pgw_meta.specs.Known.{Key}
use Rattle.pgw_meta.specs.Needs.{NeededKey, needed_keys}
use Rattle.pgw_meta.specs.Keys.{key_of, owned_key}
use Rattle.pgw_meta.proofs.AddedNeeds.{add_new, add_old}
use Rattle.pgw_meta.proofs.needs.NeedList.add.Goals as goal

abbrev need_of : Key → Bool → Bool → NeededKey
need_of k type_side array_side = record { key = k; type_side = type_side; array_side = array_side }

pub returns : goal.returns
returns c =
    ap needed_keys c.in_ok-push.ensures.items
    ∙ add_new c.self.inside.needs.items c.deref.result.now c.args.self.now _ (key_of c.as_key.result)
    (need_of (owned_key c.args.key.now) c.args.type_side c.args.array_side) c.deref.ensures.value c.as_key.ensures
    c.in_default.ensures.none (ap (λ k. need_of k c.args.type_side c.args.array_side) c.in_ok-copy.ensures) c.self.view_is

pub returns-in-Some : goal.returns-in-Some
returns-in-Some c =
    add_old c.self.inside.needs.items c.deref.result.now c.args.self.now c.in-Some.place c.index_mut-need.result.now _ (key_of c.as_key.result)
    (need_of (owned_key c.args.key.now) c.args.type_side c.args.array_side) c.deref.ensures.value c.as_key.ensures
    c.in-Some.ensures.some c.index_mut-need.ensures.value refl c.self.view_is
