-- An output is lent, the inner one is written to and let go, and the outer one is back as that left it.
use mathlib.Core.Path.{◌≡◌, refl, ◌∙◌, ap}
use mathlib.Core.List.{List, [], ◌∷◌}
use lib.ListN.{length}
use mir.Syntax.{a_type, named}
use mir.Val.{Val, vunit}
use mir.MapTy.{inst_fn}
use base.Fraction.{full_share}
use base.Share
use base.FractionLaws.{common}
use base.Logic.{sep, emp, id⊢, wand, apply∗}
use base.Fml.{Lft, Incl, Incl-trans, Share, GName, ftrue, flft, fdead, fres}
use types.Kit.{‵, raw, ◌⊛◌, some, later, ◌$◌, ◌∵◌, !, qed, by, move, keep, drop, split, split3, join, fsplit, fjoin, feq_i, feq_l, pick, use0, use1, use2, use3, await, rewrite}
use types.Run.{stop, addr, of_opd, unit_lit, no_more, and_then, returns, enter}
use types.ByLocal.{alloc_all, pass_all, free_all, look_at, get, through, sets, lands_as}
use types.Tokens.{lft_new, lft_end, lft-common}
use contract.Running.{tables}
use contract.Monad.{fact, fact_i}
use contract.Lifetimes.{lft_at}
use contract.BorrowLft.{◌⊑◌, meet_⊑_left, meet_⊑_right}
use denote.RattleType.{RattleType}
use denote.Signature.{plain, named_lft}
use denote.Builtin.{unit}
use denote.Lend.{LentAgain, lends_again, comes_back}
use denote.Param.{param, layouts}
use denote.Param.Laws.{param_laws}
use denote.Laws.{shows}
use denote.Ref.{MutBor, MutRef, NamedLft, mut_vals, mut_Tells}
use denote.Steps.{nothing, only, heard, peeks}
use denote.Follow.{follows_both}
use denote.Triple.Call.{calls_at}
use denote.Triple.Clauses.{Lasts, lasts}
use denote.Triple.Spec.{triple_of}
use denote.Triple.Table.{framed}
use denote.Triple.Walked.{Stays, stay_ref, walk_of, Goes-ref}
use Rattle.std.proofs.raw_atomic.Walks.{proved, leaves}
use Rattle.pgw_wire.specs.declared.output.Output.{Output}
use Rattle.pgw_wire.specs.Room.{Room}
use Rattle.pgw_wire.specs.Output.{IsSameOutput}
use Rattle.pgw_wire.specs.contracts.buffer.ByteBuffer.{the_row as buffer_row}
use Rattle.pgw_wire.specs.contracts.output.Output.{the_row}
use Rattle.pgw_wire.specs.contracts.output.clear_within as f
use Rattle.pgw_wire.specs.contracts.output.Output.reborrow as g
use Rattle.pgw_wire.proofs.output.Output.reborrow.Met.{met as reborrow_met}
use Rattle.pgw_wire.specs.contracts.output.clear as h
use Rattle.pgw_wire.proofs.output.clear.Met.{met as clear_met}
use Rattle.pgw_wire.proofs.output.Output.TheLaws.{lowers}
use Rattle.pgw_wire.proofs.output.clear_within.Statement.{statement}
use Rattle.pgw_wire.proofs.output.clear_within.Code as code
use Rattle.pgw_wire.proofs.Lending.{both_followed}

pub clear_within_spec : {M : Type 1} → statement M
clear_within_spec 𝓤 𝓛 𝓜 𝓡 wired X L =
    let A = 𝓛.A in let P : RattleType = param 0 X in let En = f.ended X in let inst = layouts (a_type ∷ []) (X, tt) in let c = f.clauses X 𝓛 𝓜.mem 𝓡.returns in
    let self = plain (λ κs. the_row (named_lft 3 1 tt κs) P) in let hs : Stays En.signature.params En.kept = (stay_ref (0 ∷ []) tt self, tt) in
    proved 𝓛 En hs c 𝓜 𝓡 (Goes-ref 𝓛 3 0 tt self, tt) (f.Key.name inst) (inst_fn inst code.function) (code.unfolded 𝓤 𝓛.H 𝓜 𝓡 wired (X, tt))
    (λ κs. (mut_vals, tt)) (λ κs. (mut_Tells (named 0) κs.0 (the_row (named_lft 3 1 tt κs) P), tt)) (λ κs qs bounds a gh are.
    let κ = κs.0 in let q = qs.0 in let x = a.0 in let b = x.ref_ptr.0 in let o = x.ref_ptr.1 in let d = x.now in let vs = mut_vals x in let long = named_lft 3 1 tt κs in
    let R : RattleType = the_row long P in let y : (walk_of 𝓛 En hs c).Ghost = ((κs, qs, bounds, a, (vs, tt)), gh) in let φ = lft_at 3 2 tt κs ⊑ X.lives in let laws = param_laws 0 X L in
    let ql : Share = Share.left q in let qr : Share = Share.right q in let s : Share = (common full_share qr).0 in
    let F = λ (w : Room) (u : P.Denot). record d { out = record d.out { now = w }; lookup = record d.lookup { now = u } } in
    let Ref = λ (κ' : Lft) (z : MutBor R.Denot). (MutRef (named 0) κ' R).own_val z vs in
    qed 𝓛 (((‵ (flft κ q) ⊛ ‵ (flft κs.1.0 qs.1.0) ⊛ ‵ (flft κs.1.1.0 qs.1.1.0) ⊛ ‵ ftrue) ⊛ ‵ (Ref κ x) ⊛ ‵ ftrue) ∷ raw (sep 𝓤 (fact 𝓤 φ) (emp 𝓤)) ∷ []) ∵
    move ! (1 ∷ []) $ use1 𝓛 (raw (fact 𝓤 φ) ⊛ ‵ ftrue) (id⊢ 𝓤 _) $ split ! $ heard ! φ (λ lives. drop ! $ split ! $ split3 ! $ move ! (3 ∷ []) $ split ! $
    keep ! (0 ∷ 2 ∷ 3 ∷ 4 ∷ []) $ enter ! _ _ _ _ _ $ alloc_all ! (λ l. pass_all ! refl ((tt, tt), tt) $
    sets ! (addr ! (through ! refl (stop !))) refl (tt, tt) $
    move ! (1 ∷ []) $ use1 𝓛 (‵ (flft κ ql) ⊛ ‵ (flft κ qr)) (𝓛.lfts.lft_split κ q) $ split ! $ move ! (2 ∷ 0 ∷ []) $
    lft_new ! tt (λ α. let β : Lft = α ∷ κ in let shorter : Incl β κ = meet_⊑_right (α ∷ []) κ in
    move ! (1 ∷ 2 ∷ []) $ use2 𝓛 (later (some (λ (δ : GName). ‵ (Ref β (record x { ghost_name = δ })) ⊛ ‵ (LentAgain R κ β ql x.ghost_name b o δ d))))
    (lends_again 𝓛 R (named 0) κ β ql x.ghost_name b o (named 0) d) $ await ! tt $ pick ! (λ δ. split ! $
    -- [the loan; what is kept; the token of α; half a token of κ; the others' tokens]
    move ! (2 ∷ 3 ∷ []) $ use2 𝓛 (‵ (flft β s) ⊛ raw (wand 𝓤 (A.lft β s) (sep 𝓤 (A.lft (α ∷ []) full_share) (A.lft κ qr)))) (lft-common 𝓛 (α ∷ []) κ full_share qr) $ split ! $
    let G = triple_of 𝓛 (g.signature X) (g.spec X 𝓛 𝓜.mem 𝓡.returns) in
    let z : G.Ghost = (((β, (κs.1.0, (κs.1.1.0, tt))), (s, (qs.1.0, (qs.1.1.0, tt))), (Incl-trans shorter bounds.0, (Incl-trans shorter bounds.1.0, (bounds.1.1.0, tt))), (record x { ghost_name = δ }, tt), (vs, tt)), tt) in
    move ! (4 ∷ 5 ∷ []) $ join ! $ move ! (1 ∷ 0 ∷ []) $ join ! $ nothing ! $ move ! (3 ∷ 0 ∷ []) $ join ! $ move ! (1 ∷ 0 ∷ []) $ join ! $
    nothing ! $ use0 𝓛 (raw (fact 𝓤 φ)) (fact_i 𝓤 φ (emp 𝓤) lives) $ join ! $ move ! (1 ∷ 0 ∷ []) $ use2 𝓛 (raw (G.pre z)) (id⊢ 𝓤 _) $
    calls_at ! (framed 𝓤 𝓛.H 𝓜 (tables 𝓤 𝓛.H 𝓜 𝓡 𝓡.env)) G (reborrow_met 𝓤 𝓛 𝓜 𝓡 (code.calls-pgw_wire::output::Output::reborrow 𝓡.env wired) X L) z (and_then ! (get ! refl) (no_more !)) (λ v.
    let short : NamedLft = record { mir = named 0; lft = β } in let Made : RattleType = the_row short P in let Last = λ (r : Output X.Denot). follows_both R buffer_row P δ r.out.ghost_name r.lookup.ghost_name F in
    use1 𝓛 (later (some (λ (r : Output X.Denot). ((‵ (flft β s) ⊛ ‵ (flft κs.1.0 qs.1.0) ⊛ ‵ (flft κs.1.1.0 qs.1.1.0) ⊛ ‵ ftrue) ⊛ ‵ (Made.own_val r (v ∷ []))) ⊛
    some (λ (ws : Lasts (g.ended X) z.0.0 z.0.3). ‵ (lasts (g.ended X) z.0.0 z.0.3 ws) ⊛ ‵ (Last r) ⊛ raw (fact 𝓤 (r.out.now ≡ d.out.now)) ⊛ raw (fact 𝓤 (r.lookup.now ≡ d.lookup.now)) ⊛ raw (fact 𝓤 (r.start ≡ length d.out.now.bytes)))))) (id⊢ 𝓤 _) $
    await ! tt $ pick ! (λ r. split ! $ split ! $ move ! (2 ∷ []) $ pick ! (λ ws. split ! $ drop ! $ split3 ! $ move ! (1 ∷ 2 ∷ []) $ drop ! $ split ! $ heard ! _ (λ e_lookup. drop ! $
    -- [what follows; the tokens; the inner output; the way back of the tokens; what is kept]
    move ! (2 ∷ []) $ peeks ! Made _ (shows 𝓛 Made) r (v ∷ []) (λ is. let low = lowers short P laws in let e = low.val_is r (v ∷ []) is in let vs' = low.lowered r ∷ [] in
    rewrite ! 0 (λ (us : List Val). ‵ (Made.own_val r us)) e refl $ lands_as ! (ap only e) refl (tt, (tt, (tt, (record { fits = is.1.1.1.1.0.1 }, tt)))) $
    let H = triple_of 𝓛 (h.signature X) (h.spec X 𝓛 𝓜.mem 𝓡.returns) in
    let z' : H.Ghost = (((β, (κs.1.1.0, tt)), (s, (qs.1.1.0, tt)), (Incl-trans shorter bounds.1.0, tt), (r, tt), (vs', tt)), tt) in
    move ! (2 ∷ []) $ split3 ! $ move ! (0 ∷ 2 ∷ []) $ join ! $ nothing ! $ move ! (3 ∷ 0 ∷ []) $ join ! $ move ! (1 ∷ 0 ∷ []) $ join ! $
    nothing ! $ use0 𝓛 (raw (fact 𝓤 φ)) (fact_i 𝓤 φ (emp 𝓤) lives) $ join ! $ move ! (1 ∷ 0 ∷ []) $ use2 𝓛 (raw (H.pre z')) (id⊢ 𝓤 _) $
    calls_at ! (framed 𝓤 𝓛.H 𝓜 (tables 𝓤 𝓛.H 𝓜 𝓡 𝓡.env)) H (clear_met 𝓤 𝓛 𝓜 𝓡 (code.calls-pgw_wire::output::clear 𝓡.env wired) X L) z' (and_then ! (get ! refl) (no_more !)) (λ v'.
    use1 𝓛 (later (some (λ (u : Unit {0}). ((‵ (flft β s) ⊛ ‵ (flft κs.1.1.0 qs.1.1.0) ⊛ ‵ ftrue) ⊛ ‵ (unit.own_val u (v' ∷ []))) ⊛
    some (λ (ws : Lasts (h.ended X) z'.0.0 z'.0.3). ‵ (lasts (h.ended X) z'.0.0 z'.0.3 ws) ⊛ raw (fact 𝓤 (ws.0.0.bytes ≡ [])) ⊛ raw (fact 𝓤 (ws.0.1.0 ≡ r.lookup.now)))))) (id⊢ 𝓤 _) $
    await ! tt $ pick ! (λ u. split ! $ split ! $ move ! (1 ∷ []) $ feq_l ! (λ is_unit. lands_as ! (ap only is_unit) refl (tt, tt) $
    move ! (1 ∷ []) $ pick ! (λ ends. split3 ! $ move ! (1 ∷ 2 ∷ []) $ heard ! _ (λ w_out. heard ! _ (λ w_lookup. let new = F ends.0.0 d.lookup.now in
    -- [the last values; the tokens; the long lifetime's; what follows; the way back of the tokens; what is kept]
    fsplit ! $ fsplit ! $ fsplit ! $ move ! (2 ∷ []) $ fsplit ! $ fsplit ! $
    rewrite ! 0 (λ (m : P.Denot). ‵ (fres r.lookup.ghost_name (P.coded.code m))) (w_lookup ∙ e_lookup) refl $
    move ! (3 ∷ 0 ∷ []) $ join ! $ move ! (0 ∷ 7 ∷ []) $ use2 𝓛 (‵ (fres δ (R.coded.code new))) (both_followed 𝓛 R buffer_row P F δ r.out.ghost_name r.lookup.ghost_name ends.0.0 d.lookup.now) $
    move ! (5 ∷ []) $ split ! $ move ! (0 ∷ 8 ∷ []) $ use2 𝓛 (‵ (flft (α ∷ []) full_share) ⊛ ‵ (flft κ qr)) (apply∗ 𝓤 (A.lft β s) (sep 𝓤 (A.lft (α ∷ []) full_share) (A.lft κ qr))) $ split ! $
    lft_end ! tt $ use1 𝓛 (‵ (fdead β)) (𝓛.lfts.dead-incl β (α ∷ []) (meet_⊑_left (α ∷ []) κ)) $ move ! (0 ∷ 9 ∷ 3 ∷ []) $
    use3 𝓛 (later (‵ (Ref κ (record x { now = new })) ⊛ ‵ (flft κ ql))) (comes_back 𝓛 R (named 0) κ β ql x.ghost_name b o δ d new) $ await ! tt $ split ! $
    move ! (1 ∷ 2 ∷ []) $ use2 𝓛 (‵ (flft κ q)) (𝓛.lfts.lft_join κ q) $
    -- [the token of κ; self; the token of L's lifetime; the rest; the long lifetime's]
    sets ! (of_opd ! (unit_lit !)) refl (tt, tt) $ returns ! (look_at ! 0 refl) $ free_all ! refl $
    move ! (7 ∷ 2 ∷ []) $ join ! $ move ! (1 ∷ 0 ∷ []) $ join ! $ nothing ! $ move ! (2 ∷ 0 ∷ []) $ fjoin ! $ feq_i ! (List Val) (vunit ∷ []) (vunit ∷ []) refl $
    use0 𝓛 (raw (fact 𝓤 (IsSameOutput d new))) (fact_i 𝓤 _ (emp 𝓤) (refl, refl, refl)) $ use0 𝓛 (raw (fact 𝓤 (new.lookup.now ≡ d.lookup.now))) (fact_i 𝓤 _ (emp 𝓤) refl) $ join ! $
    use0 𝓛 (raw (fact 𝓤 (new.out.now.bytes ≡ []))) (fact_i 𝓤 _ (emp 𝓤) w_out) $ join ! $
    keep ! (3 ∷ 2 ∷ 1 ∷ 0 ∷ []) $ by ! (leaves 𝓛 En hs c y vunit tt (new, tt) (tt, tt))))))))))))))))))
