-- The two references of an output are lent to the inner one, and the outer one follows both.
use Prim.Native.Nat.{ℕ}
use mathlib.Core.Path.{◌≡◌, refl, sym, ap}
use mathlib.Core.List.{List, [], ◌∷◌}
use lib.ListN.{length}
use seplogic.Ra.Ura.{Ura}
use mir.Syntax.{a_type, named, erased, mut, ty_struct, ty_ref, ty_int, ty_param, w64, tcons, tnil}
use mir.Val.{Val, vstruct, of_list}
use mir.MapTy.{inst_fn}
use base.Fraction.{full_share}
use base.Logic.{ent, sep, emp, id⊢}
use base.Fml.{GName, Fml, ftrue, fsep, fex, feq, fat, flft}
use types.Logic.{Logic, sem}
use types.Kit.{‵, raw, ◌⊛◌, some, later, ◌$◌, ◌∵◌, !, qed, by, move, keep, drop, split, split3, join, fsplit, fsplit3, fjoin, fpick, fpack, feq_i, feq_l, pick, use0, use1, use2, use3, await, rewrite, done}
use types.Part.{sub, whole, look_in}
use types.Run.{stop, fld, hop, addr, no_more, and_then, returns, enter}
use types.ByLocal.{alloc_all, pass_all, free_all, look_at, get, through, sets, lands_as}
use contract.Running.{tables}
use contract.Monad.{fact, fact_i}
use contract.Lifetimes.{lft_at}
use contract.BorrowLft.{◌⊑◌}
use denote.Exit.{no}
use denote.RattleType.{RattleType, Valss, flat}
use denote.Signature.{plain, named_lft, mut_ref_to}
use denote.Builtin.{usize}
use denote.Memory.{mem, cell_at, part_of, pointee}
use denote.Param.{param, layouts}
use denote.Param.Laws.{param_laws}
use denote.Laws.{shows}
use denote.Ref.{MutBor, MutRef, NamedLft, mut_vals, mut_Tells}
use denote.Steps.{nothing, only, heard, opens, closes, peeks}
use denote.Struct.Struct.{within}
use denote.Struct.Declared.{fields, shape}
use denote.Through.{renamed}
use denote.Follow.{follows_both}
use denote.Triple.Call.{calls_at}
use denote.Triple.Clauses.{Lasts, lasts}
use denote.Triple.Spec.{triple_of}
use denote.Triple.Table.{framed}
use denote.Triple.Walked.{Stays, stay_dropped, walk_of, Goes-spent_ref}
use Rattle.std.proofs.raw_atomic.Walks.{proved, leaves}
use Rattle.pgw_wire.specs.declared.output.Output.{Output}
use Rattle.pgw_wire.specs.Room.{Room}
use Rattle.pgw_wire.specs.contracts.buffer.ByteBuffer.{the_row as buffer_row}
use Rattle.pgw_wire.specs.contracts.output.Output.{the_row, the_type}
use Rattle.pgw_wire.specs.contracts.output.Output.reborrow as f
use Rattle.pgw_wire.specs.contracts.output.Output.new as g
use Rattle.pgw_wire.proofs.output.Output.new.Met.{met}
use Rattle.pgw_wire.proofs.output.Output.TheLaws.{lowers}
use Rattle.pgw_wire.proofs.output.Output.reborrow.Statement.{statement}
use Rattle.pgw_wire.proofs.output.Output.reborrow.Code as code
use Rattle.pgw_wire.proofs.Lending.{Held, lends_both}

module _ (a : NamedLft) (P : RattleType) (d : Output P.Denot) (b o : ℕ) where
  abbrev Row : RattleType
  Row = the_row a P

  abbrev Vals : Type 0
  Vals = Valss (fields (the_type a P))

  abbrev word : Vals → List Val
  word vss = vstruct (of_list (flat (fields (the_type a P)) vss)) ∷ []

  abbrev Under : Vals → Fml
  Under vss = fsep (cell_at full_share Row.mir (word vss) b o) (fsep (feq (List Val) vss.0 (mut_vals d.out)) (fsep (feq (List Val) vss.1.0 (mut_vals d.lookup)) (usize.own_val d.start vss.1.1.0)))

  abbrev left : Room → P.Denot → Output P.Denot
  left w u = record d { out = record d.out { now = w }; lookup = record d.lookup { now = u } }

  module _ {M : Type 1} {𝓤 : Ura M} (𝓛 : Logic 𝓤) where
    out_of : ent 𝓤 (sem 𝓛 ((mem Row).own_at d b o)) (sep 𝓤 (sem 𝓛 ((Held buffer_row a.lft d.out).own_at d.out.now 0 0)) (sep 𝓤 (sem 𝓛 ((Held P a.lft d.lookup).own_at d.lookup.now 0 0)) (sem 𝓛 (fex Vals Under))))
    unfolding part_of
    out_of = qed 𝓛 (‵ ((mem Row).own_at d b o) ∷ []) ∵ fpick ! (λ vs. fsplit ! $ move ! (1 ∷ []) $ fpick ! (λ vss. fsplit ! $ feq_l ! (λ e.
        rewrite ! 1 (λ (us : List Val). ‵ (cell_at full_share Row.mir us b o)) e refl $ fsplit3 ! $ move ! (2 ∷ []) $ fsplit ! $ move ! (2 ∷ []) $ fsplit ! $ move ! (4 ∷ []) $ fsplit ! $
        -- [where the lookup is; the lookup; where the buffer is; the buffer; the start; nothing; the cell]
        move ! (0 ∷ 4 ∷ []) $ fjoin ! $ move ! (2 ∷ 0 ∷ []) $ fjoin ! $ move ! (4 ∷ 0 ∷ []) $ fjoin ! $ fpack ! Vals Under vss $ keep ! (2 ∷ 1 ∷ 0 ∷ []) $ done !)))

    home_of : (w : Room) (u : P.Denot) → ent 𝓤 (sep 𝓤 (sem 𝓛 ((Held buffer_row a.lft d.out).own_at w 0 0)) (sep 𝓤 (sem 𝓛 ((Held P a.lft d.lookup).own_at u 0 0)) (sem 𝓛 (fex Vals Under)))) (sem 𝓛 ((mem Row).own_at (left w u) b o))
    unfolding part_of
    home_of w u = let d' = left w u in
        qed 𝓛 (‵ ((Held buffer_row a.lft d.out).own_at w 0 0) ∷ ‵ ((Held P a.lft d.lookup).own_at u 0 0) ∷ ‵ (fex Vals Under) ∷ []) ∵
        move ! (2 ∷ []) $ fpick ! (λ vss. fsplit ! $ move ! (1 ∷ []) $ fsplit3 ! $
        -- [where the buffer is; where the lookup is; the start; the cell; the buffer; the lookup]
        move ! (1 ∷ 5 ∷ []) $ fjoin ! $ move ! (1 ∷ 4 ∷ []) $ fjoin ! $ nothing ! $ move ! (3 ∷ 0 ∷ []) $ fjoin ! $ move ! (2 ∷ 0 ∷ []) $ fjoin ! $ move ! (1 ∷ 0 ∷ []) $ fjoin ! $
        feq_i ! (List Val) (word vss) (word vss) refl $ fjoin ! $ fpack ! Vals (within (shape (the_type a P)) (d'.out, (d'.lookup, (d'.start, tt))) (word vss)) vss $
        move ! (1 ∷ 0 ∷ []) $ fjoin ! $ fpack ! (List Val) (λ us. fsep (cell_at full_share Row.mir us b o) (Row.own_val d' us)) (word vss) $ done !)

pub reborrow_spec : {M : Type 1} → statement M
reborrow_spec 𝓤 𝓛 𝓜 𝓡 wired X L =
    let P : RattleType = param 0 X in let En = f.ended X in let inst = layouts (a_type ∷ []) (X, tt) in let c = f.clauses X 𝓛 𝓜.mem 𝓡.returns in
    let self = plain (λ κs. the_row (named_lft 3 1 tt κs) P) in let hs : Stays En.signature.params En.kept = (stay_dropped (mut_ref_to (0 ∷ []) tt self) no, tt) in
    proved 𝓛 En hs c 𝓜 𝓡 (Goes-spent_ref 𝓛 3 (0 ∷ []) tt self, tt) (f.Key.name inst) (inst_fn inst code.function) (code.unfolded 𝓤 𝓛.H 𝓜 𝓡 wired (X, tt))
    (λ κs. (mut_vals, tt)) (λ κs. (mut_Tells (named 0) κs.0 (the_row (named_lft 3 1 tt κs) P), tt)) (λ κs qs bounds a gh are.
    let κ = κs.0 in let q = qs.0 in let x = a.0 in let b = x.ref_ptr.0 in let o = x.ref_ptr.1 in let d = x.now in let vs = mut_vals x in let long = named_lft 3 1 tt κs in
    let R : RattleType = the_row long P in let y : (walk_of 𝓛 En hs c).Ghost = ((κs, qs, bounds, a, (vs, tt)), gh) in
    let φ = lft_at 3 2 tt κs ⊑ X.lives in
    qed 𝓛 (((‵ (flft κ q) ⊛ ‵ (flft κs.1.0 qs.1.0) ⊛ ‵ (flft κs.1.1.0 qs.1.1.0) ⊛ ‵ ftrue) ⊛ ‵ ((MutRef (named 0) κ R).own_val x vs) ⊛ ‵ ftrue) ∷ raw (sep 𝓤 (fact 𝓤 φ) (emp 𝓤)) ∷ []) ∵
    move ! (1 ∷ []) $ use1 𝓛 (raw (fact 𝓤 φ) ⊛ ‵ ftrue) (id⊢ 𝓤 _) $ split ! $ heard ! φ (λ lives. drop ! $ split ! $ split3 ! $ move ! (3 ∷ []) $ split ! $
    -- [self; nothing; the token of κ; the others' tokens]
    keep ! (0 ∷ 2 ∷ 3 ∷ 4 ∷ []) $
    enter ! _ _ _ _ _ $ alloc_all ! (λ l. pass_all ! refl ((tt, tt), tt) $ fsplit3 ! $ move ! (1 ∷ 2 ∷ 3 ∷ []) $ opens ! tt R b o (λ us.
    move ! (1 ∷ []) $ peeks ! R _ (shows 𝓛 R) d us (λ is.
    let laws = param_laws 0 X L in let word = (lowers long P laws).val_is d us is in let Cell = λ (ws : List Val). ‵ (cell_at full_share R.mir ws b o) in
    let w = (lowers long P laws).lowered d in
    let τ = ty_struct (the_type long P).name (tcons (ty_ref erased mut (pointee buffer_row.written)) (tcons (ty_ref erased mut (ty_param 0)) (tcons (ty_int w64) tnil))) in
    rewrite ! 1 Cell word refl $ move ! (1 ∷ []) $ use1 𝓛 (‵ (fat full_share τ b o w)) (𝓛.laws.raw_at full_share τ b o w) $ move ! (1 ∷ []) $
    sets ! (addr ! (through ! refl (fld ! refl (hop ! (look_in ! 1 (sub ! 0 refl (whole !))) (stop !))))) refl (tt, tt) $
    sets ! (addr ! (through ! refl (fld ! refl (hop ! (look_in ! 1 (sub ! 1 refl (whole !))) (stop !))))) refl (tt, tt) $
    move ! (1 ∷ []) $ use1 𝓛 (Cell (w ∷ [])) (𝓛.laws.at_raw full_share τ b o w) $ rewrite ! 0 Cell (sym word) refl $ closes ! tt R d us b o $
    let Ref = λ (T : RattleType) (h : MutBor T.Denot) (δ : GName). (MutRef (named 0) κ T).own_val (renamed h δ) (mut_vals h) in
    let Last = λ (δ₁ δ₂ : GName). follows_both R buffer_row P x.ghost_name δ₁ δ₂ (left long P d b o) in
    use3 𝓛 (later (some (λ (δs : GName × GName). ‵ (Ref buffer_row d.out δs.0) ⊛ ‵ (Ref P d.lookup δs.1) ⊛ ‵ (flft κ q) ⊛ ‵ (Last δs.0 δs.1))))
    (lends_both 𝓛 R buffer_row P long.lft x d.out d.lookup (left long P d b o) (named 0) κ q (sem 𝓛 (fex (Vals long P d b o) (Under long P d b o))) bounds.0 (out_of long P d b o 𝓛) (home_of long P d b o 𝓛)) $
    await ! tt $ pick ! (λ δs. split3 ! $ move ! (2 ∷ []) $ split ! $
    -- [the token of κ; what follows; the references; where self is; the others' tokens]
    let G = triple_of 𝓛 (g.signature X) (g.spec X 𝓛 𝓜.mem 𝓡.returns) in
    let z : G.Ghost = (((κ, (κs.1.1.0, tt)), (q, (qs.1.1.0, tt)), (bounds.1.0, tt), (renamed d.out δs.0, (renamed d.lookup δs.1, tt)), (mut_vals d.out, (mut_vals d.lookup, tt))), tt) in
    move ! (0 ∷ 6 ∷ []) $ join ! $ nothing ! $ move ! (4 ∷ 0 ∷ []) $ join ! $ move ! (3 ∷ 0 ∷ []) $ join ! $ move ! (1 ∷ 0 ∷ []) $ join ! $
    nothing ! $ use0 𝓛 (raw (fact 𝓤 φ)) (fact_i 𝓤 φ (emp 𝓤) lives) $ join ! $ move ! (1 ∷ 0 ∷ []) $ use2 𝓛 (raw (G.pre z)) (id⊢ 𝓤 _) $
    calls_at ! (framed 𝓤 𝓛.H 𝓜 (tables 𝓤 𝓛.H 𝓜 𝓡 𝓡.env)) G (met 𝓤 𝓛 𝓜 𝓡 (code.calls-pgw_wire::output::Output::new 𝓡.env wired) X L) z
    (and_then ! (get ! refl) (and_then ! (get ! refl) (no_more !))) (λ v.
    let Made : RattleType = the_row (named_lft 3 0 tt κs) P in
    use1 𝓛 (later (some (λ (r : Output X.Denot). ((‵ (flft κ q) ⊛ ‵ (flft κs.1.1.0 qs.1.1.0) ⊛ ‵ ftrue) ⊛ ‵ (Made.own_val r (v ∷ []))) ⊛
    some (λ (ws : Lasts (g.ended X) z.0.0 z.0.3). ‵ (lasts (g.ended X) z.0.0 z.0.3 ws) ⊛ raw (fact 𝓤 ((r.out.ghost_name ≡ δs.0) × (r.out.now ≡ d.out.now))) ⊛
    raw (fact 𝓤 ((r.lookup.ghost_name ≡ δs.1) × (r.lookup.now ≡ d.lookup.now))) ⊛ raw (fact 𝓤 (r.start ≡ length d.out.now.bytes)))))) (id⊢ 𝓤 _) $
    await ! tt $ pick ! (λ r. split ! $ split ! $ move ! (2 ∷ []) $ pick ! (λ ws. split ! $ drop ! $ split3 ! $ heard ! _ (λ e_out. heard ! _ (λ e_lookup. heard ! _ (λ e_start.
    -- [the tokens; the result; what follows; where self is; the token of the long lifetime]
    move ! (1 ∷ []) $ peeks ! Made _ (shows 𝓛 Made) r (v ∷ []) (λ is'. let low = lowers (named_lft 3 0 tt κs) P laws in let e = low.val_is r (v ∷ []) is' in
    rewrite ! 0 (λ (us : List Val). ‵ (Made.own_val r us)) e refl $ lands_as ! (ap only e) refl (tt, (tt, (tt, (record { fits = is'.1.1.1.1.0.1 }, tt)))) $
    rewrite ! 2 (λ (δ : GName). ‵ (Last δ δs.1)) (sym e_out.0) refl $ rewrite ! 2 (λ (δ : GName). ‵ (Last r.out.ghost_name δ)) (sym e_lookup.0) refl $
    returns ! (look_at ! 0 refl) $ free_all ! refl $
    move ! (1 ∷ []) $ split ! $ move ! (5 ∷ 1 ∷ []) $ join ! $ move ! (1 ∷ 0 ∷ []) $ join ! $ nothing ! $ nothing ! $ fjoin ! $
    -- [nothing; the tokens; the result; what follows; where self is]
    use0 𝓛 (raw (fact 𝓤 (r.start ≡ length d.out.now.bytes))) (fact_i 𝓤 _ (emp 𝓤) e_start) $ use0 𝓛 (raw (fact 𝓤 (r.lookup.now ≡ d.lookup.now))) (fact_i 𝓤 _ (emp 𝓤) e_lookup.1) $ join ! $
    use0 𝓛 (raw (fact 𝓤 (r.out.now ≡ d.out.now))) (fact_i 𝓤 _ (emp 𝓤) e_out.1) $ join ! $ move ! (4 ∷ 0 ∷ []) $ join ! $ keep ! (2 ∷ 1 ∷ 3 ∷ 0 ∷ []) $
    by ! (leaves 𝓛 En hs c y (low.lowered r) r (tt, tt) (tt, tt)))))))))))))))
