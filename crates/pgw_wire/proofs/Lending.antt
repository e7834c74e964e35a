-- Two references within what a third points at are lent for all of its time.
use mathlib.Core.Path.{refl}
use mathlib.Core.List.{List, [], ◌∷◌}
use seplogic.Ra.Ura.{Ura}
use mir.Syntax.{Lifetime}
use mir.Val.{Val}
use base.Logic.{SProp, ent, sep, ex, wand, emp, guard_i, id⊢}
use base.Fml.{Lft, Incl, GName, Share, ftrue, fsep, fobs, fres, fbor, flft}
use types.Logic.{Logic, sem}
use types.Kit.{‵, raw, ◌⊛◌, some, later, await, ◌$◌, ◌∵◌, !, qed, by, move, keep, use0, use1, use2, use3, pick, show, split, split3, join, group, fsplit, fjoin, fjoin3, feq_i, updating, now as at_once, each, assume, done}
use types.SemTy.{SemTy, Body}
use types.Mut.{open_ref}
use types.Follow.{after, after₂, followed, followed₂, takes_two}
use types.Through.{hands_through}
use denote.RattleType.{RattleType}
use denote.Memory.{mem}
use denote.Ref.{MutBor, MutRef, mut_vals}
use denote.Follow.{both_by, follows_both}
use denote.Through.{renamed}

-- a reference that is held: what its name shows, and its borrow
abbrev pub Held : (T : RattleType) → Lft → MutBor T.Denot → SemTy
Held T κ h = record {
  rep = T.Denot;
  coded = T.coded;
  size = 0;
  own_at = λ w _ _. fsep (fobs h.ghost_name (T.coded.code w)) (fbor κ (Body (mem T) h.ref_ptr.0 h.ref_ptr.1 h.ghost_name));
}

module _ {M : Type 1} {𝓤 : Ura M} (𝓛 : Logic 𝓤) where
  open 𝓛 use {H, A}

  module _ (T : RattleType) (κ κ' : Lft) (q : Share) (γ : GName) (h : MutBor T.Denot) where
    abbrev In : SemTy
    In = Held T κ' h

    abbrev Handed : GName → SProp 𝓤
    Handed δ = sep 𝓤 (A.obs δ (T.coded.code h.now)) (sep 𝓤 (A.bor κ (Body (mem T) h.ref_ptr.0 h.ref_ptr.1 δ)) (sep 𝓤 (A.lft κ q) (sem 𝓛 (after In (mem T) γ δ (λ w. w)))))

    cut : ent 𝓤 (sem 𝓛 (In.own_at h.now 0 0)) (sep 𝓤 (A.obs h.ghost_name (T.coded.code h.now)) (sep 𝓤 (A.bor κ' (Body (mem T) h.ref_ptr.0 h.ref_ptr.1 h.ghost_name)) (sem 𝓛 ftrue)))
    cut = qed 𝓛 (‵ (In.own_at h.now 0 0) ∷ []) ∵ fsplit ! $ use0 𝓛 (‵ ftrue) (id⊢ 𝓤 (emp 𝓤)) $ move ! (1 ∷ 2 ∷ 0 ∷ []) $ done !

    back : (w : T.Denot) → Unit {0} → ent 𝓤 (sep 𝓤 (A.obs h.ghost_name (T.coded.code w)) (sep 𝓤 (A.bor κ' (Body (mem T) h.ref_ptr.0 h.ref_ptr.1 h.ghost_name)) (sem 𝓛 ftrue))) (sem 𝓛 (In.own_at w 0 0))
    back w _ = qed 𝓛 (‵ (fobs h.ghost_name (T.coded.code w)) ∷ ‵ (fbor κ' (Body (mem T) h.ref_ptr.0 h.ref_ptr.1 h.ghost_name)) ∷ ‵ ftrue ∷ []) ∵ fjoin ! $ keep ! (0 ∷ []) $ done !

    pub hands : Incl κ κ' → ent 𝓤 (sep 𝓤 (A.obs γ (T.coded.code h.now)) (sep 𝓤 (A.bor κ (Body In 0 0 γ)) (A.lft κ q))) (H.⇛ (ex 𝓤 Handed))
    hands inc = hands_through 𝓛 In (mem T) (λ w. w) κ κ' inc 0 0 h.ref_ptr.0 h.ref_ptr.1 γ h.ghost_name (sem 𝓛 ftrue) (λ _. Unit {0}) (λ w. guard_i 𝓤 (Unit {0}) (sem 𝓛 ((mem T).own_at w h.ref_ptr.0 h.ref_ptr.1)) tt) back q h.now h.now cut

  module _ (R B L : RattleType) (κ' : Lft) (x : MutBor R.Denot) (h : MutBor B.Denot) (k : MutBor L.Denot) (F : B.Denot → L.Denot → R.Denot) where
    abbrev HB : SemTy
    HB = Held B κ' h

    abbrev HL : SemTy
    HL = Held L κ' k

    follow_on : (γ₁ γ₂ δ₁ δ₂ : GName) → ent 𝓤 (sep 𝓤 (sem 𝓛 (after₂ (mem R) HB HL x.ghost_name γ₁ γ₂ F)) (sep 𝓤 (sem 𝓛 (after HB (mem B) γ₁ δ₁ (λ w. w))) (sem 𝓛 (after HL (mem L) γ₂ δ₂ (λ w. w)))))
        (sem 𝓛 (follows_both R B L x.ghost_name δ₁ δ₂ F))
    unfolding both_by
    follow_on γ₁ γ₂ δ₁ δ₂ =
        qed 𝓛 (‵ (after₂ (mem R) HB HL x.ghost_name γ₁ γ₂ F) ∷ ‵ (after HB (mem B) γ₁ δ₁ (λ w. w)) ∷ ‵ (after HL (mem L) γ₂ δ₂ (λ w. w)) ∷ []) ∵
        each ! (λ (w : B.Denot × L.Denot). wand 𝓤 (sep 𝓤 (A.res δ₁ (B.coded.code w.0)) (A.res δ₂ (L.coded.code w.1))) (A.res x.ghost_name (R.coded.code (F w.0 w.1)))) (λ w.
        assume ! (‵ (fsep (fres δ₁ (B.coded.code w.0)) (fres δ₂ (L.coded.code w.1)))) $ fsplit ! $
        move ! (3 ∷ 0 ∷ []) $ use2 𝓛 (‵ (fres γ₁ (B.coded.code w.0))) (followed 𝓛 HB (mem B) (λ v. v) γ₁ δ₁ w.0) $
        move ! (3 ∷ 1 ∷ []) $ use2 𝓛 (‵ (fres γ₂ (L.coded.code w.1))) (followed 𝓛 HL (mem L) (λ v. v) γ₂ δ₂ w.1) $
        move ! (1 ∷ 0 ∷ []) $ join ! $ by ! (followed₂ 𝓛 (mem R) HB HL F x.ghost_name γ₁ γ₂ w.0 w.1))

    module _ (ℓ : Lifetime) (κ : Lft) (q : Share) (Rest : SProp 𝓤) where
      abbrev pub Both : GName × GName → SProp 𝓤
      Both δs = sep 𝓤 (sem 𝓛 ((MutRef ℓ κ B).own_val (renamed h δs.0) (mut_vals h))) (sep 𝓤 (sem 𝓛 ((MutRef ℓ κ L).own_val (renamed k δs.1) (mut_vals k)))
          (sep 𝓤 (A.lft κ q) (sem 𝓛 (follows_both R B L x.ghost_name δs.0 δs.1 F))))

      pub lends_both : Incl κ κ' → ent 𝓤 (sem 𝓛 ((mem R).own_at x.now x.ref_ptr.0 x.ref_ptr.1)) (sep 𝓤 (sem 𝓛 (HB.own_at h.now 0 0)) (sep 𝓤 (sem 𝓛 (HL.own_at k.now 0 0)) Rest))
          → ((w : B.Denot) (u : L.Denot) → ent 𝓤 (sep 𝓤 (sem 𝓛 (HB.own_at w 0 0)) (sep 𝓤 (sem 𝓛 (HL.own_at u 0 0)) Rest)) (sem 𝓛 ((mem R).own_at (F w u) x.ref_ptr.0 x.ref_ptr.1)))
          → ent 𝓤 (sep 𝓤 (A.obs x.ghost_name (R.coded.code x.now)) (sep 𝓤 (A.bor κ (Body (mem R) x.ref_ptr.0 x.ref_ptr.1 x.ghost_name)) (A.lft κ q))) (H.⇛ (ex 𝓤 Both))
      lends_both inc out home =
          qed 𝓛 (‵ (fobs x.ghost_name (R.coded.code x.now)) ∷ ‵ (fbor κ (Body (mem R) x.ref_ptr.0 x.ref_ptr.1 x.ghost_name)) ∷ ‵ (flft κ q) ∷ []) ∵ updating ! $
          open_ref ! tt (mem R) {b = x.ref_ptr.0} {o = x.ref_ptr.1} $ use1 𝓛 (‵ (HB.own_at h.now 0 0) ⊛ ‵ (HL.own_at k.now 0 0) ⊛ raw Rest) out $ split3 ! $
          -- [the first; the second; the rest; the whole, open; its name]
          move ! (3 ∷ 4 ∷ 5 ∷ 0 ∷ 1 ∷ 2 ∷ []) $ group ! 6 $
          use1 𝓛 (later (some (λ (γs : GName × GName). (‵ (fobs γs.0 (B.coded.code h.now)) ⊛ ‵ (fbor κ (Body HB 0 0 γs.0))) ⊛ (‵ (fobs γs.1 (L.coded.code k.now)) ⊛ ‵ (fbor κ (Body HL 0 0 γs.1)))
          ⊛ ‵ (flft κ q) ⊛ ‵ (after₂ (mem R) HB HL x.ghost_name γs.0 γs.1 F))))
          (takes_two 𝓛 (mem R) HB HL F κ q x.ref_ptr.0 x.ref_ptr.1 0 0 0 0 x.ghost_name Rest home (R.coded.code x.now) (R.coded.code x.now) h.now k.now) $ await ! tt $ pick ! (λ γs. split3 ! $
          move ! (2 ∷ []) $ split ! $ move ! (2 ∷ []) $ split ! $
          -- [the first's name; its borrow; the token; how the whole follows; the second]
          use3 𝓛 (later (some (λ (δ : GName). ‵ (fobs δ (B.coded.code h.now)) ⊛ ‵ (fbor κ (Body (mem B) h.ref_ptr.0 h.ref_ptr.1 δ)) ⊛ ‵ (flft κ q) ⊛ ‵ (after HB (mem B) γs.0 δ (λ w. w)))))
          (hands B κ κ' q γs.0 h inc) $ await ! tt $ pick ! (λ δ₁. split3 ! $ move ! (2 ∷ []) $ split ! $ move ! (2 ∷ 3 ∷ []) $
          feq_i ! (List Val) (mut_vals h) (mut_vals h) refl $ fjoin3 ! $ move ! (4 ∷ []) $ split ! $ move ! (0 ∷ 1 ∷ 3 ∷ []) $
          -- [the second's name; its borrow; the token; the first reference; how the first follows; how the whole follows]
          use3 𝓛 (later (some (λ (δ : GName). ‵ (fobs δ (L.coded.code k.now)) ⊛ ‵ (fbor κ (Body (mem L) k.ref_ptr.0 k.ref_ptr.1 δ)) ⊛ ‵ (flft κ q) ⊛ ‵ (after HL (mem L) γs.1 δ (λ w. w)))))
          (hands L κ κ' q γs.1 k inc) $ await ! tt $ pick ! (λ δ₂. split3 ! $ move ! (2 ∷ []) $ split ! $ move ! (2 ∷ 3 ∷ []) $
          feq_i ! (List Val) (mut_vals k) (mut_vals k) refl $ fjoin3 ! $ move ! (5 ∷ 4 ∷ 2 ∷ []) $
          use3 𝓛 (‵ (follows_both R B L x.ghost_name δ₁ δ₂ F)) (follow_on γs.0 γs.1 δ₁ δ₂) $
          at_once ! $ show ! Both (δ₁, δ₂) $ move ! (3 ∷ 1 ∷ 2 ∷ 0 ∷ []) $ done !)))

  -- both were given up, so the whole is what follows them
  pub both_followed : (R B L : RattleType) (F : B.Denot → L.Denot → R.Denot) (γ γ₁ γ₂ : GName) (w : B.Denot) (u : L.Denot)
      → ent 𝓤 (sep 𝓤 (sep 𝓤 (A.res γ₁ (B.coded.code w)) (A.res γ₂ (L.coded.code u))) (sem 𝓛 (follows_both R B L γ γ₁ γ₂ F))) (A.res γ (R.coded.code (F w u)))
  unfolding both_by
  both_followed R B L F γ γ₁ γ₂ w u = followed₂ 𝓛 (mem R) (mem B) (mem L) F γ γ₁ γ₂ w u
