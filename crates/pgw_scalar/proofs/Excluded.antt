-- No piece that is of a value of a type is refused by its codec; and a network's is refused in the kind in which it breaks.
use Rattle.std.proofs.Common.{◌≡◌, inl, inr, ℕ, ℤ, Bool, true, false, cond, ltb, List, length, None, Some, refl, sym, ap, subst, ◌∙◌, arith}
use Rattle.std.specs.Int.{w16, w32, w64}
use Rattle.std.specs.Str.{IsUtf8}
use Rattle.std.proofs.lemmas.Bool.{ltb-true, le-ltb}
use Rattle.std.proofs.lemmas.Option.{none-some}
use Rattle.pgw_wire.specs.Refusal.{kind_of}
use Rattle.pgw_wire.specs.declared.kind.Break.{Break}
use Rattle.pgw_wire.specs.declared.kind.Break.TheVariants.{Family, Prefix}
use Rattle.pgw_wire.specs.declared.sql_error.SqlError.{SqlError}
use Rattle.pgw_wire.specs.declared.sql_error.SqlError.TheVariants.{BadPrefix}
use Rattle.pgw_scalar.specs.Sized.{IsSized}
use Rattle.pgw_scalar.specs.Whole.{IsSigned, IsUnsigned}
use Rattle.pgw_scalar.specs.Leading.{IsBool, IsChar, IsOid}
use Rattle.pgw_scalar.specs.Text.{IsText}
use Rattle.pgw_scalar.specs.Networks.{Network, IsLaidOut, IsNetwork, BreaksNetwork, longest_prefix}
use Rattle.pgw_scalar.specs.Refusals.{RefusesSize, RefusesUuid, RefusesMac, RefusesEmpty, RefusesShort, RefusesText, RefusesNetwork, prefix_refusal}
use Rattle.pgw_scalar.proofs.NetworkFields.{some_is, laid_refused, IsDecided, decided, IsOfLaidOut, refusal_kind}

pub no_int2 : (piece : List ℕ) (n : ℤ) (e : SqlError) → IsSigned w16 piece n → RefusesSize 2 piece e → ⊥
no_int2 piece n e is refused = refused.0 (ap length is.bytes)

pub no_int4 : (piece : List ℕ) (n : ℤ) (e : SqlError) → IsSigned w32 piece n → RefusesSize 4 piece e → ⊥
no_int4 piece n e is refused = refused.0 (ap length is.bytes)

-- an int8 and an amount of money
pub no_int8 : (piece : List ℕ) (n : ℤ) (e : SqlError) → IsSigned w64 piece n → RefusesSize 8 piece e → ⊥
no_int8 piece n e is refused = refused.0 (ap length is.bytes)

pub no_position : (piece : List ℕ) (n : ℕ) (e : SqlError) → IsUnsigned w64 piece n → RefusesSize 8 piece e → ⊥
no_position piece n e is refused = refused.0 (ap length is.bytes)

pub no_bool : (piece : List ℕ) (truth : Bool) (e : SqlError) → IsBool piece truth → RefusesEmpty piece e → ⊥
no_bool piece truth e is refused = omega (arith, ap length (sym is.is ∙ refused.0))

pub no_char : (piece : List ℕ) (byte : ℕ) (e : SqlError) → IsChar piece byte → RefusesEmpty piece e → ⊥
no_char piece byte e is refused = omega (arith, ap length (sym is.is ∙ refused.0))

pub no_oid : (piece : List ℕ) (oid : ℕ) (e : SqlError) → IsOid piece oid → RefusesShort piece e → ⊥
no_oid piece oid e is refused = omega (arith, ap length is.is, refused.0)

pub no_text : (piece text : List ℕ) (e : SqlError) → IsText piece text → RefusesText piece e → ⊥
no_text piece text e is refused = refused.0 (subst (λ (bytes : List ℕ). IsUtf8 bytes) (sym is.bytes) is.utf8)

pub no_uuid : (piece bytes : List ℕ) (e : SqlError) → IsSized 16 piece bytes → RefusesUuid piece e → ⊥
no_uuid piece bytes e is refused = refused.0 (ap length is.is ∙ is.many)

pub no_address : (size : ℕ) (piece bytes : List ℕ) (e : SqlError) → IsSized size piece bytes → RefusesMac size piece e → ⊥
no_address size piece bytes e is refused = refused.0 (ap length is.is ∙ is.many)

-- an inet and a cidr
pub no_network : (t : ℕ) (piece : List ℕ) (n : Network) (e : SqlError) → IsNetwork t piece n → RefusesNetwork t piece e → ⊥
no_network t piece n e is refused =
    let none : prefix_refusal (longest_prefix n.six) n.prefix ≡ None = rw (le-ltb (longest_prefix n.six) n.prefix is.fits) refl in
    none-some e (sym none ∙ sym (laid_refused t piece n is.laid_out) ∙ refused)

-- The kind of the error with which a network's piece is refused is that in which the piece breaks.
abbrev pub BreaksAsRefused : ℕ → List ℕ → SqlError → Type 0
BreaksAsRefused t piece e = (kind : Break) × (kind_of e ≡ Some kind) × BreaksNetwork t kind piece

long_prefix : (b : Bool) (t : ℕ) (piece : List ℕ) (n : Network) (e : SqlError) → IsLaidOut t piece n → ltb (longest_prefix n.six) n.prefix ≡ b
    → cond b (Some (BadPrefix n.prefix)) None ≡ Some e → BreaksAsRefused t piece e
long_prefix true t piece n e laid is refused = (Prefix, ap kind_of (some_is e (BadPrefix n.prefix) (sym refused)), inl (refl, (n, laid, ltb-true (longest_prefix n.six) n.prefix is)))
long_prefix false t piece n e laid is refused = absurd (none-some e refused)

pub network_kind : (t : ℕ) (piece : List ℕ) (e : SqlError) → RefusesNetwork t piece e → BreaksAsRefused t piece e
network_kind t piece e refused = of_layout (decided t piece) (refusal_kind t piece e refused)
  where
    of_layout : IsDecided t piece → IsOfLaidOut t piece e → BreaksAsRefused t piece e
    of_layout (inl laid) _ = long_prefix (ltb (longest_prefix laid.0.six) laid.0.prefix) t piece laid.0 e laid.1 refl (sym (laid_refused t piece laid.0 laid.1) ∙ refused)
    of_layout (inr none) (inl family) = (Family, family, inr (refl, none.0))
    of_layout (inr none) (inr laid) = absurd (none.0 laid.0 laid.1)
