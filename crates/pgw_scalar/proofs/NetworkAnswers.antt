-- What the reader of a network's field answers: what follows from the network that it gives and from its error.
use Rattle.std.proofs.Common.{◌≡◌, ℕ, ◌≤◌, ◌-◌, List, [], ◌∷◌, length, get_or, take, drop, false, Some, Result, Ok, Err, refl, sym, ap, ◌∙◌, subst, arith}
use Rattle.std.specs.Prelude.{IfOk}
use Rattle.std.specs.Result.{result_err}
use Rattle.std.proofs.lemmas.List.{take_rest}
use Rattle.std.proofs.lemmas.Option.{none-some}
use Rattle.pgw_wire.specs.Refusal.{kind_of}
use Rattle.pgw_wire.specs.declared.kind.Break.{Break}
use Rattle.pgw_wire.specs.declared.sql_error.SqlError.{SqlError}
use Rattle.pgw_wire.specs.declared.sql_error.SqlError.TheVariants.{NoMemory}
use Rattle.pgw_meta.specs.Reading.{Answers, ReadsPiece, RefusesPiece, IsRefusal}
use Rattle.pgw_meta.proofs.Reading.{refused}
use Rattle.pgw_scalar.specs.declared.networks.IpNetwork.{IpNetwork}
use Rattle.pgw_scalar.specs.Networks.{IsNetwork}
use Rattle.pgw_scalar.specs.IpNetworks.{network_of}
use Rattle.pgw_scalar.specs.Refusals.{network_refusal, RefusesNetwork}
use Rattle.pgw_scalar.proofs.Excluded.{network_kind}

-- An error of some kind is no want of memory.
no_want : (e : SqlError) (kind : Break) → kind_of e ≡ Some kind → IsRefusal e
no_want NoMemory kind is = absurd (none-some kind is)
no_want e kind is = tt

pub network_answers : (t : ℕ) (p : List ℕ) (r : Result IpNetwork SqlError) → IfOk r (λ n. IsNetwork t p (network_of n)) → result_err r ≡ network_refusal t p
    → Answers (ReadsPiece (λ piece n. IsNetwork t piece (network_of n))) (RefusesPiece (RefusesNetwork t)) false (Some p) r
network_answers t p (Ok n) is refusal = is
network_answers t p (Err e) is refusal =
    let h : RefusesNetwork t p e = sym refusal in
    let k = network_kind t p e h in
    refused (RefusesNetwork t p) false e h (no_want e k.0 k.1)

parts : (p : List ℕ) → 4 ≤ length p → p ≡ get_or p 0 0 ∷ get_or p 1 0 ∷ get_or p 2 0 ∷ get_or p 3 0 ∷ drop 4 p
parts [] long = absurd (omega (arith, long))
parts (a ∷ []) long = absurd (omega (arith, long))
parts (a ∷ b ∷ []) long = absurd (omega (arith, long))
parts (a ∷ b ∷ c ∷ []) long = absurd (omega (arith, long))
parts (a ∷ b ∷ c ∷ d ∷ l) long = refl

-- A network's field behind a known family and byte of the type is the piece's, where they stand there.
pub with_header : (t f : ℕ) (p : List ℕ) (r : Result IpNetwork SqlError) → 4 ≤ length p → get_or p 0 0 ≡ f → get_or p 2 0 ≡ t
    → IfOk r (λ n. (t : ℕ) → IsNetwork t (f ∷ get_or p 1 0 ∷ t ∷ get_or p 3 0 ∷ take (length p - 4) (drop 4 p)) (network_of n))
    → IfOk r (λ n. IsNetwork t p (network_of n))
with_header t f p (Err e) long first third h = tt
with_header t f p (Ok n) long first third h =
    let a = get_or p 1 0 in
    let b = get_or p 3 0 in
    let front = ap (λ x. x ∷ a ∷ get_or p 2 0 ∷ b ∷ drop 4 p) first ∙ ap (λ x. f ∷ a ∷ x ∷ b ∷ drop 4 p) third in
    let rest = ap (λ l. f ∷ a ∷ t ∷ b ∷ l) (take_rest p 4) in
    subst (λ (q : List ℕ). IsNetwork t q (network_of n)) (rest ∙ sym (parts p long ∙ front)) (h t)
