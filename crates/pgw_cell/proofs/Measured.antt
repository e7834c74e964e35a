-- What is measured of a cell.
use Rattle.std.proofs.Common.{◌≡◌, ℕ, ◌+◌, ◌<◌, ◌≤◌, Bool, true, false, leb, cond, length, Some, Result, Ok, Err, IfOk, refl, sym, ap, ◌∙◌, arith, subst}
use Rattle.std.proofs.lemmas.Bool.{le-leb, lt-leb, leb-true, leb-false}
use Rattle.pgw_wire.specs.Cell.{Cell, frame}
use Rattle.pgw_wire.specs.declared.kind.Break.{Break as Kind}
use Rattle.pgw_meta.specs.Known.{Known}
use Rattle.pgw_meta.specs.Shape.{Shape}
use Rattle.pgw_cell.specs.Value.{Value, null}
use Rattle.pgw_cell.specs.Built.{IsBuilt}
use Rattle.pgw_cell.specs.Pieces.{HasPiece, canonical_piece}
use Rattle.pgw_cell.specs.Cells.{HasType, Spells, Breaks, Fits, canonical_cell, canonical_size, read_value}
use Rattle.pgw_cell.specs.Written.{AreBytes, size_read, measured}
use Rattle.pgw_cell.specs.declared.measure.MeasureFault.{MeasureFault}
use Rattle.pgw_cell.specs.declared.measure.MeasureFault.TheVariants.{Break as Broken, TooLong}
use Rattle.pgw_cell.proofs.ArrayPieces.{frame_length}
use Rattle.pgw_cell.proofs.Counted.{size_ok, size_err}
use Rattle.pgw_cell.proofs.Pieces.{piece_told}
use Rattle.pgw_cell.proofs.Reading.{value_again, value_refused, value_spelled, value_broken, spelled_has_type, size_counted}

-- The field of a value of the type has the four bytes of its length, and as many as the value's size says.
pub frame_counted : (known : Known) (t : Shape) (v : Value) → HasType t v → length (frame (canonical_cell known t v)) ≡ 4 + canonical_size t v
frame_counted known t v has = frame_length (canonical_cell known t v) ∙ ap (λ n. 4 + n) (sym (size_counted known t v has))

-- A value of the type that is not null has a piece.
pub cell_some : (known : Known) (t : Shape) (v : Value) → HasPiece t v → canonical_cell known t v ≡ Some (canonical_piece known t v)
cell_some known t null has = absurd ((piece_told t).some null has refl)
cell_some known t _ has = refl

-- what comes of the test of the size
abbrev measured_by : Bool → ℕ → Result ℕ MeasureFault
measured_by b n = cond {A = Result ℕ MeasureFault} b (Ok n) (Err TooLong)

pub measured_short : (most : ℕ) (t : Shape) (r : Result Value Kind) (n : ℕ) → most ≤ 2147483647 → n ≤ most → Ok n ≡ size_read (canonical_size t) r → Ok (4 + n) ≡ measured most t r
measured_short most t r n max short e =
    let ok = size_ok (canonical_size t) r n (sym e) in
    let same : n ≡ canonical_size t ok.0 = omega (arith, ok.2, max, short) in
    ap (λ k. Ok (4 + k)) same
    ∙ ap (λ x. measured_by x (4 + canonical_size t ok.0)) (sym (le-leb (canonical_size t ok.0) most (omega (arith, same, short))))
    ∙ ap (measured most t) (sym ok.1)

pub measured_long : (most : ℕ) (t : Shape) (r : Result Value Kind) (n : ℕ) → most ≤ 2147483647 → most < n → Ok n ≡ size_read (canonical_size t) r → Err TooLong ≡ measured most t r
measured_long most t r n max long e =
    let ok = size_ok (canonical_size t) r n (sym e) in
    ap (λ x. measured_by x (4 + canonical_size t ok.0)) (sym (lt-leb (canonical_size t ok.0) most (omega (arith, ok.2, long))))
    ∙ ap (measured most t) (sym ok.1)

pub measured_broken : (most : ℕ) (t : Shape) (r : Result Value Kind) (kind : Kind) → Err kind ≡ size_read (canonical_size t) r → Err (Broken kind) ≡ measured most t r
measured_broken most t r kind e = sym (ap (measured most t) (size_err (canonical_size t) r kind (sym e)))

-- What an answer says that is measured so.
pub record IsMeasured (most : ℕ) (t : Shape) (c : Cell) (r : Result ℕ MeasureFault) : Type 0 where
  pub ok : IfOk r (λ n. (v : Value) × Spells t c v × Fits most t v × ((known : Known) → n ≡ length (frame (canonical_cell known t v))))
  pub broken : (kind : Kind) → r ≡ Err (Broken kind) → Breaks t kind c
  pub long : r ≡ Err TooLong → (v : Value) × Spells t c v × (Fits most t v → ⊥)

by_size : (most : ℕ) (t : Shape) (c : Cell) (v : Value) (b : Bool) → Spells t c v → leb (canonical_size t v) most ≡ b → IsMeasured most t c (measured_by b (4 + canonical_size t v))
by_size most t c v true s e = record {
  ok = (v, s, leb-true (canonical_size t v) most e, λ known. sym (frame_counted known t v (spelled_has_type t c v s)));
  broken = λ kind x. absurd (cc);
  long = λ x. absurd (cc);
}
by_size most t c v false s e = record {
  ok = tt;
  broken = λ kind x. absurd (cc);
  long = λ x. (v, s, λ fits. omega (arith, fits, leb-false (canonical_size t v) most e));
}

by_read : (most : ℕ) (t : Shape) (c : Cell) (r : Result Value Kind) → IsBuilt t → AreBytes c → read_value t c ≡ r → IsMeasured most t c (measured most t r)
by_read most t c (Ok v) built bytes e = by_size most t c v (leb (canonical_size t v) most) (value_spelled t c v bytes e) refl
by_read most t c (Err kind) built bytes e = record {
  ok = tt;
  broken = λ k x. let same : kind ≡ k = cc in subst (λ (j : Kind). Breaks t j c) same (value_broken t kind c built bytes e);
  long = λ x. absurd (cc);
}

pub measured_says : (most : ℕ) (t : Shape) (c : Cell) (r : Result ℕ MeasureFault) → IsBuilt t → AreBytes c → r ≡ measured most t (read_value t c) → IsMeasured most t c r
measured_says most t c r built bytes e = subst (λ (x : Result ℕ MeasureFault). IsMeasured most t c x) (sym e) (by_read most t c (read_value t c) built bytes refl)

pub measured_fits : (known : Known) (most : ℕ) (t : Shape) (c : Cell) (v : Value) → Spells t c v → Fits most t v → measured most t (read_value t c) ≡ Ok (length (frame (canonical_cell known t v)))
measured_fits known most t c v s fits =
    ap (measured most t) (value_again t c v s) ∙ ap (λ x. measured_by x (4 + canonical_size t v)) (le-leb (canonical_size t v) most fits)
    ∙ ap Ok (sym (frame_counted known t v (spelled_has_type t c v s)))

pub measured_breaks : (most : ℕ) (t : Shape) (c : Cell) (kind : Kind) → Breaks t kind c → measured most t (read_value t c) ≡ Err (Broken kind)
measured_breaks most t c kind b = ap (measured most t) (value_refused t kind c b)

pub measured_passes : (most : ℕ) (t : Shape) (c : Cell) (v : Value) → Spells t c v → (Fits most t v → ⊥) → measured most t (read_value t c) ≡ Err TooLong
measured_passes most t c v s long =
    ap (measured most t) (value_again t c v s) ∙ ap (λ x. measured_by x (4 + canonical_size t v)) (lt-leb (canonical_size t v) most (omega (arith, long)))
