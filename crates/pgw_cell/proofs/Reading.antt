-- A cell is read as it spells and breaks, and so it spells one value at most, or breaks in one kind.
use Rattle.std.proofs.Common.{◌≡◌, ◌⊎◌, inl, inr, Result, Ok, Err, refl, sym, ◌∙◌}
use Rattle.pgw_wire.specs.Cell.{Cell, size_of}
use Rattle.pgw_wire.specs.declared.kind.Break.{Break}
use Rattle.pgw_meta.specs.Known.{Known}
use Rattle.pgw_meta.specs.Shape.{Shape}
use Rattle.pgw_meta.specs.Schema.{is_nullable}
use Rattle.pgw_scalar.proofs.Readers.{ok_is, err_is, never_both}
use Rattle.pgw_cell.specs.Value.{Value}
use Rattle.pgw_cell.specs.Built.{IsBuilt}
use Rattle.pgw_cell.specs.Cells.{HasType, Spells, Breaks, Fits, canonical_cell, canonical_size, read_value}
use Rattle.pgw_cell.specs.Written.{AreBytes}
use Rattle.pgw_cell.proofs.NullCells.{cell_again, cell_refused, cell_spelled, cell_broken, cell_has, cell_written, cell_counted}
use Rattle.pgw_cell.proofs.Pieces.{piece_told, piece_written}

pub value_again : (t : Shape) (c : Cell) (v : Value) → Spells t c v → read_value t c ≡ Ok v
value_again t c v s = cell_again (is_nullable t) (piece_told t) c v s

pub value_refused : (t : Shape) (kind : Break) (c : Cell) → Breaks t kind c → read_value t c ≡ Err kind
value_refused t kind c b = cell_refused (is_nullable t) (piece_told t) kind c b

pub value_spelled : (t : Shape) (c : Cell) (v : Value) → AreBytes c → read_value t c ≡ Ok v → Spells t c v
value_spelled t c v bytes e = cell_spelled (is_nullable t) (piece_told t) c v bytes e

pub value_broken : (t : Shape) (kind : Break) (c : Cell) → IsBuilt t → AreBytes c → read_value t c ≡ Err kind → Breaks t kind c
value_broken t kind c built bytes e = cell_broken (is_nullable t) (piece_told t) kind c bytes e

-- A cell spells one value of a type at most.
pub value_once : (t : Shape) (c : Cell) (v w : Value) → Spells t c v → Spells t c w → v ≡ w
value_once t c v w s r = ok_is v w (sym (value_again t c v s) ∙ value_again t c w r)

-- It breaks in one kind at most.
pub kind_once : (t : Shape) (c : Cell) (j k : Break) → Breaks t j c → Breaks t k c → j ≡ k
kind_once t c j k a b = err_is {A = Value} j k (sym (value_refused t j c a) ∙ value_refused t k c b)

-- Where it spells a value, it does not break.
pub breaks_or_spells : (t : Shape) (c : Cell) (v : Value) (kind : Break) → Spells t c v → Breaks t kind c → ⊥
breaks_or_spells t c v kind s b = never_both (read_value t c) v kind (value_again t c v s) (value_refused t kind c b)

-- A cell of bytes spells a value or breaks.
pub always_one : (t : Shape) (c : Cell) → IsBuilt t → AreBytes c → ((v : Value) × Spells t c v) ⊎ ((kind : Break) × Breaks t kind c)
always_one t c built bytes = one (read_value t c) refl
  where
    one : (r : Result Value Break) → read_value t c ≡ r → ((v : Value) × Spells t c v) ⊎ ((kind : Break) × Breaks t kind c)
    one (Ok v) e = inl (v, value_spelled t c v bytes e)
    one (Err kind) e = inr (kind, value_broken t kind c built bytes e)

-- What a cell spells is a value of the type.
pub spelled_has_type : (t : Shape) (c : Cell) (v : Value) → Spells t c v → HasType t v
spelled_has_type t c v s = cell_has (is_nullable t) (piece_told t) c v s

-- The cell that a value of the type is written as spells it, if it is no longer than a cell may be.
pub canonical_spells : (known : Known) (t : Shape) (v : Value) → HasType t v → Fits 2147483647 t v → Spells t (canonical_cell known t v) v
canonical_spells known t v has fits = cell_written (is_nullable t) (piece_written known t) v has fits

-- That cell has as many bytes as the value's size says.
pub size_counted : (known : Known) (t : Shape) (v : Value) → HasType t v → canonical_size t v ≡ size_of (canonical_cell known t v)
size_counted known t v has = cell_counted (is_nullable t) (piece_written known t) v has
