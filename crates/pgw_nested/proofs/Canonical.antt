-- The bytes that an array is written as are the field of an array with the same cells.
use Rattle.std.proofs.Common.{◌≡◌, ℕ, ◌<◌, ◌^◌, Bool, true, false, ◌||◌, not, cond, eqb, List, [], ◌∷◌, length, Some, None, refl, sym, ap, subst, append-nil, arith}
use Rattle.std.proofs.lemmas.Bool.{lt-ltb}
use Rattle.pgw_wire.specs.Cell.{Cell}
use Rattle.pgw_nested.specs.Frames.{frames, IsFramed, AreFramed}
use Rattle.pgw_nested.specs.Array.{elements_behind, one_dimension, AreArrayCells, Each, IsArray, is_null, any_null, flags_of, array_bytes}

or_left : (a b : Bool) → a ≡ true → (a || b) ≡ true
or_left a b e = rw e refl

or_right : (a b : Bool) → b ≡ true → (a || b) ≡ true
or_right true b e = refl
or_right false b e = e

-- Where a null may stand if there is one, each cell may stand.
cell_framed : (nulls : Bool) (c : Cell) → IsFramed true c → (is_null c ≡ true → nulls ≡ true) → IsFramed nulls c
cell_framed nulls None f n = n refl
cell_framed nulls (Some p) f n = f

cells_framed : (nulls : Bool) (cs : List Cell) → AreFramed true cs → (any_null cs ≡ true → nulls ≡ true) → AreFramed nulls cs
cells_framed nulls [] f n = tt
cells_framed nulls (c ∷ cs) f n =
    (cell_framed nulls c f.0 (λ e. n (or_left (is_null c) (any_null cs) e)), cells_framed nulls cs f.1 (λ e. n (or_right (is_null c) (any_null cs) e)))

flags_say : (null : Bool) → not (eqb (flags_of null) 0) ≡ null
flags_say true = refl
flags_say false = refl

flags_fit : (null : Bool) → flags_of null < 2 ^ 32
flags_fit true = omega arith
flags_fit false = omega arith

-- The oid does not count. The cells may be 2147483647.
pub written_cells : (oid : ℕ) (cells : List Cell) → AreFramed true cells → length cells < 2147483648 → AreArrayCells (array_bytes oid cells) cells
written_cells oid cells framed few =
    let flags = flags_of (any_null cells) in
    record {
      elements = elements_behind flags (length cells) (frames cells);
      behind = [];
      begins = one_dimension flags (length cells) (frames cells) (record { oid = oid; bound = 1; flags_fit = flags_fit (any_null cells); count_fits = omega arith; is = refl }) refl;
      many = ap (λ (b : Bool). cond b (length cells) 0) (lt-ltb (length cells) 2147483648 few);
      framed = subst (λ (b : Bool). AreFramed b cells) (sym (flags_say (any_null cells))) (cells_framed (any_null cells) cells framed (λ e. e));
      is = sym (append-nil (frames cells));
    }

pub written_array : {A : Type 0} (Spell : Cell → A → Type 0) (oid : ℕ) (cells : List Cell) (values : List A) → AreFramed true cells → length cells < 2147483648 → Each Spell cells values
    → IsArray Spell (array_bytes oid cells) values
written_array Spell oid cells values framed few spelled = record { cells = cells; are = written_cells oid cells framed few; spelled = spelled }
