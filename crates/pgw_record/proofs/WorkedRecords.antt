-- What the definitions of records say of single pieces: which components a record has, with which error a piece is
-- refused that is none, and what components are written as. The oids are those of `int4`, 23, and of `text`, 25.
use Rattle.std.proofs.Common.{◌≡◌, ℕ, pos, negsuc, List, [], ◌∷◌, None, Some, Result, Ok, Err, refl, lit<, arith}
use Rattle.pgw_wire.specs.Cell.{Cell}
use Rattle.pgw_wire.specs.declared.kind.Break.{Break}
use Rattle.pgw_wire.specs.declared.kind.Break.TheVariants as kind
use Rattle.pgw_wire.specs.declared.sql_error.SqlError.{SqlError}
use Rattle.pgw_wire.specs.declared.sql_error.SqlError.TheVariants as error
use Rattle.pgw_nested.specs.Frames.{past_the_end}
use Rattle.pgw_nested.specs.Array.{kind_named}
use Rattle.pgw_nested.specs.Reading.{cell_at}
use Rattle.pgw_record.specs.Record.{Component, AreRecordComponents, record_bytes, SpellsMember, SpellsNone, IsRecord, RefusesMember, RefusesNone, RefusesRecord, fails_at_member, no_component, no_cell, fails_behind}
use Rattle.pgw_record.specs.Reading.{component_at, read_member, read_none, read_record_by, read_record}

abbrev number : ℕ → Cell
number n = Some (0 ∷ 0 ∷ 0 ∷ n ∷ [])

abbrev of_type : ℕ → Cell → Component
of_type oid cell = record { oid = oid; cell = cell }

-- 1 as `int4`, and `hi` as `text`
abbrev one_and_hi : List ℕ
one_and_hi = 0 ∷ 0 ∷ 0 ∷ 2 ∷ 0 ∷ 0 ∷ 0 ∷ 23 ∷ 0 ∷ 0 ∷ 0 ∷ 4 ∷ 0 ∷ 0 ∷ 0 ∷ 1 ∷ 0 ∷ 0 ∷ 0 ∷ 25 ∷ 0 ∷ 0 ∷ 0 ∷ 2 ∷ 104 ∷ 105 ∷ []

pub two_components : AreRecordComponents one_and_hi (of_type 23 (number 1) ∷ of_type 25 (Some (104 ∷ 105 ∷ [])) ∷ [])
two_components = record {
  few = lit< tt;
  each = (((λ e. omega (arith, e)), lit< tt, lit< tt), (((λ e. omega (arith, e)), lit< tt, lit< tt), tt));
  is = refl;
}

pub written : record_bytes (of_type 23 (number 1) ∷ of_type 25 (Some (104 ∷ 105 ∷ [])) ∷ []) ≡ one_and_hi
written = refl

-- a null, whose oid is 99
pub null_component : AreRecordComponents (0 ∷ 0 ∷ 0 ∷ 1 ∷ 0 ∷ 0 ∷ 0 ∷ 99 ∷ 255 ∷ 255 ∷ 255 ∷ 255 ∷ []) (of_type 99 None ∷ [])
null_component = record { few = lit< tt; each = (((λ e. omega (arith, e)), lit< tt, refl), tt); is = refl }

-- A cell is the value, so that the cells of a record are read.
abbrev IsCell : Cell → Cell → Type 0
IsCell c v = v ≡ c

abbrev NoRefusal : Cell → SqlError → Type 0
NoRefusal c e = ⊥

pub two_cells : IsRecord (SpellsMember IsCell (number 1) (SpellsMember IsCell (Some (104 ∷ 105 ∷ [])) SpellsNone)) one_and_hi
two_cells = record { components = _; are = two_components; spelled = (refl, (refl, tt)) }

-- The first component is whole, and the second states 3 bytes and has 2.
pub second_past_the_end : RefusesRecord 2 (RefusesMember IsCell NoRefusal (RefusesMember IsCell NoRefusal RefusesNone))
    (0 ∷ 0 ∷ 0 ∷ 2 ∷ 0 ∷ 0 ∷ 0 ∷ 23 ∷ 0 ∷ 0 ∷ 0 ∷ 4 ∷ 0 ∷ 0 ∷ 0 ∷ 1 ∷ 0 ∷ 0 ∷ 0 ∷ 25 ∷ 0 ∷ 0 ∷ 0 ∷ 3 ∷ 104 ∷ 105 ∷ []) (error.ElementBytes (pos 3) 2)
second_past_the_end =
    fails_at_member _ refl
    (fails_behind (of_type 23 (number 1)) _ (number 1) refl ((λ e. omega (arith, e)), lit< tt, lit< tt) refl
    (no_component _ (no_cell 25 _ refl (λ e. omega (arith, e)) (lit< tt) (past_the_end 3 _ refl (lit< tt) (lit< tt) refl)) refl))

-- what a piece is read as: the cells of a record of one component, or of two, or an error
abbrev any_cell : Cell → Result Cell SqlError
any_cell c = Ok c

abbrev one_in : List ℕ → Result (Cell × Unit {0}) SqlError
one_in bytes = read_record_by (λ (e : SqlError). e) 1 (read_member (λ (e : SqlError). e) any_cell (read_none (λ (e : SqlError). e))) bytes

-- a component that states 6 bytes and has none; nothing behind the count; an oid of 0, and one with nothing behind it
pub past_the_rest : one_in (0 ∷ 0 ∷ 0 ∷ 1 ∷ 0 ∷ 0 ∷ 0 ∷ 1 ∷ 0 ∷ 0 ∷ 0 ∷ 6 ∷ 0 ∷ 0 ∷ 0 ∷ 4 ∷ []) ≡ Err (error.ElementBytes (pos 6) 4)
unfolding component_at cell_at
past_the_rest = refl

pub nothing_behind : one_in (0 ∷ 0 ∷ 0 ∷ 1 ∷ []) ≡ Err error.ShortBuffer
unfolding component_at
nothing_behind = refl

pub oid_of_zero : one_in (0 ∷ 0 ∷ 0 ∷ 1 ∷ 0 ∷ 0 ∷ 0 ∷ 0 ∷ 0 ∷ 0 ∷ 0 ∷ 4 ∷ 0 ∷ 0 ∷ 0 ∷ 42 ∷ []) ≡ Err error.ZeroOid
unfolding component_at cell_at
oid_of_zero = refl

pub oid_of_zero_alone : one_in (0 ∷ 0 ∷ 0 ∷ 1 ∷ 0 ∷ 0 ∷ 0 ∷ 0 ∷ []) ≡ Err error.ZeroOid
unfolding component_at cell_at
oid_of_zero_alone = refl

pub oid_alone : one_in (0 ∷ 0 ∷ 0 ∷ 1 ∷ 0 ∷ 0 ∷ 0 ∷ 23 ∷ []) ≡ Err error.ShortBuffer
unfolding component_at cell_at
oid_alone = refl

-- three bytes of a count; a count of 2, and of -1; a length of -1, and of -2; a byte behind the last component
pub count_cut : one_in (0 ∷ 0 ∷ 0 ∷ []) ≡ Err error.ShortBuffer
count_cut = refl

pub two_stated : one_in (0 ∷ 0 ∷ 0 ∷ 2 ∷ []) ≡ Err (error.TupleCount (pos 1) (pos 2))
two_stated = refl

pub minus_one_stated : one_in (255 ∷ 255 ∷ 255 ∷ 255 ∷ []) ≡ Err (error.TupleCount (pos 1) (negsuc 0))
minus_one_stated = refl

pub null_read : one_in (0 ∷ 0 ∷ 0 ∷ 1 ∷ 0 ∷ 0 ∷ 0 ∷ 23 ∷ 255 ∷ 255 ∷ 255 ∷ 255 ∷ []) ≡ Ok (None, tt)
unfolding component_at cell_at
null_read = refl

pub minus_two : one_in (0 ∷ 0 ∷ 0 ∷ 1 ∷ 0 ∷ 0 ∷ 0 ∷ 23 ∷ 255 ∷ 255 ∷ 255 ∷ 254 ∷ []) ≡ Err (error.NegativeSize (negsuc 1))
unfolding component_at cell_at
minus_two = refl

pub byte_behind : one_in (0 ∷ 0 ∷ 0 ∷ 1 ∷ 0 ∷ 0 ∷ 0 ∷ 23 ∷ 0 ∷ 0 ∷ 0 ∷ 0 ∷ 170 ∷ []) ≡ Err error.Surplus
unfolding component_at cell_at
byte_behind = refl

-- The break of a component is that of the record, and stands in front of what is wrong behind it.
abbrev no_value : Cell → Result Cell Break
no_value c = Err kind.Utf8

pub component_breaks : read_record 1 (read_member kind_named no_value (read_none kind_named)) (0 ∷ 0 ∷ 0 ∷ 1 ∷ 0 ∷ 0 ∷ 0 ∷ 25 ∷ 0 ∷ 0 ∷ 0 ∷ 1 ∷ 255 ∷ 170 ∷ []) ≡ Err kind.Utf8
unfolding component_at cell_at
component_breaks = refl

pub kinds : (kind_named (error.TupleCount (pos 1) (pos 2)) ≡ kind.Count) × (kind_named error.ZeroOid ≡ kind.ZeroOid) × (kind_named error.Surplus ≡ kind.Surplus)
kinds = (refl, refl, refl)
