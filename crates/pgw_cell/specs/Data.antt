-- The values of the program as values of columns.
use Rattle.std.specs.Prelude.{◌≡◌, ◌||◌, Bool, true, false, List, map, Result, Ok, Err, IsTrue}
use Rattle.std.specs.declared.ops.Bound.{Bound}
use Rattle.pgw_wire.specs.declared.kind.Break.{Break}
use Rattle.pgw_numeric.specs.Numeric.{number as numeric_number, not_a_number}
use Rattle.pgw_cell.specs.Value.{Value, null, truth, number, bytes, string, network, interval, numeric, list, range, multirange, BoundValue, unbounded, included, excluded, bound_value, Values, no_values, value_then}
use Rattle.pgw_cell.specs.declared.datum.BoundDatum.{BoundDatum}
use Rattle.pgw_cell.specs.declared.datum.BoundDatum.TheVariants.{Unbounded, Included', Excluded'}
use Rattle.pgw_cell.specs.declared.datum.RangeDatum.{RangeDatum}
use Rattle.pgw_cell.specs.declared.datum.RangeList.{RangeList, out-RangeList, RangeList', Row_of-RangeDatum, end_of-RangeDatum, more_of-RangeDatum}
use Rattle.pgw_cell.specs.declared.datum.DatumList.{DatumList}
use Rattle.pgw_cell.specs.declared.datum.Datum.{Datum, Row_of-Datum, end_of-Datum, more_of-Datum}
use Rattle.pgw_cell.specs.declared.datum.Datum.TheVariants.{Null, Truth, Number, Bytes, Text, Network, Interval, Numeric, NotANumber, List', Bounds', Ranges}
use Rattle.pgw_cell.specs.declared.read.CellFault.{CellFault}
use Rattle.pgw_cell.specs.declared.read.CellFault.TheVariants.{Break as Broken, NoMemory}

abbrev mutual
  pub value_of : Datum → Value
  value_of Null = null
  value_of (Truth b) = truth b
  value_of (Number n) = number n
  value_of (Bytes b) = bytes b
  value_of (Text s) = string s
  value_of (Network six prefix address) = network (record { six = six; prefix = prefix; address = address })
  value_of (Interval microseconds days months) =
      interval (record { microseconds = microseconds; days = days; months = months })
  value_of (Numeric negative weight scale digits) = numeric (numeric_number negative weight scale digits)
  value_of NotANumber = numeric not_a_number
  value_of (List' n ds) = list (row_values ds)
  value_of (Bounds' lower upper) = range (bound_of lower) (bound_of upper)
  value_of (Ranges rs) = multirange (list_ranges rs)

  pub bound_of : BoundDatum → BoundValue
  bound_of Unbounded = unbounded
  bound_of (Included' p d) = included (value_of d)
  bound_of (Excluded' p d) = excluded (value_of d)

  pub list_ranges : RangeList → Values
  list_ranges (RangeList' n rs) = row_ranges rs

  pub row_values : {m : _} → Row_of-Datum m → Values
  row_values end_of-Datum = no_values
  row_values (more_of-Datum d ds) = value_then (value_of d) (row_values ds)

  pub row_ranges : {m : _} → Row_of-RangeDatum m → Values
  row_ranges end_of-RangeDatum = no_values
  row_ranges (more_of-RangeDatum lower upper rs) = value_then (range (bound_of lower) (bound_of upper)) (row_ranges rs)

abbrev pub data_of : DatumList → List Datum
data_of l = l.data

-- the values of a list
abbrev pub values_of : List Datum → List Value
values_of ds = map value_of ds

abbrev pub ranges_of : RangeList → List RangeDatum
ranges_of l = (out-RangeList l).data

-- a range as a value
abbrev pub value_of_range : RangeDatum → Value
value_of_range r = range (bound_of r.lower) (bound_of r.upper)

-- the values of a list of ranges
abbrev pub range_values : RangeList → List Value
range_values l = map value_of_range (ranges_of l)

-- whether the bound has a value
abbrev pub has_value : BoundValue → Bool
has_value unbounded = false
has_value _ = true

-- whether memory is asked for where the value is made
abbrev pub takes_memory : Value → Bool
takes_memory (bytes b) = true
takes_memory (string s) = true
takes_memory (network n) = true
takes_memory (numeric (numeric_number negative weight scale digits)) = true
takes_memory (list (value_then v vs)) = true
takes_memory (range lower upper) = has_value lower || has_value upper
takes_memory (multirange (value_then v vs)) = true
takes_memory _ = false

-- What is answered is what was read, or, where that takes memory, that it was refused.
abbrev pub AnswersBy : {A : Type 0} → (A → Value) → Result A CellFault → Result Value Break → Type 0
AnswersBy value (Ok d) read = read ≡ Ok (value d)
AnswersBy value (Err (Broken kind)) read = read ≡ Err kind
AnswersBy value (Err NoMemory) read = (v : Value) × (read ≡ Ok v) × IsTrue (takes_memory v)

-- What is answered is the bound, or, where it has a value, that memory was refused.
abbrev pub AnswersBound : Bound Value → Result BoundDatum CellFault → Type 0
AnswersBound bound (Ok d) = bound_of d ≡ bound_value bound
AnswersBound bound (Err fault) = (fault ≡ NoMemory) × IsTrue (has_value (bound_value bound))

abbrev pub AnswersAs : Result Datum CellFault → Result Value Break → Type 0
AnswersAs = AnswersBy value_of
