-- The fields of a row of a result.
use Rattle.std.specs.Prelude.{ℕ, Bool, List, Option, option_map, string_bytes, map, zip}
use Rattle.std.specs.declared.alloc.Global.{Global}
use Rattle.std.specs.declared.vec.Vec.{Vec}
use Rattle.pgw_wire.specs.Cell.{Cell}
use Rattle.pgw_row.specs.Rows.{FieldParts, name_is}
use Rattle.pgw_row.specs.Results.{Column}
use Rattle.pgw_row.specs.declared.result.ResultColumn.{ResultColumn}

-- the field of a column with a cell of it
abbrev pub field_in_column : ResultColumn → Option (Vec ℕ Global) → FieldParts
field_in_column column cell =
    record { name = option_map string_bytes column.name; cell = option_map (λ v. v.items) cell; oid = column.oid }

-- Each column has the cell at its place. Columns without one have no field.
abbrev pub fields_of_columns : List ResultColumn → List (Option (Vec ℕ Global)) → List FieldParts
fields_of_columns columns cells = map (λ p. field_in_column p.0 p.1) (zip columns cells)

abbrev pub column_is_named : List ℕ → ResultColumn → Bool
column_is_named name column = name_is name (option_map string_bytes column.name)

-- the same of the columns and the cells that contracts see of a result
abbrev pub row_fields : List Column → List Cell → List FieldParts
row_fields columns cells = map (λ p. record { name = p.0.name; cell = p.1; oid = p.0.oid }) (zip columns cells)
