-- How the type of arrays is named: by the oid that the element's type has for its arrays, or by the element's key.
use Rattle.std.specs.Prelude.{◌≡◌, None, Result, Ok, Err}
use Rattle.pgw_meta.specs.Known.{Key, Oids, Known}
use Rattle.pgw_meta.specs.Naming.{Naming}

-- The oid of an array is its element's array oid. Arrays of arrays have no oid.
abbrev pub array_oids : Result Oids Key → Result Oids Key
array_oids (Ok oids) = Ok (record { oid = oids.array_oid; array_oid = 0 })
array_oids (Err key) = Err key

err_kept : (r : Result Oids Key) (key : Key) → array_oids r ≡ Err key → r ≡ Err key
err_kept (Ok oids) key h = absurd (cc)
err_kept (Err other) key h = h

pub unknown_kept : (element : Naming) (known : Known) (key : Key) → array_oids (element.oids known) ≡ Err key
    → known key ≡ None
unknown_kept element known key h = element.unknown known key (err_kept (element.oids known) key h)

abbrev pub of_arrays : Naming → Naming
of_arrays element = record { oids = λ known. array_oids (element.oids known); unknown = unknown_kept element }
