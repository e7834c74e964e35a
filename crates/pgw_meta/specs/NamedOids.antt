-- The oids of types: those that PostgreSQL has for its own, and those of named types by what is known of their keys.
use Rattle.std.specs.Prelude.{ℕ, List, [], ◌∷◌, None, Some, if◌then◌else◌}
use Rattle.std.specs.Option.{unwrap_or}
use Rattle.pgw_meta.specs.Known.{Oids, Known}
use Rattle.pgw_meta.specs.Keys.{owned_key}
use Rattle.pgw_meta.specs.Needs.{is_same_key}
use Rattle.pgw_meta.specs.Shape.{Scalar, bool, char, int2, int4, int8, oid, text, bytea, uuid, money, pg_lsn, macaddr, macaddr8, inet, cidr, date, time, timestamp, timestamptz, interval, numeric, Shape, scalar, nullable, array, range, multirange, composite, named}
use Rattle.pgw_meta.specs.declared.found_oids.Found.{Found}

-- what the entries of a list tell of a key: of two entries of one key the first counts
abbrev pub known_of : List Found → Known
known_of [] key = None
known_of (entry ∷ entries) key =
    if is_same_key (owned_key entry.key) key then Some (record { oid = entry.oid; array_oid = entry.array_oid })
    else known_of entries key

abbrev both : ℕ → ℕ → Oids
both n m = record { oid = n; array_oid = m }

-- 0 is the oid of no type.
abbrev pub no_oids : Oids
no_oids = both 0 0

-- the oids of PostgreSQL's catalog, of a type and of its arrays
abbrev pub scalar_oids : Scalar → Oids
scalar_oids bool = both 16 1000
scalar_oids char = both 18 1002
scalar_oids int2 = both 21 1005
scalar_oids int4 = both 23 1007
scalar_oids int8 = both 20 1016
scalar_oids oid = both 26 1028
scalar_oids text = both 25 1009
scalar_oids bytea = both 17 1001
scalar_oids uuid = both 2950 2951
scalar_oids money = both 790 791
scalar_oids pg_lsn = both 3220 3221
scalar_oids macaddr = both 829 1040
scalar_oids macaddr8 = both 774 775
scalar_oids inet = both 869 1041
scalar_oids cidr = both 650 651
scalar_oids date = both 1082 1182
scalar_oids time = both 1083 1183
scalar_oids timestamp = both 1114 1115
scalar_oids timestamptz = both 1184 1185
scalar_oids interval = both 1186 1187
scalar_oids numeric = both 1700 1231

-- the same of the ranges over a type
abbrev pub range_oids : Shape → Oids
range_oids (scalar int4) = both 3904 3905
range_oids (scalar int8) = both 3926 3927
range_oids (scalar numeric) = both 3906 3907
range_oids (scalar date) = both 3912 3913
range_oids (scalar timestamp) = both 3908 3909
range_oids (scalar timestamptz) = both 3910 3911
range_oids _ = no_oids

-- and of its multiranges
abbrev pub multirange_oids : Shape → Oids
multirange_oids (scalar int4) = both 4451 6150
multirange_oids (scalar int8) = both 4536 6157
multirange_oids (scalar numeric) = both 4532 6151
multirange_oids (scalar date) = both 4535 6155
multirange_oids (scalar timestamp) = both 4533 6152
multirange_oids (scalar timestamptz) = both 4534 6153
multirange_oids _ = no_oids

-- The oids of a type and of its arrays. PostgreSQL has no arrays of arrays.
abbrev pub oids_of : Known → Shape → Oids
oids_of known (scalar s) = scalar_oids s
oids_of known (nullable t) = oids_of known t
oids_of known (array t) = both (oids_of known t).array_oid 0
oids_of known (range t) = range_oids t
oids_of known (multirange t) = multirange_oids t
oids_of known (composite ts) = both 2249 2287
oids_of known (named k t) = unwrap_or (known k) no_oids
