-- What the definitions say of single pieces and cells, of bytes that were written down by hand: what they spell, how they
-- break, what a value is written as, and how many bytes that has.
use Rattle.std.specs.Str.{chars, is_utf8}
use Rattle.std.proofs.Common.{◌≡◌, ℕ, pos, negsuc, [], ◌∷◌, get_or, true, false, None, Some, Ok, Err, refl, ap, arith, lit<, lit≤}
use lib.Utf8.{encode}
use Rattle.pgw_wire.specs.declared.kind.Break.{Break}
use Rattle.pgw_wire.specs.declared.kind.Break.TheVariants.{Null, Size, Utf8, Sign, Family, Prefix}
use Rattle.pgw_meta.specs.Known.{Key, Known}
use Rattle.pgw_meta.specs.Shape.{scalar, nullable, named, bool, char, int2, int4, int8, oid, text, bytea, uuid, money, pg_lsn, macaddr, macaddr8, inet, cidr, interval, numeric}
use Rattle.pgw_scalar.proofs.TextFields.{no_utf8}
use Rattle.pgw_scalar.specs.Networks.{Network}
use Rattle.pgw_numeric.specs.Numeric.{number as number_of, not_a_number}
use Rattle.pgw_cell.specs.Value.{Value, null, truth, number, natural, bytes, string, network, interval as interval_value, numeric as numeric_value}
use Rattle.pgw_cell.specs.Built.{IsBuilt}
use Rattle.pgw_cell.specs.Cells.{HasType, Spells, Breaks, Fits, canonical_cell, canonical_size, read_value}
use Rattle.pgw_cell.proofs.Reading.{value_once}

-- No named type is known.
abbrev unknown : Known
unknown key = None

-- A bool is read from its first byte, and any but 0 is true. It is written in one byte.
pub true_of_two : Spells (scalar bool) (Some (2 ∷ 170 ∷ 187 ∷ [])) (truth true)
true_of_two = (true, record { first = 2; rest = 170 ∷ 187 ∷ []; is = refl; says = refl }, refl)

pub true_written : canonical_cell unknown (scalar bool) (truth true) ≡ Some (1 ∷ [])
true_written = refl

pub zero_is_false : read_value (scalar bool) (Some (0 ∷ 1 ∷ [])) ≡ Ok (truth false)
zero_is_false = refl

pub zero_is_not_true : Spells (scalar bool) (Some (0 ∷ [])) (truth true) → ⊥
zero_is_not_true h =
    let byte : 0 ≡ h.1.first = ap (λ l. get_or l 0 7) h.1.is in
    let says = h.1.says in
    let same = h.2 in
    absurd (cc)

pub no_byte_is_no_bool : Breaks (scalar bool) Size (Some [])
no_byte_is_no_bool = (refl, refl)

-- A char is its first byte.
pub char_of_two : Spells (scalar char) (Some (65 ∷ 255 ∷ [])) (natural 65)
char_of_two = (65, record { rest = 255 ∷ []; fits = lit< tt; is = refl }, refl)

pub char_written : canonical_cell unknown (scalar char) (natural 65) ≡ Some (65 ∷ [])
char_written = refl

pub no_byte_is_no_char : read_value (scalar char) (Some []) ≡ Err Size
no_byte_is_no_char = refl

-- Whole numbers with a sign, in two's complement: -2 in 2 bytes, 42 in 4, the least of 8, and an amount of money.
pub minus_two : Spells (scalar int2) (Some (255 ∷ 254 ∷ [])) (number (negsuc 1))
minus_two = (negsuc 1, record { fits = record { sfits = lit< tt }; bytes = refl }, refl)

pub forty_two : Spells (scalar int4) (Some (0 ∷ 0 ∷ 0 ∷ 42 ∷ [])) (number (pos 42))
forty_two = (pos 42, record { fits = record { sfits = lit< tt }; bytes = refl }, refl)

abbrev value_size : Value → ℕ
value_size (number (pos n)) = n
value_size _ = 0

pub not_43 : Spells (scalar int4) (Some (0 ∷ 0 ∷ 0 ∷ 42 ∷ [])) (number (pos 43)) → ⊥
not_43 h =
    let e = value_once (scalar int4) (Some (0 ∷ 0 ∷ 0 ∷ 42 ∷ [])) (number (pos 42)) (number (pos 43)) forty_two h in
    let same : 42 ≡ 43 = ap value_size e in
    omega (arith, same)

pub least_of_8 : read_value (scalar int8) (Some (128 ∷ 0 ∷ 0 ∷ 0 ∷ 0 ∷ 0 ∷ 0 ∷ 0 ∷ [])) ≡ Ok (number (negsuc 9223372036854775807))
least_of_8 = refl

pub minus_one_cent : canonical_cell unknown (scalar money) (number (negsuc 0)) ≡ Some (255 ∷ 255 ∷ 255 ∷ 255 ∷ 255 ∷ 255 ∷ 255 ∷ 255 ∷ [])
minus_one_cent = refl

pub three_bytes : Breaks (scalar int2) Size (Some (0 ∷ 0 ∷ 42 ∷ []))
three_bytes = (refl, λ e. omega (arith, e))

pub three_bytes_or_null : Breaks (nullable (scalar int4)) Size (Some (0 ∷ 0 ∷ 42 ∷ []))
three_bytes_or_null = (refl, λ e. omega (arith, e))

pub four_bytes : (kind : Break) → Breaks (scalar int4) kind (Some (0 ∷ 0 ∷ 0 ∷ 42 ∷ [])) → ⊥
four_bytes kind h = h.1 refl

pub nine_bytes : read_value (scalar int8) (Some (0 ∷ 0 ∷ 0 ∷ 0 ∷ 0 ∷ 0 ∷ 0 ∷ 0 ∷ 1 ∷ [])) ≡ Err Size
nine_bytes = refl

-- A place in the log has no sign, and an oid is its first four bytes.
pub lsn_of_ones : read_value (scalar pg_lsn) (Some (255 ∷ 0 ∷ 0 ∷ 0 ∷ 0 ∷ 0 ∷ 0 ∷ 1 ∷ [])) ≡ Ok (natural 18374686479671623681)
lsn_of_ones = refl

pub oid_of_five : Spells (scalar oid) (Some (255 ∷ 0 ∷ 0 ∷ 42 ∷ 7 ∷ [])) (natural 4278190122)
oid_of_five = (4278190122, record { rest = 7 ∷ []; fits = lit< tt; is = refl }, refl)

pub oid_written : canonical_cell unknown (scalar oid) (natural 4278190122) ≡ Some (255 ∷ 0 ∷ 0 ∷ 42 ∷ [])
oid_written = refl

pub three_are_no_oid : Breaks (scalar oid) Size (Some (0 ∷ 0 ∷ 42 ∷ []))
three_are_no_oid = (refl, lit< tt)

-- Addresses of hardware are 6 bytes or 8, whatever they are, and no bytes are a bytea too.
pub mac : Spells (scalar macaddr) (Some (8 ∷ 0 ∷ 43 ∷ 1 ∷ 2 ∷ 3 ∷ [])) (bytes (8 ∷ 0 ∷ 43 ∷ 1 ∷ 2 ∷ 3 ∷ []))
mac = (8 ∷ 0 ∷ 43 ∷ 1 ∷ 2 ∷ 3 ∷ [], record { many = refl; is = refl }, refl)

pub mac_is_no_mac8 : Breaks (scalar macaddr8) Size (Some (8 ∷ 0 ∷ 43 ∷ 1 ∷ 2 ∷ 3 ∷ []))
mac_is_no_mac8 = (refl, λ e. omega (arith, e))

pub fifteen_are_no_uuid : read_value (scalar uuid) (Some (0 ∷ 1 ∷ 2 ∷ 3 ∷ 4 ∷ 5 ∷ 6 ∷ 7 ∷ 8 ∷ 9 ∷ 10 ∷ 11 ∷ 12 ∷ 13 ∷ 14 ∷ [])) ≡ Err Size
fifteen_are_no_uuid = refl

pub no_bytes : Spells (scalar bytea) (Some []) (bytes [])
no_bytes = ([], refl, refl)

pub no_bytes_break : (kind : Break) → Breaks (scalar bytea) kind (Some []) → ⊥
no_bytes_break kind h = h

-- Two bytes that are one character are a text. C3 begins a character of two bytes, and 28 ends none: the text breaks.
pub e_acute : read_value (scalar text) (Some (195 ∷ 169 ∷ [])) ≡ Ok (string (195 ∷ 169 ∷ []))
unfolding is_utf8 chars encode
e_acute = refl

tested : is_utf8 (195 ∷ 40 ∷ []) ≡ false
unfolding is_utf8 chars encode
tested = refl

pub broken_text : Breaks (scalar text) Utf8 (Some (195 ∷ 40 ∷ []))
broken_text = (refl, no_utf8 (195 ∷ 40 ∷ []) tested)

pub bytes_are_no_string : Spells (scalar bytea) (Some (97 ∷ [])) (string (97 ∷ [])) → ⊥
bytes_are_no_string h = let e = h.2 in absurd (cc)

-- A named type has the values of its part, spelled as there, and breaks as there.
abbrev citext : Key
citext = record { schema = None; name = 99 ∷ 105 ∷ 116 ∷ 101 ∷ 120 ∷ 116 ∷ [] }

pub named_letter : read_value (named citext (scalar text)) (Some (195 ∷ 169 ∷ [])) ≡ Ok (string (195 ∷ 169 ∷ []))
named_letter = e_acute

pub named_written : canonical_cell unknown (named citext (scalar text)) (string (195 ∷ 169 ∷ [])) ≡ Some (195 ∷ 169 ∷ [])
named_written = refl

pub named_broken : Breaks (named citext (scalar text)) Utf8 (Some (195 ∷ 40 ∷ []))
named_broken = broken_text

-- 192.168.0.1/24 is an inet and no cidr, whose third byte is 1. A prefix of 33 bits breaks as prefix.
abbrev host : Network
host = record { six = false; prefix = 24; address = 192 ∷ 168 ∷ 0 ∷ 1 ∷ [] }

pub host_read : read_value (scalar inet) (Some (2 ∷ 24 ∷ 0 ∷ 4 ∷ 192 ∷ 168 ∷ 0 ∷ 1 ∷ [])) ≡ Ok (network host)
host_read = refl

pub host_is_no_cidr : read_value (scalar cidr) (Some (2 ∷ 24 ∷ 0 ∷ 4 ∷ 192 ∷ 168 ∷ 0 ∷ 1 ∷ [])) ≡ Err Family
host_is_no_cidr = refl

pub host_in_a_cidr : canonical_cell unknown (scalar cidr) (network host) ≡ Some (2 ∷ 24 ∷ 1 ∷ 4 ∷ 192 ∷ 168 ∷ 0 ∷ 1 ∷ [])
host_in_a_cidr = refl

pub long_prefix : read_value (scalar inet) (Some (2 ∷ 33 ∷ 0 ∷ 4 ∷ 192 ∷ 168 ∷ 0 ∷ 1 ∷ [])) ≡ Err Prefix
long_prefix = refl

pub host_size : canonical_size (scalar inet) (network host) ≡ 8
host_size = refl

-- An interval is its first 16 bytes: one microsecond, two days and three months.
pub interval_of_seventeen : read_value (scalar interval) (Some (0 ∷ 0 ∷ 0 ∷ 0 ∷ 0 ∷ 0 ∷ 0 ∷ 1 ∷ 0 ∷ 0 ∷ 0 ∷ 2 ∷ 0 ∷ 0 ∷ 0 ∷ 3 ∷ 255 ∷ [])) ≡ Ok (interval_value (record { microseconds = pos 1; days = pos 2; months = pos 3 }))
interval_of_seventeen = refl

pub interval_of_none : Breaks (scalar interval) Size (Some [])
interval_of_none = (refl, lit< tt)

-- -7 with a byte behind it, and what is no number, with a scale and a digit, which are dropped where it is written. 0xD000
-- is no sign.
pub minus_seven : read_value (scalar numeric) (Some (0 ∷ 1 ∷ 0 ∷ 0 ∷ 64 ∷ 0 ∷ 0 ∷ 0 ∷ 0 ∷ 7 ∷ 170 ∷ [])) ≡ Ok (numeric_value (number_of true (pos 0) 0 (pos 7 ∷ [])))
minus_seven = refl

pub minus_seven_written : canonical_cell unknown (scalar numeric) (numeric_value (number_of true (pos 0) 0 (pos 7 ∷ []))) ≡ Some (0 ∷ 1 ∷ 0 ∷ 0 ∷ 64 ∷ 0 ∷ 0 ∷ 0 ∷ 0 ∷ 7 ∷ [])
minus_seven_written = refl

pub no_number_with_a_scale : read_value (scalar numeric) (Some (0 ∷ 1 ∷ 0 ∷ 0 ∷ 192 ∷ 0 ∷ 0 ∷ 2 ∷ 0 ∷ 7 ∷ [])) ≡ Ok (numeric_value not_a_number)
no_number_with_a_scale = refl

pub no_number_written : canonical_cell unknown (nullable (scalar numeric)) (numeric_value not_a_number) ≡ Some (0 ∷ 0 ∷ 0 ∷ 0 ∷ 192 ∷ 0 ∷ 0 ∷ 0 ∷ [])
no_number_written = refl

pub no_sign : read_value (scalar numeric) (Some (0 ∷ 0 ∷ 0 ∷ 0 ∷ 208 ∷ 0 ∷ 0 ∷ 0 ∷ [])) ≡ Err Sign
no_sign = refl

pub size_before_sign : read_value (scalar numeric) (Some (0 ∷ 2 ∷ 0 ∷ 0 ∷ 208 ∷ 0 ∷ 0 ∷ 0 ∷ 0 ∷ 7 ∷ [])) ≡ Err Size
size_before_sign = refl

-- A null is a value of a nullable type alone, which it is written as, and breaks as null in any other.
pub null_spells : Spells (nullable (scalar int4)) None null
null_spells = (refl, refl)

pub null_is_no_zero : Spells (nullable (scalar int4)) None (number (pos 0)) → ⊥
null_is_no_zero h = absurd (cc)

pub null_breaks : Breaks (scalar int4) Null None
null_breaks = (refl, refl)

pub null_allowed : (kind : Break) → Breaks (nullable (scalar int4)) kind None → ⊥
null_allowed kind h = absurd (cc)

pub null_written : canonical_cell unknown (nullable (scalar text)) null ≡ None
null_written = refl

-- A named type may be null where a nullable stands around it, and not by its part.
pub null_of_named : Spells (nullable (named citext (scalar text))) None null
null_of_named = (refl, refl)

pub null_of_part : Breaks (named citext (nullable (scalar text))) Null None
null_of_part = (refl, refl)

-- Values of the types: a number that fits, one that does not, and a null where there are none.
pub has_255 : HasType (scalar char) (natural 255)
has_255 = (255, refl, lit< tt)

pub no_256 : HasType (scalar char) (natural 256) → ⊥
no_256 h = let e : natural 256 ≡ natural h.0 = h.1 in let same : 256 ≡ h.0 = cc in omega (arith, same, h.2)

pub no_null : HasType (scalar text) null → ⊥
no_null h = absurd (cc)

-- Sizes: a bool has 1 byte, a text its own, and a null none. A text of three bytes does not fit a limit of 2.
pub bool_size : canonical_size (scalar bool) (truth true) ≡ 1
bool_size = refl

pub text_size : canonical_size (nullable (scalar text)) (string (195 ∷ 169 ∷ [])) ≡ 2
text_size = refl

pub null_size : canonical_size (nullable (scalar uuid)) null ≡ 0
null_size = refl

pub two_fit : Fits 2 (scalar text) (string (97 ∷ 98 ∷ []))
two_fit = lit≤ tt

pub three_do_not : Fits 2 (scalar text) (string (97 ∷ 98 ∷ 99 ∷ [])) → ⊥
three_do_not h = omega (arith, h)

-- Which types have a spelling, or are nullable or named over one of these.
pub uuid_or_null : IsBuilt (nullable (scalar uuid))
uuid_or_null = tt

pub citext_or_null : IsBuilt (nullable (named citext (scalar text)))
citext_or_null = tt
