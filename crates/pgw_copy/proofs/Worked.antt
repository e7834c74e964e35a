-- What the definitions say of headers, counts, fields and rows that are written out byte by byte.
use Rattle.std.proofs.Common.{◌≡◌, ℕ, ℤ, pos, negsuc, List, [], ◌∷◌, ◌++◌, length, get_or, Some, None, refl, ap, ◌∙◌, inl, inr, lit<, lit≤, arith, sym, subst}
use Rattle.std.specs.Int.{cast_signed, w16}
use Rattle.pgw_wire.proofs.Numbers.{same_number_2}
use Rattle.pgw_copy.specs.Places.{cells_at}
use Rattle.pgw_copy.specs.declared.row.Place.TheVariants.{Null, Piece}
use Rattle.pgw_copy.specs.Format.{magic, IsFixedHeader, IsHeader, IsCutHeader, IsField, AreFields, IsRow, IsCutRow}
use Rattle.pgw_copy.specs.Reader.{IsBadHeader, HasNegativeExtension, HasHighFlags, IsBadCount, AreWholeFields, IsWholeRow, IsCutField, AreCutFields}
use Rattle.pgw_copy.proofs.Fields.{short_field, short_piece, cut_fields}
use Rattle.pgw_copy.proofs.Reading.{is_cut_row}

-- Flags 00000001 and a length of 5, and behind them five bytes: a low flag and an extension are allowed.
abbrev extended : List ℕ
extended = magic ++ 0 ∷ 0 ∷ 0 ∷ 1 ∷ 0 ∷ 0 ∷ 0 ∷ 5 ∷ []

fixed_part : IsFixedHeader extended 5
fixed_part = record { flags = 1; low = lit< tt; short = lit< tt; is = refl }

pub extended_header : IsHeader (extended ++ 1 ∷ 2 ∷ 3 ∷ 4 ∷ 5 ∷ [])
extended_header = record { fixed = extended; extension = 1 ∷ 2 ∷ 3 ∷ 4 ∷ 5 ∷ []; begins = fixed_part; is = refl }

-- With four bytes behind them the header was cut, and so it was at 18 bytes, whatever they are.
pub cut_extension : IsCutHeader (extended ++ 1 ∷ 2 ∷ 3 ∷ 4 ∷ [])
cut_extension = inr (extended, 1 ∷ 2 ∷ 3 ∷ 4 ∷ [], 5, fixed_part, refl, lit< tt)

pub cut_header : (bytes : List ℕ) → length bytes ≡ 18 → IsCutHeader bytes
cut_header bytes e = inl (omega arith)

-- A flag in the high half is not allowed.
pub no_high_flag : (rest : List ℕ) → IsHeader (magic ++ 0 ∷ 1 ∷ 0 ∷ 0 ∷ rest) → ⊥
no_high_flag rest h = omega (arith, ap (λ l. get_or l 12 0) (h.is ∙ ap (λ f. f ++ h.extension) h.begins.is), h.begins.low)

-- Such flags are told with all 32 bits, whatever the length behind them is. Flags in the low half alone are none.
pub high_flag : HasHighFlags 65536 (magic ++ 0 ∷ 1 ∷ 0 ∷ 0 ∷ 255 ∷ 255 ∷ 255 ∷ 255 ∷ [])
high_flag = record { rest = 255 ∷ 255 ∷ 255 ∷ 255 ∷ []; high = lit≤ tt; fits = lit< tt; four = refl; is = refl }

pub all_flags : HasHighFlags 4294967295 (magic ++ 255 ∷ 255 ∷ 255 ∷ 255 ∷ 0 ∷ 0 ∷ 0 ∷ 0 ∷ [])
all_flags = record { rest = 0 ∷ 0 ∷ 0 ∷ 0 ∷ []; high = lit≤ tt; fits = lit< tt; four = refl; is = refl }

pub low_flags : (flags : ℕ) (rest : List ℕ) → HasHighFlags flags (magic ++ 0 ∷ 0 ∷ 255 ∷ 255 ∷ rest) → ⊥
low_flags flags rest h = omega (arith, ap (λ l. get_or l 11 0) h.is, ap (λ l. get_or l 12 0) h.is, h.high, h.fits)

-- An extension has no negative length.
pub no_negative_extension : (rest : List ℕ) → IsHeader (magic ++ 0 ∷ 0 ∷ 0 ∷ 0 ∷ 255 ∷ 255 ∷ 255 ∷ 255 ∷ rest) → ⊥
no_negative_extension rest h = omega (arith, ap (λ l. get_or l 15 0) (h.is ∙ ap (λ f. f ++ h.extension) h.begins.is), h.begins.short)

-- -1 and the least length are negative, and the greatest is not.
pub extension_minus_one : HasNegativeExtension (magic ++ 0 ∷ 0 ∷ 0 ∷ 0 ∷ 255 ∷ 255 ∷ 255 ∷ 255 ∷ [])
extension_minus_one = record { flags = 0; extension = 4294967295; low = lit< tt; negative = lit≤ tt; fits = lit< tt; is = refl }

pub extension_least : HasNegativeExtension (magic ++ 0 ∷ 0 ∷ 255 ∷ 255 ∷ 128 ∷ 0 ∷ 0 ∷ 0 ∷ [])
extension_least = record { flags = 65535; extension = 2147483648; low = lit< tt; negative = lit≤ tt; fits = lit< tt; is = refl }

pub extension_greatest : HasNegativeExtension (magic ++ 0 ∷ 0 ∷ 0 ∷ 0 ∷ 127 ∷ 255 ∷ 255 ∷ 255 ∷ []) → ⊥
extension_greatest h = omega (arith, ap (λ l. get_or l 15 0) h.is, h.negative, h.fits)

-- 19 bytes are a bad header where such a length stands in them, and where the last byte of the magic is another.
pub bad_extension : IsBadHeader (magic ++ 0 ∷ 0 ∷ 0 ∷ 0 ∷ 255 ∷ 255 ∷ 255 ∷ 255 ∷ [])
bad_extension = (refl, inr extension_minus_one)

pub bad_magic : IsBadHeader (80 ∷ 71 ∷ 67 ∷ 79 ∷ 80 ∷ 89 ∷ 10 ∷ 255 ∷ 13 ∷ 10 ∷ 1 ∷ 0 ∷ 0 ∷ 0 ∷ 0 ∷ 0 ∷ 0 ∷ 0 ∷ 0 ∷ [])
bad_magic = (refl, inl (λ rest e. omega (arith, ap (λ l. get_or l 10 0) e)))

-- FFFE is the count -2 and 8000 is -32768. Neither -1, which ends a stream, nor 0 is a bad count.
pub minus_two : IsBadCount (negsuc 1) (255 ∷ 254 ∷ [])
minus_two = record { unsigned = 65534; negative = lit≤ tt; below = lit< tt; signed = refl; is = refl }

pub least_count : IsBadCount (negsuc 32767) (128 ∷ 0 ∷ [])
least_count = record { unsigned = 32768; negative = lit≤ tt; below = lit< tt; signed = refl; is = refl }

-- and no positive number is one, though without a sign its bytes are those of -2
pub positive_count : IsBadCount (pos 65534) (255 ∷ 254 ∷ []) → ⊥
positive_count h =
    let same : 65534 ≡ h.unsigned = same_number_2 65534 h.unsigned (lit< tt) (omega (arith, h.below)) h.is in
    no_sign (subst (λ (n : ℕ). pos 65534 ≡ cast_signed w16 n) (sym same) h.signed)
  where
    no_sign : pos 65534 ≡ negsuc 1 → ⊥
    no_sign e = absurd (cc)

pub minus_one : (count : ℤ) → IsBadCount count (255 ∷ 255 ∷ []) → ⊥
minus_one count h = omega (arith, ap (λ l. get_or l 0 0) h.is, ap (λ l. get_or l 1 0) h.is, h.below)

pub zero_count : (count : ℤ) → IsBadCount count (0 ∷ 0 ∷ []) → ⊥
zero_count count h = omega (arith, ap (λ l. get_or l 0 0) h.is, h.negative, h.below)

-- the field of a null, and that of one byte
abbrev field_null : List ℕ
field_null = 255 ∷ 255 ∷ 255 ∷ 255 ∷ []

abbrev field_byte : List ℕ
field_byte = 0 ∷ 0 ∷ 0 ∷ 1 ∷ 170 ∷ []

-- a length of 4 and three bytes
abbrev part_field : List ℕ
part_field = 0 ∷ 0 ∷ 0 ∷ 4 ∷ 0 ∷ 0 ∷ 0 ∷ []

null_field : IsField None field_null
null_field = (4294967295, lit≤ tt, lit< tt, refl)

two_fields : AreFields (None ∷ Some (170 ∷ []) ∷ []) (field_null ++ field_byte)
two_fields = (field_null, field_byte, null_field, (field_byte, [], (lit< tt, refl), refl, refl), refl)

-- A field was cut within its length, or behind a length that is greater than what is left. A null was not.
pub cut_length : IsCutField (255 ∷ 255 ∷ 255 ∷ [])
cut_length = short_field (255 ∷ 255 ∷ 255 ∷ []) (lit< tt)

pub cut_piece : IsCutField part_field
cut_piece = short_piece 4 (0 ∷ 0 ∷ 0 ∷ 4 ∷ []) (0 ∷ 0 ∷ 0 ∷ []) (lit< tt) refl (lit< tt)

pub no_cut_null : IsCutField field_null → ⊥
no_cut_null cut = cut None field_null [] null_field refl

-- Two fields were cut within the second, and where that has no byte. One field is whole there.
pub cut_second : AreCutFields 2 (field_null ++ part_field)
cut_second = cut_fields 2 (None ∷ []) field_null part_field (lit< tt) (field_null, [], null_field, refl, refl) cut_piece

pub missing_second : AreCutFields 2 (field_null ++ [])
missing_second = cut_fields 2 (None ∷ []) field_null [] (lit< tt) (field_null, [], null_field, refl, refl) (short_field [] (lit< tt))

pub no_cut_first : AreCutFields 1 (field_null ++ part_field) → ⊥
no_cut_first cut = cut (None ∷ []) field_null part_field refl (field_null, [], null_field, refl, refl) refl

-- A null and a field of one byte are two fields, and behind the count 2 they are a row.
pub whole_fields : AreWholeFields 2 (field_null ++ field_byte)
whole_fields = (None ∷ Some (170 ∷ []) ∷ [], refl, two_fields)

pub whole_row : IsWholeRow (0 ∷ 2 ∷ field_null ++ field_byte)
whole_row = (None ∷ Some (170 ∷ []) ∷ [], record { fields = field_null ++ field_byte; few = lit< tt; each = two_fields; is = refl })

-- As it is kept, the places of its cells are counted from the front of the row.
pub kept_row : cells_at (0 ∷ 2 ∷ field_null ++ field_byte) (Null ∷ Piece 10 11 ∷ []) ≡ None ∷ Some (170 ∷ []) ∷ []
kept_row = refl

-- The count 0 is a row of no fields.
pub empty_row : IsRow [] (0 ∷ 0 ∷ [])
empty_row = record { fields = []; few = lit< tt; each = refl; is = refl }

-- A row that ends inside its field was cut there, and one with fewer fields than its count says was cut behind them.
pub cut_in_field : IsCutRow (0 ∷ 1 ∷ part_field)
cut_in_field = is_cut_row 1 (0 ∷ 1 ∷ []) part_field (lit< tt, refl) (cut_fields 1 [] [] part_field (lit< tt) refl cut_piece)

pub cut_behind_field : IsCutRow (0 ∷ 2 ∷ field_null)
cut_behind_field = is_cut_row 2 (0 ∷ 2 ∷ []) (field_null ++ []) (lit< tt, refl) missing_second

pub no_cut_empty_row : IsCutRow (0 ∷ 0 ∷ []) → ⊥
no_cut_empty_row (inl short) = omega (arith, short)
no_cut_empty_row (inr cut) = cut.4 [] (0 ∷ 0 ∷ []) [] empty_row refl
