-- What the definitions of fields say of single pieces: of which value a piece is, and of which it is none.
use Rattle.std.proofs.Common.{◌≡◌, ℕ, ℤ, pos, negsuc, Bool, true, false, List, [], ◌∷◌, length, get_or, inl, inr, Ok, Err, refl, sym, ap, subst, arith, lit<}
use Rattle.std.specs.Int.{w16, w32, w64}
use Rattle.std.specs.Str.{IsUtf8, chars, is_utf8}
use Rattle.std.proofs.lemmas.Str.{is_utf8-from_IsUtf8}
use Rattle.std.proofs.lemmas.Bool.{false≢true}
use lib.Utf8.{encode}
use Rattle.pgw_wire.specs.declared.kind.Break.TheVariants.{Size, Utf8, Family, Prefix}
use Rattle.pgw_wire.specs.declared.sql_error.SqlError.TheVariants as error
use Rattle.pgw_wire.specs.declared.sql_error.NetworkFault.TheVariants as fault
use Rattle.pgw_scalar.specs.Sized.{IsSized, BreaksSized}
use Rattle.pgw_scalar.specs.Whole.{IsSigned, IsUnsigned, signed_bytes}
use Rattle.pgw_scalar.specs.Leading.{IsBool, bool_bytes, IsChar, char_bytes, BreaksEmpty, IsOid, oid_bytes, BreaksShort, read_bool, read_char, read_oid}
use Rattle.pgw_scalar.specs.Bytea.{IsBytea}
use Rattle.pgw_scalar.specs.Text.{IsText, BreaksText, read_text}
use Rattle.pgw_scalar.specs.Networks.{Network, network_bytes, IsNetwork, BreaksNetwork, read_network}
use Rattle.pgw_scalar.specs.Refusals.{RefusesNetwork, RefusesSize, RefusesUuid, RefusesMac, RefusesEmpty, RefusesShort, RefusesText}

-- int2: 1, and -1 in two's complement
pub int2_1 : IsSigned w16 (0 ∷ 1 ∷ []) (pos 1)
int2_1 = record { fits = record { sfits = lit< tt }; bytes = refl }

pub int2_minus_1 : IsSigned w16 (255 ∷ 255 ∷ []) (negsuc 0)
int2_minus_1 = record { fits = record { sfits = lit< tt }; bytes = refl }

pub one_byte_is_no_int2 : (n : ℤ) → IsSigned w16 (1 ∷ []) n → ⊥
one_byte_is_no_int2 n h = omega (arith, ap length h.bytes)

-- int4: 42, -2 and the least number. The bytes of 42 are those of no 43, and three or five bytes those of no number.
pub int4_42 : IsSigned w32 (0 ∷ 0 ∷ 0 ∷ 42 ∷ []) (pos 42)
int4_42 = record { fits = record { sfits = lit< tt }; bytes = refl }

pub minus_two : IsSigned w32 (255 ∷ 255 ∷ 255 ∷ 254 ∷ []) (negsuc 1)
minus_two = record { fits = record { sfits = lit< tt }; bytes = refl }

pub least : IsSigned w32 (128 ∷ 0 ∷ 0 ∷ 0 ∷ []) (negsuc 2147483647)
least = record { fits = record { sfits = lit< tt }; bytes = refl }

pub minus_two_written : signed_bytes w32 (negsuc 1) ≡ 255 ∷ 255 ∷ 255 ∷ 254 ∷ []
minus_two_written = refl

pub not_43 : IsSigned w32 (0 ∷ 0 ∷ 0 ∷ 42 ∷ []) (pos 43) → ⊥
not_43 h = omega (arith, ap (λ l. get_or l 3 0) h.bytes)

pub three_are_none : (n : ℤ) → IsSigned w32 (0 ∷ 0 ∷ 42 ∷ []) n → ⊥
three_are_none n h = omega (arith, ap length h.bytes)

pub five_are_none : (n : ℤ) → IsSigned w32 (0 ∷ 0 ∷ 0 ∷ 0 ∷ 42 ∷ []) n → ⊥
five_are_none n h = omega (arith, ap length h.bytes)

pub five_break : BreaksSized 4 Size (0 ∷ 0 ∷ 0 ∷ 0 ∷ 42 ∷ [])
five_break = (refl, λ e. omega (arith, e))

pub four_do_not : BreaksSized 4 Size (0 ∷ 0 ∷ 0 ∷ 42 ∷ []) → ⊥
four_do_not h = h.1 refl

pub five_refused : RefusesSize 4 (0 ∷ 0 ∷ 0 ∷ 0 ∷ 42 ∷ []) (error.WrongSize 4 5)
five_refused = (λ e. omega (arith, e), refl)

-- int8 and money: -1
pub int8_minus_1 : IsSigned w64 (255 ∷ 255 ∷ 255 ∷ 255 ∷ 255 ∷ 255 ∷ 255 ∷ 255 ∷ []) (negsuc 0)
int8_minus_1 = record { fits = record { sfits = lit< tt }; bytes = refl }

pub four_are_no_int8 : (n : ℤ) → IsSigned w64 (255 ∷ 255 ∷ 255 ∷ 255 ∷ []) n → ⊥
four_are_no_int8 n h = omega (arith, ap length h.bytes)

-- pg_lsn, which has no sign
pub position : IsUnsigned w64 (82 ∷ 84 ∷ 0 ∷ 251 ∷ 198 ∷ 22 ∷ 23 ∷ 255 ∷ []) 0x525400FBC61617FF
position = record { fits = lit< tt; bytes = refl }

pub greatest : IsUnsigned w64 (255 ∷ 255 ∷ 255 ∷ 255 ∷ 255 ∷ 255 ∷ 255 ∷ 255 ∷ []) 18446744073709551615
greatest = record { fits = lit< tt; bytes = refl }

pub seven_are_no_position : (n : ℕ) → IsUnsigned w64 (82 ∷ 84 ∷ 0 ∷ 251 ∷ 198 ∷ 22 ∷ 23 ∷ []) n → ⊥
seven_are_no_position n h = omega (arith, ap length h.bytes)

-- bool: any first byte but 0 is true, whatever stands behind it, and no byte is no bool
pub two_is_true : IsBool (2 ∷ 170 ∷ 187 ∷ []) true
two_is_true = record { first = 2; rest = 170 ∷ 187 ∷ []; is = refl; says = refl }

pub zero_is_false : IsBool (0 ∷ 1 ∷ []) false
zero_is_false = record { first = 0; rest = 1 ∷ []; is = refl; says = refl }

pub true_written : bool_bytes true ≡ 1 ∷ []
true_written = refl

pub false_written : bool_bytes false ≡ 0 ∷ []
false_written = refl

pub no_byte_is_no_bool : (truth : Bool) → IsBool [] truth → ⊥
no_byte_is_no_bool truth h = omega (arith, ap length h.is)

pub read_true : read_bool (2 ∷ 170 ∷ 187 ∷ []) ≡ Ok true
read_true = refl

pub no_byte_breaks : BreaksEmpty Size []
no_byte_breaks = (refl, refl)

pub no_byte_refused : RefusesEmpty [] error.EmptyResponse
no_byte_refused = (refl, refl)

-- char: the first byte
pub byte_196 : IsChar (196 ∷ 1 ∷ []) 196
byte_196 = record { rest = 1 ∷ []; fits = lit< tt; is = refl }

pub not_the_last : IsChar (196 ∷ 1 ∷ []) 1 → ⊥
not_the_last h = omega (arith, ap (λ l. get_or l 0 0) h.is)

pub byte_written : char_bytes 196 ≡ 196 ∷ []
byte_written = refl

pub read_196 : read_char (196 ∷ 1 ∷ []) ≡ Ok 196
read_196 = refl

-- oid: the first four bytes, without a sign
pub oid_16400 : IsOid (0 ∷ 0 ∷ 64 ∷ 16 ∷ 9 ∷ []) 16400
oid_16400 = record { rest = 9 ∷ []; fits = lit< tt; is = refl }

pub oid_without_sign : IsOid (255 ∷ 255 ∷ 255 ∷ 255 ∷ []) 4294967295
oid_without_sign = record { rest = []; fits = lit< tt; is = refl }

pub oid_written : oid_bytes 16400 ≡ 0 ∷ 0 ∷ 64 ∷ 16 ∷ []
oid_written = refl

pub three_are_no_oid : (oid : ℕ) → IsOid (0 ∷ 64 ∷ 16 ∷ []) oid → ⊥
three_are_no_oid oid h = omega (arith, ap length h.is)

pub read_16400 : read_oid (0 ∷ 0 ∷ 64 ∷ 16 ∷ 9 ∷ []) ≡ Ok 16400
read_16400 = refl

pub three_break : BreaksShort Size (0 ∷ 64 ∷ 16 ∷ [])
three_break = (refl, lit< tt)

pub three_refused : RefusesShort (0 ∷ 64 ∷ 16 ∷ []) error.ShortBuffer
three_refused = (lit< tt, refl)

-- text: two bytes that are one character, and no byte. "a" is no "b", and C3 with 28 behind it is no text.
letter_e_acute : IsUtf8 (195 ∷ 169 ∷ [])
unfolding encode
letter_e_acute = (233 ∷ [], (refl, refl))

broken : is_utf8 (195 ∷ 40 ∷ []) ≡ false
unfolding is_utf8 chars encode
broken = refl

no_utf8 : IsUtf8 (195 ∷ 40 ∷ []) → ⊥
no_utf8 utf8 = false≢true (subst (λ b. b ≡ true) broken (is_utf8-from_IsUtf8 (195 ∷ 40 ∷ []) utf8))

pub e_acute : IsText (195 ∷ 169 ∷ []) (195 ∷ 169 ∷ [])
e_acute = record { utf8 = letter_e_acute; bytes = refl }

pub no_bytes : IsText [] []
unfolding encode
no_bytes = record { utf8 = ([], (refl, refl)); bytes = refl }

pub a_is_no_b : IsText (97 ∷ []) (98 ∷ []) → ⊥
a_is_no_b h = omega (arith, ap (λ l. get_or l 0 0) h.bytes)

pub no_text : (text : List ℕ) → IsText (195 ∷ 40 ∷ []) text → ⊥
no_text text h = no_utf8 (subst (λ (l : List ℕ). IsUtf8 l) (sym h.bytes) h.utf8)

pub text_breaks : BreaksText Utf8 (195 ∷ 40 ∷ [])
text_breaks = (refl, no_utf8)

pub text_refused : RefusesText (195 ∷ 40 ∷ []) error.BadUtf8
text_refused = (no_utf8, refl)

pub read_e_acute : read_text (195 ∷ 169 ∷ []) ≡ Ok (195 ∷ 169 ∷ [])
unfolding is_utf8 chars encode
read_e_acute = refl

-- bytea: any bytes, and these alone
pub any_bytes : IsBytea (195 ∷ 40 ∷ []) (195 ∷ 40 ∷ [])
any_bytes = refl

pub not_fewer : IsBytea (195 ∷ 40 ∷ []) (195 ∷ []) → ⊥
not_fewer h = omega (arith, ap length h)

-- macaddr, macaddr8 and uuid: so many bytes
pub six_bytes : IsSized 6 (82 ∷ 84 ∷ 0 ∷ 251 ∷ 198 ∷ 22 ∷ []) (82 ∷ 84 ∷ 0 ∷ 251 ∷ 198 ∷ 22 ∷ [])
six_bytes = record { many = refl; is = refl }

pub no_six : (bytes : List ℕ) → IsSized 8 (82 ∷ 84 ∷ 0 ∷ 251 ∷ 198 ∷ 22 ∷ []) bytes → ⊥
no_six bytes h = omega (arith, ap length h.is, h.many)

pub six_break : BreaksSized 8 Size (82 ∷ 84 ∷ 0 ∷ 251 ∷ 198 ∷ 22 ∷ [])
six_break = (refl, λ e. omega (arith, e))

pub six_refused : RefusesMac 8 (82 ∷ 84 ∷ 0 ∷ 251 ∷ 198 ∷ 22 ∷ []) (error.MacLength 8)
six_refused = (λ e. omega (arith, e), refl)

pub four_are_no_uuid : (bytes : List ℕ) → IsSized 16 (98 ∷ 111 ∷ 111 ∷ 109 ∷ []) bytes → ⊥
four_are_no_uuid bytes h = omega (arith, ap length h.is, h.many)

pub boom_refused : RefusesUuid (98 ∷ 111 ∷ 111 ∷ 109 ∷ []) (error.UuidLength 4)
boom_refused = (λ e. omega (arith, e), refl)

-- inet and cidr: 127.0.0.1/32 as an inet, which is no cidr, and a cidr of 192.168.0.1/24, whose last bit stays set
abbrev pub loopback : Network
loopback = record { six = false; prefix = 32; address = 127 ∷ 0 ∷ 0 ∷ 1 ∷ [] }

pub inet_written : network_bytes 0 loopback ≡ 2 ∷ 32 ∷ 0 ∷ 4 ∷ 127 ∷ 0 ∷ 0 ∷ 1 ∷ []
inet_written = refl

pub cidr_written : network_bytes 1 loopback ≡ 2 ∷ 32 ∷ 1 ∷ 4 ∷ 127 ∷ 0 ∷ 0 ∷ 1 ∷ []
cidr_written = refl

pub inet_is : IsNetwork 0 (2 ∷ 32 ∷ 0 ∷ 4 ∷ 127 ∷ 0 ∷ 0 ∷ 1 ∷ []) loopback
inet_is = record { laid_out = record { many = refl; bytes = refl }; fits = lit< tt }

pub inet_is_no_cidr : (n : Network) → IsNetwork 1 (2 ∷ 32 ∷ 0 ∷ 4 ∷ 127 ∷ 0 ∷ 0 ∷ 1 ∷ []) n → ⊥
inet_is_no_cidr n h = omega (arith, ap (λ l. get_or l 2 0) h.laid_out.bytes)

pub bit_stays : read_network 1 (2 ∷ 24 ∷ 1 ∷ 4 ∷ 192 ∷ 168 ∷ 0 ∷ 1 ∷ []) ≡ Ok (record { six = false; prefix = 24; address = 192 ∷ 168 ∷ 0 ∷ 1 ∷ [] })
bit_stays = refl

-- ::1/64, of IPv6
abbrev pub loopback6 : List ℕ
loopback6 = 0 ∷ 0 ∷ 0 ∷ 0 ∷ 0 ∷ 0 ∷ 0 ∷ 0 ∷ 0 ∷ 0 ∷ 0 ∷ 0 ∷ 0 ∷ 0 ∷ 0 ∷ 1 ∷ []

pub inet6_is : IsNetwork 0 (3 ∷ 64 ∷ 0 ∷ 16 ∷ loopback6) (record { six = true; prefix = 64; address = loopback6 })
inet6_is = record { laid_out = record { many = refl; bytes = refl }; fits = lit< tt }

-- a prefix of 33 bits, the byte of the other type, an address length of 5, and a family that is none
pub long_prefix_breaks : BreaksNetwork 0 Prefix (2 ∷ 33 ∷ 0 ∷ 4 ∷ 127 ∷ 0 ∷ 0 ∷ 1 ∷ [])
long_prefix_breaks = inl (refl, (record { six = false; prefix = 33; address = 127 ∷ 0 ∷ 0 ∷ 1 ∷ [] }, record { many = refl; bytes = refl }, lit< tt))

pub long_prefix_refused : RefusesNetwork 0 (2 ∷ 33 ∷ 0 ∷ 4 ∷ 127 ∷ 0 ∷ 0 ∷ 1 ∷ []) (error.BadPrefix 33)
long_prefix_refused = refl

pub other_type_breaks : BreaksNetwork 1 Family (2 ∷ 32 ∷ 0 ∷ 4 ∷ 127 ∷ 0 ∷ 0 ∷ 1 ∷ [])
other_type_breaks = inr (refl, λ n h. omega (arith, ap (λ l. get_or l 2 0) h.bytes))

pub other_type_refused : RefusesNetwork 1 (2 ∷ 32 ∷ 0 ∷ 4 ∷ 127 ∷ 0 ∷ 0 ∷ 1 ∷ []) (error.Network fault.WrongType)
other_type_refused = refl

pub stated_length_refused : RefusesNetwork 0 (2 ∷ 33 ∷ 0 ∷ 5 ∷ 127 ∷ 0 ∷ 0 ∷ 1 ∷ []) (error.Network fault.WrongAddressLength)
stated_length_refused = refl

pub length_refused : RefusesNetwork 0 (2 ∷ 33 ∷ 0 ∷ 5 ∷ 127 ∷ 0 ∷ 0 ∷ 1 ∷ 0 ∷ []) (error.Network fault.WrongLength)
length_refused = refl

pub family_7_refused : RefusesNetwork 0 (7 ∷ 33 ∷ 0 ∷ 4 ∷ 127 ∷ 0 ∷ 0 ∷ 1 ∷ []) (error.Network fault.WrongFamily)
family_7_refused = refl

pub family_7_breaks : read_network 0 (7 ∷ 33 ∷ 0 ∷ 4 ∷ 127 ∷ 0 ∷ 0 ∷ 1 ∷ []) ≡ Err Family
family_7_breaks = refl

pub three_are_no_network : RefusesNetwork 0 (7 ∷ 2 ∷ 0 ∷ []) (error.Network fault.TooShort)
three_are_no_network = refl
