-- With which error a piece is refused that is of no value of a type.
use Rattle.std.specs.Prelude.{◌≡◌, ◌≢◌, ◌<◌, ◌==◌, if◌then◌else◌, Bool, true, false, not, nat_lt, ℕ, List, [], ◌∷◌, length, Option, None, Some}
use Rattle.std.specs.Option.{option_or}
use Rattle.std.specs.Str.{IsUtf8}
use Rattle.pgw_wire.specs.declared.sql_error.SqlError.{SqlError}
use Rattle.pgw_wire.specs.declared.sql_error.SqlError.TheVariants.{ShortBuffer, WrongSize, EmptyResponse, BadUtf8}
use Rattle.pgw_wire.specs.declared.sql_error.SqlError.TheVariants.{MacLength, UuidLength, Network, BadPrefix}
use Rattle.pgw_wire.specs.declared.sql_error.NetworkFault.TheVariants.{TooShort, WrongType, WrongLength, WrongAddressLength, WrongFamily}
use Rattle.pgw_scalar.specs.Networks.{address_size, longest_prefix}

-- of a type with values of so many bytes: a piece of another length, with how many bytes it has
abbrev pub RefusesSize : ℕ → List ℕ → SqlError → Type 0
RefusesSize size piece e = (length piece ≢ size) × (e ≡ WrongSize size (length piece))

-- of a uuid: the same
abbrev pub RefusesUuid : List ℕ → SqlError → Type 0
RefusesUuid piece e = (length piece ≢ 16) × (e ≡ UuidLength (length piece))

-- of a hardware address of so many bytes: a piece of another length
abbrev pub RefusesMac : ℕ → List ℕ → SqlError → Type 0
RefusesMac size piece e = (length piece ≢ size) × (e ≡ MacLength size)

-- of a bool and a char: a piece without a byte
abbrev pub RefusesEmpty : List ℕ → SqlError → Type 0
RefusesEmpty piece e = (piece ≡ []) × (e ≡ EmptyResponse)

-- of an oid: a piece of fewer than four bytes
abbrev pub RefusesShort : List ℕ → SqlError → Type 0
RefusesShort piece e = (length piece < 4) × (e ≡ ShortBuffer)

-- of a text: a piece that is not UTF-8
abbrev pub RefusesText : List ℕ → SqlError → Type 0
RefusesText piece e = (IsUtf8 piece → ⊥) × (e ≡ BadUtf8)

-- of a bytea: none
abbrev pub RefusesNone : List ℕ → SqlError → Type 0
RefusesNone piece e = ⊥

-- of an inet and a cidr: the first of these faults that the piece has. First those of the bytes of an address, which
-- has to have so many, and of the length that is stated of it,
abbrev pub length_refusal : ℕ → ℕ → List ℕ → Option SqlError
length_refusal many size address =
    if not (length address == many) then Some (Network WrongLength)
    else if not (size == many) then Some (Network WrongAddressLength)
    else None

-- then that of the prefix of an address of so many bits.
abbrev pub prefix_refusal : ℕ → ℕ → Option SqlError
prefix_refusal longest prefix = if nat_lt longest prefix then Some (BadPrefix prefix) else None

abbrev pub address_refusal : Bool → ℕ → ℕ → List ℕ → Option SqlError
address_refusal six prefix size address =
    option_or (length_refusal (address_size six) size address) (prefix_refusal (longest_prefix six) prefix)

-- Before these stand the faults of the bytes in front of the address, by the byte of the type that has to be there.
abbrev pub network_refusal : ℕ → List ℕ → Option SqlError
network_refusal type_byte (first ∷ prefix ∷ third ∷ size ∷ address) =
    if not (third == type_byte) then Some (Network WrongType)
    else if first == 2 then address_refusal false prefix size address
    else if first == 3 then address_refusal true prefix size address
    else Some (Network WrongFamily)
network_refusal type_byte _ = Some (Network TooShort)

abbrev pub RefusesNetwork : ℕ → List ℕ → SqlError → Type 0
RefusesNetwork type_byte piece e = network_refusal type_byte piece ≡ Some e
