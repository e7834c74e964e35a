-- The fields of an inet and of a cidr: four bytes, and behind them an address. The four are the family of the address,
-- the length of the prefix in bits, the byte of the type, which is 0 of an inet and 1 of a cidr, and the length of the
-- address in bytes.
use Rattle.std.specs.Prelude.{◌≡◌, ◌<◌, ◌≤◌, ◌==◌, ◌&&◌, ◌⊎◌, if◌then◌else◌, Bool, nat_le, ℕ, List, ◌∷◌, length, Result, Ok, Err}
use Rattle.pgw_wire.specs.declared.kind.Break.{Break}
use Rattle.pgw_wire.specs.declared.kind.Break.TheVariants.{Family, Prefix}

-- an address, which is one of IPv6 or one of IPv4, and how many of its bits are the prefix
pub record Network : Type 0 where
  pub six : Bool
  pub prefix : ℕ
  pub address : List ℕ

-- the family of the addresses of IPv6, and of those of IPv4
abbrev pub family : Bool → ℕ
family six = if six then 3 else 2

-- how many bytes an address has
abbrev pub address_size : Bool → ℕ
address_size six = if six then 16 else 4

-- how many bits an address has, which is how many a prefix may have
abbrev pub longest_prefix : Bool → ℕ
longest_prefix six = if six then 128 else 32

-- the bytes that a network is written as in a field with this byte of the type
abbrev pub network_bytes : ℕ → Network → List ℕ
network_bytes type_byte n = family n.six ∷ n.prefix ∷ type_byte ∷ address_size n.six ∷ n.address

-- The piece is laid out as the field of this network, whose address has as many bytes as its family says, and whose
-- prefix may have any length.
pub record IsLaidOut (type_byte : ℕ) (piece : List ℕ) (n : Network) : Type 0 where
  pub many : length n.address ≡ address_size n.six
  pub bytes : piece ≡ network_bytes type_byte n

-- The piece is the field of this network: the prefix is no longer than the address.
pub record IsNetwork (type_byte : ℕ) (piece : List ℕ) (n : Network) : Type 0 where
  pub laid_out : IsLaidOut type_byte piece n
  pub fits : n.prefix ≤ longest_prefix n.six

-- The piece would be the field of a network, if the prefix were not longer than the address.
abbrev pub HasLongPrefix : ℕ → List ℕ → Type 0
HasLongPrefix type_byte piece = (n : Network) × IsLaidOut type_byte piece n × (longest_prefix n.six < n.prefix)

-- Such a piece breaks as prefix, and one that is laid out as no field of a network breaks as family.
abbrev pub BreaksNetwork : ℕ → Break → List ℕ → Type 0
BreaksNetwork type_byte kind piece =
    ((kind ≡ Prefix) × HasLongPrefix type_byte piece)
    ⊎ ((kind ≡ Family) × ((n : Network) → IsLaidOut type_byte piece n → ⊥))

-- What a piece is read as, as one function, for the proofs: first whether four bytes and an address are laid out as the
-- field of a network,
abbrev pub is_laid_out : ℕ → ℕ → ℕ → ℕ → List ℕ → Bool
is_laid_out type_byte first third size address =
    let six = first == 3 in
    (first == family six) && (third == type_byte) && (size == address_size six) && (length address == address_size six)

-- then whether its prefix fits.
abbrev pub read_prefix : Network → Result Network Break
read_prefix n = if nat_le n.prefix (longest_prefix n.six) then Ok n else Err Prefix

abbrev pub read_network : ℕ → List ℕ → Result Network Break
read_network type_byte (first ∷ prefix ∷ third ∷ size ∷ address) =
    if is_laid_out type_byte first third size address
    then read_prefix (record { six = first == 3; prefix = prefix; address = address })
    else Err Family
read_network type_byte _ = Err Family
