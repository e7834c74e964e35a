-- The parts of PostgreSQL's binary COPY stream ("Binary Format" on the manual's page COPY): its header, its rows as
-- cells, and its end.
use Rattle.std.specs.Prelude.{◌≡◌, ◌⊎◌, ℕ, ◌<◌, ◌≤◌, ◌^◌, List, [], ◌∷◌, ◌++◌, length, Option, None, Some}
use Rattle.std.specs.Int.{to_be_bytes, w16, w32}
use Rattle.pgw_wire.specs.Cell.{Cell, frame}

-- "PGCOPY", a line feed, 255, a carriage return, a line feed and 0
abbrev pub magic : List ℕ
magic = 80 ∷ 71 ∷ 67 ∷ 79 ∷ 80 ∷ 89 ∷ 10 ∷ 255 ∷ 13 ∷ 10 ∷ 0 ∷ []

-- the first 19 bytes of a header: the magic, 32 bits of flags of which the high half is 0, and the length of the
-- extension that follows
pub record IsFixedHeader (bytes : List ℕ) (extension : ℕ) : Type 0 where
  pub flags : ℕ
  pub low : flags < 2 ^ 16
  pub short : extension < 2 ^ 31
  pub is : bytes ≡ magic ++ to_be_bytes w32 flags ++ to_be_bytes w32 extension

pub record IsHeader (bytes : List ℕ) : Type 0 where
  pub fixed : List ℕ
  pub extension : List ℕ
  pub begins : IsFixedHeader fixed (length extension)
  pub is : bytes ≡ fixed ++ extension

-- the one header that is written: no flag and no extension
abbrev pub canonical_header : List ℕ
canonical_header = magic ++ to_be_bytes w32 0 ++ to_be_bytes w32 0

-- a header that is cut short: fewer than 19 bytes, whatever they are; or the first 19, and fewer than the extension has
abbrev pub IsCutHeader : List ℕ → Type 0
IsCutHeader bytes =
    (length bytes < 19)
    ⊎ ((fixed : List ℕ) × (rest : List ℕ) × (extension : ℕ) × IsFixedHeader fixed extension
    × (bytes ≡ fixed ++ rest) × (length rest < extension))

-- A field is the frame of a piece. Any negative length is a null.
abbrev pub IsField : Cell → List ℕ → Type 0
IsField None bytes = (n : ℕ) × (2 ^ 31 ≤ n) × (n < 2 ^ 32) × (bytes ≡ to_be_bytes w32 n)
IsField (Some p) bytes = (length p < 2 ^ 31) × (bytes ≡ frame (Some p))

-- the fields of these cells, one behind the other
abbrev pub AreFields : List Cell → List ℕ → Type 0
AreFields [] bytes = bytes ≡ []
AreFields (c ∷ cs) bytes =
    (field : List ℕ) × (rest : List ℕ) × IsField c field × AreFields cs rest × (bytes ≡ field ++ rest)

-- a row: how many fields it has, and the fields
pub record IsRow (cells : List Cell) (bytes : List ℕ) : Type 0 where
  pub fields : List ℕ
  pub few : length cells < 2 ^ 15
  pub each : AreFields cells fields
  pub is : bytes ≡ to_be_bytes w16 (length cells) ++ fields

-- the beginning of a row that ends too early: within its count, or behind a count of 0 or more
abbrev pub IsCutRow : List ℕ → Type 0
IsCutRow bytes =
    (length bytes < 2) ⊎ ((count : ℕ) × (rest : List ℕ) × (count < 2 ^ 15) × (bytes ≡ to_be_bytes w16 count ++ rest)
    × ((cells : List Cell) (row behind : List ℕ) → IsRow cells row → bytes ≡ row ++ behind → ⊥))

-- the count -1 ends a stream
abbrev pub trailer : List ℕ
trailer = 255 ∷ 255 ∷ []

-- The count in front of a row, or none where -1 ends the stream.
abbrev pub IsCount : Option ℕ → List ℕ → Type 0
IsCount None bytes = bytes ≡ trailer
IsCount (Some n) bytes = (n < 2 ^ 15) × (bytes ≡ to_be_bytes w16 n)
