-- How the values of each scalar type are spelled, a line for each type. The definitions stand in the crates of the
-- codecs, over bytes alone; here they are told of values of columns.
use Rattle.std.specs.Prelude.{◌≡◌, ℕ, ℤ, pos, ◌+◌, ◌<◌, ◌≤◌, ◌^◌, Bool, List, [], length, Result, Ok, Err, FitsSigned}
use Rattle.std.specs.Int.{Width, w16, w32, w64, to_be_bytes, from_be_bytes, cast_signed}
use Rattle.std.specs.Str.{IsUtf8}
use mir.Val.{bits}
use Rattle.pgw_wire.specs.declared.kind.Break.{Break}
use Rattle.pgw_wire.specs.declared.kind.Break.TheVariants.{Size}
use Rattle.pgw_meta.specs.Shape.{Scalar, bool, char, int2, int4, int8, oid, text, bytea, uuid, money, pg_lsn, macaddr, macaddr8, inet, cidr, date, time, timestamp, timestamptz, interval, numeric}
use Rattle.pgw_scalar.specs.Sized.{BreaksSized, IsSized, read_sized}
use Rattle.pgw_scalar.specs.Whole.{signed_bytes, IsSigned, IsUnsigned}
use Rattle.pgw_scalar.specs.Leading.{IsBool, bool_bytes, IsChar, char_bytes, BreaksEmpty, IsOid, oid_bytes, BreaksShort, read_bool, read_char, read_oid}
use Rattle.pgw_scalar.specs.Bytea.{IsBytea}
use Rattle.pgw_scalar.specs.Text.{IsText, BreaksText, text_bytes, read_text}
use Rattle.pgw_scalar.specs.Networks.{Network, address_size, longest_prefix, network_bytes, IsNetwork, BreaksNetwork, read_network}
use Rattle.pgw_time.specs.Interval.{Interval, FitsInterval, IsInterval, BreaksInterval, interval_bytes, read_interval}
use Rattle.pgw_numeric.specs.Numeric.{Numeric, IsValue, IsNumeric, BreaksNumeric, numeric_bytes, numeric_size, read_numeric}
use Rattle.pgw_cell.specs.Value.{Value, truth, number, bytes, string, natural, network as network_value, interval as interval_value, numeric as numeric_value}

-- how the values of a scalar type are spelled
pub record Spelling : Type 1 where
  -- The value is one of the type.
  pub Has : Value → Type 0
  -- The piece spells the value.
  pub Spells : List ℕ → Value → Type 0
  -- The piece, which spells none, breaks in this kind.
  pub Breaks : Break → List ℕ → Type 0
  -- the one piece that a value of the type is written as
  pub canonical : Value → List ℕ
  -- how many bytes that has
  pub size : Value → ℕ
  -- what a piece is read as: one function beside `Spells` and `Breaks`, for the proofs
  pub read : List ℕ → Result Value Break

-- The piece spells a value of a column: one of the type's own values, which is told as one of a column.
abbrev pub SpellsAs : {A : Type 0} → (A → Value) → (List ℕ → A → Type 0) → List ℕ → Value → Type 0
SpellsAs {A} value Spell p v = (x : A) × Spell p x × (v ≡ value x)

-- what was read, as a value of a column
abbrev pub read_as : {A : Type 0} → (A → Value) → Result A Break → Result Value Break
read_as value (Ok x) = Ok (value x)
read_as value (Err kind) = Err kind

-- the bytes of a value of a column, by those of a type's own value
abbrev pub bytes_of_truth : (Bool → List ℕ) → Value → List ℕ
bytes_of_truth form (truth b) = form b
bytes_of_truth form _ = []

abbrev pub bytes_of_number : (ℤ → List ℕ) → Value → List ℕ
bytes_of_number form (number n) = form n
bytes_of_number form _ = []

abbrev pub bytes_of_natural : (ℕ → List ℕ) → Value → List ℕ
bytes_of_natural form (number (pos n)) = form n
bytes_of_natural form _ = []

abbrev pub bytes_of_bytes : Value → List ℕ
bytes_of_bytes (bytes b) = b
bytes_of_bytes _ = []

abbrev pub bytes_of_string : (List ℕ → List ℕ) → Value → List ℕ
bytes_of_string form (string s) = form s
bytes_of_string form _ = []

abbrev pub bytes_of_network : (Network → List ℕ) → Value → List ℕ
bytes_of_network form (network_value n) = form n
bytes_of_network form _ = []

abbrev pub bytes_of_interval : (Interval → List ℕ) → Value → List ℕ
bytes_of_interval form (interval_value x) = form x
bytes_of_interval form _ = []

abbrev pub bytes_of_numeric : (Numeric → List ℕ) → Value → List ℕ
bytes_of_numeric form (numeric_value n) = form n
bytes_of_numeric form _ = []

-- whole numbers of this width, which have so many bytes
abbrev pub signed : Width → ℕ → Spelling
signed w size = record {
  Has = λ v. (n : ℤ) × (v ≡ number n) × FitsSigned w n;
  Spells = SpellsAs number (IsSigned w);
  Breaks = BreaksSized size;
  canonical = bytes_of_number (signed_bytes w);
  size = λ v. size;
  read = λ p. read_as number (read_sized size (λ p. cast_signed w (from_be_bytes w p)) p);
}

-- those without a sign
abbrev pub unsigned : Width → ℕ → Spelling
unsigned w size = record {
  Has = λ v. (n : ℕ) × (v ≡ natural n) × (n < 2 ^ bits w);
  Spells = SpellsAs natural (IsUnsigned w);
  Breaks = BreaksSized size;
  canonical = bytes_of_natural (to_be_bytes w);
  size = λ v. size;
  read = λ p. read_as natural (read_sized size (from_be_bytes w) p);
}

-- so many bytes, whatever they are
abbrev pub sized : ℕ → Spelling
sized size = record {
  Has = λ v. (b : List ℕ) × (v ≡ bytes b) × (length b ≡ size);
  Spells = SpellsAs bytes (IsSized size);
  Breaks = BreaksSized size;
  canonical = bytes_of_bytes;
  size = λ v. size;
  read = λ p. read_as bytes (read_sized size (λ p. p) p);
}

abbrev pub bools : Spelling
bools = record {
  Has = λ v. (b : Bool) × (v ≡ truth b);
  Spells = SpellsAs truth IsBool;
  Breaks = BreaksEmpty;
  canonical = bytes_of_truth bool_bytes;
  size = λ v. 1;
  read = λ p. read_as truth (read_bool p);
}

abbrev pub chars : Spelling
chars = record {
  Has = λ v. (n : ℕ) × (v ≡ natural n) × (n < 256);
  Spells = SpellsAs natural IsChar;
  Breaks = BreaksEmpty;
  canonical = bytes_of_natural char_bytes;
  size = λ v. 1;
  read = λ p. read_as natural (read_char p);
}

abbrev pub oids : Spelling
oids = record {
  Has = λ v. (n : ℕ) × (v ≡ natural n) × (n < 2 ^ 32);
  Spells = SpellsAs natural IsOid;
  Breaks = BreaksShort;
  canonical = bytes_of_natural oid_bytes;
  size = λ v. 4;
  read = λ p. read_as natural (read_oid p);
}

abbrev pub texts : Spelling
texts = record {
  Has = λ v. (s : List ℕ) × (v ≡ string s) × IsUtf8 s;
  Spells = SpellsAs string IsText;
  Breaks = BreaksText;
  canonical = bytes_of_string text_bytes;
  size = λ v. length (bytes_of_string text_bytes v);
  read = λ p. read_as string (read_text p);
}

-- any bytes, of which none break
abbrev pub byteas : Spelling
byteas = record {
  Has = λ v. (b : List ℕ) × (v ≡ bytes b);
  Spells = SpellsAs bytes IsBytea;
  Breaks = λ kind p. ⊥;
  canonical = bytes_of_bytes;
  size = λ v. length (bytes_of_bytes v);
  read = λ p. Ok (bytes p);
}

-- The address has as many bytes as its family says, and the prefix is no longer.
pub record IsAddress (n : Network) : Type 0 where
  pub many : length n.address ≡ address_size n.six
  pub fits : n.prefix ≤ longest_prefix n.six

abbrev pub network_size : Value → ℕ
network_size (network_value n) = 4 + address_size n.six
network_size _ = 0

-- networks in fields with this byte of the type
abbrev pub networks : ℕ → Spelling
networks type_byte = record {
  Has = λ v. (n : Network) × (v ≡ network_value n) × IsAddress n;
  Spells = SpellsAs network_value (IsNetwork type_byte);
  Breaks = BreaksNetwork type_byte;
  canonical = bytes_of_network (network_bytes type_byte);
  size = network_size;
  read = λ p. read_as network_value (read_network type_byte p);
}

abbrev pub intervals : Spelling
intervals = record {
  Has = λ v. (x : Interval) × (v ≡ interval_value x) × FitsInterval x;
  Spells = SpellsAs interval_value IsInterval;
  Breaks = BreaksInterval;
  canonical = bytes_of_interval interval_bytes;
  size = λ v. 16;
  read = λ p. read_as interval_value (read_interval p);
}

abbrev pub size_of_numeric : Value → ℕ
size_of_numeric (numeric_value n) = numeric_size n
size_of_numeric _ = 0

abbrev pub numerics : Spelling
numerics = record {
  Has = λ v. (n : Numeric) × (v ≡ numeric_value n) × IsValue n;
  Spells = SpellsAs numeric_value IsNumeric;
  Breaks = BreaksNumeric;
  canonical = bytes_of_numeric numeric_bytes;
  size = size_of_numeric;
  read = λ p. read_as numeric_value (read_numeric p);
}

-- of a type that is not built yet, which `IsBuilt` leaves out
abbrev pub no_spelling : Spelling
no_spelling = record {
  Has = λ v. ⊥;
  Spells = λ p v. ⊥;
  Breaks = λ kind p. kind ≡ Size;
  canonical = λ v. [];
  size = λ v. 0;
  read = λ p. Err Size;
}

abbrev pub spelling : Scalar → Spelling
spelling bool = bools
spelling char = chars
spelling int2 = signed w16 2
spelling int4 = signed w32 4
spelling int8 = signed w64 8
spelling oid = oids
spelling text = texts
spelling bytea = byteas
spelling uuid = sized 16
spelling money = signed w64 8
spelling pg_lsn = unsigned w64 8
spelling macaddr = sized 6
spelling macaddr8 = sized 8
spelling inet = networks 0
spelling cidr = networks 1
spelling date = signed w32 4
spelling time = signed w64 8
spelling timestamp = signed w64 8
spelling timestamptz = signed w64 8
spelling interval = intervals
spelling numeric = numerics
