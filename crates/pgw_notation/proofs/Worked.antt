-- What the definitions say of texts that are written out.
use Rattle.std.proofs.Common.{◌≡◌, [], ◌∷◌, ◌++◌, codes, replicate, Some, None, refl}
use Rattle.pgw_meta.specs.Shape.{Shape, scalar, int4, int8, text, timestamptz, nullable, array, range, multirange, composite, named, no_shapes, shape_then}
use Rattle.pgw_notation.specs.Tokens.{word, question, brackets, opening, closing, comma, at_sign, point, colon, other, tokens}
use Rattle.pgw_notation.specs.Faults.{IsTextOf, IsFaultOf}
use Rattle.pgw_notation.specs.declared.fault.TypeFault.TheVariants.{Syntax, TooDeep}
use Rattle.pgw_notation.proofs.Exact.{read_is_text, fault_is_first}

abbrev number : Shape
number = scalar int4

abbrev record_of : Shape → Shape
record_of t = composite (shape_then t no_shapes)

-- A text falls into its tokens, the longest runs, whatever it says.
pub words : tokens (codes "a_9 " ++ 195 ∷ 169 ∷ codes "[[]]") ≡ word (codes "a_9") ∷ other 32 ∷ other 195 ∷ other 169 ∷ other 91 ∷ brackets ∷ other 93 ∷ []
words = refl

pub marks : tokens (codes "@s.n:(,)?") ≡ at_sign ∷ word (codes "s") ∷ point ∷ word (codes "n") ∷ colon ∷ opening ∷ comma ∷ closing ∷ question ∷ []
marks = refl

-- texts of types
pub scalar_text : IsTextOf number (codes "int4")
scalar_text = read_is_text (codes "int4") number refl

pub array_text : IsTextOf (nullable (array (nullable number))) (codes "int4?[]?")
array_text = read_is_text (codes "int4?[]?") (nullable (array (nullable number))) refl

pub nested_text : IsTextOf (array (array (nullable (nullable number)))) (codes "int4??[][]")
nested_text = read_is_text (codes "int4??[][]") (array (array (nullable (nullable number)))) refl

pub ranges_text : IsTextOf (composite (shape_then (range (scalar int8)) (shape_then (array (multirange (scalar timestamptz))) no_shapes))) (codes "(int8range,tstzmultirange[])")
ranges_text = read_is_text (codes "(int8range,tstzmultirange[])") (composite (shape_then (range (scalar int8)) (shape_then (array (multirange (scalar timestamptz))) no_shapes))) refl

pub named_text : IsTextOf (array (named (record { schema = None; name = codes "citext" }) (scalar text))) (codes "@citext:text[]")
named_text = read_is_text (codes "@citext:text[]") (array (named (record { schema = None; name = codes "citext" }) (scalar text))) refl

-- Names of keys may be names of types, or digits alone.
pub schema_text : IsTextOf (named (record { schema = Some (codes "int4"); name = codes "7" }) (record_of (nullable number))) (codes "@int4.7:(int4?)")
schema_text = read_is_text (codes "@int4.7:(int4?)") (named (record { schema = Some (codes "int4"); name = codes "7" }) (record_of (nullable number))) refl

pub longest_name : IsTextOf (named (record { schema = None; name = replicate 63 97 }) (scalar text)) (codes "@" ++ replicate 63 97 ++ codes ":text")
longest_name = read_is_text (codes "@" ++ replicate 63 97 ++ codes ":text") (named (record { schema = None; name = replicate 63 97 }) (scalar text)) refl

-- texts that end too early
pub nothing : IsFaultOf (Syntax 0) []
nothing = fault_is_first [] (Syntax 0) refl

pub open_record : IsFaultOf (Syntax 5) (codes "(int4")
open_record = fault_is_first (codes "(int4") (Syntax 5) refl

pub key_alone : IsFaultOf (Syntax 8) (codes "@citext:")
key_alone = fault_is_first (codes "@citext:") (Syntax 8) refl

-- tokens that cannot follow
pub no_type : IsFaultOf (Syntax 0) (codes "int9")
no_type = fault_is_first (codes "int9") (Syntax 0) refl

pub part_of_a_name : IsFaultOf (Syntax 1) (codes "(int,int4)")
part_of_a_name = fault_is_first (codes "(int,int4)") (Syntax 1) refl

pub long_name : IsFaultOf (Syntax 1) (codes "@" ++ replicate 64 97 ++ codes ":text")
long_name = fault_is_first (codes "@" ++ replicate 64 97 ++ codes ":text") (Syntax 1) refl

pub another_part : IsFaultOf (Syntax 3) (codes "@t:int4")
another_part = fault_is_first (codes "@t:int4") (Syntax 3) refl

pub empty_record : IsFaultOf (Syntax 1) (codes "()")
empty_record = fault_is_first (codes "()") (Syntax 1) refl

pub half_brackets : IsFaultOf (Syntax 4) (codes "int4[")
half_brackets = fault_is_first (codes "int4[") (Syntax 4) refl

pub space : IsFaultOf (Syntax 6) (codes "(int4, int4)")
space = fault_is_first (codes "(int4, int4)") (Syntax 6) refl

pub behind_a_character : IsFaultOf (Syntax 4) (codes "int4" ++ 195 ∷ 169 ∷ codes "?")
behind_a_character = fault_is_first (codes "int4" ++ 195 ∷ 169 ∷ codes "?") (Syntax 4) refl

pub never_opened : IsFaultOf (Syntax 4) (codes "int4)")
never_opened = fault_is_first (codes "int4)") (Syntax 4) refl

-- types that are too deep
pub deep_records : IsFaultOf (TooDeep 31) (replicate 32 40)
deep_records = fault_is_first (replicate 32 40) (TooDeep 31) refl

-- A `(` that cannot follow is not too deep.
pub bad_before_deep : IsFaultOf (Syntax 35) (replicate 31 40 ++ codes "int4((")
bad_before_deep = fault_is_first (replicate 31 40 ++ codes "int4((") (Syntax 35) refl

-- A `(` behind a key is one that is open.
pub deep_key : IsFaultOf (TooDeep 34) (replicate 30 40 ++ codes "@t:((")
deep_key = fault_is_first (replicate 30 40 ++ codes "@t:((") (TooDeep 34) refl

pub many_suffixes : IsFaultOf (TooDeep 35) (codes "int4" ++ replicate 32 63)
many_suffixes = fault_is_first (codes "int4" ++ replicate 32 63) (TooDeep 35) refl

-- Behind a record, suffixes count anew.
pub suffixes_anew : IsFaultOf (Syntax 68) (codes "(int4" ++ replicate 31 63 ++ codes ")" ++ replicate 31 63 ++ codes ",")
suffixes_anew = fault_is_first (codes "(int4" ++ replicate 31 63 ++ codes ")" ++ replicate 31 63 ++ codes ",") (Syntax 68) refl
