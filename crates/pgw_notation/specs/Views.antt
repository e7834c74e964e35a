-- What the program keeps of a text that it reads.
use Rattle.std.specs.Prelude.{List, map, reverse, option_map, Some}
use Rattle.pgw_meta.specs.Keys.{owned_key}
use Rattle.pgw_meta.specs.Shape.{Shape, range, multirange}
use Rattle.pgw_meta.specs.Types.{shape, shapes, types_of}
use Rattle.pgw_notation.specs.Tokens.{Token, word, question, brackets, opening, closing, comma, at_sign, point, colon, other}
use Rattle.pgw_notation.specs.Reading.{Frame, Mode, no_type, behind_at, behind_name, behind_point, behind_key, behind_colon, behind_type, State}
use Rattle.pgw_notation.specs.Checking.{Outline, at_start, after_at, after_name, after_point, after_key, after_colon, after_type, Sketch}
use Rattle.pgw_notation.specs.declared.checking.Behind.{Behind}
use Rattle.pgw_notation.specs.declared.checking.Behind.TheVariants.{Nothing, AtSign, FirstName, SchemaPoint, WholeKey, KeyColon, Suffixes}
use Rattle.pgw_notation.specs.declared.checking.Progress.{Progress}
use Rattle.pgw_notation.specs.declared.tokens.Token.{Token as Kept}
use Rattle.pgw_notation.specs.declared.tokens.Token.TheVariants.{Word, Question, Brackets, Opening, Closing, Comma, At, Point, Colon, Other}
use Rattle.pgw_notation.specs.declared.names.RangeName.{RangeName}
use Rattle.pgw_notation.specs.declared.names.RangeName.TheVariants.{Range, Multirange}
use Rattle.pgw_notation.specs.declared.reading.Open.{Open}
use Rattle.pgw_notation.specs.declared.reading.Front.{Front}
use Rattle.pgw_notation.specs.declared.reading.Front.TheVariants.{Start, BehindAt, BehindName, BehindPoint, BehindKey, BehindColon, BehindType}

abbrev pub token_of : Kept → Token
token_of (Word name) = word name.now
token_of Question = question
token_of Brackets = brackets
token_of Opening = opening
token_of Closing = closing
token_of Comma = comma
token_of At = at_sign
token_of Point = point
token_of Colon = colon
token_of (Other byte) = other byte

abbrev pub frame_of : Open → Frame
frame_of record_ = record { key = option_map owned_key record_.key; parts = shapes (types_of record_.parts) }

-- the type that a name of ranges or multiranges stands for
abbrev pub range_shape : RangeName → Shape
range_shape (Range bound) = range (shape bound)
range_shape (Multirange bound) = multirange (shape bound)

-- the innermost first
abbrev pub frames_of : List Open → List Frame
frames_of records = reverse (map frame_of records)

abbrev pub mode_of : Front → Mode
mode_of Start = no_type
mode_of BehindAt = behind_at
mode_of (BehindName name) = behind_name name.now
mode_of (BehindPoint schema) = behind_point schema.now
mode_of (BehindKey schema name) = behind_key (record { schema = Some schema.now; name = name.now })
mode_of (BehindColon key) = behind_colon (owned_key key)
mode_of (BehindType t suffixes) = behind_type suffixes (shape t)

abbrev pub state_of : List Open → Front → State
state_of records front = record { open_ones = frames_of records; mode = mode_of front }

abbrev pub outline_of : Behind → Outline
outline_of Nothing = at_start
outline_of AtSign = after_at
outline_of FirstName = after_name
outline_of SchemaPoint = after_point
outline_of WholeKey = after_key
outline_of KeyColon = after_colon
outline_of (Suffixes n) = after_type n

abbrev pub sketch : Progress → Sketch
sketch progress = record { depth = progress.depth; outline = outline_of progress.behind }
