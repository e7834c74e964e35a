-- The type of a column that a word is the text of, and what is wrong with one that is none, as it is read.
use Rattle.std.proofs.Common.{◌≡◌, ◌≢◌, ◌+◌, ◌==◌, ℕ, List, [], ◌∷◌, ◌++◌, map, Option, None, Some, Result, Ok, Err, Bool, true, false, refl, sym, ap, ap₂, subst, ◌∙◌, arith}
use Rattle.std.proofs.lemmas.Bool.{false≢true, or_parts}
use Rattle.std.proofs.lemmas.Option.{none-some}
use Rattle.std.proofs.lemmas.List.Folds.{list_any-append}
use Rattle.std.specs.List.{AllByRecursion, AllZip, filter_map, list_any}
use Rattle.std.specs.Option.{IfSome, IfNone}
use Rattle.pgw_meta.specs.Shape.{Shape, scalar, nullable, array, range, multirange, composite, named, no_shapes, shape_then}
use Rattle.pgw_cell.specs.Built.{IsBuilt}
use Rattle.pgw_notation.specs.Tokens.{Token, question, brackets, at_sign, colon, token_bytes, tokens, joined}
use Rattle.pgw_notation.specs.Notation.{notation, key_notation, IsWritable}
use Rattle.pgw_notation.specs.Faults.{IsTextOf, IsFaultOf}
use Rattle.pgw_notation.specs.Reading.{start, read_tokens}
use Rattle.pgw_notation.specs.declared.fault.TypeFault.{TypeFault}
use Rattle.pgw_notation.specs.declared.fault.TypeFault.TheVariants.{Syntax, TooDeep, NoMemory}
use Rattle.pgw_notation.proofs.Exact.{read_is_text, fault_is_first, text_is_read, first_fault_is_read}
use Rattle.pgw_notation.proofs.FirstTokens.{joined_tokens}
use Rattle.pgcopy.specs.declared.words.WordFault.{WordFault}
use Rattle.pgcopy.specs.declared.words.WordFault.TheVariants.{NoCommand, UnknownCommand, BadNumber, Repeated, BadOid, BadType, DeepType, NoTypes, Schema, NotYet}
use Rattle.pgcopy.specs.Words.{has_record, IsColumn, IsTypeFault, type_of, as_word_fault, type_fault_of}

-- what is read of a word
abbrev read : List ℕ → Result Shape TypeFault
read word = read_tokens 0 start (tokens word)

some_is : {A : Type 0} {x y : A} → Some x ≡ Some y → x ≡ y
some_is e = cc

pub column_is : (word : List ℕ) (t : Shape) → type_of word ≡ Some t → IsColumn word t
column_is word t e = by (has_record word) refl (read word) refl
  where
    by : (b : Bool) → has_record word ≡ b → (r : Result Shape TypeFault) → read word ≡ r → IsColumn word t
    by true has r is = absurd (none-some t (rw has at e))
    by false has (Ok u) is =
        let same : Some u ≡ Some t = rw (has, is) at e in
        record { text = read_is_text word t (is ∙ ap Ok (some_is same)); copied = has }
    by false has (Err fault) is = absurd (none-some t (rw (has, is) at e))

pub column_read : (word : List ℕ) (t : Shape) → IsColumn word t → type_of word ≡ Some t
column_read word t h = rw (h.copied, text_is_read word t h.text) refl

-- what is read of a word that is no text of a type
pub unread : (word : List ℕ) (fault : TypeFault) → read word ≡ Err fault → type_of word ≡ None
unread word fault e = by (has_record word) refl
  where
    by : (b : Bool) → has_record word ≡ b → type_of word ≡ None
    by true has = rw has refl
    by false has = rw (has, e) refl

-- what is read of a text with a fault
pub fault_names_none : (word : List ℕ) (fault : TypeFault) → IsFaultOf fault word → type_of word ≡ None
fault_names_none word fault h = unread word fault (first_fault_is_read word fault h)

pub record_names_none : (word : List ℕ) → has_record word ≡ true → type_of word ≡ None
record_names_none word has = rw has refl

-- A word is the text of a column's type, or has a fault.
pub named_unless_fault : (word : List ℕ) → type_fault_of word ≡ None → (t : Shape) × (type_of word ≡ Some t)
named_unless_fault word e = by (read word) refl (has_record word) refl
  where
    by : (r : Result Shape TypeFault) → read word ≡ r → (b : Bool) → has_record word ≡ b → (t : Shape) × (type_of word ≡ Some t)
    by (Ok t) is true has = absurd (none-some NotYet (sym (rw (is, has) at e)))
    by (Ok t) is false has = (t, rw (has, is) refl)
    by (Err fault) is b has = absurd (none-some (as_word_fault fault) (sym (rw is at e)))

pub no_fault_where_named : (word : List ℕ) (t : Shape) → type_of word ≡ Some t → type_fault_of word ≡ None
no_fault_where_named word t e =
    let is = column_is word t e in
    rw (text_is_read word t is.text, is.copied) refl

pub type_fault_is : (word : List ℕ) (fault : WordFault) → type_fault_of word ≡ Some fault → IsTypeFault word fault
type_fault_is word fault e = by (read word) refl (has_record word) refl
  where
    by : (r : Result Shape TypeFault) → read word ≡ r → (b : Bool) → has_record word ≡ b → IsTypeFault word fault
    by (Ok t) is true has =
        let same : NotYet ≡ fault = some_is (rw (is, has) at e) in
        rw (sym same) ((t, read_is_text word t is), has)
    by (Ok t) is false has = absurd (none-some fault (rw (is, has) at e))
    by (Err (Syntax place)) is b has =
        let same : BadType place ≡ fault = some_is (rw is at e) in
        rw (sym same) (fault_is_first word (Syntax place) is)
    by (Err (TooDeep place)) is b has =
        let same : DeepType place ≡ fault = some_is (rw is at e) in
        rw (sym same) (fault_is_first word (TooDeep place) is)
    by (Err NoMemory) is b has = absurd (fault_is_first word NoMemory is)

pub type_fault_read : (word : List ℕ) (fault : WordFault) → IsTypeFault word fault → type_fault_of word ≡ Some fault
type_fault_read word (BadType place) h = rw (first_fault_is_read word (Syntax place) h) refl
type_fault_read word (DeepType place) h = rw (first_fault_is_read word (TooDeep place) h) refl
type_fault_read word NotYet h = rw (text_is_read word h.0.0 h.0.1, h.1) refl
type_fault_read word NoCommand h = absurd h
type_fault_read word UnknownCommand h = absurd h
type_fault_read word BadNumber h = absurd h
type_fault_read word Repeated h = absurd h
type_fault_read word BadOid h = absurd h
type_fault_read word NoTypes h = absurd h
type_fault_read word (Schema number) h = absurd h

-- What a check of a word, which takes no memory, answers.
pub text_fault : (word : List ℕ) (fault : TypeFault) (r : Option TypeFault) → r ≡ Some fault → IfSome r (λ fault. IsFaultOf fault word) → IsFaultOf fault word
text_fault word fault r is h = subst (λ (q : Option TypeFault). IfSome q (λ fault. IsFaultOf fault word)) is h

pub no_want_of_memory : (word : List ℕ) (fault : TypeFault) → IsFaultOf fault word → fault ≢ NoMemory
no_want_of_memory word fault h is = subst (λ (f : TypeFault). IsFaultOf f word) is h

pub fault_told : (word : List ℕ) (fault : TypeFault) → IsFaultOf fault word → Some (as_word_fault fault) ≡ type_fault_of word
fault_told word (Syntax place) h = sym (type_fault_read word (BadType place) h)
fault_told word (TooDeep place) h = sym (type_fault_read word (DeepType place) h)
fault_told word NoMemory h = absurd h

pub record_told : (word : List ℕ) (r : Option TypeFault) → r ≡ None → IfNone r ((t : Shape) × IsTextOf t word) → has_record word ≡ true → Some NotYet ≡ type_fault_of word
record_told word r is h has =
    sym (type_fault_read word NotYet (subst (λ (q : Option TypeFault). IfNone q ((t : Shape) × IsTextOf t word)) is h, has))

pub nothing_told : (word : List ℕ) (r : Option TypeFault) → r ≡ None → IfNone r ((t : Shape) × IsTextOf t word) → has_record word ≡ false → None ≡ type_fault_of word
nothing_told word r is h has =
    let text = subst (λ (q : Option TypeFault). IfNone q ((t : Shape) × IsTextOf t word)) is h in
    sym (no_fault_where_named word text.0 (column_read word text.0 (record { text = text.1; copied = has })))

-- Rows of a type are copied whose text has no record.
abbrev is_opening_byte : ℕ → Bool
is_opening_byte byte = byte == 40

abbrev has_opening : List Token → Bool
has_opening ts = has_record (joined ts)

opening_in_front : (us ts : List Token) → has_opening (us ++ ts) ≡ false → has_opening us ≡ false
opening_in_front [] ts h = refl
opening_in_front (u ∷ us) ts h =
    let parts = or_parts (list_any is_opening_byte (token_bytes u)) (has_opening (us ++ ts)) (sym (list_any-append is_opening_byte (token_bytes u) (joined (us ++ ts))) ∙ h) in
    list_any-append is_opening_byte (token_bytes u) (joined us) ∙ rw (parts.0, opening_in_front us ts parts.1) refl

opening_behind : (us ts : List Token) → has_opening (us ++ ts) ≡ false → has_opening ts ≡ false
opening_behind [] ts h = h
opening_behind (u ∷ us) ts h =
    let parts = or_parts (list_any is_opening_byte (token_bytes u)) (has_opening (us ++ ts)) (sym (list_any-append is_opening_byte (token_bytes u) (joined (us ++ ts))) ∙ h) in
    opening_behind us ts parts.1

built_without_record : (t : Shape) → IsWritable t → has_opening (notation t) ≡ false → IsBuilt t
built_without_record (scalar s) w h = tt
built_without_record (nullable t) w h = built_without_record t w (opening_in_front (notation t) (question ∷ []) h)
built_without_record (array t) w h = built_without_record t w (opening_in_front (notation t) (brackets ∷ []) h)
built_without_record (range t) w h = w
built_without_record (multirange t) w h = w
built_without_record (composite no_shapes) w h = absurd (omega (arith, w.0))
built_without_record (composite (shape_then t ts)) w h = absurd (false≢true (sym h))
built_without_record (named key t) w h =
    built_without_record t w.2 (opening_behind (colon ∷ []) (notation t) (opening_behind (at_sign ∷ key_notation key) (colon ∷ notation t) h))

pub column_built : (word : List ℕ) (t : Shape) → IsColumn word t → IsBuilt t
column_built word t h =
    built_without_record t h.text.writable (ap has_opening h.text.is ∙ ap has_record (joined_tokens word) ∙ h.copied)

pub all_built : (words : List (List ℕ)) → AllByRecursion IsBuilt (filter_map type_of words)
all_built [] = tt
all_built (word ∷ words) = by (type_of word) refl (all_built words)
  where
    by : (r : Option Shape) → type_of word ≡ r → AllByRecursion IsBuilt (filter_map type_of words) → AllByRecursion IsBuilt (filter_map type_of (word ∷ words))
    by None is more = rw is more
    by (Some t) is more = rw is (column_built word t (column_is word t is), more)

-- The columns of words, by what each is the text of.
pub columns_read : (types : List (List ℕ)) (columns : List Shape) → AllZip IsColumn types columns → map type_of types ≡ map Some columns
columns_read [] [] h = refl
columns_read [] (t ∷ columns) h = absurd h
columns_read (word ∷ types) [] h = absurd h
columns_read (word ∷ types) (t ∷ columns) h =
    ap₂ (λ x xs. x ∷ xs) (column_read word t h.0) (columns_read types columns h.1)

pub columns_are : (types : List (List ℕ)) (columns : List Shape) → map type_of types ≡ map Some columns → AllZip IsColumn types columns
columns_are [] [] e = tt
columns_are [] (t ∷ columns) e = cc
columns_are (word ∷ types) [] e = cc
columns_are (word ∷ types) (t ∷ columns) e =
    let first : type_of word ≡ Some t = cc in
    let rest : map type_of types ≡ map Some columns = cc in
    (column_is word t first, columns_are types columns rest)

-- What reading a word answers.
pub column_told : (word : List ℕ) (t : Shape) → has_record word ≡ false → IsTextOf t word → Some t ≡ type_of word
column_told word t has is = sym (column_read word t (record { text = is; copied = has }))

pub none_told : (word : List ℕ) (fault : TypeFault) → IsFaultOf fault word → None ≡ type_of word
none_told word fault is = sym (fault_names_none word fault is)
