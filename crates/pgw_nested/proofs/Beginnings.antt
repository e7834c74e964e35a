-- How arrays begin.
use Rattle.std.proofs.Common.{◌≡◌, ◌≢◌, ℕ, ◌+◌, ◌^◌, ◌<◌, ◌≤◌, Bool, true, false, cond, ltb, eqb, List, [], ◌++◌, length, drop, Result, Ok, Err, refl, sym, ap, subst, ◌∙◌, arith, lit<}
use Rattle.std.specs.Int.{w32, to_be_bytes, cast_signed}
use Rattle.std.proofs.lemmas.Bool.{ltb-true, ltb-false, le-ltb, lt-ltb, eqb-true, eqb-false, ne_eqb}
use Rattle.std.proofs.lemmas.List.{length-append, drop_at, length-drop, drop-drop}
use Rattle.pgw_wire.specs.declared.sql_error.SqlError.{SqlError}
use Rattle.pgw_wire.specs.declared.sql_error.SqlError.TheVariants.{ShortBuffer, Dimensions}
use Rattle.pgw_nested.specs.Array.{array_head, HasNoDimension, HasOneDimension, Elements, no_elements, elements_behind, BeginsArray, no_dimension, one_dimension, BeginsNoArray, too_short, too_short_for_one, many_dimensions}
use Rattle.pgw_nested.specs.Reading.{word_in, elements_at}
use Rattle.pgw_nested.proofs.Exact.{ok_is, err_is}
use Rattle.pgw_nested.proofs.Cutting.{IsBytes, word_in_again, split_word, bytes_dropped}

pub head_is : (flags oid count bound : ℕ) (behind : List ℕ) → array_head flags oid count bound ++ behind ≡ to_be_bytes w32 1 ++ (to_be_bytes w32 flags ++ (to_be_bytes w32 oid ++ (to_be_bytes w32 count ++ (to_be_bytes w32 bound ++ behind))))
unfolding array_head
head_is flags oid count bound behind = refl

pub head_length : (flags oid count bound : ℕ) → length (array_head flags oid count bound) ≡ 20
unfolding array_head
head_length flags oid count bound = refl

-- what the words of one dimension say
pub record SaysOne (bytes : List ℕ) (flags count : ℕ) (behind : List ℕ) : Type 0 where
  pub long : 20 ≤ length bytes
  pub dimensions : word_in bytes 0 ≡ 1
  pub flags_are : word_in bytes 4 ≡ flags
  pub count_is : word_in bytes 12 ≡ count
  pub behind_is : drop 20 bytes ≡ behind

pub says_one : (bytes : List ℕ) (flags count : ℕ) (behind : List ℕ) → HasOneDimension bytes flags count behind → SaysOne bytes flags count behind
says_one bytes flags count behind d =
    let split = d.is ∙ head_is flags d.oid count d.bound behind in
    let tail : List ℕ = to_be_bytes w32 d.oid ++ (to_be_bytes w32 count ++ (to_be_bytes w32 d.bound ++ behind)) in
    record {
      long = omega (arith, ap length d.is, length-append (array_head flags d.oid count d.bound) behind, head_length flags d.oid count d.bound);
      dimensions = ap (λ (x : List ℕ). word_in x 0) split ∙ word_in_again [] 0 1 (to_be_bytes w32 flags ++ tail) refl (omega arith);
      flags_are = ap (λ (x : List ℕ). word_in x 4) split ∙ word_in_again (to_be_bytes w32 1) 4 flags tail refl d.flags_fit;
      count_is = ap (λ (x : List ℕ). word_in x 12) split ∙ word_in_again (to_be_bytes w32 1 ++ (to_be_bytes w32 flags ++ to_be_bytes w32 d.oid)) 12 count (to_be_bytes w32 d.bound ++ behind) refl d.count_fits;
      behind_is = ap (λ (x : List ℕ). drop 20 x) d.is ∙ drop_at (array_head flags d.oid count d.bound) behind 20 (head_length flags d.oid count d.bound);
    }

pub record SaysNone (bytes : List ℕ) : Type 0 where
  pub long : 12 ≤ length bytes
  pub dimensions : word_in bytes 0 ≡ 0

pub says_none : (bytes : List ℕ) → HasNoDimension bytes → SaysNone bytes
says_none bytes d =
    let tail : List ℕ = to_be_bytes w32 d.flags ++ (to_be_bytes w32 d.oid ++ d.rest) in
    record {
      long = omega (arith, ap length d.is, length-append (to_be_bytes w32 0) tail, length-append (to_be_bytes w32 d.flags) (to_be_bytes w32 d.oid ++ d.rest), length-append (to_be_bytes w32 d.oid) d.rest);
      dimensions = ap (λ (x : List ℕ). word_in x 0) d.is ∙ word_in_again [] 0 0 tail refl (omega arith);
    }

pub first_word : (bytes : List ℕ) (n : ℕ) (rest : List ℕ) → bytes ≡ to_be_bytes w32 n ++ rest → n < 2 ^ 32 → word_in bytes 0 ≡ n
first_word bytes n rest is fits = ap (λ (x : List ℕ). word_in x 0) is ∙ word_in_again [] 0 n rest refl fits

pub begins_again : (bytes : List ℕ) (elements : Elements) → BeginsArray bytes elements → elements_at bytes ≡ Ok elements
unfolding elements_at
begins_again bytes elements (no_dimension d is) =
    let s = says_none bytes d in
    rw (le-ltb (length bytes) 12 s.long, s.dimensions) (ap Ok (sym is))
begins_again bytes elements (one_dimension flags count behind d is) =
    let s = says_one bytes flags count behind d in
    let long : 20 ≤ length bytes = s.long in
    let a : ltb (length bytes) 12 ≡ false = le-ltb _ _ (omega arith) in
    rw (a, s.dimensions, le-ltb (length bytes) 20 long, s.flags_are, s.count_is, s.behind_is) (ap Ok (sym is))

pub begins_no_again : (bytes : List ℕ) (error : SqlError) → BeginsNoArray bytes error → elements_at bytes ≡ Err error
unfolding elements_at
begins_no_again bytes error (too_short few e) = rw (lt-ltb _ _ few) (ap Err (sym e))
begins_no_again bytes error (too_short_for_one n rest is fits some few e) =
    rw (first_word bytes n rest is fits, ne_eqb n 0 some, lt-ltb (length bytes) 20 few) (either (ltb (length bytes) 12) ∙ ap Err (sym e))
  where
    either : (b : Bool) → (let r : Result Elements SqlError = Err ShortBuffer in cond b r r ≡ r)
    either true = refl
    either false = refl
begins_no_again bytes error (many_dimensions n rest is fits some other long e) =
    let a : ltb (length bytes) 12 ≡ false = le-ltb _ _ (omega arith) in
    rw (a, first_word bytes n rest is fits, ne_eqb n 0 some, le-ltb (length bytes) 20 long, ne_eqb n 1 other) (ap Err (sym e))

-- ---- back

-- the first word, and what stands behind it
split_at : (bytes : List ℕ) (place : ℕ) → place + 4 ≤ length bytes → IsBytes bytes → (drop place bytes ≡ to_be_bytes w32 (word_in bytes place) ++ drop (place + 4) bytes) × (word_in bytes place < 2 ^ 32)
split_at bytes place long fits =
    let s = split_word (drop place bytes) (omega (arith, length-drop place bytes)) (bytes_dropped place bytes fits) in
    (s.0 ∙ ap (λ (x : List ℕ). to_be_bytes w32 (word_in bytes place) ++ x) (drop-drop 4 place bytes), s.1)

pub one_is : (bytes : List ℕ) → 20 ≤ length bytes → IsBytes bytes → word_in bytes 0 ≡ 1 → HasOneDimension bytes (word_in bytes 4) (word_in bytes 12) (drop 20 bytes)
one_is bytes long fits one =
    let a = split_at bytes 0 (omega arith) fits in
    let b = split_at bytes 4 (omega arith) fits in
    let c = split_at bytes 8 (omega arith) fits in
    let d = split_at bytes 12 (omega arith) fits in
    let e = split_at bytes 16 (omega arith) fits in
    let word : ℕ → List ℕ = λ place. to_be_bytes w32 (word_in bytes place) in
    record {
      oid = word_in bytes 8;
      bound = word_in bytes 16;
      flags_fit = b.1;
      count_fits = d.1;
      is = a.0 ∙ ap (λ (x : List ℕ). word 0 ++ x) (b.0 ∙ ap (λ (x : List ℕ). word 4 ++ x) (c.0 ∙ ap (λ (x : List ℕ). word 8 ++ x) (d.0 ∙ ap (λ (x : List ℕ). word 12 ++ x) e.0)))
          ∙ ap (λ (n : ℕ). to_be_bytes w32 n ++ (word 4 ++ (word 8 ++ (word 12 ++ (word 16 ++ drop 20 bytes))))) one
          ∙ sym (head_is (word_in bytes 4) (word_in bytes 8) (word_in bytes 12) (word_in bytes 16) (drop 20 bytes));
    }

pub none_is : (bytes : List ℕ) → 12 ≤ length bytes → IsBytes bytes → word_in bytes 0 ≡ 0 → HasNoDimension bytes
none_is bytes long fits none =
    let a = split_at bytes 0 (omega arith) fits in
    let b = split_at bytes 4 (omega arith) fits in
    let c = split_at bytes 8 (omega arith) fits in
    let word : ℕ → List ℕ = λ place. to_be_bytes w32 (word_in bytes place) in
    record {
      flags = word_in bytes 4;
      oid = word_in bytes 8;
      rest = drop 12 bytes;
      is = a.0 ∙ ap (λ (x : List ℕ). word 0 ++ x) (b.0 ∙ ap (λ (x : List ℕ). word 4 ++ x) c.0)
          ∙ ap (λ (n : ℕ). to_be_bytes w32 n ++ (word 4 ++ (word 8 ++ drop 12 bytes))) none;
    }

abbrev Begun : Type 0
Begun = Result Elements SqlError

abbrev one_or_many : Bool → List ℕ → Begun
one_or_many b bytes = cond {A = Begun} b (Ok (elements_behind (word_in bytes 4) (word_in bytes 12) (drop 20 bytes))) (Err (Dimensions (cast_signed w32 (word_in bytes 0))))

abbrev long_or_short : Bool → List ℕ → Begun
long_or_short b bytes = cond {A = Begun} b (Err ShortBuffer) (one_or_many (eqb (word_in bytes 0) 1) bytes)

abbrev some_or_none : Bool → List ℕ → Begun
some_or_none b bytes = cond {A = Begun} b (Ok no_elements) (long_or_short (ltb (length bytes) 20) bytes)

abbrev whole_or_short : Bool → List ℕ → Begun
whole_or_short b bytes = cond {A = Begun} b (Err ShortBuffer) (some_or_none (eqb (word_in bytes 0) 0) bytes)

pub begins_is : (bytes : List ℕ) (elements : Elements) → IsBytes bytes → elements_at bytes ≡ Ok elements → BeginsArray bytes elements
unfolding elements_at
begins_is bytes elements fits e = short (ltb (length bytes) 12) refl e
  where
    one : (b : Bool) → eqb (word_in bytes 0) 1 ≡ b → 20 ≤ length bytes → one_or_many b bytes ≡ Ok elements → BeginsArray bytes elements
    one true is long h = one_dimension (word_in bytes 4) (word_in bytes 12) (drop 20 bytes) (one_is bytes long fits (eqb-true _ _ is)) (sym (ok_is {E = SqlError} _ elements h))
    one false is long h = absurd cc

    shorter : (b : Bool) → ltb (length bytes) 20 ≡ b → long_or_short b bytes ≡ Ok elements → BeginsArray bytes elements
    shorter true is h = absurd cc
    shorter false is h = one (eqb (word_in bytes 0) 1) refl (ltb-false _ _ is) h

    none : (b : Bool) → eqb (word_in bytes 0) 0 ≡ b → 12 ≤ length bytes → some_or_none b bytes ≡ Ok elements → BeginsArray bytes elements
    none true is long h = no_dimension (none_is bytes long fits (eqb-true _ _ is)) (sym (ok_is {E = SqlError} no_elements elements h))
    none false is long h = shorter (ltb (length bytes) 20) refl h

    short : (b : Bool) → ltb (length bytes) 12 ≡ b → whole_or_short b bytes ≡ Ok elements → BeginsArray bytes elements
    short true is h = absurd cc
    short false is h = none (eqb (word_in bytes 0) 0) refl (ltb-false _ _ is) h

pub begins_no_is : (bytes : List ℕ) (error : SqlError) → IsBytes bytes → elements_at bytes ≡ Err error → BeginsNoArray bytes error
unfolding elements_at
begins_no_is bytes error fits e = short (ltb (length bytes) 12) refl e
  where
    split : 12 ≤ length bytes → (bytes ≡ to_be_bytes w32 (word_in bytes 0) ++ drop 4 bytes) × (word_in bytes 0 < 2 ^ 32)
    split long = split_word bytes (omega arith) fits

    one : (b : Bool) → eqb (word_in bytes 0) 1 ≡ b → 20 ≤ length bytes → word_in bytes 0 ≢ 0 → one_or_many b bytes ≡ Err error → BeginsNoArray bytes error
    one true is long some h = absurd cc
    one false is long some h =
        let s = split (omega arith) in
        many_dimensions (word_in bytes 0) (drop 4 bytes) s.0 s.1 some (eqb-false _ _ is) long (sym (err_is {A = Elements} _ error h))

    shorter : (b : Bool) → ltb (length bytes) 20 ≡ b → 12 ≤ length bytes → word_in bytes 0 ≢ 0 → long_or_short b bytes ≡ Err error → BeginsNoArray bytes error
    shorter true is long some h = let s = split long in too_short_for_one (word_in bytes 0) (drop 4 bytes) s.0 s.1 some (ltb-true _ _ is) (sym (err_is {A = Elements} _ error h))
    shorter false is long some h = one (eqb (word_in bytes 0) 1) refl (ltb-false _ _ is) some h

    none : (b : Bool) → eqb (word_in bytes 0) 0 ≡ b → 12 ≤ length bytes → some_or_none b bytes ≡ Err error → BeginsNoArray bytes error
    none true is long h = absurd cc
    none false is long h = shorter (ltb (length bytes) 20) refl long (eqb-false _ _ is) h

    short : (b : Bool) → ltb (length bytes) 12 ≡ b → whole_or_short b bytes ≡ Err error → BeginsNoArray bytes error
    short true is h = too_short (ltb-true _ _ is) (sym (err_is {A = Elements} _ error h))
    short false is h = none (eqb (word_in bytes 0) 0) refl (ltb-false _ _ is) h

-- Bytes begin as one array at most, and not as one and as none.
pub one_beginning : (bytes : List ℕ) (a b : Elements) → BeginsArray bytes a → BeginsArray bytes b → a ≡ b
one_beginning bytes a b f g = ok_is {E = SqlError} a b (sym (begins_again bytes a f) ∙ begins_again bytes b g)

-- What stands behind the beginning of bytes are bytes.
pub rest_bytes : (bytes : List ℕ) (e : Elements) → IsBytes bytes → BeginsArray bytes e → IsBytes e.rest
rest_bytes bytes e fits (no_dimension d is) = subst (λ (x : Elements). IsBytes x.rest) (sym is) (λ i. lit< tt)
rest_bytes bytes e fits (one_dimension flags count behind d is) =
    let s = says_one bytes flags count behind d in
    subst (λ (x : Elements). IsBytes x.rest) (sym is) (subst (λ (x : List ℕ). IsBytes x) s.behind_is (bytes_dropped 20 bytes fits))
