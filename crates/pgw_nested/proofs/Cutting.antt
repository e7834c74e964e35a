-- The frame of a cell, cut from the front of bytes.
use Rattle.std.proofs.Common.{◌≡◌, ◌≢◌, inl, inr, ℕ, ◌+◌, ◌^◌, ◌<◌, ◌≤◌, Bool, true, false, ◌&&◌, cond, ltb, eqb, List, ◌++◌, length, get_or, take, drop, Option, Some, None, Result, Ok, Err, refl, sym, ap, subst, ◌∙◌, append_assoc, arith}
use Rattle.std.specs.Int.{w32, from_be_bytes, to_be_bytes, cast_signed}
use Rattle.std.proofs.lemmas.Bool.{cases_lt, ltb-true, ltb-false, le-ltb, lt-ltb, eqb-true, eqb-false, ne_eqb}
use Rattle.std.proofs.lemmas.Nat.{from_be_bytes-to_be_bytes_4, be_bytes_4}
use Rattle.std.proofs.lemmas.List.{length-append, take_at, drop_at, take-append-drop, length-take, get_or-drop, get_or-take, get_or_past}
use Rattle.pgw_wire.specs.Cell.{Cell, frame}
use Rattle.pgw_wire.specs.declared.sql_error.SqlError.{SqlError}
use Rattle.pgw_wire.specs.declared.sql_error.SqlError.TheVariants.{NegativeSize, ElementBytes}
use Rattle.pgw_nested.specs.Frames.{IsFramed, HasNoFrame, no_length, negative_length, past_the_end}
use Rattle.pgw_nested.specs.Reading.{word_at, word_in, piece_at, behind_length, cell_at}
use Rattle.pgw_nested.proofs.Exact.{ok_is, err_is}

abbrev pub IsBytes : List ℕ → Type 0
IsBytes bytes = (i : ℕ) → get_or bytes i 0 < 256

abbrev pub IsBytesCell : Cell → Type 0
IsBytesCell None = Unit {0}
IsBytesCell (Some p) = IsBytes p

pub bytes_dropped : (n : ℕ) (bytes : List ℕ) → IsBytes bytes → IsBytes (drop n bytes)
bytes_dropped n bytes h i = rw get_or-drop (h (n + i))

pub bytes_taken : (n : ℕ) (bytes : List ℕ) → IsBytes bytes → IsBytes (take n bytes)
bytes_taken n bytes h i =
    elim (cases_lt i n) [
      | inl lt ↦ rw (get_or-take n bytes i 0 lt) (h i)
      | inr le ↦ rw (get_or_past (take n bytes) i 0 (omega (arith, length-take n bytes))) (omega arith)
    ]

-- ---- a number in front

pub word_again : (n : ℕ) (rest : List ℕ) → n < 2 ^ 32 → word_at (to_be_bytes w32 n ++ rest) ≡ Some (n, rest)
word_again n rest fits =
    let long : ltb (length (to_be_bytes w32 n ++ rest)) 4 ≡ false = le-ltb _ _ (omega (arith, length-append (to_be_bytes w32 n) rest)) in
    rw long (ap (λ (m : ℕ). Some (m, rest)) (from_be_bytes-to_be_bytes_4 n fits))

-- behind as many bytes
pub word_in_again : (front : List ℕ) (place n : ℕ) (rest : List ℕ) → length front ≡ place → n < 2 ^ 32 → word_in (front ++ (to_be_bytes w32 n ++ rest)) place ≡ n
word_in_again front place n rest long fits =
    ap (λ (x : List ℕ). from_be_bytes w32 (take 4 x)) (drop_at front (to_be_bytes w32 n ++ rest) place long) ∙ from_be_bytes-to_be_bytes_4 n fits

-- Four bytes are those of their number.
word_back : (bytes : List ℕ) → length bytes ≡ 4 → IsBytes bytes → to_be_bytes w32 (from_be_bytes w32 bytes) ≡ bytes
word_back bytes long fits = be_bytes_4 bytes _ long fits refl

word_below : (bytes : List ℕ) → IsBytes bytes → from_be_bytes w32 bytes < 2 ^ 32
word_below bytes fits = omega (arith, fits 0, fits 1, fits 2, fits 3)

pub split_word : (bytes : List ℕ) → 4 ≤ length bytes → IsBytes bytes → (bytes ≡ to_be_bytes w32 (from_be_bytes w32 (take 4 bytes)) ++ drop 4 bytes) × (from_be_bytes w32 (take 4 bytes) < 2 ^ 32)
split_word bytes long fits =
    let t = bytes_taken 4 bytes fits in
    let four : length (take 4 bytes) ≡ 4 = omega (arith, length-take 4 bytes) in
    (sym (ap (λ (x : List ℕ). x ++ drop 4 bytes) (word_back (take 4 bytes) four t) ∙ take-append-drop 4 bytes), word_below (take 4 bytes) t)

pub record TakesWord (bytes : List ℕ) (w : ℕ × List ℕ) : Type 0 where
  pub is : bytes ≡ to_be_bytes w32 w.0 ++ w.1
  pub fits : w.0 < 2 ^ 32
  pub rest : IsBytes w.1

some_is : {A : Type 0} (x y : A) → (let one : A → Option A = λ a. Some a in one x ≡ one y) → x ≡ y
some_is x y e = cc

pub word_takes : (bytes : List ℕ) (w : ℕ × List ℕ) → IsBytes bytes → word_at bytes ≡ Some w → TakesWord bytes w
word_takes bytes w fits e = cases (ltb (length bytes) 4) refl e
  where
    cases : (b : Bool) → ltb (length bytes) 4 ≡ b → cond b None (Some (from_be_bytes w32 (take 4 bytes), drop 4 bytes)) ≡ Some w → TakesWord bytes w
    cases true t h = absurd cc
    cases false t h =
        let s = split_word bytes (ltb-false _ _ t) fits in
        subst (λ (x : ℕ × List ℕ). TakesWord bytes x) (some_is _ _ h) (record { is = s.0; fits = s.1; rest = bytes_dropped 4 bytes fits })

pub word_none : (bytes : List ℕ) → word_at bytes ≡ None → length bytes < 4
word_none bytes e = cases (ltb (length bytes) 4) refl e
  where
    cases : (b : Bool) → ltb (length bytes) 4 ≡ b → cond {A = Option (ℕ × List ℕ)} b None (Some (from_be_bytes w32 (take 4 bytes), drop 4 bytes)) ≡ None → length bytes < 4
    cases true t h = ltb-true _ _ t
    cases false t h = absurd cc

-- ---- a frame in front

no_null : (nulls : Bool) (n : ℕ) → (nulls ≡ true → n ≢ 4294967295) → (nulls && eqb n 4294967295) ≡ false
no_null true n other = ne_eqb n 4294967295 (other refl)
no_null false n other = refl

pub cell_again : (nulls : Bool) (cell : Cell) (rest : List ℕ) → IsFramed nulls cell → cell_at nulls (frame cell ++ rest) ≡ Ok (cell, rest)
unfolding cell_at
cell_again nulls None rest h = rw (word_again 4294967295 rest (omega arith), h) refl
cell_again nulls (Some p) rest h =
    let long : ltb (length (p ++ rest)) (length p) ≡ false = le-ltb _ _ (omega (arith, length-append p rest)) in
    let few : ltb (length p) 2147483648 ≡ true = lt-ltb _ _ h in
    let big : length p < 2 ^ 32 = omega arith in
    let other : nulls ≡ true → length p ≢ 4294967295 = λ _ same. omega arith in
    ap (cell_at nulls) (append_assoc (to_be_bytes w32 (length p)) p rest) ∙
    rw (word_again (length p) (p ++ rest) big, no_null nulls (length p) other, few, long, take_at p rest (length p) refl, drop_at p rest (length p) refl) refl

chosen : (b : Bool) (x y : Result (Cell × List ℕ) SqlError) → b ≡ true → cond b x y ≡ x
chosen b x y h = rw h refl

other_chosen : (b : Bool) (x y : Result (Cell × List ℕ) SqlError) → b ≡ false → cond b x y ≡ y
other_chosen b x y h = rw h refl

pub no_frame_again : (nulls : Bool) (bytes : List ℕ) (error : SqlError) → HasNoFrame nulls bytes error → cell_at nulls bytes ≡ Err error
unfolding cell_at
no_frame_again nulls bytes error (no_length few e) = rw (lt-ltb _ _ few) (ap Err (sym e))
no_frame_again nulls bytes error (negative_length n rest is big fits other e) =
    ap (λ (x : List ℕ). behind_length nulls (word_at x)) is ∙
    rw (word_again n rest fits, no_null nulls n other) (other_chosen (ltb n 2147483648) _ _ (le-ltb n 2147483648 big) ∙ ap Err (sym e))
no_frame_again nulls bytes error (past_the_end n rest is few short e) =
    let other : nulls ≡ true → n ≢ 4294967295 = λ _ same. omega arith in
    ap (λ (x : List ℕ). behind_length nulls (word_at x)) is ∙
    rw (word_again n rest (omega arith), no_null nulls n other) (chosen (ltb n 2147483648) _ _ (lt-ltb n 2147483648 few) ∙ chosen (ltb (length rest) n) _ _ (lt-ltb (length rest) n short) ∙ ap Err (sym e))

pub record TakesCell (nulls : Bool) (bytes : List ℕ) (c : Cell × List ℕ) : Type 0 where
  pub is : bytes ≡ frame c.0 ++ c.1
  pub framed : IsFramed nulls c.0
  pub cell : IsBytesCell c.0
  pub rest : IsBytes c.1

abbrev Cut : Type 0
Cut = Result (Cell × List ℕ) SqlError

piece_takes : (nulls : Bool) (bytes : List ℕ) (n : ℕ) (rest : List ℕ) (c : Cell × List ℕ) → TakesWord bytes (n, rest) → piece_at n rest ≡ Ok c → TakesCell nulls bytes c
piece_takes nulls bytes n rest c w e = few (ltb n 2147483648) refl e
  where
    long : (b : Bool) → ltb (length rest) n ≡ b → n < 2147483648 → cond {A = Cut} b (Err (ElementBytes (cast_signed w32 n) (length rest))) (Ok (Some (take n rest), drop n rest)) ≡ Ok c → TakesCell nulls bytes c
    long true t lt h = absurd cc
    long false t lt h =
        let many : length (take n rest) ≡ n = omega (arith, length-take n rest, ltb-false _ _ t) in
        let whole : bytes ≡ frame (Some (take n rest)) ++ drop n rest = w.is ∙ ap (λ (x : List ℕ). to_be_bytes w32 n ++ x) (sym (take-append-drop n rest)) ∙ ap (λ (m : ℕ). to_be_bytes w32 m ++ (take n rest ++ drop n rest)) (sym many) ∙ sym (append_assoc (to_be_bytes w32 (length (take n rest))) (take n rest) (drop n rest)) in
        subst (λ (x : Cell × List ℕ). TakesCell nulls bytes x) (ok_is {E = SqlError} (Some (take n rest), drop n rest) c h)
        (record { is = whole; framed = omega arith; cell = bytes_taken n rest w.rest; rest = bytes_dropped n rest w.rest })

    few : (b : Bool) → ltb n 2147483648 ≡ b → cond {A = Cut} b (cond {A = Cut} (ltb (length rest) n) (Err (ElementBytes (cast_signed w32 n) (length rest))) (Ok (Some (take n rest), drop n rest))) (Err (NegativeSize (cast_signed w32 n))) ≡ Ok c → TakesCell nulls bytes c
    few true t h = long (ltb (length rest) n) refl (ltb-true _ _ t) h
    few false t h = absurd cc

and_is : (a b : Bool) → (a && b) ≡ true → (a ≡ true) × (b ≡ true)
and_is true b e = (refl, e)
and_is false b e = absurd cc

pub cell_takes : (nulls : Bool) (bytes : List ℕ) (c : Cell × List ℕ) → IsBytes bytes → cell_at nulls bytes ≡ Ok c → TakesCell nulls bytes c
unfolding cell_at
cell_takes nulls bytes c fits e = at (word_at bytes) refl e
  where
    null_or : (b : Bool) (w : ℕ × List ℕ) → TakesWord bytes w → (nulls && eqb w.0 4294967295) ≡ b → cond {A = Cut} b (Ok (None, w.1)) (piece_at w.0 w.1) ≡ Ok c → TakesCell nulls bytes c
    null_or true w t b h =
        let both = and_is nulls (eqb w.0 4294967295) b in
        let whole : bytes ≡ frame None ++ w.1 = t.is ∙ ap (λ (n : ℕ). to_be_bytes w32 n ++ w.1) (eqb-true _ _ both.1) in
        subst (λ (x : Cell × List ℕ). TakesCell nulls bytes x) (ok_is {E = SqlError} (None, w.1) c h) (record { is = whole; framed = both.0; cell = tt; rest = t.rest })
    null_or false w t b h = piece_takes nulls bytes w.0 w.1 c t h

    at : (o : Option (ℕ × List ℕ)) → word_at bytes ≡ o → behind_length nulls o ≡ Ok c → TakesCell nulls bytes c
    at None o h = absurd cc
    at (Some w) o h = null_or (nulls && eqb w.0 4294967295) w (word_takes bytes w fits o) refl h

pub no_frame_is : (nulls : Bool) (bytes : List ℕ) (error : SqlError) → IsBytes bytes → cell_at nulls bytes ≡ Err error → HasNoFrame nulls bytes error
unfolding cell_at
no_frame_is nulls bytes error fits e = at (word_at bytes) refl e
  where
    long : (b : Bool) (w : ℕ × List ℕ) → TakesWord bytes w → w.0 < 2147483648 → ltb (length w.1) w.0 ≡ b → cond {A = Cut} b (Err (ElementBytes (cast_signed w32 w.0) (length w.1))) (Ok (Some (take w.0 w.1), drop w.0 w.1)) ≡ Err error → HasNoFrame nulls bytes error
    long true w t few b h = past_the_end w.0 w.1 t.is few (ltb-true _ _ b) (sym (err_is {A = Cell × List ℕ} _ error h))
    long false w t few b h = absurd cc

    few_or : (b : Bool) (w : ℕ × List ℕ) → TakesWord bytes w → (nulls && eqb w.0 4294967295) ≡ false → ltb w.0 2147483648 ≡ b → cond {A = Cut} b (cond {A = Cut} (ltb (length w.1) w.0) (Err (ElementBytes (cast_signed w32 w.0) (length w.1))) (Ok (Some (take w.0 w.1), drop w.0 w.1))) (Err (NegativeSize (cast_signed w32 w.0))) ≡ Err error → HasNoFrame nulls bytes error
    few_or true w t other b h = long (ltb (length w.1) w.0) w t (ltb-true _ _ b) refl h
    few_or false w t other b h = negative_length w.0 w.1 t.is (ltb-false _ _ b) t.fits (λ null. eqb-false _ _ (sym (ap (λ (x : Bool). x && eqb w.0 4294967295) null) ∙ other)) (sym (err_is {A = Cell × List ℕ} _ error h))

    null_or : (b : Bool) (w : ℕ × List ℕ) → TakesWord bytes w → (nulls && eqb w.0 4294967295) ≡ b → cond {A = Cut} b (Ok (None, w.1)) (piece_at w.0 w.1) ≡ Err error → HasNoFrame nulls bytes error
    null_or true w t b h = absurd cc
    null_or false w t b h = few_or (ltb w.0 2147483648) w t b refl h

    at : (o : Option (ℕ × List ℕ)) → word_at bytes ≡ o → behind_length nulls o ≡ Err error → HasNoFrame nulls bytes error
    at None o h = no_length (word_none bytes o) (sym (err_is {A = Cell × List ℕ} _ error h))
    at (Some w) o h = null_or (nulls && eqb w.0 4294967295) w (word_takes bytes w fits o) refl h

-- Bytes begin with one frame at most.
pub one_frame : (nulls : Bool) (c d : Cell) (x y : List ℕ) → IsFramed nulls c → IsFramed nulls d → frame c ++ x ≡ frame d ++ y → (c ≡ d) × (x ≡ y)
one_frame nulls c d x y f g e =
    let same = ok_is {E = SqlError} (c, x) (d, y) (sym (cell_again nulls c x f) ∙ ap (cell_at nulls) e ∙ cell_again nulls d y g) in
    (ap (λ (p : Cell × List ℕ). p.0) same, ap (λ (p : Cell × List ℕ). p.1) same)
