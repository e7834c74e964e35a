-- What the reader of an array cuts from its field, number by number.
use Rattle.std.proofs.Common.{◌≡◌, ◌≢◌, ℕ, ◌+◌, ◌^◌, ◌<◌, List, ◌++◌, length, refl, sym, ap, ◌∙◌, arith}
use Rattle.std.specs.Int.{w32, to_be_bytes, cast_signed}
use Rattle.std.proofs.lemmas.List.{length-append}
use Rattle.pgw_wire.specs.declared.sql_error.SqlError.{SqlError}
use Rattle.pgw_wire.specs.declared.sql_error.SqlError.TheVariants.{ShortBuffer, Dimensions}
use Rattle.pgw_nested.specs.Array.{no_elements, elements_behind, BeginsArray, no_dimension, one_dimension, BeginsNoArray, too_short, too_short_for_one, many_dimensions}
use Rattle.pgw_nested.proofs.Beginnings.{head_is}

-- The bytes begin with the number, and this is the rest.
abbrev pub IsCut : List ℕ → ℕ → List ℕ → Type 0
IsCut bytes n rest = (bytes ≡ to_be_bytes w32 n ++ rest) × (n < 2 ^ 32)

cut_length : (bytes : List ℕ) (n : ℕ) (rest : List ℕ) → IsCut bytes n rest → length bytes ≡ 4 + length rest
cut_length bytes n rest c = omega (arith, ap length c.0, length-append (to_be_bytes w32 n) rest)

pub cut_at_1 : (bytes : List ℕ) (e : SqlError) → (e ≡ ShortBuffer) × (length bytes < 4) → BeginsNoArray bytes e
cut_at_1 bytes e h = too_short (omega (arith, h.1)) h.0

pub cut_at_2 : (bytes : List ℕ) (d : ℕ) (r : List ℕ) (e : SqlError) → IsCut bytes d r → (e ≡ ShortBuffer) × (length r < 4) → BeginsNoArray bytes e
cut_at_2 bytes d r e a h = too_short (omega (arith, h.1, cut_length bytes d r a)) h.0

pub cut_at_3 : (bytes : List ℕ) (d f : ℕ) (r s : List ℕ) (e : SqlError) → IsCut bytes d r → IsCut r f s → (e ≡ ShortBuffer) × (length s < 4) → BeginsNoArray bytes e
cut_at_3 bytes d f r s e a b h = too_short (omega (arith, h.1, cut_length bytes d r a, cut_length r f s b)) h.0

pub cut_at_4 : (bytes : List ℕ) (d f o : ℕ) (r s t : List ℕ) (e : SqlError) → d ≢ 0 → IsCut bytes d r → IsCut r f s → IsCut s o t → (e ≡ ShortBuffer) × (length t < 4) → BeginsNoArray bytes e
cut_at_4 bytes d f o r s t e some a b c h =
    too_short_for_one d r a.0 a.1 some (omega (arith, h.1, cut_length bytes d r a, cut_length r f s b, cut_length s o t c)) h.0

pub cut_at_5 : (bytes : List ℕ) (d f o n : ℕ) (r s t u : List ℕ) (e : SqlError) → d ≢ 0 → IsCut bytes d r → IsCut r f s → IsCut s o t → IsCut t n u → (e ≡ ShortBuffer) × (length u < 4) → BeginsNoArray bytes e
cut_at_5 bytes d f o n r s t u e some a b c g h =
    too_short_for_one d r a.0 a.1 some (omega (arith, h.1, cut_length bytes d r a, cut_length r f s b, cut_length s o t c, cut_length t n u g)) h.0

pub too_many : (bytes : List ℕ) (d f o n l : ℕ) (r s t u v : List ℕ) (e : SqlError) → d ≢ 0 → d ≢ 1 → IsCut bytes d r → IsCut r f s → IsCut s o t → IsCut t n u → IsCut u l v → e ≡ Dimensions (cast_signed w32 d) → BeginsNoArray bytes e
too_many bytes d f o n l r s t u v e some other a b c g h is =
    many_dimensions d r a.0 a.1 some other (omega (arith, cut_length bytes d r a, cut_length r f s b, cut_length s o t c, cut_length t n u g, cut_length u l v h)) is

pub none : (bytes : List ℕ) (d f o : ℕ) (r s t : List ℕ) → d ≡ 0 → IsCut bytes d r → IsCut r f s → IsCut s o t → BeginsArray bytes no_elements
none bytes d f o r s t zero a b c =
    no_dimension (record {
      flags = f;
      oid = o;
      rest = t;
      is = a.0 ∙ ap (λ (x : ℕ). to_be_bytes w32 x ++ r) zero ∙ ap (λ (x : List ℕ). to_be_bytes w32 0 ++ x) (b.0 ∙ ap (λ (x : List ℕ). to_be_bytes w32 f ++ x) c.0);
    }) refl

pub one : (bytes : List ℕ) (d f o n l : ℕ) (r s t u v : List ℕ) → d ≡ 1 → IsCut bytes d r → IsCut r f s → IsCut s o t → IsCut t n u → IsCut u l v → BeginsArray bytes (elements_behind f n v)
one bytes d f o n l r s t u v first a b c g h =
    one_dimension f n v (record {
      oid = o;
      bound = l;
      flags_fit = b.1;
      count_fits = g.1;
      is = a.0 ∙ ap (λ (x : ℕ). to_be_bytes w32 x ++ r) first
          ∙ ap (λ (x : List ℕ). to_be_bytes w32 1 ++ x) (b.0 ∙ ap (λ (x : List ℕ). to_be_bytes w32 f ++ x) (c.0 ∙ ap (λ (x : List ℕ). to_be_bytes w32 o ++ x) (g.0 ∙ ap (λ (x : List ℕ). to_be_bytes w32 n ++ x) h.0)))
          ∙ sym (head_is f o n l v);
    }) refl
