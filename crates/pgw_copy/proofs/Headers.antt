-- The first 19 bytes of a header, taken apart.
use Rattle.std.proofs.Common.{◌≡◌, ℕ, ◌<◌, ◌≤◌, ◌^◌, List, [], ◌++◌, length, refl, sym, ap, ◌∙◌, arith, append_assoc, append-nil, length-append, subst, inl, inr}
use Rattle.std.specs.Int.{to_be_bytes, w32}
use Rattle.pgw_copy.specs.declared.fault.CopyReadError.{CopyReadError}
use Rattle.pgw_copy.specs.declared.fault.CopyReadError.TheVariants.{Truncated, ReadFault}
use Rattle.std.specs.Prelude.{◌≢◌}
use Rattle.pgw_copy.specs.Format.{magic, IsFixedHeader, IsHeader, IsCutHeader}
use Rattle.pgw_copy.proofs.Reading.{cut_at}
use Rattle.pgw_copy.specs.Reader.{CutError, IsShort, HasNegativeExtension, FixedError, bad_header, bad_flags, HeaderError, cut_header}
use Rattle.pgw_wire.proofs.Lists.{same_front, same_rest}
use Rattle.pgw_wire.proofs.Numbers.{same_number_4, whole_4}

-- a magic and two numbers of four bytes in front
pub record IsApart (fixed m : List ℕ) (flags extension : ℕ) : Type 0 where
  pub behind : List ℕ
  pub numbers : List ℕ
  pub rest : List ℕ
  pub long : length m ≡ 11
  pub first : fixed ≡ m ++ behind
  pub second : behind ≡ to_be_bytes w32 flags ++ numbers
  pub third : numbers ≡ to_be_bytes w32 extension ++ rest
  pub flags_fit : flags < 2 ^ 32
  pub extension_fits : extension < 2 ^ 32

-- A fixed header is taken apart in one way.
pub apart_once : (start fixed m : List ℕ) (f e f' e' : ℕ) → length start ≡ 11 → IsApart fixed m f e → fixed ≡ start ++ to_be_bytes w32 f' ++ to_be_bytes w32 e' → f' < 2 ^ 32 → e' < 2 ^ 32 → (m ≡ start) × (f ≡ f') × (e ≡ e')
apart_once start fixed m f e f' e' eleven a is ff ef =
    let whole = sym a.first ∙ is ∙ append_assoc start (to_be_bytes w32 f') (to_be_bytes w32 e') in
    let behind = sym a.second ∙ same_rest m start a.behind (to_be_bytes w32 f' ++ to_be_bytes w32 e') (a.long ∙ sym eleven) whole in
    let numbers = same_rest (to_be_bytes w32 f) (to_be_bytes w32 f') a.numbers (to_be_bytes w32 e') refl behind in (
      same_front m start a.behind (to_be_bytes w32 f' ++ to_be_bytes w32 e') (a.long ∙ sym eleven) whole,
      same_number_4 f f' a.flags_fit ff (same_front (to_be_bytes w32 f) (to_be_bytes w32 f') a.numbers (to_be_bytes w32 e') refl behind),
      same_number_4 e e' a.extension_fits ef (same_front (to_be_bytes w32 e) (to_be_bytes w32 e') a.rest [] refl (sym a.third ∙ numbers ∙ sym (append-nil (to_be_bytes w32 e')))),
    )

-- What is taken apart so is a fixed header.
pub fixed_header : (fixed m : List ℕ) (f e : ℕ) → length fixed ≡ 19 → IsApart fixed m f e → m ≡ magic → f < 2 ^ 16 → e < 2 ^ 31 → IsFixedHeader fixed e
fixed_header fixed m f e nineteen a is low short =
    let four : length a.numbers ≡ 4 = omega (arith, nineteen, a.long, ap length a.first, ap length a.second, length-append m a.behind, length-append (to_be_bytes w32 f) a.numbers) in
    let number = whole_4 a.numbers a.rest e a.third four in
    record {
      flags = f;
      low = low;
      short = short;
      is = a.first ∙ ap (λ l. l ++ a.behind) is ∙ ap (λ l. magic ++ l) (a.second ∙ ap (λ l. to_be_bytes w32 f ++ l) number) ∙ sym (append_assoc magic (to_be_bytes w32 f) (to_be_bytes w32 e));
    }

-- What is taken apart otherwise is none.
pub no_fixed_header : (fixed m : List ℕ) (f e extension : ℕ) → IsApart fixed m f e → IsFixedHeader fixed extension → (m ≡ magic) × (f < 2 ^ 16) × (e < 2 ^ 31)
no_fixed_header fixed m f e extension a h =
    let same = apart_once magic fixed m f e h.flags extension refl a h.is (omega (arith, h.low)) (omega (arith, h.short)) in
    (same.0, omega (arith, same.1, h.low), omega (arith, same.2, h.short))

pub length-fixed : (fixed : List ℕ) (e : ℕ) → IsFixedHeader fixed e → length fixed ≡ 19
length-fixed fixed e h = ap length h.is

-- A fixed header states one length.
pub same_extension : (fixed : List ℕ) (e e' : ℕ) → IsFixedHeader fixed e → IsFixedHeader fixed e' → e ≡ e'
same_extension fixed e e' h h' =
    let apart : IsApart fixed magic h.flags e = record {
      behind = to_be_bytes w32 h.flags ++ to_be_bytes w32 e;
      numbers = to_be_bytes w32 e;
      rest = [];
      long = refl;
      first = h.is ∙ append_assoc magic (to_be_bytes w32 h.flags) (to_be_bytes w32 e);
      second = refl;
      third = sym (append-nil (to_be_bytes w32 e));
      flags_fit = omega (arith, h.low);
      extension_fits = omega (arith, h.short);
    } in
    (apart_once magic fixed magic h.flags e h'.flags e' refl apart h'.is (omega (arith, h'.low)) (omega (arith, h'.short))).2

-- Bytes that begin with 19 that are the beginning of a header begin with its fixed part.
pub same_fixed : (x behind front rest : List ℕ) (h : IsHeader front) → length x ≡ 19 → x ++ behind ≡ front ++ rest → x ≡ h.fixed
same_fixed x behind front rest h nineteen e =
    same_front x h.fixed behind (h.extension ++ rest) (nineteen ∙ sym (length-fixed h.fixed (length h.extension) h.begins))
    (e ∙ ap (λ l. l ++ rest) h.is ∙ append_assoc h.fixed h.extension rest)

pub header_of : (x y : List ℕ) (e : ℕ) → IsFixedHeader x e → length y ≡ e → IsHeader (x ++ y)
header_of x y e h long = record { fixed = x; extension = y; begins = subst (λ (n : ℕ). IsFixedHeader x n) (sym long) h; is = refl }

-- Behind the fixed part stand as many bytes as it states.
pub header_splits : (x behind front rest : List ℕ) (e : ℕ) → IsFixedHeader x e → IsHeader front → x ++ behind ≡ front ++ rest → (y : List ℕ) × (length y ≡ e) × (front ≡ x ++ y)
header_splits x behind front rest e f h is =
    let same = same_fixed x behind front rest h (length-fixed x e f) is in (
      h.extension,
      sym (same_extension x e (length h.extension) f (subst (λ (l : List ℕ). IsFixedHeader l (length h.extension)) (sym same) h.begins)),
      h.is ∙ ap (λ l. l ++ h.extension) (sym same),
    )

-- What begins with other bytes than the magic begins no stream.
pub other_magic : (fixed m : List ℕ) (f e : ℕ) → IsApart fixed m f e → (m ≡ magic → ⊥) → (rest : List ℕ) → fixed ≡ magic ++ rest → ⊥
other_magic fixed m f e a other rest is = other (same_front m magic a.behind rest a.long (sym a.first ∙ is))

-- what is taken apart so has an extension of negative length
pub negative_extension : (fixed m : List ℕ) (f e : ℕ) → length fixed ≡ 19 → IsApart fixed m f e → m ≡ magic → f < 2 ^ 16 → 2 ^ 31 ≤ e → HasNegativeExtension fixed
negative_extension fixed m f e nineteen a is low negative =
    let four : length a.numbers ≡ 4 = omega (arith, nineteen, a.long, ap length a.first, ap length a.second, length-append m a.behind, length-append (to_be_bytes w32 f) a.numbers) in
    let number = whole_4 a.numbers a.rest e a.third four in
    record {
      flags = f;
      extension = e;
      low = low;
      negative = negative;
      fits = a.extension_fits;
      is = a.first ∙ ap (λ l. l ++ a.behind) is ∙ ap (λ l. magic ++ l) (a.second ∙ ap (λ l. to_be_bytes w32 f ++ l) number) ∙ sym (append_assoc magic (to_be_bytes w32 f) (to_be_bytes w32 e));
    }

-- what each error of the parts of a header says of the whole
pub short_header : (e : CopyReadError) (bytes : List ℕ) → CutError (IsShort 19) e bytes → HeaderError e bytes
short_header e bytes h = cut_header (cut_at (IsShort 19) IsCutHeader e bytes bytes inl h)

pub short_extension : (e : CopyReadError) (x y : List ℕ) (extension : ℕ) → IsFixedHeader x extension → CutError (IsShort extension) e y → HeaderError e (x ++ y)
short_extension e x y extension f h = cut_header (cut_at (IsShort extension) IsCutHeader e y (x ++ y) (λ short. inr (x, y, extension, f, refl, short)) h)

-- What is wrong with the first bytes is neither the end of the source nor a fault of it.
pub is_inside : (e : CopyReadError) (bytes : List ℕ) → FixedError e bytes → (e ≢ Truncated) × (e ≢ ReadFault)
is_inside e bytes (bad_header is h) = ((λ k. absurd (cc (is, k))), (λ k. absurd (cc (is, k))))
is_inside e bytes (bad_flags flags is h) = ((λ k. absurd (cc (is, k))), (λ k. absurd (cc (is, k))))
