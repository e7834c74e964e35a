-- Which bytes spell an entry, that they spell one at most, and what cuts of texts give.
use Rattle.std.proofs.Common.{◌≡◌, ℕ, suc, ◌<◌, ◌≤◌, ◌==◌, ◌&&◌, List, [], ◌∷◌, ◌++◌, length, get_or, map, codes, Option, None, Some, option_map, Bool, true, false, nat_lt, nat_le, Bor, refl, sym, ap, ◌∙◌, subst, arith, inl, inr}
use Rattle.std.proofs.lemmas.Bool.{eq-eqb, ne_eqb, eqb-true, leb-true, and_parts, false≢true}
use Rattle.std.proofs.lemmas.List.{append_assoc}
use Rattle.std.proofs.lemmas.Option.{none-some, cond_some, option_and_then_some}
use Rattle.std.proofs.lemmas.Str.Pattern.{IsSplitOnceResult, split_parts}
use Rattle.std.specs.Char.{is_ascii_digit}
use Rattle.std.specs.List.{list_all, AllByRecursion, AllZip}
use Rattle.std.specs.Option.{MatchOption, unwrap_or, option_and_then}
use Rattle.std.specs.Str.{all_ascii_digits}
use Rattle.std.specs.Str.Parse.{digits_value}
use Rattle.pgw_meta.specs.declared.found_oids.Found.{Found}
use Rattle.pgcopy.specs.Numbers.{is_number, read_number}
use Rattle.pgcopy.specs.OidWords.{is_name_byte, is_name, searched_schema, StandsFor, SpellsEntry, cut_at, names_in, entry_from, entry_behind, entry_in}

-- the byte stands nowhere in the bytes
abbrev Lacks : ℕ → List ℕ → Type 0
Lacks byte bytes = AllByRecursion (λ b. (b == byte) ≡ false) bytes

lacks_append : (byte : ℕ) (xs ys : List ℕ) → Lacks byte xs → Lacks byte ys → Lacks byte (xs ++ ys)
lacks_append byte [] ys h k = k
lacks_append byte (x ∷ xs) ys h k = (h.0, lacks_append byte xs ys h.1 k)

lacks_from : (byte : ℕ) (xs : List ℕ) → ((i : ℕ) → i < length xs → get_or xs i 0 ≡ byte → ⊥) → Lacks byte xs
lacks_from byte [] other = tt
lacks_from byte (x ∷ xs) other =
    (ne_eqb x byte (other 0 (omega arith)), lacks_from byte xs (λ i within. other (suc i) (omega (arith, within))))

-- a byte of another kind
differs : (test : ℕ → Bool) (byte x : ℕ) → test byte ≡ false → test x ≡ true → (x == byte) ≡ false
differs test byte x fails passes = ne_eqb x byte (λ same. false≢true (sym fails ∙ ap test (sym same) ∙ passes))

name_lacks : (byte : ℕ) (text : List ℕ) → is_name_byte byte ≡ false → list_all is_name_byte text ≡ true → Lacks byte text
name_lacks byte [] fails all = tt
name_lacks byte (x ∷ xs) fails all =
    let parts = and_parts (is_name_byte x) (list_all is_name_byte xs) all in
    (differs is_name_byte byte x fails parts.0, name_lacks byte xs fails parts.1)

digits_lack : (byte : ℕ) (digits : List ℕ) → is_ascii_digit byte ≡ false → all_ascii_digits digits ≡ true → Lacks byte digits
digits_lack byte [] fails all = tt
digits_lack byte (x ∷ xs) fails all =
    let parts = and_parts (is_ascii_digit x) (all_ascii_digits xs) all in
    (differs is_ascii_digit byte x fails parts.0, digits_lack byte xs fails parts.1)

name_bytes : (text : List ℕ) → is_name text ≡ true → list_all is_name_byte text ≡ true
name_bytes text is = (and_parts (nat_lt 0 (length text) && nat_le (length text) 63) (list_all is_name_byte text) is).1

-- with one byte more in front
abbrev longer : ℕ → List ℕ × List ℕ → List ℕ × List ℕ
longer first parts = (first ∷ parts.0, parts.1)

cut_front : (byte : ℕ) (front back : List ℕ) → Lacks byte front → cut_at byte (front ++ byte ∷ back) ≡ Some (front, back)
cut_front byte [] back h = rw (eq-eqb byte byte refl) refl
cut_front byte (x ∷ front) back h = rw h.0 (ap (option_map (longer x)) (cut_front byte front back h.1))

cut_none : (byte : ℕ) (bytes : List ℕ) → Lacks byte bytes → cut_at byte bytes ≡ None
cut_none byte [] h = refl
cut_none byte (x ∷ bytes) h = rw h.0 (ap (option_map (longer x)) (cut_none byte bytes h.1))

-- where bytes are cut
abbrev IsCut : ℕ → List ℕ → List ℕ × List ℕ → Type 0
IsCut byte bytes parts = (bytes ≡ parts.0 ++ byte ∷ parts.1) × Lacks byte parts.0

cut_is : (byte : ℕ) (bytes : List ℕ) (parts : List ℕ × List ℕ) → cut_at byte bytes ≡ Some parts → IsCut byte bytes parts
cut_is byte [] parts e = cc
cut_is byte (x ∷ bytes) parts e = by (x == byte) refl (cut_is byte bytes)
  where
    behind : (x == byte) ≡ false → (r : Option (List ℕ × List ℕ)) → cut_at byte bytes ≡ r → option_map (longer x) r ≡ Some parts
        → ((p : List ℕ × List ℕ) → cut_at byte bytes ≡ Some p → IsCut byte bytes p) → IsCut byte (x ∷ bytes) parts
    behind other None is k more = absurd (none-some parts k)
    behind other (Some p) is k more =
        let same : longer x p ≡ parts = cc in
        let rest = more p is in
        subst (IsCut byte (x ∷ bytes)) same (ap (λ bs. x ∷ bs) rest.0, (other, rest.1))

    by : (b : Bool) → (x == byte) ≡ b → ((p : List ℕ × List ℕ) → cut_at byte bytes ≡ Some p → IsCut byte bytes p) → IsCut byte (x ∷ bytes) parts
    by true is more =
        let here : Some ([], bytes) ≡ Some parts = rw is at e in
        let same : ([], bytes) ≡ parts = cc in
        subst (IsCut byte (x ∷ bytes)) same (ap (λ b. b ∷ bytes) (eqb-true x byte is), tt)
    by false is more = behind is (cut_at byte bytes) refl (rw is at e) more

-- the two parts of a text, as bytes
abbrev pub both_now : Bor (List ℕ) × Bor (List ℕ) → List ℕ × List ℕ
both_now x = (x.0.now, x.1.now)

-- what `split_once` gives
pub splits : (byte : ℕ) (bytes : List ℕ) (r : Option (Bor (List ℕ) × Bor (List ℕ))) → IsSplitOnceResult byte bytes r → byte < 128
    → option_map both_now r ≡ cut_at byte bytes
splits byte bytes r h small = by r (split_parts byte bytes r h small)
  where
    by : (r : Option (Bor (List ℕ) × Bor (List ℕ)))
        → MatchOption r ((i : ℕ) → i < length bytes → get_or bytes i 0 ≡ byte → ⊥)
        (λ x. (bytes ≡ x.0.now ++ (byte ∷ x.1.now)) × ((i : ℕ) → i < length x.0.now → get_or x.0.now i 0 ≡ byte → ⊥))
        → option_map both_now r ≡ cut_at byte bytes
    by None none = sym (cut_none byte bytes (lacks_from byte bytes none))
    by (Some x) cut = sym (ap (cut_at byte) cut.0 ∙ cut_front byte x.0.now x.1.now (lacks_from byte x.0.now cut.1))

-- The parts round the first point are the names, and where there is none the text is the name.
pub names_cut : (text : List ℕ) (x : Bor (List ℕ) × Bor (List ℕ)) (r : Option (Bor (List ℕ) × Bor (List ℕ))) → r ≡ Some x → option_map both_now r ≡ cut_at 46 text → both_now x ≡ names_in text
names_cut text x r is cut =
    ap (λ (o : Option (List ℕ × List ℕ)). unwrap_or o (searched_schema, text)) (sym (ap (option_map both_now) is) ∙ cut)

pub names_whole : (text : List ℕ) (r : Option (Bor (List ℕ) × Bor (List ℕ))) → r ≡ None → option_map both_now r ≡ cut_at 46 text → (searched_schema, text) ≡ names_in text
names_whole text r is cut =
    ap (λ (o : Option (List ℕ × List ℕ)). unwrap_or o (searched_schema, text)) (sym (ap (option_map both_now) is) ∙ cut)

-- the number that digits write
pub number_told : (most n : ℕ) (digits : List ℕ) → read_number most digits ≡ Some n → (is_number most digits ≡ true) × (digits_value 10 digits ≡ n)
number_told most n digits e = cond_some (is_number most digits) (digits_value 10 digits) n e

number_digits : (most n : ℕ) (digits : List ℕ) → read_number most digits ≡ Some n → all_ascii_digits digits ≡ true
number_digits most n digits e =
    let front = and_parts (nat_lt 0 (length digits) && all_ascii_digits digits) (nat_le (digits_value 10 digits) most) (number_told most n digits e).0 in
    (and_parts (nat_lt 0 (length digits)) (all_ascii_digits digits) front.0).1

-- names joined by a point, and texts joined by colons
pointed : (text schema name : List ℕ) → text ≡ schema ++ codes "." ++ name → text ≡ schema ++ 46 ∷ name
pointed text schema name is = is ∙ append_assoc schema (46 ∷ []) name

joined : (text oid array_oid : List ℕ) → text ++ codes ":" ++ oid ++ codes ":" ++ array_oid ≡ text ++ 58 ∷ (oid ++ 58 ∷ array_oid)
joined text oid array_oid =
    append_assoc (text ++ 58 ∷ [] ++ oid) (58 ∷ []) array_oid
    ∙ append_assoc (text ++ 58 ∷ []) oid (58 ∷ array_oid)
    ∙ append_assoc text (58 ∷ []) (oid ++ 58 ∷ array_oid)

pub number_most : (most n : ℕ) (digits : List ℕ) → Some n ≡ read_number most digits → n ≤ most
number_most most n digits e =
    let told = number_told most n digits (sym e) in
    let back = and_parts (nat_lt 0 (length digits) && all_ascii_digits digits) (nat_le (digits_value 10 digits) most) told.0 in
    omega (arith, leb-true (digits_value 10 digits) most back.1, told.1)

-- what stands for a type has no colon, and its names are found in it
stands_lacks : (text schema name : List ℕ) → StandsFor text schema name → is_name schema ≡ true → is_name name ≡ true → Lacks 58 text
stands_lacks text schema name (inl is) named_schema named =
    let in_name = name_lacks 58 name refl (name_bytes name named) in
    subst (Lacks 58) (sym (pointed text schema name is)) (lacks_append 58 schema (46 ∷ name) (name_lacks 58 schema refl (name_bytes schema named_schema)) (refl, in_name))
stands_lacks text schema name (inr is) named_schema named = subst (Lacks 58) (sym is.0) (name_lacks 58 name refl (name_bytes name named))

stands_names : (text schema name : List ℕ) → StandsFor text schema name → is_name schema ≡ true → is_name name ≡ true → names_in text ≡ (schema, name)
stands_names text schema name (inl is) named_schema named =
    ap (λ (r : Option (List ℕ × List ℕ)). unwrap_or r (searched_schema, text))
    (ap (cut_at 46) (pointed text schema name is) ∙ cut_front 46 schema name (name_lacks 46 schema refl (name_bytes schema named_schema)))
stands_names text schema name (inr is) named_schema named =
    ap (λ (r : Option (List ℕ × List ℕ)). unwrap_or r (searched_schema, text))
    (ap (cut_at 46) is.0 ∙ cut_none 46 name (name_lacks 46 name refl (name_bytes name named)))
    ∙ (λ i. (sym is.1 i, is.0 i))

names_stand : (text : List ℕ) → StandsFor text (names_in text).0 (names_in text).1
names_stand text = by (cut_at 46 text) refl
  where
    by : (r : Option (List ℕ × List ℕ)) → cut_at 46 text ≡ r
        → StandsFor text (unwrap_or r (searched_schema, text)).0 (unwrap_or r (searched_schema, text)).1
    by None is = inr (refl, refl)
    by (Some parts) is = inl ((cut_is 46 text parts is).0 ∙ sym (append_assoc parts.0 (46 ∷ []) parts.1))

-- A text that has no colon spells no entry, nor one that has no second, and another is cut at both.
pub uncut : (bytes : List ℕ) (r : Option (Bor (List ℕ) × Bor (List ℕ))) → IsSplitOnceResult 58 bytes r → r ≡ None → None ≡ entry_in bytes
uncut bytes r h is = ap (option_and_then entry_behind) (sym (ap (option_map both_now) is) ∙ splits 58 bytes r h (omega arith))

cut_once : (bytes : List ℕ) (x : Bor (List ℕ) × Bor (List ℕ)) (r : Option (Bor (List ℕ) × Bor (List ℕ))) → IsSplitOnceResult 58 bytes r → r ≡ Some x → entry_behind (both_now x) ≡ entry_in bytes
cut_once bytes x r h is = ap (option_and_then entry_behind) (sym (ap (option_map both_now) is) ∙ splits 58 bytes r h (omega arith))

-- the entry of a text that is cut at its first colon, by what the bytes behind that are cut into
abbrev entry_of_oids : List ℕ → List ℕ × List ℕ → Option Found
entry_of_oids text oids = entry_from (names_in text) (read_number 4294967295 oids.0) (read_number 4294967295 oids.1)

pub uncut_again : (bytes : List ℕ) (x : Bor (List ℕ) × Bor (List ℕ)) (r s : Option (Bor (List ℕ) × Bor (List ℕ))) → IsSplitOnceResult 58 bytes r → r ≡ Some x → IsSplitOnceResult 58 x.1.now s → s ≡ None → None ≡ entry_in bytes
uncut_again bytes x r s h is again none =
    ap (option_and_then (entry_of_oids x.0.now)) (sym (ap (option_map both_now) none) ∙ splits 58 x.1.now s again (omega arith)) ∙ cut_once bytes x r h is

pub cut_twice : (bytes : List ℕ) (x y : Bor (List ℕ) × Bor (List ℕ)) (r s : Option (Bor (List ℕ) × Bor (List ℕ))) → IsSplitOnceResult 58 bytes r → r ≡ Some x → IsSplitOnceResult 58 x.1.now s → s ≡ Some y
    → entry_from (names_in x.0.now) (read_number 4294967295 y.0.now) (read_number 4294967295 y.1.now) ≡ entry_in bytes
cut_twice bytes x y r s h is again some =
    ap (option_and_then (entry_of_oids x.0.now)) (sym (ap (option_map both_now) some) ∙ splits 58 x.1.now s again (omega arith)) ∙ cut_once bytes x r h is

-- An entry is made of names, and of numbers that are oids.
pub no_oid : (names : List ℕ × List ℕ) (oid array_oid : Option ℕ) → oid ≡ None → None ≡ entry_from names oid array_oid
no_oid names oid array_oid is = ap (λ (o : Option ℕ). entry_from names o array_oid) (sym is)

pub no_array_oid : (names : List ℕ × List ℕ) (oid array_oid : Option ℕ) → array_oid ≡ None → None ≡ entry_from names oid array_oid
no_array_oid names None array_oid is = refl
no_array_oid names (Some oid) array_oid is = ap (λ (o : Option ℕ). entry_from names (Some oid) o) (sym is)

pub no_names : (names : List ℕ × List ℕ) (schema name : List ℕ) (oid array_oid : Option ℕ) → (schema, name) ≡ names → (is_name schema && is_name name) ≡ false → None ≡ entry_from names oid array_oid
no_names names schema name None array_oid is fails = refl
no_names names schema name (Some oid) None is fails = refl
no_names names schema name (Some oid) (Some array_oid) is fails =
    subst (λ (ns : List ℕ × List ℕ). None ≡ entry_from ns (Some oid) (Some array_oid)) is (rw fails refl)

pub made : (names : List ℕ × List ℕ) (schema name : List ℕ) (oid array_oid : Option ℕ) (n m : ℕ) → (schema, name) ≡ names → (is_name schema && is_name name) ≡ true → oid ≡ Some n → array_oid ≡ Some m
    → Some (record { key = record { schema = Some schema; name = name }; oid = n; array_oid = m }) ≡ entry_from names oid array_oid
made names schema name oid array_oid n m is passes is_oid is_array =
    subst (λ (ns : List ℕ × List ℕ). Some (record { key = record { schema = Some schema; name = name }; oid = n; array_oid = m }) ≡ entry_from ns (Some n) (Some m)) is (rw passes refl)
    ∙ (λ i. entry_from names (sym is_oid i) (sym is_array i))

-- An entry that is spelled is found.
pub spelled_found : (bytes : List ℕ) (entry : Found) → SpellsEntry bytes entry → entry_in bytes ≡ Some entry
spelled_found bytes entry s =
    let text_cut : cut_at 58 bytes ≡ Some (s.text, s.oid ++ 58 ∷ s.array_oid) =
    ap (cut_at 58) (s.is ∙ joined s.text s.oid s.array_oid) ∙ cut_front 58 s.text (s.oid ++ 58 ∷ s.array_oid) (stands_lacks s.text s.schema entry.key.name s.stands_for s.schema_is_name s.name_is_name) in
    let oids_cut : cut_at 58 (s.oid ++ 58 ∷ s.array_oid) ≡ Some (s.oid, s.array_oid) =
    cut_front 58 s.oid s.array_oid (digits_lack 58 s.oid refl (number_digits 4294967295 entry.oid s.oid s.oid_is)) in
    let names = stands_names s.text s.schema entry.key.name s.stands_for s.schema_is_name s.name_is_name in
    ap (option_and_then entry_behind) text_cut
    ∙ ap (option_and_then (λ (oids : List ℕ × List ℕ). entry_from (names_in s.text) (read_number 4294967295 oids.0) (read_number 4294967295 oids.1))) oids_cut
    ∙ (λ i. entry_from (names i) (s.oid_is i) (s.array_oid_is i))
    ∙ whole
  where
    whole : entry_from (s.schema, entry.key.name) (Some entry.oid) (Some entry.array_oid) ≡ Some entry
    whole =
        rw (s.schema_is_name, s.name_is_name) (λ i. Some (record {
          key = record { schema = sym s.in_schema i; name = entry.key.name };
          oid = entry.oid;
          array_oid = entry.array_oid;
        }))

-- what an entry is made from
record IsFrom (names : List ℕ × List ℕ) (oid array_oid : Option ℕ) (entry : Found) : Type 0 where
  oid_is : oid ≡ Some entry.oid
  array_oid_is : array_oid ≡ Some entry.array_oid
  schema_named : is_name names.0 ≡ true
  named : is_name names.1 ≡ true
  schema : entry.key.schema ≡ Some names.0
  name : names.1 ≡ entry.key.name

from_is : (names : List ℕ × List ℕ) (oid array_oid : Option ℕ) (entry : Found) → entry_from names oid array_oid ≡ Some entry → IsFrom names oid array_oid entry
from_is names None array_oid entry e = absurd (none-some entry e)
from_is names (Some oid) None entry e = absurd (none-some entry e)
from_is names (Some oid) (Some array_oid) entry e =
    let h = cond_some (is_name names.0 && is_name names.1) _ entry e in
    let both = and_parts (is_name names.0) (is_name names.1) h.0 in
    record {
      oid_is = ap (λ (f : Found). Some f.oid) h.1;
      array_oid_is = ap (λ (f : Found). Some f.array_oid) h.1;
      schema_named = both.0;
      named = both.1;
      schema = sym (ap (λ (f : Found). f.key.schema) h.1);
      name = ap (λ (f : Found). f.key.name) h.1;
    }

-- An entry that is found is spelled.
pub found_spelled : (bytes : List ℕ) (entry : Found) → entry_in bytes ≡ Some entry → SpellsEntry bytes entry
found_spelled bytes entry e =
    option_and_then_some entry_behind (cut_at 58 bytes) entry e (λ parts at_text behind.
    option_and_then_some (λ (oids : List ℕ × List ℕ). entry_from (names_in parts.0) (read_number 4294967295 oids.0) (read_number 4294967295 oids.1)) (cut_at 58 parts.1) entry behind (λ oids at_oids made.
    spelled parts oids (cut_is 58 bytes parts at_text) (cut_is 58 parts.1 oids at_oids) (from_is (names_in parts.0) _ _ entry made)))
  where
    spelled : (parts oids : List ℕ × List ℕ) → IsCut 58 bytes parts → IsCut 58 parts.1 oids
        → IsFrom (names_in parts.0) (read_number 4294967295 oids.0) (read_number 4294967295 oids.1) entry → SpellsEntry bytes entry
    spelled parts oids text_cut oids_cut made = record {
      text = parts.0;
      oid = oids.0;
      array_oid = oids.1;
      is = text_cut.0 ∙ ap (λ bs. parts.0 ++ 58 ∷ bs) oids_cut.0 ∙ sym (joined parts.0 oids.0 oids.1);
      schema = (names_in parts.0).0;
      in_schema = made.schema;
      stands_for = subst (StandsFor parts.0 (names_in parts.0).0) made.name (names_stand parts.0);
      schema_is_name = made.schema_named;
      name_is_name = ap is_name (sym made.name) ∙ made.named;
      oid_is = made.oid_is;
      array_oid_is = made.array_oid_is;
    }

-- Bytes spell one entry at most.
pub spelled_once : (bytes : List ℕ) (entry other : Found) → SpellsEntry bytes entry → SpellsEntry bytes other → entry ≡ other
spelled_once bytes entry other is is_other =
    let same : Some entry ≡ Some other = sym (spelled_found bytes entry is) ∙ spelled_found bytes other is_other in cc

-- the same of each of some texts
pub all_found : (texts : List (List ℕ)) (entries : List Found) → AllZip SpellsEntry texts entries → map entry_in texts ≡ map Some entries
all_found [] [] h = refl
all_found [] (entry ∷ entries) h = absurd h
all_found (text ∷ texts) [] h = absurd h
all_found (text ∷ texts) (entry ∷ entries) h =
    λ i. spelled_found text entry h.0 i ∷ all_found texts entries h.1 i

pub all_spelled : (texts : List (List ℕ)) (entries : List Found) → map entry_in texts ≡ map Some entries → AllZip SpellsEntry texts entries
all_spelled [] [] e = tt
all_spelled [] (entry ∷ entries) e = cc
all_spelled (text ∷ texts) [] e = cc
all_spelled (text ∷ texts) (entry ∷ entries) e = (found_spelled text entry (cc), all_spelled texts entries (cc))
