-- Keys are the same exactly where their texts are, and what a map holds is held by the texts of its keys.
use Rattle.std.proofs.Common.{◌≡◌, ℕ, Bool, true, false, cond, ◌&&◌, List, [], ◌∷◌, Ok, Option, Some, None, option_map, Decides, Global, refl, sym, ap, ◌∙◌}
use Rattle.std.specs.Option.{option_eq, option_or}
use Rattle.std.specs.Cow.{cow_str_bytes}
use Rattle.std.specs.Str.{bytes_eq}
use Rattle.std.specs.Map.{lookup, KeepsOthers, IsKeyTest, AreApart}
use Rattle.std.specs.declared.borrow.CowStr.{CowStr}
use Rattle.std.proofs.lemmas.Slice.Eq.{bytes_eq-Decides}
use Rattle.std.proofs.lemmas.Bool.{false≢true}
use Rattle.std.proofs.lemmas.Bool.Decides.{Decides-and}
use Rattle.std.proofs.lemmas.Option.{none-some}
use Rattle.pgw_meta.specs.Known.{Key, Oids, Known}
use Rattle.pgw_meta.specs.Keys.{key_of, cow_text_of}
use Rattle.pgw_meta.specs.Metadata.{oids_of, metadata_of}
use Rattle.pgw_meta.specs.Needs.{is_same_key}
use Rattle.pgw_meta.specs.Cached.{entries_of, cached, behind_cache}
use Rattle.pgw_meta.specs.declared.backend.InnerPgTypeMetadata.{InnerPgTypeMetadata}
use Rattle.pgw_meta.specs.declared.backend.PgTypeMetadata.{PgTypeMetadata}
use Rattle.pgw_meta.specs.declared.key.PgMetadataCacheKey.{PgMetadataCacheKey}

texts_Decides : (a b : Option (List ℕ)) → Decides (option_eq bytes_eq a b) (a ≡ b)
texts_Decides None None = (λ _. refl, λ _. refl)
texts_Decides None (Some b) = (λ e. absurd (false≢true e), λ e. absurd (none-some b e))
texts_Decides (Some a) None = (λ e. absurd (false≢true e), λ e. absurd (none-some a (sym e)))
texts_Decides (Some a) (Some b) = (λ e. ap Some ((bytes_eq-Decides a b).0 e), λ e. (bytes_eq-Decides a b).1 (cc))

pub is_same_key-Decides : (a b : Key) → Decides (is_same_key a b) (a ≡ b)
is_same_key-Decides a b =
    let both = Decides-and _ _ (texts_Decides a.schema b.schema) (bytes_eq-Decides a.name b.name) in
    (λ e. let p = both.0 e in (λ i. record { schema = p.0 i; name = p.1 i }), λ e. both.1 (ap (λ (k : Key). k.schema) e, ap (λ (k : Key). k.name) e))

schemas_same : (a b : Option (CowStr Global)) → option_eq (λ x y. bytes_eq (cow_str_bytes x) (cow_str_bytes y)) a b ≡ option_eq bytes_eq (cow_text_of a) (cow_text_of b)
schemas_same None None = refl
schemas_same None (Some b) = refl
schemas_same (Some a) None = refl
schemas_same (Some a) (Some b) = refl

-- what `==` of two keys answers
abbrev pub key_eq : PgMetadataCacheKey → PgMetadataCacheKey → Bool
key_eq x y = option_eq (λ a b. bytes_eq (cow_str_bytes a) (cow_str_bytes b)) x.schema y.schema && bytes_eq (cow_str_bytes x.type_name) (cow_str_bytes y.type_name)

key_eq_is : (x y : PgMetadataCacheKey) → key_eq x y ≡ is_same_key (key_of x) (key_of y)
key_eq_is x y = ap (λ (b : Bool). b && bytes_eq (cow_str_bytes x.type_name) (cow_str_bytes y.type_name)) (schemas_same x.schema y.schema)

-- the test that a key of the map has these texts
abbrev has_texts : Key → PgMetadataCacheKey → Bool
has_texts k x = is_same_key k (key_of x)

cached_is : (es : List (PgMetadataCacheKey × InnerPgTypeMetadata)) (k : Key) → cached (entries_of es) k ≡ option_map oids_of (lookup (has_texts k) es)
cached_is [] k = refl
cached_is (e ∷ es) k = by (has_texts k e.0) (cached_is es k)
  where
    by : (b : Bool) → cached (entries_of es) k ≡ option_map oids_of (lookup (has_texts k) es)
        → cond b (Some (oids_of e.1)) (cached (entries_of es) k) ≡ option_map oids_of (cond b (Some e.1) (lookup (has_texts k) es))
    by true more = refl
    by false more = more

lookup_by_texts : (q : PgMetadataCacheKey) (es : List (PgMetadataCacheKey × InnerPgTypeMetadata)) → lookup (has_texts (key_of q)) es ≡ lookup (key_eq q) es
lookup_by_texts q es = ap (λ test. lookup test es) (λ i x. sym (key_eq_is q x) i)

-- What a look-up by `==` finds is what the cache holds.
pub found_is_cached : (q : PgMetadataCacheKey) (es : List (PgMetadataCacheKey × InnerPgTypeMetadata)) → cached (entries_of es) (key_of q) ≡ option_map oids_of (lookup (key_eq q) es)
found_is_cached q es = cached_is es (key_of q) ∙ ap (option_map oids_of) (lookup_by_texts q es)

-- the same under the cache's own name
pub found_in_cache : (q : PgMetadataCacheKey) (es : List (PgMetadataCacheKey × InnerPgTypeMetadata)) (now : List (Key × Oids)) (r : Option InnerPgTypeMetadata)
    → r ≡ lookup (key_eq q) es → entries_of es ≡ now → option_map oids_of r ≡ cached now (key_of q)
found_in_cache q es now r found view =
    ap (option_map oids_of) found ∙ sym (found_is_cached q es) ∙ ap (λ (is : List (Key × Oids)). cached is (key_of q)) view

-- Where no metadata are answered, nothing is cached.
pub not_cached : (r : Option PgTypeMetadata) (o : Option Oids) → r ≡ None → option_map metadata_of r ≡ option_map Ok o → o ≡ None
not_cached r None is e = refl
not_cached r (Some oids) is e = absurd (none-some (Ok oids) (sym (ap (option_map metadata_of) is) ∙ e))

-- A cache in which one key of a map is overwritten.
pub stored_is_cached : (q : PgMetadataCacheKey) (w : InnerPgTypeMetadata) (old new : List (PgMetadataCacheKey × InnerPgTypeMetadata))
    → lookup (key_eq q) new ≡ Some w → KeepsOthers key_eq (key_eq q) old new
    → (k : Key) → cached (entries_of new) k ≡ cond (is_same_key k (key_of q)) (Some (oids_of w)) (cached (entries_of old) k)
unfolding KeepsOthers
stored_is_cached q w old new has others k = by (is_same_key k (key_of q)) refl
  where
    by : (b : Bool) → is_same_key k (key_of q) ≡ b → cached (entries_of new) k ≡ cond b (Some (oids_of w)) (cached (entries_of old) k)
    by true is =
        let same : k ≡ key_of q = (is_same_key-Decides k (key_of q)).0 is in
        ap (cached (entries_of new)) same ∙ found_is_cached q new ∙ ap (option_map oids_of) has
    by false is =
        let test : IsKeyTest key_eq (has_texts k) = λ x y h.
        let same : k ≡ key_of x = (is_same_key-Decides k (key_of x)).0 h in
        ap (λ (j : Key). is_same_key j (key_of y)) same ∙ sym (key_eq_is x y) in
        let apart : AreApart (key_eq q) (has_texts k) = λ x h.
        let same : key_of q ≡ key_of x = (is_same_key-Decides (key_of q) (key_of x)).0 (sym (key_eq_is q x) ∙ h) in
        ap (is_same_key k) (sym same) ∙ is in
        cached_is new k ∙ ap (option_map oids_of) (others (has_texts k) test apart) ∙ sym (cached_is old k)

-- What is known behind a cache that holds nothing is what is known.
pub behind_nothing : (told : Option Known) → option_map (behind_cache []) told ≡ told
behind_nothing None = refl
behind_nothing (Some known) = refl

-- What is known behind a cache stays, where the cache gets what was found of a key that it did not hold.
behind_more : (old new : List (Key × Oids)) (key : Key) (oids : Oids) (known : Known) → cached old key ≡ None
    → ((k : Key) → cached new k ≡ cond (is_same_key k key) (Some oids) (cached old k)) → Some oids ≡ known key
    → (k : Key) → behind_cache new known k ≡ behind_cache old known k
behind_more old new key oids known none stored is k = by (is_same_key k key) refl (stored k)
  where
    by : (b : Bool) → is_same_key k key ≡ b → cached new k ≡ cond b (Some oids) (cached old k) → behind_cache new known k ≡ behind_cache old known k
    by true same now =
        let here : k ≡ key = (is_same_key-Decides k key).0 same in
        ap (λ (o : Option Oids). option_or o (known k)) now ∙ is ∙ ap known (sym here)
        ∙ ap (λ (o : Option Oids). option_or o (known k)) (sym (ap (cached old) here ∙ none))
    by false same now = ap (λ (o : Option Oids). option_or o (known k)) now

pub behind_kept : (old new : List (Key × Oids)) (key : Key) (oids : Oids) (told : Option Known) → cached old key ≡ None
    → ((k : Key) → cached new k ≡ cond (is_same_key k key) (Some oids) (cached old k)) → ((known : Known) → told ≡ Some known → Some oids ≡ known key)
    → option_map (behind_cache new) told ≡ option_map (behind_cache old) told
behind_kept old new key oids None none stored is = refl
behind_kept old new key oids (Some known) none stored is = ap Some (λ i k. behind_more old new key oids known none stored (is known refl) k i)
