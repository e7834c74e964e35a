-- The keys of the program's types, by their texts.
use Rattle.std.specs.Borrow.{Bor}
use Rattle.std.specs.Prelude.{ℕ, List, Option, option_map}
use Rattle.std.specs.Cow.{cow_str_bytes}
use Rattle.std.specs.declared.borrow.CowStr.{CowStr}
use Rattle.std.specs.declared.alloc.Global.{Global}
use Rattle.pgw_meta.specs.Known.{Key}
use Rattle.pgw_meta.specs.declared.key.PgMetadataCacheKey.{PgMetadataCacheKey}
use Rattle.pgw_meta.specs.declared.key.TypeKey.{TypeKey}

-- a text that may be there, borrowed or owned
abbrev pub cow_text_of : Option (CowStr Global) → Option (List ℕ)
cow_text_of text = option_map cow_str_bytes text

abbrev pub key_of : PgMetadataCacheKey → Key
key_of k = record { schema = cow_text_of k.schema; name = cow_str_bytes k.type_name }

abbrev pub owned_key : TypeKey → Key
owned_key k = record { schema = k.schema; name = k.name }

-- a text that may be there, as an argument
abbrev pub text_of : Option (Bor (List ℕ)) → Option (List ℕ)
text_of text = option_map (λ t. t.now) text
