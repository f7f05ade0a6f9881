-- Keywords: words with a kind of their own.
use Rattle.std.specs.Prelude.{ℕ, Bool, Option, Some, None, List, [], ◌∷◌, ◌++◌, ◌==◌, ◌||◌, ◌&&◌, ◌-◌, nat_le, map, codes, bytes_eq, if◌then◌else◌}
use Rattle.std.specs.List.{list_any}
use Rattle.rap_base.specs.declared.edition.Edition.{Edition}
use Rattle.rap_base.specs.declared.edition.Edition.TheVariants.{Edition2015, Edition2018, Edition2021, Edition2024}
use Rattle.rap_base.specs.KeywordTable.{reserved_ever, reserved_2018, reserved_2024, contextual_ever}
use Rattle.rap_base.specs.TokenKind.{IDENT, DYN_KW}

-- the words that an edition reserves
abbrev pub reserved : Edition → List (List ℕ × ℕ)
reserved Edition2015 = reserved_ever
reserved Edition2018 = reserved_2018 ++ reserved_ever
reserved Edition2021 = reserved_2018 ++ reserved_ever
reserved Edition2024 = reserved_2024 ++ reserved_2018 ++ reserved_ever

-- the contextual words of an edition: `dyn` is one until it is reserved
abbrev pub contextual : Edition → List (List ℕ × ℕ)
contextual Edition2015 = (codes "dyn", DYN_KW) ∷ contextual_ever
contextual Edition2018 = contextual_ever
contextual Edition2021 = contextual_ever
contextual Edition2024 = contextual_ever

-- the kind that a table gives to a word
abbrev pub kind_of_word : List (List ℕ × ℕ) → List ℕ → Option ℕ
kind_of_word [] text = None
kind_of_word (row ∷ rows) text = if bytes_eq text row.0 then Some row.1 else kind_of_word rows text

-- the kind of a text that the edition reserves
abbrev pub from_keyword : List ℕ → Edition → Option ℕ
from_keyword text edition = kind_of_word (reserved edition) text

-- the kind of a text that is a contextual word in the edition
abbrev pub from_contextual_keyword : List ℕ → Edition → Option ℕ
from_contextual_keyword text edition = kind_of_word (contextual edition) text

-- a kind that a table gives to some word
abbrev pub has_kind : List (List ℕ × ℕ) → ℕ → Bool
has_kind rows kind = list_any (λ row. row.1 == kind) rows

-- the kind of a keyword of the edition, contextual ones included
abbrev pub is_keyword : ℕ → Edition → Bool
is_keyword kind edition = has_kind (reserved edition) kind || has_kind (contextual edition) kind

-- an identifier, or what is a keyword in the latest edition
abbrev pub is_any_identifier : ℕ → Bool
is_any_identifier kind = kind == IDENT || is_keyword kind Edition2024

-- the capital of a small letter; any other byte is unchanged
abbrev pub capital : ℕ → ℕ
capital letter = if nat_le 97 letter && nat_le letter 122 then letter - 32 else letter

-- the name of a keyword's kind: the word in capitals and `_KW`, but `Self` would have that of `self`
abbrev pub keyword_name : List ℕ → List ℕ
keyword_name word = if bytes_eq word (codes "Self") then codes "SELF_TYPE_KW" else (map capital word ++ codes "_KW")
