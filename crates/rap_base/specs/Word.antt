-- Words that some edition reserves or reads as contextual keywords, and where they are looked for in their table.
use Rattle.std.specs.Prelude.{ℕ, Bool, Option, is_some, List, ◌++◌, ◌+◌, ◌*◌, ◌/◌, ◌%◌, ◌||◌, ◌==◌, nat_le, length, slice_index_or}
use Rattle.rap_base.specs.Keyword.{kind_of_word, reserved, from_contextual_keyword}
use Rattle.rap_base.specs.KeywordTable.{contextual_ever}
use Rattle.rap_base.specs.TokenKind.{ASM_KW, DYN_KW, GEN_KW, TRY_KW, YIELD_KW}
use Rattle.rap_base.specs.declared.edition.Edition.{Edition}
use Rattle.rap_base.specs.declared.edition.Edition.TheVariants.{Edition2015, Edition2018, Edition2021, Edition2024}

-- a number made of a word's length, its first byte and the one in its middle
abbrev pub place : List ℕ → ℕ
place text = (192 * length text + 31 * slice_index_or text 0 0 + slice_index_or text (length text / 2) 0) % 512

-- the kind of a word that the latest edition reserves, or that is contextual in every edition
abbrev pub known_kind : List ℕ → Option ℕ
known_kind text = kind_of_word (reserved Edition2024 ++ contextual_ever) text

-- the last kind of a word that the edition reserves: those before it are reserved too
abbrev pub last_reserved : Edition → ℕ
last_reserved Edition2015 = YIELD_KW
last_reserved Edition2018 = TRY_KW
last_reserved Edition2021 = TRY_KW
last_reserved Edition2024 = GEN_KW

-- the kind of a known word is that of a contextual keyword of the edition
abbrev pub is_contextual_kind : Edition → ℕ → Bool
is_contextual_kind Edition2015 kind = nat_le ASM_KW kind || (kind == DYN_KW)
is_contextual_kind Edition2018 kind = nat_le ASM_KW kind
is_contextual_kind Edition2021 kind = nat_le ASM_KW kind
is_contextual_kind Edition2024 kind = nat_le ASM_KW kind

-- A text is a contextual keyword of some edition: then it is one of the first edition.
abbrev pub is_ever_contextual : List ℕ → Bool
is_ever_contextual text = is_some (from_contextual_keyword text Edition2015)
