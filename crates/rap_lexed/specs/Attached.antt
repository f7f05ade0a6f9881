-- The attached tail: which of the trivia right before a node stand inside it.
use Rattle.std.specs.Prelude.{ℕ, ◌+◌, ◌-◌, ◌==◌, nat_eq, Bool, false, not, ◌&&◌, ◌||◌, if◌then◌else◌, List, [], ◌∷◌, length, take, drop, reverse, codes}
use Rattle.std.specs.List.{list_any, starts_with}
use Rattle.rap_base.specs.TokenKind.{COMMENT, WHITESPACE}
use Rattle.rap_base.specs.NodeKind.{CONST, ENUM, EXTERN_CRATE, FN, IMPL, MACRO_CALL, MACRO_DEF, MACRO_RULES, MODULE, RECORD_FIELD, STATIC, STRUCT, TRAIT, TUPLE_FIELD, TYPE_ALIAS, UNION, USE, VARIANT}
use Rattle.rap_lexed.specs.Reported.{holds_pair}
use Rattle.rap_lexed.specs.Token.{Token}

-- A node of this kind takes a tail: an item's, a field's, a variant's or a macro call's.
abbrev pub takes_tail : ℕ → Bool
takes_tail kind =
    kind == CONST ||
    kind == ENUM ||
    kind == FN ||
    kind == IMPL ||
    kind == MACRO_CALL ||
    kind == MACRO_DEF ||
    kind == MACRO_RULES ||
    kind == MODULE ||
    kind == RECORD_FIELD ||
    kind == STATIC ||
    kind == STRUCT ||
    kind == TRAIT ||
    kind == TUPLE_FIELD ||
    kind == TYPE_ALIAS ||
    kind == UNION ||
    kind == USE ||
    kind == VARIANT ||
    kind == EXTERN_CRATE

abbrev pub is_comment : Token → Bool
is_comment t = t.kind == COMMENT

-- a white space that holds two line feeds in a row
abbrev pub holds_blank_line : Token → Bool
holds_blank_line t = t.kind == WHITESPACE && holds_pair 0xa 0xa t.text

-- a plain comment that begins as a doc comment: only `/**/` is one
abbrev pub looks_like_doc : Token → Bool
looks_like_doc t =
    is_comment t && (starts_with nat_eq t.text (codes "/**") && not (starts_with nat_eq t.text (codes "/***")))

-- such a comment stands first
abbrev pub doc_is_first : List Token → Bool
doc_is_first [] = false
doc_is_first (t ∷ ts) = looks_like_doc t

-- Of the trivia before a node, the nearest first, those that a walk back from the node reaches. It stops at a white
-- space that holds two line feeds in a row, unless the trivia just before that one is `/**/`.
abbrev pub reached : List Token → List Token
reached [] = []
reached (t ∷ before) = if holds_blank_line t && not (doc_is_first before) then [] else t ∷ reached before

-- how many of them there are up to the farthest comment, and none where there is no comment
abbrev pub up_to_farthest : List Token → ℕ
up_to_farthest [] = 0
up_to_farthest (t ∷ before) = if list_any is_comment (t ∷ before) then 1 + up_to_farthest before else 0

-- how many of the trivia right before an item's node its tail has: it begins at the farthest comment reached
abbrev pub item_tail_len : List Token → ℕ
item_tail_len trivia = up_to_farthest (reached (reverse trivia))

-- how many of them the tail of a node of this kind has
abbrev pub tail_len : ℕ → List Token → ℕ
tail_len kind trivia = if takes_tail kind then item_tail_len trivia else 0

-- the tail, which stands inside the node
abbrev pub attached_tail : ℕ → List Token → List Token
attached_tail kind trivia = drop (length trivia - tail_len kind trivia) trivia

-- the trivia before it, which stand before the node
abbrev pub before_tail : ℕ → List Token → List Token
before_tail kind trivia = take (length trivia - tail_len kind trivia) trivia
