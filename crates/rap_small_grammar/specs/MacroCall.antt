-- Balanced tokens in brackets, and a macro call in the place of an item.
use Rattle.std.specs.Prelude.{List, [], ◌∷◌, ◌++◌}
use Rattle.rap_base.specs.TokenKind.{IDENT, BANG, L_CURLY, R_CURLY}
use Rattle.rap_base.specs.NodeKind.{MACRO_CALL, PATH, PATH_SEGMENT, NAME_REF, TOKEN_TREE}
use Rattle.rap_events.specs.Record.{Record}
use Rattle.rap_events.specs.Forest.{Forest, none, node, leaf, ◌⧺◌}
use Rattle.rap_grammar_scripts.specs.Balanced.{Balanced, ArePartners, in_brackets}
use Rattle.rap_small_grammar.specs.Derives.{IsName, Is}

-- Two brackets that belong together, with tokens between them whose brackets are balanced, and the node that nests as
-- they do.
pub data IsBracketed : List Record → Forest → Type 0 where
  brackets_around : {a c : Record} {ks : List Record} {t : Forest} → ArePartners a c → Balanced ks t →
      IsBracketed (a ∷ (ks ++ c ∷ [])) (in_brackets a t c)

-- the tree of a call: the path of its name, the `!`, and what stands in its braces
abbrev pub call_tree : Forest → Forest
call_tree t =
    node none MACRO_CALL (node (leaf (node none PATH (node none PATH_SEGMENT (node none NAME_REF
    (leaf none IDENT 1)))) BANG 1)
    TOKEN_TREE (leaf (leaf none L_CURLY 1 ⧺ t) R_CURLY 1))

-- A name that is read as nothing else, `!`, and any tokens whose brackets are balanced, in braces: a `MACRO_CALL`,
-- whose `TOKEN_TREE` nests as the brackets do.
pub data IsMacroCall : List Record → Forest → Type 0 where
  called : {r e a c : Record} {ks : List Record} {t : Forest} → IsName r → Is e BANG → Is a L_CURLY → Balanced ks t →
      Is c R_CURLY → IsMacroCall (r ∷ e ∷ a ∷ (ks ++ c ∷ [])) (call_tree t)
