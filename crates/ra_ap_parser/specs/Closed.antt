-- Which nodes end with a brace of their own.
use Rattle.std.specs.Prelude.{◌≡◌, ℕ, zero, suc, ◌-◌, ◌==◌, ◌&&◌, Bool, true, false, List, length}
use Rattle.rap_base.specs.NodeKind.{BLOCK_EXPR, STMT_LIST}
use Rattle.rap_base.specs.TokenKind.{ERROR, L_CURLY, R_CURLY}
use Rattle.rap_events.specs.Forest.{Forest, none, node, leaf, message, split, used}
use Rattle.rap_lexed.specs.LexedStr.{Token, token_at}
use Rattle.rap_lexed.specs.Trivia.{significant}
use Rattle.rap_grammar.specs.declared.entry.part.Part.{Part}
use Rattle.rap_grammar.specs.declared.entry.part.Part.TheVariants as part

-- Whether the last thing is a `}` that stands in so many nodes, each the last thing in the one around it.
abbrev pub ends_in_brace : ℕ → Forest → Bool
ends_in_brace n none = false
ends_in_brace zero (node before kind children) = false
ends_in_brace (suc n) (node before kind children) = ends_in_brace n children
ends_in_brace zero (leaf before kind width) = kind == R_CURLY
ends_in_brace (suc n) (leaf before kind width) = false
ends_in_brace n (message before bytes) = false
ends_in_brace n (split before ends_in_dot) = false

-- How deep the braces of a part stand in it: in its node, but those of a block in the list of statements inside it.
abbrev pub brace_depth : Part → ℕ
brace_depth part.Visibility = 1
brace_depth part.Path = 1
brace_depth part.Block = 2
brace_depth part.RecordFieldList = 1
brace_depth part.RecordExprFieldList = 1
brace_depth part.VariantList = 1
brace_depth part.MatchArmList = 1
brace_depth part.UseTreeList = 1
brace_depth part.ExternItemList = 1
brace_depth part.TokenTree = 1
brace_depth part.AssocItemList = 1
brace_depth part.ItemList = 1

-- Whether a part that is this output of these tokens is all of them, from the `{` that they begin with to the part's own
-- `}`, the last of them.
abbrev pub is_closed : Part → List Token → Forest → Bool
is_closed p tokens output =
    (((token_at tokens 0).kind == L_CURLY) && ((token_at tokens (length tokens - 1)).kind == R_CURLY))
    && ((used output == significant tokens) && ends_in_brace (brace_depth p) output)

-- What that says of small outputs, whatever stands before the last thing in each node: a `}` that is the last thing in a
-- list in braces, or in the statements of a block, closes it; one in an `ERROR` or in another node at the end does not, nor
-- does one that a message stands behind.
pub record ClosesByOwnBrace : Type 0 where
  pub list : (before inner : Forest) (kind width : ℕ) → ends_in_brace 1 (node before kind (leaf inner R_CURLY width)) ≡ true
  pub block : (before label inner : Forest) (width : ℕ) → ends_in_brace 2 (node before BLOCK_EXPR (node label STMT_LIST (leaf inner R_CURLY width))) ≡ true
  pub taken : (before inner some : Forest) (kind width : ℕ) → ends_in_brace 1 (node before kind (node inner ERROR (leaf some R_CURLY width))) ≡ false
  pub inner : (before label some more : Forest) (kind width : ℕ) → ends_in_brace 2 (node before BLOCK_EXPR (node label STMT_LIST (node some kind (leaf more R_CURLY width)))) ≡ false
  pub behind : (before inner : Forest) (kind width : ℕ) (text : List ℕ) → ends_in_brace 1 (node before kind (message (leaf inner R_CURLY width) text)) ≡ false
  pub missing : (before inner : Forest) (kind other width : ℕ) → (other ≡ R_CURLY → ⊥) → ends_in_brace 1 (node before kind (leaf inner other width)) ≡ false
