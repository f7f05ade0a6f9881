-- Which nodes can be parsed again from their own tokens, and that they are themselves again.
use Rattle.std.specs.Prelude.{◌≡◌, ℕ, ◌==◌, ◌&&◌, ◌||◌, if◌then◌else◌, Bool, false, List, [], ◌∷◌, length, Option, Some, None}
use Rattle.rap_base.specs.NodeKind.{BLOCK_EXPR, RECORD_FIELD_LIST, RECORD_EXPR_FIELD_LIST, VARIANT_LIST, MATCH_ARM_LIST, USE_TREE_LIST, EXTERN_ITEM_LIST, TOKEN_TREE, ASSOC_ITEM_LIST, ITEM_LIST, IMPL, TRAIT}
use Rattle.rap_base.specs.TokenKind.{L_CURLY}
use Rattle.rap_events.specs.Record.{Record, next_kind}
use Rattle.rap_events.specs.Forest.{Forest, none, node}
use Rattle.rap_grammar_scripts.specs.First.{one_of}
use Rattle.rap_grammar_ends.specs.StandsIn.{StandsIn}
use Rattle.rap_grammar_table.specs.Again.{IsTableTree}
use Rattle.rap_grammar.specs.Part.{part_kind, IsWhole}
use Rattle.rap_grammar.specs.declared.entry.part.Part.{Part}

-- whether this kind is there
abbrev pub is_kind : ℕ → Option ℕ → Bool
is_kind kind None = false
is_kind kind (Some k) = k == kind

-- whether a node of this kind, with this first child and in this parent, can be parsed again
abbrev pub can_reparse : ℕ → Option ℕ → Option ℕ → Bool
can_reparse kind first_child parent =
    one_of (BLOCK_EXPR ∷ RECORD_FIELD_LIST ∷ RECORD_EXPR_FIELD_LIST ∷ VARIANT_LIST ∷ MATCH_ARM_LIST ∷ USE_TREE_LIST ∷ EXTERN_ITEM_LIST ∷ ITEM_LIST ∷ []) kind
    || (((kind == TOKEN_TREE) && is_kind L_CURLY first_child)
    || ((kind == ASSOC_ITEM_LIST) && (is_kind IMPL parent || is_kind TRAIT parent)))

-- the kind of the node that is parsed again, if it can be
abbrev pub reparsed : ℕ → Option ℕ → Option ℕ → Option ℕ
reparsed kind first_child parent = if can_reparse kind first_child parent then Some kind else None

-- the kind of the node that is parsed again
abbrev pub kind_of : Option Part → Option ℕ
kind_of None = None
kind_of (Some p) = Some (part_kind p)

-- A tree of the core grammar, and this node begins with a brace.
abbrev pub HasNode : List Record → Forest → List Record → Type 0
HasNode tokens tree own = IsTableTree tokens tree × (next_kind own ≡ L_CURLY)

-- Wherever a node of this part stands in a core tree, with these tokens as its own: the output is that node, without a
-- message, and takes them all.
abbrev pub IsAgainItself : Part → List Record → Forest → Type 0
IsAgainItself part own output =
    (tokens : List Record) (tree children : Forest) → HasNode tokens tree own →
    StandsIn tokens tree own (part_kind part) children →
    IsWhole (node none (part_kind part) children) (length own) output
