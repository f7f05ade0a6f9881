-- Imports.
use Rattle.std.specs.Prelude.{ℕ, Bool, List, [], ◌∷◌, ◌||◌, codes}
use Rattle.rap_base.specs.TokenKind.{COLON2, COMMA, DOT, SEMICOLON, STAR, L_CURLY, R_CURLY, IDENT, USE_KW, AS_KW}
use Rattle.rap_base.specs.NodeKind.{USE, USE_TREE, USE_TREE_LIST}
use Rattle.rap_grammar_scripts.specs.ThroughKnot as through_knot
use Rattle.rap_grammar_scripts.specs.First.{one_of, is_use_path_start}
use Rattle.rap_grammar_scripts.specs.Lists.{delimited}
use Rattle.rap_grammar_scripts.specs.Names.{opt_rename}
use Rattle.rap_grammar_scripts.specs.Paths.{use_path}
use Rattle.rap_grammar_scripts.specs.declared.rule.Rule.{Rule}
use Rattle.rap_grammar_scripts.specs.Recovery.{is_item_recovery}
use Rattle.rap_grammar_scripts.specs.Script.{Script, test, token, report, skip, start, finish}
use Rattle.rap_grammar_scripts.specs.Test.{Test, kind_so, also, or_else}
use Rattle.rap_grammar_scripts.specs.Words.{done, expect, recover, ◌▸◌, call, choose, only_if, next_so, is_at}

-- a star, or a list in its braces
abbrev pub is_group_first : ℕ → Bool
is_group_first kind = one_of (STAR ∷ L_CURLY ∷ []) kind

-- the same after `::`
abbrev pub is_global_group_start : Test
is_global_group_start = also (is_at COLON2) (kind_so 2 is_group_first)

-- a tree of names comes next
abbrev pub is_use_tree_start : Test
is_use_tree_start = or_else (next_so is_group_first) is_use_path_start

-- the search for a tree in braces: where it ends, the list goes on
abbrev pub is_use_tree_list_recovery : ℕ → Bool
is_use_tree_list_recovery kind = one_of (SEMICOLON ∷ COMMA ∷ DOT ∷ IDENT ∷ []) kind || is_item_recovery kind

-- where a comma between two trees is missed
abbrev pub is_use_tree_list_first : ℕ → Bool
is_use_tree_list_first kind = one_of (L_CURLY ∷ IDENT ∷ []) kind

abbrev pub missing_use_tree : List ℕ
missing_use_tree = codes "expected one of `*`, `::`, `{`, `self`, `super` or an identifier"

-- a tree in braces; where none begins, a token is skipped too
unfoldable pub nested_use_tree : Script Rule
nested_use_tree =
    test is_use_tree_start through_knot.use_tree
    (skip missing_use_tree ▸ only_if (next_so is_use_tree_list_recovery) done)

unfoldable pub use_tree_list : Script Rule
use_tree_list =
    start ▸ call (delimited nested_use_tree L_CURLY R_CURLY COMMA (codes "expected use tree") is_use_tree_list_first) ▸
    finish USE_TREE_LIST ▸ done

unfoldable pub group : Script Rule
group = test (is_at STAR) (token STAR ▸ done) use_tree_list

-- what stands after a path and its `::`
unfoldable pub group_behind : Script Rule
group_behind =
    token COLON2 ▸ test (next_so is_group_first) group (report (codes "expected `{` or `*`") ▸ done)

-- what stands after a path
unfoldable pub after_use_path : Script Rule
after_use_path = choose ((is_at AS_KW, opt_rename) ∷ (is_at COLON2, group_behind) ∷ []) done

-- a tree of names, of which one begins
unfoldable pub use_tree : Script Rule
use_tree =
    start ▸
    choose
    ((next_so is_group_first, call group ▸ finish USE_TREE ▸ done)
    ∷ (is_global_group_start, token COLON2 ▸ call group ▸ finish USE_TREE ▸ done)
    ∷ [])
    (call use_path ▸ call after_use_path ▸ finish USE_TREE ▸ done)

-- the tree of an import; where none begins, the next token is skipped too, unless an item begins there
unfoldable pub expect_use_tree : Script Rule
expect_use_tree = test is_use_tree_start use_tree (recover missing_use_tree is_item_recovery done done)

unfoldable pub use_ : Script Rule
use_ = token USE_KW ▸ call expect_use_tree ▸ expect SEMICOLON ▸ finish USE ▸ done
