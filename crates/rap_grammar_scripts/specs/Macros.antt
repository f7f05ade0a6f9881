-- Macros, and calls of them in the place of an item.
-- In the Rust crate: `grammar/items.rs`.
use Rattle.std.specs.Prelude.{[], ◌∷◌, codes}
use Rattle.rap_base.specs.TokenKind.{L_PAREN, L_BRACK, L_CURLY, SEMICOLON, BANG, MACRO_KW, MACRO_RULES_KW}
use Rattle.rap_base.specs.NodeKind.{MACRO_RULES, MACRO_DEF, MACRO_CALL}
use Rattle.rap_grammar_scripts.specs.First.{one_of, is_bracket}
use Rattle.rap_grammar_scripts.specs.Names.{name, name_r}
use Rattle.rap_grammar_scripts.specs.declared.rule.Rule.{Rule}
use Rattle.rap_grammar_scripts.specs.Recovery.{is_item_recovery}
use Rattle.rap_grammar_scripts.specs.Script.{Script, Outcome, nothing, something, block, again, test, token, bear, report, finish, after}
use Rattle.rap_grammar_scripts.specs.TokenTree.{token_tree, macro_call_after_excl}
use Rattle.rap_grammar_scripts.specs.Words.{done, next_is, expect, ◌▸◌, call, choose, next_so, is_at}

-- the rules of a macro in their brackets; a semicolon stands after other brackets than braces
unfoldable pub rules_in_brackets : Script Rule
rules_in_brackets =
    choose
    ((next_so (one_of (L_BRACK ∷ L_PAREN ∷ [])), call token_tree ▸ expect SEMICOLON ▸ done)
    ∷ (next_is L_CURLY, token_tree)
    ∷ [])
    (report (codes "expected `{`, `[`, `(`") ▸ done)

unfoldable pub macro_rules : Script Rule
macro_rules = bear MACRO_RULES_KW ▸ expect BANG ▸ call name ▸ call rules_in_brackets ▸ finish MACRO_RULES ▸ done

-- what a macro is expanded to, after its parameters
unfoldable pub macro_def_body : Script Rule
macro_def_body =
    test (next_so is_bracket) token_tree (report (codes "expected `{`, `[`, `(`") ▸ done)

unfoldable pub macro_def_tokens : Script Rule
macro_def_tokens =
    choose
    ((is_at L_CURLY, token_tree)
    ∷ (is_at L_PAREN, call token_tree ▸ macro_def_body)
    ∷ [])
    (report (codes "unmatched `(`") ▸ done)

unfoldable pub macro_def : Script Rule
macro_def = token MACRO_KW ▸ call (name_r is_item_recovery) ▸ call macro_def_tokens ▸ finish MACRO_DEF ▸ done

-- a semicolon, but not after braces
abbrev pub semicolon_after : Outcome → Script Rule → Script Rule
semicolon_after nothing s = expect SEMICOLON ▸ s
semicolon_after something s = expect SEMICOLON ▸ s
semicolon_after block s = s
semicolon_after (again a b) s = s

-- a macro call after its path, whose node is open
unfoldable pub macro_call : Script Rule
macro_call = after macro_call_after_excl (λ v. semicolon_after v (finish MACRO_CALL done))
