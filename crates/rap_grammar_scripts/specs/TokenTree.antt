-- Lists of tokens in brackets, and macro calls.
-- In the Rust crate: `grammar/items.rs`.
use Rattle.std.specs.Prelude.{ℕ, Bool, false, [], ◌∷◌, codes}
use Rattle.rap_base.specs.TokenKind.{EOF, L_PAREN, R_PAREN, L_BRACK, R_BRACK, L_CURLY, R_CURLY, BANG, NEQ}
use Rattle.rap_base.specs.NodeKind.{TOKEN_TREE}
use Rattle.rap_grammar_scripts.specs.First.{one_of, is_bracket}
use Rattle.rap_grammar_scripts.specs.declared.rule.Rule.{Rule}
use Rattle.rap_grammar_scripts.specs.declared.rule.Rule.TheVariants as knot
use Rattle.rap_grammar_scripts.specs.Script.{Script, nothing, block, give, token, any, report, skip, start, finish, after, loop, again}
use Rattle.rap_grammar_scripts.specs.Test.{Test, negated, also}
use Rattle.rap_grammar_scripts.specs.Words.{done, if_some, next_is, expect, ◌▸◌, call, recur, choose, next_so, is_at}

-- A bracket that closes no list of these goes into an `ERROR`, but a brace ends the list.
abbrev pub tokens_turn : ℕ → Bool → Bool → Script Rule
tokens_turn ket a b =
    choose
    ((is_at EOF, done)
    ∷ (is_at ket, done)
    ∷ (next_so is_bracket, recur knot.TokenTree ▸ give (again a b))
    ∷ (next_is R_CURLY, report (codes "unmatched `}`") ▸ give nothing)
    ∷ (next_so (one_of (R_PAREN ∷ R_BRACK ∷ [])), skip (codes "unmatched brace") ▸ give (again a b))
    ∷ [])
    (any ▸ give (again a b))

-- tokens, and lists of them in brackets, up to the bracket that closes this one; nothing where a brace is in the way
unfoldable pub tokens_to : ℕ → Script Rule
tokens_to ket = loop (tokens_turn ket) false false

-- a list of tokens in its brackets, the second of them this one
abbrev pub tokens_in : ℕ → Script Rule
tokens_in ket =
    start ▸ any ▸
    after (tokens_to ket) (λ v. if_some v (expect ket ▸ finish TOKEN_TREE ▸ done) (finish TOKEN_TREE ▸ done))

unfoldable pub token_tree : Script Rule
token_tree =
    choose
    ((next_is L_PAREN, tokens_in R_PAREN)
    ∷ (next_is L_BRACK, tokens_in R_BRACK)
    ∷ [])
    (tokens_in R_CURLY)

-- the `!` of a macro call comes next, and no `!=`
abbrev pub starts_macro_call : Test
starts_macro_call = also (is_at BANG) (negated (is_at NEQ))

-- a macro call after its path; with braces it reads like a block
unfoldable pub macro_call_after_excl : Script Rule
macro_call_after_excl =
    token BANG ▸
    choose
    ((next_is L_CURLY, call token_tree ▸ give block)
    ∷ (next_so is_bracket, call token_tree ▸ done)
    ∷ [])
    (report (codes "expected `{`, `[`, `(`") ▸ done)
