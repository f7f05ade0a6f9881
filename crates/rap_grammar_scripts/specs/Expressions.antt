-- Expressions with operators.
use Rattle.std.specs.Prelude.{◌&&◌, not, [], ◌∷◌, codes, ℕ, if◌then◌else◌}
use Rattle.rap_base.specs.TokenKind.{AMP, STAR, BANG, MINUS, DOT2, DOT2EQ}
use Rattle.rap_grammar_scripts.specs.Atom.{atom_expr}
use Rattle.rap_grammar_scripts.specs.Attributes.{outer_attrs}
use Rattle.rap_grammar_scripts.specs.First.{one_of, is_expr_first}
use Rattle.rap_grammar_scripts.specs.Operators.{ref_expr, prefix_expr, climb}
use Rattle.rap_grammar_scripts.specs.Postfix.{postfix_expr}
use Rattle.rap_grammar_scripts.specs.Ranges.{prefix_range}
use Rattle.rap_grammar_scripts.specs.Recovery.{is_expr_recovery}
use Rattle.rap_grammar_scripts.specs.Script.{Script, nothing, give, after, abandon, block, test, extend, start}
use Rattle.rap_grammar_scripts.specs.Words.{is_block, if_some, next_is, choose, recover, ◌▸◌, done, call, next_so, is_at}
use Rattle.rap_grammar_scripts.specs.declared.arguments.Restrictions.{Restrictions}
use Rattle.rap_grammar_scripts.specs.declared.rule.Rule.{Rule}

-- an operand with what follows it
unfoldable pub lhs : Restrictions → Script Rule
lhs r =
    choose
    ((next_is AMP, ref_expr r)
    ∷ (next_so (one_of (STAR ∷ BANG ∷ MINUS ∷ [])), prefix_expr r)
    ∷ (is_at DOT2EQ, prefix_range r DOT2EQ)
    ∷ (is_at DOT2, prefix_range r DOT2)
    ∷ [])
    (after (atom_expr r) (λ v.
    if_some v (postfix_expr (not (r.prefer_stmt && is_block v)) (is_block v)) (give nothing)))

-- no expression begins
unfoldable pub missing_expr : Script Rule
missing_expr = recover (codes "expected expression") is_expr_recovery (abandon ▸ give nothing) (abandon ▸ give nothing)

-- an expression from the newest node on
unfoldable pub expr_from : Restrictions → ℕ → Script Rule
expr_from r bp =
    test (next_so is_expr_first)
    (after (lhs r) (λ v.
    if_some v (extend ▸ (if r.prefer_stmt && is_block v then give block else (call (climb r bp) ▸ done)))
    (abandon ▸ give nothing)))
    missing_expr

unfoldable pub expr_bp : Restrictions → ℕ → Script Rule
expr_bp r bp = start ▸ call outer_attrs ▸ expr_from r bp
