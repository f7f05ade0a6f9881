-- Operators before and between operands.
-- In the Rust crate: `grammar/expressions.rs`.
use Rattle.std.specs.Prelude.{ℕ, ◌+◌, ◌==◌, if◌then◌else◌, false, Bool, nat_lt, [], ◌∷◌}
use Rattle.rap_base.specs.TokenKind.{AS_KW, IDENT, MUT_KW, CONST_KW, RAW_KW, AMP}
use Rattle.rap_base.specs.NodeKind.{BIN_EXPR, CAST_EXPR, REF_EXPR, PREFIX_EXPR}
use Rattle.rap_events.specs.Power.{power}
use Rattle.rap_grammar_scripts.specs.First.{one_of}
use Rattle.rap_grammar_scripts.specs.Operator.{operand_of, prefix_power}
use Rattle.rap_grammar_scripts.specs.Ranges.{range_expr}
use Rattle.rap_grammar_scripts.specs.Script.{Script, token, precede, finish, after, give, again, test, loop, bear, start, any}
use Rattle.rap_grammar_scripts.specs.Test.{kind_so, also, operator_so}
use Rattle.rap_grammar_scripts.specs.ThroughKnot.{type_no_bounds}
use Rattle.rap_grammar_scripts.specs.Words.{done, ◌▸◌, recur, call, if_some, reads_as, eat, is_at, by_operator}
use Rattle.rap_grammar_scripts.specs.declared.arguments.Restrictions.{Restrictions}
use Rattle.rap_grammar_scripts.specs.declared.rule.Rule.{Rule}
use Rattle.rap_grammar_scripts.specs.declared.rule.Rule.TheVariants as knot

-- the least power on the right of an operator: an assignment goes to the right
abbrev pub right_of : ℕ → ℕ
right_of op = if power op == 1 then 1 else power op + 1

-- an operator and its right operand, after the left one
unfoldable pub bin_expr : Restrictions → ℕ → Script Rule
bin_expr r op = precede ▸ token op ▸ recur (knot.ExprBp (operand_of r) (right_of op)) ▸ finish BIN_EXPR ▸ done

-- a type after `as`, after an operand
unfoldable pub cast_expr : Script Rule
cast_expr = precede ▸ token AS_KW ▸ call type_no_bounds ▸ finish CAST_EXPR ▸ done

-- an operator with its operand; a range without an end goes no further
abbrev pub operation : Restrictions → ℕ → Script Rule
operation r op =
    if op == AS_KW then call cast_expr ▸ give (again false false)
    else if power op == 2 then after (range_expr r op) (λ v. if_some v (give (again false false)) done)
    else (call (bin_expr r op) ▸ give (again false false))

-- the operator that comes next, if it has at least a power
abbrev pub climb_turn : Restrictions → ℕ → Bool → Bool → Script Rule
climb_turn r bp a b = test (operator_so (λ op. nat_lt (power op) bp)) done (by_operator (operation r))

-- the operators of at least a power after an operand
unfoldable pub climb : Restrictions → ℕ → Script Rule
climb r bp = loop (climb_turn r bp) false false

-- what stands between the `&` of a reference and its operand
unfoldable pub ref_qualifier : Script Rule
ref_qualifier =
    test (also (reads_as RAW_KW) (kind_so 1 (one_of (MUT_KW ∷ CONST_KW ∷ IDENT ∷ []))))
    (bear RAW_KW ▸ test (is_at CONST_KW) (token CONST_KW ▸ done) (eat MUT_KW ▸ done))
    (eat MUT_KW ▸ done)

unfoldable pub ref_expr : Restrictions → Script Rule
ref_expr r =
    start ▸ token AMP ▸ call ref_qualifier ▸ recur (knot.ExprBp r prefix_power) ▸ finish REF_EXPR ▸ done

unfoldable pub prefix_expr : Restrictions → Script Rule
prefix_expr r = start ▸ any ▸ recur (knot.ExprBp r prefix_power) ▸ finish PREFIX_EXPR ▸ done
