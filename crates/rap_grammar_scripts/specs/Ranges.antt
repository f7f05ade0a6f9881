-- Ranges.
-- In the Rust crate: `grammar/expressions.rs`.
use Rattle.std.specs.Prelude.{Bool, ℕ}
use Rattle.rap_base.specs.TokenKind.{L_CURLY, IDENT, DOT}
use Rattle.rap_base.specs.NodeKind.{RANGE_EXPR}
use Rattle.rap_grammar_scripts.specs.First.{is_expr_first}
use Rattle.rap_grammar_scripts.specs.Operator.{operand_of}
use Rattle.rap_grammar_scripts.specs.Script.{Script, nothing, give, test, token, start, precede, finish}
use Rattle.rap_grammar_scripts.specs.Test.{Test, negated, also, told}
use Rattle.rap_grammar_scripts.specs.Words.{done, ◌▸◌, recur, next_is, next_so, kind_is}
use Rattle.rap_grammar_scripts.specs.declared.arguments.Restrictions.{Restrictions}
use Rattle.rap_grammar_scripts.specs.declared.rule.Rule.{Rule}
use Rattle.rap_grammar_scripts.specs.declared.rule.Rule.TheVariants as knot

-- An end follows the dots of a range: an expression begins, and it is no access to a field or a method of the range,
-- nor, where no record literal may stand, a `{`.
unfoldable pub has_range_end : Bool → Test
has_range_end forbid_structs =
    also (next_so is_expr_first)
    (also (negated (also (next_is DOT) (kind_is 1 IDENT))) (negated (also (told forbid_structs) (next_is L_CURLY))))

-- the dots of a range after its start, and whether an end followed
unfoldable pub range_expr : Restrictions → ℕ → Script Rule
range_expr r op =
    precede ▸ token op ▸
    test (has_range_end r.forbid_structs) (recur (knot.ExprBp (operand_of r) 3) ▸ finish RANGE_EXPR ▸ done)
    (finish RANGE_EXPR ▸ give nothing)

-- a range without a start
unfoldable pub prefix_range : Restrictions → ℕ → Script Rule
prefix_range r op =
    start ▸ token op ▸
    test (has_range_end r.forbid_structs) (recur (knot.ExprBp r 2) ▸ finish RANGE_EXPR ▸ done)
    (finish RANGE_EXPR ▸ done)
