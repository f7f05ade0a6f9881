use Rattle.std.proofs.Common.{ℕ, true, rules, arith, if◌then◌else◌}
use Rattle.rap_grammar_scripts.specs.Postfix.{postfix_expr}
use Rattle.rap_grammar_scripts.specs.Script.{Script, block, something}
use Rattle.rap_grammar_scripts.specs.Stand.{Stand}
use Rattle.rap_grammar_scripts.specs.Words.{is_block, of_like}
use Rattle.rap_grammar_scripts.specs.declared.rule.Rule.{Rule}
use Rattle.rap_grammar_scripts.specs.declared.arguments.BlockLike.{BlockLike}
use Rattle.rap_grammar_scripts.specs.declared.arguments.BlockLike.TheVariants as like
use Rattle.rap_grammar_frame.proofs.Operating.{like_ends}
use Rattle.rap_grammar_frame.proofs.Steps.{On, turn, last_turn}
use Rattle.rap_grammar_facts.proofs.Postfix.{onward_postfix_turn}
use Rattle.rap_grammar_expressions_operands.proofs.postfix.postfix_expr.Goals as goal

pub postfixes-preserved : goal.postfixes-preserved
postfixes-preserved g c =
    let s = rw c.if-not-goes_on.false at (c.in_ok-expr.ensures.script (is_block (of_like c.postfixes.block_like))) in
    let l = onward_postfix_turn _ _ _ _ s in
    record {
      left = omega (arith, l, c.postfixes.invariant.left);
      operand = search rules;
      script = turn c.postfixes.invariant.script s l;
    }

pub postfixes-smaller : goal.postfixes-smaller
postfixes-smaller g c =
    onward_postfix_turn _ true _ _ (rw c.if-not-goes_on.false at (c.in_ok-expr.ensures.script true))

ends_like : {j : ℕ} {c : Script Rule} {p q : Stand} (x : BlockLike) →
    On j c p q (if is_block (of_like x) then block else something) → On j c p q (of_like x)
ends_like like.Block h = h
ends_like like.NotBlock h = h

pub returns-then-not-goes_on-clause-script : goal.returns-then-not-goes_on-clause-script
unfolding postfix_expr
returns-then-not-goes_on-clause-script g c =
    let b = c.postfixes.block_like in
    last_turn c.postfixes.invariant.script
    (ends_like b (rw c.if-not-goes_on.true at (c.in_ok-expr.ensures.script (is_block (of_like b))))) (like_ends b)
