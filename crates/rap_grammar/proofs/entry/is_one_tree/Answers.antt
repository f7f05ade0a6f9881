use Rattle.std.proofs.Common.{arith, ap, ◌≡◌, inl, inr}
use Rattle.rap_grammar.proofs.OneTree.{weight_of, by_weight, second, beside, dot_shows, float_shows, token_shows, error_shows}
use Rattle.rap_grammar.proofs.entry.is_one_tree.Goals as goal

pub returns-then-nodes-eq1 : goal.returns-then-nodes-eq1
returns-then-nodes-eq1 c =
    second c.args.output.now c.steps.nodes c.steps.depth c.in-Enter.kind c.steps.steps c.next.new.self
    c.iter-steps.ensures.splits c.steps.invariant.so_far c.if-nodes-eq1.true c.if-depth-eq0.true
    (rw c.in-Enter.is at c.in-Some.ensures.steps)

pub returns-then-depth-lt2 : goal.returns-then-depth-lt2
returns-then-depth-lt2 c =
    beside c.args.output.now c.steps.nodes c.steps.depth _ c.steps.steps c.next.new.self _ c.iter-steps.ensures.splits
    c.steps.invariant.so_far
    (rw (c.in-FloatSplit-true.is, c.in-FloatSplit-true.ends_in_dot-test) at c.in-Some.ensures.steps)
    (dot_shows c.steps.depth c.next.new.self (omega (arith, c.if-depth-lt2.true)))

pub returns-then-depth-eq0-2 : goal.returns-then-depth-eq0-2
returns-then-depth-eq0-2 c =
    beside c.args.output.now c.steps.nodes c.steps.depth _ c.steps.steps c.next.new.self _ c.iter-steps.ensures.splits
    c.steps.invariant.so_far
    (rw (c.in-FloatSplit-false.is, c.in-FloatSplit-false.ends_in_dot-test) at c.in-Some.ensures.steps)
    (float_shows c.steps.depth c.next.new.self c.if-depth-eq0-2.true)

pub returns-then-depth-eq0-3 : goal.returns-then-depth-eq0-3
returns-then-depth-eq0-3 c = elim c.in-Token.is [
  | inl w ↦
      beside c.args.output.now c.steps.nodes c.steps.depth _ c.steps.steps c.next.new.self _ c.iter-steps.ensures.splits
      c.steps.invariant.so_far (rw w.2 at c.in-Some.ensures.steps)
      (token_shows c.steps.depth w.0 w.1 c.next.new.self c.if-depth-eq0-3.true)
  | inr w ↦
      beside c.args.output.now c.steps.nodes c.steps.depth _ c.steps.steps c.next.new.self _ c.iter-steps.ensures.splits
      c.steps.invariant.so_far (rw w.1 at c.in-Some.ensures.steps)
      (error_shows c.steps.depth w.0.now c.next.new.self c.if-depth-eq0-3.true)
]

pub returns : goal.returns
returns c =
    let e : weight_of c.steps.depth c.steps.steps ≡ 0 = ap (weight_of c.steps.depth) c.in_default.ensures.steps.0 in
    by_weight c.args.output.now c.steps.nodes c.iter-steps.ensures.splits (omega arith)
