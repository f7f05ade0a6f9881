use Rattle.std.proofs.Common.{◌≤◌, ◌<◌, ap, arith, subst, sym, ◌∙◌}
use Rattle.syntax_tree.specs.Covering.{smallest_holding}
use Rattle.syntax_tree.specs.Shown.{shown}
use Rattle.syntax_tree.specs.Ranged.{Ranged}
use Rattle.syntax_tree.specs.RangedForest.{RangedNode, alone}
use Rattle.syntax_tree.proofs.Covers.{from_root, beside_root}
use Rattle.rap_ranged.proofs.TreeRows.{root_row}
use Rattle.syntax_tree.proofs.tree.Tree.covering.Goals as goal

pub returns-then-range-clause-element : goal.returns-then-range-clause-element
returns-then-range-clause-element c =
    let root = c.args.self.now.root in
    let short : root.end < c.args.range.end = omega (arith, c.if-range.true, c.range.ensures.end, ap (λ (n : RangedNode). n.end) c.root-root.ensures) in
    sym (beside_root root c.args.range.start c.args.range.end (root_row c.requires.0 root c.requires.1).0 short)

pub covering_below-requires-clause-row : goal.covering_below-requires-clause-row
covering_below-requires-clause-row c =
    let P : RangedNode → Type 0 = λ n. Ranged c.requires.0 n in
    (root_row c.requires.0 c.root-root.result.now (subst P (sym c.root-root.ensures) c.requires.1)).0

pub covering_below-requires-clause-begins : goal.covering_below-requires-clause-begins
covering_below-requires-clause-begins c =
    let P : RangedNode → Type 0 = λ n. Ranged c.requires.0 n in
    let r = root_row c.requires.0 c.root-root.result.now (subst P (sym c.root-root.ensures) c.requires.1) in
    omega (arith, r.1)

pub returns-clause-element : goal.returns-clause-element
returns-clause-element c =
    let P : RangedNode → Type 0 = λ n. Ranged c.requires.0 n in
    let root = c.root-root.result.now in
    let r = root_row c.requires.0 root (subst P (sym c.root-root.ensures) c.requires.1) in
    let begins : root.start ≤ c.args.range.start = omega (arith, r.1) in
    let ends : c.args.range.end ≤ root.end = omega (arith, c.if-range.false, c.range.ensures.end) in
    from_root root c.args.range.start c.args.range.end (shown c.covering_below.result) begins ends c.covering_below.ensures
    ∙ ap (λ n. smallest_holding c.args.range.start c.args.range.end (alone n)) c.root-root.ensures
