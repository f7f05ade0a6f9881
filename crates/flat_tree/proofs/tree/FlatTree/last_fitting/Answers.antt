use Rattle.std.proofs.Common.{ℕ, None, List, ap, sym, ◌∙◌}
use Rattle.std.specs.List.{last_or}
use Rattle.flat_tree.specs.FieldChild.{kind_in}
use Rattle.flat_tree.specs.declared.element.Element.{Element}
use Rattle.flat_tree.proofs.Fitting.{last_here, later}
use Rattle.rap_fields.specs.Rule.{fits, fitting, look_of}
use Rattle.flat_tree.proofs.tree.FlatTree.last_fitting.Goals as goal

pub children-preserved-then-fits : goal.children-preserved-then-fits
children-preserved-then-fits c =
    let kind = kind_in c.args.self.now.elements.items in
    let l = look_of c.args.step.now in
    let fit = ap (λ k. fits l c.args.mark k c.in-Some.child) (ap (λ (es : List Element). kind_in es c.in-Some.child) (sym c.elements.ensures) ∙ sym c.kind_in.ensures) ∙ (sym c.fits.ensures ∙ c.if-fits.true) in (
      _,
      _,
      sym (last_here kind c.args.mark l c.in-Some.child c.children.child-iterator c.next.new.self c.children.last
          c.in-Some.ensures.steps fit)
          ∙ c.children.invariant.2,
    )

pub children-preserved : goal.children-preserved
children-preserved c =
    let kind = kind_in c.args.self.now.elements.items in
    let l = look_of c.args.step.now in
    let fit = ap (λ k. fits l c.args.mark k c.in-Some.child) (ap (λ (es : List Element). kind_in es c.in-Some.child) (sym c.elements.ensures) ∙ sym c.kind_in.ensures) ∙ (sym c.fits.ensures ∙ c.if-fits.false) in (
      _,
      _,
      sym (ap (last_or c.children.last)
          (later kind c.args.mark l c.in-Some.child c.children.child-iterator c.next.new.self c.in-Some.ensures.steps fit))
          ∙ c.children.invariant.2,
    )

pub returns : goal.returns
returns c = λ root is.
    let kind = kind_in c.args.self.now.elements.items in
    let l = look_of c.args.step.now in
    sym (ap (λ (xs : List ℕ). last_or c.children.last (fitting kind c.args.mark l xs)) c.in-None.ensures.steps.0)
    ∙ c.children.invariant.2
    ∙ ap (λ (xs : List ℕ). last_or None (fitting kind c.args.mark l xs))
    (c.into_iter-child-iterator.ensures.into_iter_gives ∙ c.children-child-items.ensures root is)
