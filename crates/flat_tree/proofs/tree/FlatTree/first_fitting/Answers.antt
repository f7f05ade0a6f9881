use Rattle.std.proofs.Common.{ℕ, List, ap, sym, ◌∙◌}
use Rattle.std.specs.List.{slice_get}
use Rattle.flat_tree.specs.FieldChild.{kind_in}
use Rattle.flat_tree.specs.declared.element.Element.{Element}
use Rattle.flat_tree.proofs.Fitting.{first_here, later}
use Rattle.rap_fields.specs.Rule.{fits, fitting, look_of}
use Rattle.flat_tree.proofs.tree.FlatTree.first_fitting.Goals as goal

pub returns-then-fits : goal.returns-then-fits
returns-then-fits c = λ root is.
    let kind = kind_in c.args.self.now.elements.items in
    let l = look_of c.args.step.now in
    let fit = ap (λ k. fits l c.args.mark k c.in-Some.child) (ap (λ (es : List Element). kind_in es c.in-Some.child) (sym c.elements.ensures) ∙ sym c.kind_in.ensures) ∙ (sym c.fits.ensures ∙ c.if-fits.true) in
    sym (first_here kind c.args.mark l c.in-Some.child c.loop-child.child-iterator c.next.new.self c.in-Some.ensures.steps fit)
    ∙ c.loop-child.invariant.2
    ∙ ap (λ (xs : List ℕ). slice_get (fitting kind c.args.mark l xs) 0)
    (c.into_iter-child-iterator.ensures.into_iter_gives ∙ c.children-child-items.ensures root is)

pub loop-child-preserved : goal.loop-child-preserved
loop-child-preserved c =
    let kind = kind_in c.args.self.now.elements.items in
    let l = look_of c.args.step.now in
    let fit = ap (λ k. fits l c.args.mark k c.in-Some.child) (ap (λ (es : List Element). kind_in es c.in-Some.child) (sym c.elements.ensures) ∙ sym c.kind_in.ensures) ∙ (sym c.fits.ensures ∙ c.if-fits.false) in (
      _,
      _,
      sym (ap (λ (ys : List ℕ). slice_get ys 0)
          (later kind c.args.mark l c.in-Some.child c.loop-child.child-iterator c.next.new.self c.in-Some.ensures.steps fit))
          ∙ c.loop-child.invariant.2,
    )

pub returns : goal.returns
returns c = λ root is.
    let kind = kind_in c.args.self.now.elements.items in
    let l = look_of c.args.step.now in
    sym (ap (λ (xs : List ℕ). slice_get (fitting kind c.args.mark l xs) 0) c.in-None.ensures.steps.0)
    ∙ c.loop-child.invariant.2
    ∙ ap (λ (xs : List ℕ). slice_get (fitting kind c.args.mark l xs) 0)
    (c.into_iter-child-iterator.ensures.into_iter_gives ∙ c.children-child-items.ensures root is)
