use Rattle.std.proofs.Common.{ℕ, subst}
use Rattle.rap_literals.specs.Cut.{AreParts}
use Rattle.rap_literals.proofs.Cuts.{no_form}
use Rattle.rap_literals.proofs.cut.quoted.Goals as goal

pub returns-in_default-form_of : goal.returns-in_default-form_of
returns-in_default-form_of c = no_form c.args.mode c.args.text.now c.in-Some.token c.in-Some.ensures c.in_default-form_of.ensures

pub returns : goal.returns
returns c = record {
  token = c.in-Some.token;
  whole = c.in-Some.ensures;
  written = c.in-Some-form_of.ensures;
  parts = subst (λ (q : ℕ). AreParts q c.args.text.now c.parts_of.result.0.now c.parts_of.result.1.now) c.quote_of.ensures.value c.parts_of.ensures;
}
