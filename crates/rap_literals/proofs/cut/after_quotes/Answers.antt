use Rattle.std.proofs.Common.{ℕ, subst}
use Rattle.rap_literals.specs.Cut.{AreParts}
use Rattle.rap_literals.proofs.Cuts.{no_written}
use Rattle.rap_literals.proofs.cut.after_quotes.Goals as goal

pub returns-in_default-written : goal.returns-in_default-written
returns-in_default-written c = no_written c.args.text.now c.in-Some.token c.in-Some.ensures c.in_default-written.ensures

pub returns : goal.returns
returns c = (
  c.in-Some-written.mode,
  c.in-Some-written.field-0-1,
  c.parts_of.result.0.now,
  record {
    token = c.in-Some.token;
    whole = c.in-Some.ensures;
    written = c.in-Some-written.ensures;
    parts = subst (λ (q : ℕ). AreParts q c.args.text.now c.parts_of.result.0.now c.parts_of.result.1.now) c.quote_of.ensures.value c.parts_of.ensures;
  },
)
