use Rattle.std.proofs.Common.{Some, None, inl, inr, refl}
use Rattle.std.proofs.lemmas.Str.Pattern.{find_char, rfind_char}
use Rattle.rap_literals.proofs.Cuts.{no_quote, one_quote, two_quotes}
use Rattle.rap_literals.proofs.cut.parts_of.Goals as goal

pub returns-in_default : goal.returns-in_default
returns-in_default c = inr (refl, refl, no_quote c.args.quote c.args.text.now (find_char c.args.quote c.args.text.now None c.in_default.ensures.cases c.requires))

pub returns-in_default-rfind : goal.returns-in_default-rfind
returns-in_default-rfind c = inr (refl, refl, no_quote c.args.quote c.args.text.now (rfind_char c.args.quote c.args.text.now None c.in_default-rfind.ensures.cases c.requires))

pub returns-then-opening-end : goal.returns-then-opening-end
returns-then-opening-end c =
    let q = c.args.quote in
    let text = c.args.text.now in
    let first = find_char q text (Some c.in-Some.opening) c.in-Some.ensures.cases c.requires in
    let last = rfind_char q text (Some c.in-Some-rfind.end) c.in-Some-rfind.ensures.cases c.requires in
    rw (c.range.ensures.value, c.range_from.ensures.value) (inl (two_quotes q text c.in-Some.opening c.in-Some-rfind.end first.2 last.2 c.if-opening-end.true last.0 first.1 last.1))

pub returns-else-opening-end : goal.returns-else-opening-end
returns-else-opening-end c =
    let q = c.args.quote in
    let text = c.args.text.now in
    let first = find_char q text (Some c.in-Some.opening) c.in-Some.ensures.cases c.requires in
    let last = rfind_char q text (Some c.in-Some-rfind.end) c.in-Some-rfind.ensures.cases c.requires in
    inr (refl, refl, one_quote q text c.in-Some.opening c.in-Some-rfind.end first.2 last.2 c.if-opening-end.false)
