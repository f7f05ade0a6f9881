use Rattle.std.proofs.Common.{◌<◌, ℕ, List, Some, None, inl, inr, refl, sym, subst, arith}
use Rattle.std.proofs.lemmas.Str.Pattern.{find_char, rfind_char}
use Rattle.rap_lexer.specs.declared.escape.Mode.{Mode}
use Rattle.rap_lexer.specs.declared.escape.Mode.TheVariants.{Char, Byte, Str, ByteStr, CStr}
use Rattle.rap_lexed.specs.Reported.{quote_of, IsBetween}
use Rattle.rap_lexed.proofs.Bodies.{no_quote, one_quote, two_quotes}
use Rattle.rap_lexed.proofs.lexed_str.reported.body.Goals as goal

ascii : (mode : Mode) → quote_of mode < 128
ascii Char = omega arith
ascii Byte = omega arith
ascii Str = omega arith
ascii ByteStr = omega arith
ascii CStr = omega arith

pub returns-in_default : goal.returns-in_default
returns-in_default c =
    let q = quote_of c.args.mode in
    let first = find_char q c.args.text.now None (rw c.quote_of-quote.ensures at c.in_default.ensures.cases) (ascii c.args.mode) in
    inr (refl, no_quote q c.args.text.now first)

pub returns-in_default-rfind : goal.returns-in_default-rfind
returns-in_default-rfind c =
    let q = quote_of c.args.mode in
    let last = rfind_char q c.args.text.now None (rw c.quote_of-quote.ensures at c.in_default-rfind.ensures.cases) (ascii c.args.mode) in
    inr (refl, no_quote q c.args.text.now last)

pub returns-then-opening-end : goal.returns-then-opening-end
returns-then-opening-end c =
    let q = quote_of c.args.mode in
    let text = c.args.text.now in
    let first = find_char q text (Some c.in-Some.opening) (rw c.quote_of-quote.ensures at c.in-Some.ensures.cases) (ascii c.args.mode) in
    let last = rfind_char q text (Some c.in-Some-rfind.end) (rw c.quote_of-quote.ensures at c.in-Some-rfind.ensures.cases) (ascii c.args.mode) in
    inl (subst (λ (l : List ℕ). IsBetween q text l) (sym c.range.ensures.value) (two_quotes q text c.in-Some.opening c.in-Some-rfind.end first.2 last.2 c.if-opening-end.true last.0 first.1 last.1))

pub returns-else-opening-end : goal.returns-else-opening-end
returns-else-opening-end c =
    let q = quote_of c.args.mode in
    let text = c.args.text.now in
    let first = find_char q text (Some c.in-Some.opening) (rw c.quote_of-quote.ensures at c.in-Some.ensures.cases) (ascii c.args.mode) in
    let last = rfind_char q text (Some c.in-Some-rfind.end) (rw c.quote_of-quote.ensures at c.in-Some-rfind.ensures.cases) (ascii c.args.mode) in
    inr (refl, one_quote q text c.in-Some.opening c.in-Some-rfind.end first.2 last.2 c.if-opening-end.false)
