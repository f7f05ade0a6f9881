use Rattle.std.proofs.Common.{◌≡◌, sym, ◌∙◌, ap, refl, arith}
use Rattle.std.proofs.lemmas.List.Quantifiers.{any-set}
use Rattle.std.proofs.lemmas.Option.{get_or_from_slice_get, slice_get_within}
use Rattle.rap_grammar_rows.specs.declared.search.memo.Entry.{Entry}
use Rattle.rap_grammar_rows.proofs.search.memo.Memo.settle.Goals as goal

pub returns-then-number-len : goal.returns-then-number-len
returns-then-number-len c old there =
    let read : c.index.result.now ≡ old =
    c.index.ensures ∙ get_or_from_slice_get c.args.self.now.entries.items c.args.number old c.index.result.now there in
    any-set (λ (e : Entry). (e.question ≡ old.question) × (e.answer ≡ c.args.answer)) _ _ _
    (slice_get_within c.args.self.now.entries.items c.args.number old there) (ap (λ (e : Entry). e.question) read, refl)

pub returns-else-number-len : goal.returns-else-number-len
returns-else-number-len c old there =
    let inside = slice_get_within c.args.self.now.entries.items c.args.number old there in
    absurd (omega (arith, inside, c.if-number-len.false, c.len.ensures))
