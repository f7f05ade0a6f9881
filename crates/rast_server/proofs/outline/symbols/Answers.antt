use Rattle.std.proofs.Common.{◌≡◌, ◌⊎◌, ◌+◌, ◌<◌, ◌≤◌, ap, arith, get_or, inl, inr, length, rules, string_bytes, subst, take, ◌∙◌}
use Rattle.std.specs.List.{sum_by}
use Rattle.std.proofs.lemmas.List.Sums.{sum_by_more_le}
use Rattle.rast_answers.specs.Symbols.{symbols_of}
use Rattle.rast_answers.specs.declared.symbol_kind.SymbolKind.TheVariants.{Module}
use Rattle.rast_answers.specs.declared.symbols.Symbol.{Symbol}
use Rattle.rast_document.specs.declared.document.Document.{Document}
use Rattle.rast_messages.specs.declared.reply.Code.TheVariants.{InternalError}
use Rattle.rast_server.specs.Limited.{SaysTooLong}
use Rattle.rast_server.specs.SymbolLengths.{symbol_len, symbols_len}
use Rattle.rast_server.specs.declared.limit.TheConstants.{LIMIT}
use Rattle.rast_server.proofs.outline.symbols.Goals as goal

pub returns-in_err-left-clause-why : goal.returns-in_err-left-clause-why
returns-in_err-left-clause-why c =
    let d = c.args.listing.now.document.now in
    let es = c.args.listing.now.elements.now in
    let items = c.as_slice-symbol-items.result.now in
    let i = c.loop-symbol.symbol-index in
    let none : Symbol = record { kind = Module; extent = record { start = 0; end = 0 }; name = record { start = 0; end = 0 }; index = 0; after = 0 } in
    let fault = c.in_err-left.field-0.0 in
    let part : length (string_bytes c.write_part.new.part) + 2 ≤ symbol_len d (get_or items i none)
    = subst (λ (x : Document). length (string_bytes c.write_part.new.part) + 2 ≤ symbol_len x (get_or items i none)) c.document.ensures c.in_ok-write_part.ensures in
    let all : items ≡ symbols_of es = c.as_slice-symbol-items.ensures.value ∙ c.in_ok-list.ensures in
    let most : sum_by (symbol_len d) (take i items) + symbol_len d (get_or items i none) ≤ sum_by (symbol_len d) items
    = sum_by_more_le (symbol_len d) items i none c.loop-symbol-test.true in
    let why : (fault.code ≡ InternalError) ⊎ (SaysTooLong fault × (LIMIT < symbols_len d es)) = elim c.in_err-left.ensures.why [
      | inl other ↦ inl other
      | inr long ↦ inr (
        long.0,
        omega (arith, long.1, part, most, ap (sum_by (symbol_len d)) all, c.loop-symbol.invariant.1, ap length c.as_str.ensures.value),
      )
    ] in
    search rules
