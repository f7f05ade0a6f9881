use Rattle.std.proofs.Common.{◌≡◌, ◌⊎◌, ◌+◌, ◌++◌, ◌∷◌, [], ℕ, Bool, List, ap, arith, drop, get_or, inl, inr, false, length, rules, string_bytes, subst, sym, take, ◌∙◌}
use Rattle.std.proofs.lemmas.List.{take-append-drop, take_more}
use Rattle.rast_document.specs.declared.position.Position.{Position}
use Rattle.rast_server.specs.Limited.{IsOfPlaces, SaysTooLong}
use Rattle.rast_server.specs.SelectionText.{IsLongerAt}
use Rattle.rast_server.proofs.Positions.{IsWritten, next_written, none_written, too_long}
use Rattle.rast_server.proofs.selected.selections.Goals as goal

pub loop-place-init : goal.loop-place-init
loop-place-init c = none_written c.args.listing.now.document.now c.args.listing.now.elements.now (string_bytes c.in_ok-json.json) c.in_ok-json.ensures.ok

pub loop-place-preserved : goal.loop-place-preserved
loop-place-preserved c =
    let d = c.args.listing.now.document.now in
    let es = c.args.listing.now.elements.now in
    let places = c.args.positions.now in
    let i = c.loop-place.place-index in
    let nowhere : Position = record { line = 0; character = 0 } in
    let longer = string_bytes c.push_within.new.json in
    let added = c.in_ok-push_within.ensures.added ∙ ap (λ l. string_bytes c.loop-place.json ++ l) c.as_str.ensures.value in
    let step = next_written d es (take i places) (get_or places i nowhere) (string_bytes c.loop-place.json) (string_bytes c.write_part.new.part) longer c.loop-place.is_first
    c.loop-place.invariant c.in_ok-write_part.ensures.part added c.in_ok-push_within.ensures.within in
    subst (λ (b : Bool). IsWritten d es (take (i + 1) places) longer b) (sym c.in_ok-write_part.ensures.first)
    (subst (λ (ps : List Position). IsWritten d es ps longer false) (sym (take_more places i nowhere c.loop-place-test.true)) step)

pub returns-in_err-push_within-clause-why : goal.returns-in_err-push_within-clause-why
returns-in_err-push_within-clause-why c =
    let d = c.args.listing.now.document.now in
    let es = c.args.listing.now.elements.now in
    let places = c.args.positions.now in
    let i = c.loop-place.place-index in
    let nowhere : Position = record { line = 0; character = 0 } in
    let fault = c.in_err-push_within.field-0.0 in
    let whole : (take i places ++ get_or places i nowhere ∷ []) ++ drop (i + 1) places ≡ places =
    ap (λ (ps : List Position). ps ++ drop (i + 1) places) (sym (take_more places i nowhere c.loop-place-test.true)) ∙ take-append-drop (i + 1) places in
    let why : IsOfPlaces fault.code ⊎ (SaysTooLong fault × IsLongerAt d es places) = elim c.in_err-push_within.ensures.why [
      | inl memory ↦ inl (inr memory)
      | inr longer ↦ inr (
        longer.0,
        subst (λ (ps : List Position). IsLongerAt d es ps) whole
            (too_long d es (take i places) (drop (i + 1) places) (get_or places i nowhere) (string_bytes c.loop-place.json) (string_bytes c.write_part.new.part) c.loop-place.is_first
            c.loop-place.invariant c.in_ok-write_part.ensures.part
            (omega (arith, longer.1, ap (λ (l : List ℕ). length (string_bytes c.loop-place.json ++ l)) c.as_str.ensures.value))),
      )
    ] in
    search rules
