use Rattle.std.proofs.Common.{◌≡◌, ◌+◌, List, [], ◌∷◌, ◌++◌, length, length-append, map, refl, ap, ◌∙◌, ℕ, arith}
use Rattle.std.specs.Prelude.{string_bytes}
use Rattle.rap_events.specs.History.{Call, history}
use Rattle.rap_events.specs.History as call
use Rattle.rap_events.specs.State.{state, calls}
use Rattle.rap_events.proofs.HistoryLemmas.{history-push, length-history}
use Rattle.rap_events.proofs.HistoryLemmas as shows
use Rattle.rap_events.proofs.Calls.{Held, held-push, held_either, kept-extend, extended}
use Rattle.rap_events.proofs.parser.CompletedMarker.extend_to.Goals as goal

pub invariant_of-p : goal.invariant_of-p
unfolding state calls
invariant_of-p c =
    let s = c.args.p.now in
    let ms : List (List ℕ) = map string_bytes s.messages.items in
    let xs : List Call = history s.events.items ms in
    let before : Held s.events.items ms (length s.messages.items) s.input.now s.pos =
    record { reported = s.reported; kept = record { sound = s.sound; covers = s.covers; place = s.place; splits = s.splits; fit = s.fit } } in
    let after : Held (s.events.items ++ c.of_event-word.result ∷ []) ms (length s.messages.items) s.input.now s.pos =
    held-push s.events.items ms _ s.input.now s.pos s.pos c.of_event-word.result call.extend (rw c.of_event-word.ensures shows.extend) before (kept-extend xs s.input.now _ s.pos c.args.self c.args.self.kind.value c.args.m.pos.value c.requires.last c.requires.newest c.requires.plain before.kept) in
    let h = held_either _ s.events.items (s.events.items ++ c.of_event-word.result ∷ []) _ ms _ s.input.now s.pos c.push_in_place.ensures.items before after in
    record { tokens = s.tokens; ends = s.ends; in_input = s.in_input; here = s.here; reported = h.reported; sound = h.kept.sound; covers = h.kept.covers; place = h.kept.place; splits = h.kept.splits; fit = h.kept.fit }

pub returns-clause-state : goal.returns-clause-state
unfolding state calls
returns-clause-state c =
    let s = c.args.p.now in
    let ms : List (List ℕ) = map string_bytes s.messages.items in
    let xs : List Call = history s.events.items ms in
    let e : c.len.result ≡ length xs + 1 = omega (arith, c.push_in_place.new.list.ok.0, length-append s.events.items, ap length c.in_ok-push_in_place.ensures.items, length-history s.events.items ms) in
    rw (c.in_ok-push_in_place.ensures.items, history-push s.events.items ms c.of_event-word.result call.extend (rw c.of_event-word.ensures shows.extend)) (extended s.input.now _ xs c.args.self _ c.args.self.kind.value c.args.m.pos.value c.requires.last c.requires.newest (c.of.ensures ∙ e) refl)

pub returns-clause-recorded : goal.returns-clause-recorded
unfolding calls
returns-clause-recorded c =
    let s = c.args.p.now in
    rw c.in_ok-push_in_place.ensures.items (history-push s.events.items (map string_bytes s.messages.items) c.of_event-word.result call.extend (rw c.of_event-word.ensures shows.extend))
