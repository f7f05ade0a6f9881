use Rattle.std.proofs.Common.{◌≡◌, List, [], ◌∷◌, ◌++◌, length, map, sym, ◌∙◌, ℕ}
use Rattle.std.specs.Prelude.{string_bytes}
use Rattle.rap_events.specs.History.{Call, history}
use Rattle.rap_events.specs.History as call
use Rattle.rap_events.specs.State.{state, calls}
use Rattle.rap_events.proofs.HistoryLemmas.{history-push, length-history}
use Rattle.rap_events.proofs.HistoryLemmas as shows
use Rattle.rap_events.proofs.Calls.{Held, held-push, held_either, kept-start, opened}
use Rattle.rap_events.proofs.parser.Parser.start.Goals as goal

pub invariant_of-self : goal.invariant_of-self
unfolding state calls
invariant_of-self c =
    let s = c.args.self.now in
    let ms : List (List ℕ) = map string_bytes s.messages.items in
    let xs : List Call = history s.events.items ms in
    let before : Held s.events.items ms (length s.messages.items) s.input.now s.pos =
    record { reported = s.reported; kept = record { sound = s.sound; covers = s.covers; place = s.place; splits = s.splits; fit = s.fit } } in
    let after : Held (s.events.items ++ c.of_event-word.result ∷ []) ms (length s.messages.items) s.input.now s.pos =
    held-push s.events.items ms _ s.input.now s.pos s.pos c.of_event-word.result call.start (rw c.of_event-word.ensures shows.start) before (kept-start xs s.input.now s.pos before.kept) in
    let h = held_either _ s.events.items (s.events.items ++ c.of_event-word.result ∷ []) _ ms _ s.input.now s.pos c.push_in_place.ensures.items before after in
    record { tokens = s.tokens; ends = s.ends; in_input = s.in_input; here = s.here; reported = h.reported; sound = h.kept.sound; covers = h.kept.covers; place = h.kept.place; splits = h.kept.splits; fit = h.kept.fit }

pub returns-clause-state : goal.returns-clause-state
unfolding state calls
returns-clause-state c =
    let s = c.args.self.now in
    let ms : List (List ℕ) = map string_bytes s.messages.items in
    let xs : List Call = history s.events.items ms in
    let e : c.len.result ≡ length xs = c.len.ensures ∙ s.events.ok.0 ∙ sym (length-history s.events.items ms) in
    rw (c.in_ok-push_in_place.ensures.items, history-push s.events.items ms c.of_event-word.result call.start (rw c.of_event-word.ensures shows.start)) (opened s.input.now _ xs _ (c.of-pos.ensures ∙ e))

pub returns-clause-recorded : goal.returns-clause-recorded
unfolding calls
returns-clause-recorded c =
    let s = c.args.self.now in
    rw c.in_ok-push_in_place.ensures.items (history-push s.events.items (map string_bytes s.messages.items) c.of_event-word.result call.start (rw c.of_event-word.ensures shows.start))
