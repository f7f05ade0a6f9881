use Rattle.std.proofs.Common.{◌+◌, ◌≤◌, List, length, length-drop, map, ℕ, arith}
use Rattle.std.specs.Prelude.{string_bytes}
use Rattle.rap_events.specs.State.{state, calls}
use Rattle.rap_events.specs.History.{Call, history}
use Rattle.rap_events.specs.History as call
use Rattle.rap_events.proofs.HistoryLemmas.{history-push}
use Rattle.rap_events.proofs.HistoryLemmas as shows
use Rattle.rap_events.proofs.Calls.{Held, held-push, kept-token, bumped}
use Rattle.rap_events.proofs.parser.Parser.take_word.Goals as goal

pub overflow_add-self : goal.overflow_add-self
unfolding state
overflow_add-self c =
    let s = c.args.self.now in
    omega (arith, s.ends, c.requires.within, length-drop s.pos s.input.now)

pub invariant_of-self : goal.invariant_of-self
unfolding state
invariant_of-self c =
    let s = c.args.self.now in
    let k = c.args.kind.value in
    let w = c.args.width in
    let ms : List (List ℕ) = map string_bytes s.messages.items in
    let before : Held s.events.items (map string_bytes s.messages.items) (length s.messages.items) s.input.now s.pos =
    record { reported = s.reported; kept = record { sound = s.sound; covers = s.covers; place = s.place; splits = s.splits; fit = s.fit } } in
    let kept = kept-token (history s.events.items ms) s.input.now s.pos k w c.requires.stands before.kept in
    let h = held-push s.events.items ms _ s.input.now s.pos (s.pos + w) c.args.word (call.token k w) (rw c.requires.word (shows.token k w)) before kept in
    let within : s.pos + w ≤ s.len = omega (arith, s.ends, s.in_input, c.requires.within, length-drop s.pos s.input.now) in
    let e = c.push_reserved.ensures.items in
    record { tokens = s.tokens; ends = s.ends; in_input = within; here = c.kind-self.ensures; reported = rw e h.reported; sound = rw e h.kept.sound; covers = rw e h.kept.covers; place = rw e h.kept.place; splits = rw e h.kept.splits; fit = rw e h.kept.fit }

pub returns-then-len-capacity-clause-state : goal.returns-then-len-capacity-clause-state
unfolding state calls
returns-then-len-capacity-clause-state c =
    let s = c.args.self.now in
    let k = c.args.kind.value in
    let w = c.args.width in
    let ms : List (List ℕ) = map string_bytes s.messages.items in
    rw (c.push_reserved.ensures.items, history-push s.events.items ms c.args.word (call.token k w) (rw c.requires.word (shows.token k w))) (bumped s.input.now s.pos (history s.events.items ms) k w c.requires.within)

pub returns-then-len-capacity-clause-recorded : goal.returns-then-len-capacity-clause-recorded
unfolding calls
returns-then-len-capacity-clause-recorded c =
    let s = c.args.self.now in
    let k = c.args.kind.value in
    let w = c.args.width in
    rw c.push_reserved.ensures.items (history-push s.events.items (map string_bytes s.messages.items) c.args.word (call.token k w) (rw c.requires.word (shows.token k w)))
