use Rattle.std.proofs.Common.{◌≡◌, ◌%◌, ◌^◌, List, [], ◌∷◌, ◌++◌, length, map, ap, ◌∙◌}
use Rattle.std.specs.Prelude.{string_bytes}
use Rattle.rap_events.specs.State.{state, calls}
use Rattle.rap_events.specs.History.{history}
use Rattle.rap_events.specs.declared.event.Event.{Event}
use Rattle.rap_events.specs.declared.event.Event.TheVariants as event
use Rattle.rap_events.proofs.Calls.{Held, held_reported, reported_history, reported}
use Rattle.rap_events.proofs.parser.Parser.report.Goals as goal

pub invariant_of-self : goal.invariant_of-self
invariant_of-self c =
    let s = c.args.self.now in
    let e = c.reserve.ensures.items in
    record { tokens = s.tokens; ends = s.ends; in_input = s.in_input; here = s.here; reported = rw e s.reported; sound = rw e s.sound; covers = rw e s.covers; place = rw e s.place; splits = rw e s.splits; fit = rw e s.fit }

pub invariant_of-self-in-Break-branch-2 : goal.invariant_of-self-in-Break-branch-2
invariant_of-self-in-Break-branch-2 c =
    let s = c.args.self.now in
    let e = c.reserve.ensures.items in
    let m : c.push.new.self.items ≡ s.messages.items = rw c.in_err-push.was at c.push.ensures.items in
    record { tokens = s.tokens; ends = s.ends; in_input = s.in_input; here = s.here; reported = rw (e, m) s.reported; sound = rw (e, m) s.sound; covers = rw (e, m) s.covers; place = rw (e, m) s.place; splits = rw (e, m) s.splits; fit = rw (e, m) s.fit }

pub invariant_of-self-2 : goal.invariant_of-self-2
invariant_of-self-2 c =
    let s = c.args.self.now in
    let before : Held s.events.items (map string_bytes s.messages.items) (length s.messages.items) s.input.now s.pos =
    record { reported = s.reported; kept = record { sound = s.sound; covers = s.covers; place = s.place; splits = s.splits; fit = s.fit } } in
    let events : c.push_reserved.new.self.items ≡ s.events.items ++ event.Error (length s.messages.items % 2 ^ 31) ∷ [] =
    c.push_reserved.ensures.items ∙ ap (λ (es : List Event). es ++ c.next_word-word.result ∷ []) c.reserve.ensures.items ∙ ap (λ (e : Event). s.events.items ++ e ∷ []) c.next_word-word.ensures in
    let h = held_reported s.events.items s.messages.items c.args.message (length s.messages.items % 2 ^ 31) s.input.now s.pos before in
    record { tokens = s.tokens; ends = s.ends; in_input = s.in_input; here = s.here; reported = rw (events, c.in_ok-push.ensures.items) h.reported; sound = rw (events, c.in_ok-push.ensures.items) h.kept.sound; covers = rw (events, c.in_ok-push.ensures.items) h.kept.covers; place = rw (events, c.in_ok-push.ensures.items) h.kept.place; splits = rw (events, c.in_ok-push.ensures.items) h.kept.splits; fit = rw (events, c.in_ok-push.ensures.items) h.kept.fit }

pub returns-clause-state : goal.returns-clause-state
unfolding state calls
returns-clause-state c =
    let s = c.args.self.now in
    let events : c.push_reserved.new.self.items ≡ s.events.items ++ event.Error (length s.messages.items % 2 ^ 31) ∷ [] =
    c.push_reserved.ensures.items ∙ ap (λ (es : List Event). es ++ c.next_word-word.result ∷ []) c.reserve.ensures.items ∙ ap (λ (e : Event). s.events.items ++ e ∷ []) c.next_word-word.ensures in
    rw (events, c.in_ok-push.ensures.items, reported_history s.events.items s.messages.items c.args.message (length s.messages.items % 2 ^ 31) s.reported) (reported s.input.now _ (history s.events.items (map string_bytes s.messages.items)) (string_bytes c.args.message))

pub returns-clause-recorded : goal.returns-clause-recorded
unfolding calls
returns-clause-recorded c =
    let s = c.args.self.now in
    let events : c.push_reserved.new.self.items ≡ s.events.items ++ event.Error (length s.messages.items % 2 ^ 31) ∷ [] =
    c.push_reserved.ensures.items ∙ ap (λ (es : List Event). es ++ c.next_word-word.result ∷ []) c.reserve.ensures.items ∙ ap (λ (e : Event). s.events.items ++ e ∷ []) c.next_word-word.ensures in
    rw (events, c.in_ok-push.ensures.items) (reported_history s.events.items s.messages.items c.args.message (length s.messages.items % 2 ^ 31) s.reported)
