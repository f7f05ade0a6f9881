use Rattle.std.proofs.Common.{◌≡◌, ◌+◌, ◌≤◌, List, [], ◌∷◌, ◌++◌, length, length-append, length-drop, map, take, drop, not, Bool, refl, sym, ap, ◌∙◌, ℕ, arith}
use Rattle.std.specs.Prelude.{string_bytes}
use Rattle.rap_base.specs.NodeKind.{FIELD_EXPR}
use Rattle.rap_events.specs.Record.{Record, joint_at}
use Rattle.rap_events.specs.History.{Call, history}
use Rattle.rap_events.specs.State.{state, calls}
use Rattle.rap_events.specs.FloatSplit.{split_calls}
use Rattle.rap_events.specs.declared.event.Event.{Event}
use Rattle.rap_events.specs.declared.event.Event.TheVariants as event
use Rattle.rap_events.proofs.Calls.{Held}
use Rattle.rap_events.proofs.FloatSplits.{split_events, split_history, split_lengths, split_taken, held-split, split_state, float_within, not_not}
use Rattle.rap_events.proofs.HistoryLemmas.{length-history}
use Rattle.rap_events.proofs.Records.{joint_at-drop}
use Rattle.rap_events.proofs.parser.Parser.split_float.Goals as goal

-- what was recorded
events_are : (old new : List Event) (joint : Bool) (count : ℕ) (a b d f : Event) → a ≡ event.FloatSplit (not joint) → b ≡ event.Finish FIELD_EXPR → d ≡ event.Precede → f ≡ event.Finish FIELD_EXPR →
    new ≡ old ++ take count (a ∷ b ∷ d ∷ f ∷ []) → count ≡ length (split_calls (not joint)) → new ≡ old ++ split_events (not joint)
events_are old new joint count a b d f ha hb hd hf e n = e ∙ rw (ha, hb, hd, hf) refl ∙ ap (λ (es : List Event). old ++ es) (split_taken (not joint) count (n ∙ sym (split_lengths (not joint))))

joint_is : (input : List Record) (pos : ℕ) (joint : Bool) → joint ≡ joint_at input pos → joint_at (drop pos input) 0 ≡ not (not joint)
joint_is input pos joint e = sym (joint_at-drop input pos) ∙ sym e ∙ not_not joint

pub invariant_of-self : goal.invariant_of-self
invariant_of-self c =
    let s = c.args.self.now in
    let e : c.extend_from_slice.new.self.items ≡ s.events.items = rw c.in_err-extend_from_slice.was at c.extend_from_slice.ensures.items in
    record { tokens = s.tokens; ends = s.ends; in_input = s.in_input; here = s.here; reported = rw e s.reported; sound = rw e s.sound; covers = rw e s.covers; place = rw e s.place; splits = rw e s.splits; fit = rw e s.fit }

pub overflow_add-self : goal.overflow_add-self
unfolding state
overflow_add-self c =
    let s = c.args.self.now in
    omega (arith, s.ends, float_within (state s).rest c.requires.float, length-drop s.pos s.input.now)

pub invariant_of-self-2 : goal.invariant_of-self-2
unfolding state calls
invariant_of-self-2 c =
    let s = c.args.self.now in
    let d : Bool = not c.is_joint-ends_in_dot.result in
    let ms : List (List ℕ) = map string_bytes s.messages.items in
    let before : Held s.events.items ms (length s.messages.items) s.input.now s.pos =
    record { reported = s.reported; kept = record { sound = s.sound; covers = s.covers; place = s.place; splits = s.splits; fit = s.fit } } in
    let h = held-split s.events.items ms _ s.input.now s.pos d c.args.marker.pos.value c.requires.newest c.requires.float (joint_is s.input.now s.pos c.is_joint-ends_in_dot.result c.is_joint-ends_in_dot.ensures) before in
    let within : s.pos + 1 ≤ s.len = omega (arith, s.ends, s.in_input, float_within (state s).rest c.requires.float, length-drop s.pos s.input.now) in
    let e = (events_are s.events.items _ c.is_joint-ends_in_dot.result _ _ _ _ _ c.of_event.ensures c.of_event-2.ensures c.of_event-3.ensures c.of_event-4.ensures c.in_ok-extend_from_slice.ensures.items c.split_len-count.ensures.calls) in
    record { tokens = s.tokens; ends = s.ends; in_input = within; here = c.kind-self.ensures; reported = rw e h.reported; sound = rw e h.kept.sound; covers = rw e h.kept.covers; place = rw e h.kept.place; splits = rw e h.kept.splits; fit = rw e h.kept.fit }

pub returns-clause-state : goal.returns-clause-state
unfolding state calls
returns-clause-state c =
    let s = c.args.self.now in
    let d : Bool = not c.is_joint-ends_in_dot.result in
    let ms : List (List ℕ) = map string_bytes s.messages.items in
    let xs : List Call = history s.events.items ms in
    let e : c.len.result ≡ length xs + length (split_calls d) =
    omega (arith, c.len.ensures, c.extend_from_slice.new.self.ok.0, length-append s.events.items (split_events d), ap length (events_are s.events.items _ c.is_joint-ends_in_dot.result _ _ _ _ _ c.of_event.ensures c.of_event-2.ensures c.of_event-3.ensures c.of_event-4.ensures c.in_ok-extend_from_slice.ensures.items c.split_len-count.ensures.calls), length-history s.events.items ms, split_lengths d) in
    rw ((events_are s.events.items _ c.is_joint-ends_in_dot.result _ _ _ _ _ c.of_event.ensures c.of_event-2.ensures c.of_event-3.ensures c.of_event-4.ensures c.in_ok-extend_from_slice.ensures.items c.split_len-count.ensures.calls), split_history s.events.items ms d) (split_state s.input.now s.pos xs d c.args.marker.pos.value c.requires.newest _ c.requires.float (joint_is s.input.now s.pos c.is_joint-ends_in_dot.result c.is_joint-ends_in_dot.ensures) (c.of.ensures ∙ e) c.of-2.ensures)

pub returns-clause-recorded : goal.returns-clause-recorded
unfolding calls
returns-clause-recorded c =
    let s = c.args.self.now in
    rw (events_are s.events.items _ c.is_joint-ends_in_dot.result _ _ _ _ _ c.of_event.ensures c.of_event-2.ensures c.of_event-3.ensures c.of_event-4.ensures c.in_ok-extend_from_slice.ensures.items c.split_len-count.ensures.calls) (split_history s.events.items (map string_bytes s.messages.items) (not c.is_joint-ends_in_dot.result))
