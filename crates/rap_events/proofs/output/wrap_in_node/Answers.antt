use Rattle.std.proofs.Common.{◌≡◌, ℕ, List, [], ◌∷◌, ◌++◌, drop, map, refl, ap, sym, ◌∙◌, arith}
use Rattle.std.specs.Prelude.{string_bytes}
use Rattle.std.specs.List.{insert}
use Rattle.rap_events.specs.StepValue.{StepValue, enter, exit}
use Rattle.rap_events.specs.Forest.{Forest, none, node, flat, used}
use Rattle.rap_events.specs.Reading.{forest_of}
use Rattle.rap_events.specs.Output.{values}
use Rattle.rap_events.specs.declared.event.Event.{Event}
use Rattle.rap_events.specs.declared.event.Event.TheVariants as event
use Rattle.rap_events.proofs.Splits.{wrapped}
use Rattle.rap_events.proofs.StepLemmas.{forest_of-flat}
use Rattle.rap_events.proofs.Values.{values_wrap}
use Rattle.rap_events.proofs.output.wrap_in_node.Goals as goal

-- the words of the node around the others
around : (k n : ℕ) (es inserted pushed : List Event) (first last : Event) → first ≡ event.Enter k → last ≡ event.Exit → inserted ≡ insert es n first → pushed ≡ inserted ++ last ∷ [] →
    pushed ≡ insert es n (event.Enter k) ++ event.Exit ∷ []
around k n es inserted pushed first last a b h e = e ∙ rw (h, a, b) refl

pub of_steps-requires-clause-steps : goal.of_steps-requires-clause-steps
of_steps-requires-clause-steps c =
    let f : Forest = node none c.args.kind c.args.output in
    let w = wrapped c.args.kind c.args.output c.into_list-steps.ensures.splits in
    let list = c.into_list-steps.result in
    let ms : List (List ℕ) = map string_bytes list.messages.items in
    let after : values (drop list.first c.push.new.self.items) ms ≡ flat f =
    values_wrap c.args.kind list.first list.steps.items c.push.new.self.items ms c.into_list-steps.ensures.within (around c.args.kind list.first list.steps.items _ _ _ _ c.of_event.ensures c.of_event-2.ensures c.in_ok-insert.ensures.items c.in_ok-push.ensures.items)
    ∙ ap (λ (ss : List StepValue). enter c.args.kind ∷ (ss ++ exit ∷ [])) c.into_list-steps.ensures.list ∙ sym w.steps in
    rw after (ap flat (forest_of-flat f w.placed))

pub of_steps-requires-clause-splits : goal.of_steps-requires-clause-splits
of_steps-requires-clause-splits c =
    let f : Forest = node none c.args.kind c.args.output in
    let w = wrapped c.args.kind c.args.output c.into_list-steps.ensures.splits in
    let list = c.into_list-steps.result in
    let ms : List (List ℕ) = map string_bytes list.messages.items in
    let after : values (drop list.first c.push.new.self.items) ms ≡ flat f =
    values_wrap c.args.kind list.first list.steps.items c.push.new.self.items ms c.into_list-steps.ensures.within (around c.args.kind list.first list.steps.items _ _ _ _ c.of_event.ensures c.of_event-2.ensures c.in_ok-insert.ensures.items c.in_ok-push.ensures.items)
    ∙ ap (λ (ss : List StepValue). enter c.args.kind ∷ (ss ++ exit ∷ [])) c.into_list-steps.ensures.list ∙ sym w.steps in
    rw after (rw (forest_of-flat f w.placed) w.placed)

pub returns : goal.returns
returns c =
    let f : Forest = node none c.args.kind c.args.output in
    let w = wrapped c.args.kind c.args.output c.into_list-steps.ensures.splits in
    let list = c.into_list-steps.result in
    let ms : List (List ℕ) = map string_bytes list.messages.items in
    let after : values (drop list.first c.push.new.self.items) ms ≡ flat f =
    values_wrap c.args.kind list.first list.steps.items c.push.new.self.items ms c.into_list-steps.ensures.within (around c.args.kind list.first list.steps.items _ _ _ _ c.of_event.ensures c.of_event-2.ensures c.in_ok-insert.ensures.items c.in_ok-push.ensures.items)
    ∙ ap (λ (ss : List StepValue). enter c.args.kind ∷ (ss ++ exit ∷ [])) c.into_list-steps.ensures.list ∙ sym w.steps in
    c.of_steps.ensures ∙ (ap forest_of after ∙ forest_of-flat f w.placed)

pub of_steps-requires-clause-tokens : goal.of_steps-requires-clause-tokens
of_steps-requires-clause-tokens c =
    let f : Forest = node none c.args.kind c.args.output in
    let w = wrapped c.args.kind c.args.output c.into_list-steps.ensures.splits in
    let list = c.into_list-steps.result in
    let ms : List (List ℕ) = map string_bytes list.messages.items in
    let after : values (drop list.first c.push.new.self.items) ms ≡ flat f =
    values_wrap c.args.kind list.first list.steps.items c.push.new.self.items ms c.into_list-steps.ensures.within (around c.args.kind list.first list.steps.items _ _ _ _ c.of_event.ensures c.of_event-2.ensures c.in_ok-insert.ensures.items c.in_ok-push.ensures.items)
    ∙ ap (λ (ss : List StepValue). enter c.args.kind ∷ (ss ++ exit ∷ [])) c.into_list-steps.ensures.list ∙ sym w.steps in
    let counted : used f ≡ used (forest_of (values (drop list.first c.push.new.self.items) ms)) = ap used (sym (ap forest_of after ∙ forest_of-flat f w.placed)) in
    omega (arith, c.into_list-steps.ensures.tokens, counted)
