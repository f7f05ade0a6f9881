-- What is still to begin, on the code's own lists.
use Rattle.std.proofs.Common.{◌≡◌, ℕ, suc, ◌+◌, List, [], ◌∷◌, ◌++◌, Bool, true, drop, reverse, ap, sym, ◌∙◌, arith}
use Rattle.std.proofs.lemmas.List.{reverse-append}
use Rattle.rap_events.specs.StepValue.{StepValue, enter}
use Rattle.rap_events.specs.Output.{values}
use Rattle.rap_events.specs.Pending.{inners, glue, others, pasts}
use Rattle.rap_events.specs.Unwind.{Walk, entered, texts_read, walk_of}
use Rattle.rap_events.specs.declared.event.Event.{Event}
use Rattle.rap_events.specs.declared.event.Event.TheVariants as event
use Rattle.rap_events.specs.declared.event.walk.Pending.{Pending}
use Rattle.rap_events.specs.declared.event.walk.Pending.TheVariants as pending
use Rattle.rap_events.specs.declared.event.walk.Walk as kept
use Rattle.rap_events.proofs.Unwinding.{enters-push}

pub inners_append : (ps qs : List Pending) → inners (ps ++ qs) ≡ inners ps + inners qs
inners_append [] qs = omega arith
inners_append (pending.Outermost k ∷ ps) qs = inners_append ps qs
inners_append (pending.Inner k ∷ ps) qs = omega (arith, inners_append ps qs)
inners_append (pending.Nothing ∷ ps) qs = inners_append ps qs
inners_append (pending.Past ∷ ps) qs = inners_append ps qs

-- one marker more
pub pasts_more : (n : ℕ) (ps : List Pending) → pasts (n + 1) ps ≡ pending.Past ∷ pasts n ps
pasts_more n ps =
    let more : n + 1 ≡ suc n = omega arith in
    ap (λ (m : ℕ). pasts m ps) more

-- all nodes at the newest open marker begin, by the parts of what is kept
abbrev begun_from : Bool → ℕ → List Pending → List StepValue → Walk
begun_from around skips ps ss = entered true (record { is_around = around; skips = skips; pending = ps; steps = ss })

-- a node that is in another one begins
pub entered_inner : (old new : kept.Walk) (ps : List Pending) (k : ℕ) → old.pending.items ≡ ps ++ pending.Inner k ∷ [] → new.pending.items ≡ ps → new.is_around ≡ old.is_around → new.skips ≡ old.skips →
    drop new.first new.events.items ≡ event.Enter k ∷ drop old.first old.events.items → texts_read new ≡ texts_read old →
    entered true (walk_of new) ≡ entered true (walk_of old)
entered_inner old new ps k p q a s es ts =
    let qs : List Pending = reverse ps in
    let popped : reverse old.pending.items ≡ pending.Inner k ∷ qs = ap reverse p ∙ reverse-append ps (pending.Inner k ∷ []) in
    let before : List StepValue = values (drop old.first old.events.items) (texts_read old) in
    let now : values (drop new.first new.events.items) (texts_read new) ≡ enter k ∷ before =
    ap (λ (xs : List Event). values xs (texts_read new)) es ∙ ap (λ (ms : List (List ℕ)). enter k ∷ values (drop old.first old.events.items) ms) ts in
    ap (begun_from new.is_around new.skips (reverse new.pending.items)) now
    ∙ ap (λ (b : Bool). begun_from b new.skips (reverse new.pending.items) (enter k ∷ before)) a
    ∙ ap (λ (n : ℕ). begun_from old.is_around n (reverse new.pending.items) (enter k ∷ before)) s
    ∙ ap (λ (rs : List Pending). begun_from old.is_around old.skips (reverse rs) (enter k ∷ before)) q
    ∙ ap (λ (ss : List StepValue). record (walk_of old) { pending = others qs; steps = ss }) (sym (enters-push (glue qs) k before))
    ∙ ap (λ (rs : List Pending). begun_from old.is_around old.skips rs before) (sym popped)
