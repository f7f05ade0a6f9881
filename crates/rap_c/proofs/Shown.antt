-- Steps that are given as numbers.
use Rattle.std.proofs.Common.{◌≡◌, ℕ, zero, suc, ◌+◌, ◌<◌, List, [], ◌∷◌, ◌++◌, length, map, take, get_or, Bool, true, false, refl, ap, sym, subst, ◌∙◌, arith}
use Rattle.std.specs.Prelude.{if◌then◌else◌, Option, Some, None, MatchOption}
use Rattle.std.proofs.lemmas.List.{map-append, take_more}
use Rattle.rap_base.specs.declared.edition.Edition.{Edition}
use Rattle.rap_events.specs.Cover.{covers}
use Rattle.rap_events.specs.Forest.{Forest, flat, one_tree, splits_placed}
use Rattle.rap_events.specs.Reading.{forest_of}
use Rattle.rap_events.specs.Step.{step_value}
use Rattle.rap_events.specs.StepValue.{StepValue, enter, exit, token, float_split, error}
use Rattle.rap_events.specs.declared.output.Step.{Step}
use Rattle.rap_events.proofs.StepLemmas.{forest_of-flat}
use Rattle.rap_lexed.specs.Input.{records}
use Rattle.rap_lexed.specs.LexedStr.{Token}
use Rattle.rap_steps.specs.Steps.{IsTreeSteps}
use Rattle.rap_c.specs.Shown.{IsStepOf, AreStepsOf, IsTreeOf}
use Rattle.rap_c.specs.declared.step.RapStep.{RapStep}

-- what a step is, by its number
abbrev what_of : StepValue → ℕ
what_of (enter kind) = 0
what_of exit = 1
what_of (token kind width) = 2
what_of (error bytes) = 3
what_of (float_split d) = 4

pub what_is : (ms : List ℕ) (s : RapStep) (v : StepValue) → IsStepOf ms s v → s.what ≡ what_of v
what_is ms s (enter kind) h = h.0
what_is ms s exit h = h
what_is ms s (token kind width) h = h.0
what_is ms s (error bytes) h = h.0
what_is ms s (float_split d) h = h.0

same_bit : (a b : Bool) → ◌≡◌ {A = ℕ} (if a then 1 else 0) (if b then 1 else 0) → a ≡ b
same_bit true true e = refl
same_bit true false e = absurd (omega (arith, e))
same_bit false true e = absurd (omega (arith, e))
same_bit false false e = refl

-- the numbers are those of one step
same_step : (ms : List ℕ) (s : RapStep) (v w : StepValue) → IsStepOf ms s v → IsStepOf ms s w → v ≡ w
same_step ms s (enter k) (enter j) h g = ap enter (sym h.1 ∙ g.1)
same_step ms s exit exit h g = refl
same_step ms s (token k n) (token j m) h g = let e : n ≡ m = omega (arith, h.3, g.3) in ap (λ i. token i n) (sym h.1 ∙ g.1) ∙ ap (λ i. token j i) e
same_step ms s (error a) (error b) h g = ap error (h.1.bytes_are ∙ sym g.1.bytes_are)
same_step ms s (float_split a) (float_split b) h g = ap float_split (same_bit a b (sym h.1 ∙ g.1))
same_step ms s v w h g = absurd (omega (arith, what_is ms s v h, what_is ms s w g))

pub same_steps : (ms : List ℕ) (ss : List RapStep) (vs ws : List StepValue) → AreStepsOf ms ss vs → AreStepsOf ms ss ws → vs ≡ ws
same_steps ms [] [] [] h g = refl
same_steps ms [] [] (w ∷ ws) h g = absurd g
same_steps ms [] (v ∷ vs) ws h g = absurd h
same_steps ms (s ∷ ss) [] ws h g = absurd h
same_steps ms (s ∷ ss) (v ∷ vs) [] h g = absurd g
same_steps ms (s ∷ ss) (v ∷ vs) (w ∷ ws) h g = ap (λ i. i ∷ vs) (same_step ms s v w h.0 g.0) ∙ ap (λ l. w ∷ l) (same_steps ms ss vs ws h.1 g.1)

one_more : (ms : List ℕ) (ss : List RapStep) (vs : List StepValue) (s : RapStep) (v : StepValue) → AreStepsOf ms ss vs → IsStepOf ms s v → AreStepsOf ms (ss ++ s ∷ []) (vs ++ v ∷ [])
one_more ms [] [] s v h k = (k, tt)
one_more ms [] (w ∷ vs) s v h k = absurd h
one_more ms (t ∷ ss) [] s v h k = absurd h
one_more ms (t ∷ ss) (w ∷ vs) s v h k = (h.0, one_more ms ss vs s v h.1 k)

-- one more is read
pub steps_on : (ms : List ℕ) (ss : List RapStep) (i : ℕ) (d : RapStep) (read read_after : List Step) (next : Step) → i < length ss → IsStepOf ms (get_or ss i d) (step_value next)
    → read_after ≡ read ++ next ∷ [] → AreStepsOf ms (take i ss) (map step_value read) → AreStepsOf ms (take (i + 1) ss) (map step_value read_after)
steps_on ms ss i d read read_after next within is more h =
    let e : map step_value read ++ step_value next ∷ [] ≡ map step_value read_after = sym (ap (map step_value) more ∙ map-append step_value read (next ∷ [])) in
    let k : AreStepsOf ms (take i ss ++ get_or ss i d ∷ []) (map step_value read ++ step_value next ∷ []) = one_more ms (take i ss) (map step_value read) (get_or ss i d) (step_value next) h is in
    subst (λ (l : List RapStep). AreStepsOf ms l (map step_value read_after)) (sym (take_more ss i d within))
    (subst (λ (l : List StepValue). AreStepsOf ms (take i ss ++ get_or ss i d ∷ []) l) e k)

step_at : (ms : List ℕ) (ss : List RapStep) (vs : List StepValue) (i : ℕ) (d : RapStep) → AreStepsOf ms ss vs → i < length ss → (v : StepValue) × IsStepOf ms (get_or ss i d) v
step_at ms [] vs i d h within = absurd (omega (arith, within))
step_at ms (s ∷ ss) [] i d h within = absurd h
step_at ms (s ∷ ss) (v ∷ vs) zero d h within = (v, h.0)
step_at ms (s ∷ ss) (v ∷ vs) (suc n) d h within = step_at ms ss vs n d h.1 (omega (arith, within))

-- if one group shows no step, they show no steps
pub no_steps : (ms : List ℕ) (ss : List RapStep) (i : ℕ) (d : RapStep) → i < length ss → ((v : StepValue) → ¬ IsStepOf ms (get_or ss i d) v) → (vs : List StepValue) → ¬ AreStepsOf ms ss vs
no_steps ms ss i d within bad vs h =
    let f = step_at ms ss vs i d h within in
    bad f.0 f.1

-- the tree that is shown is that of the steps
pub tree_of : (ts : List Token) (edition : Edition) (ss : List RapStep) (ms : List ℕ) (vs : List StepValue) (f : Forest) → AreStepsOf ms ss vs → IsTreeOf ts edition ss ms f → forest_of vs ≡ f
tree_of ts edition ss ms vs f h t = ap forest_of (same_steps ms ss vs (flat f) h t.steps_are) ∙ forest_of-flat f t.placed

pub tree_steps : (ts : List Token) (edition : Edition) (ss : List RapStep) (ms : List ℕ) (vs : List StepValue) (f : Forest) → AreStepsOf ms ss vs → IsTreeOf ts edition ss ms f → IsTreeSteps vs
tree_steps ts edition ss ms vs f h t =
    let e : forest_of vs ≡ f = tree_of ts edition ss ms vs f h t in
    record {
      shown = ap flat e ∙ sym (same_steps ms ss vs (flat f) h t.steps_are);
      placed = ap splits_placed e ∙ t.placed;
      one = ap one_tree e ∙ t.one;
    }

pub no_cover : (ts : List Token) (edition : Edition) (ss : List RapStep) (ms : List ℕ) (vs : List StepValue) → AreStepsOf ms ss vs → covers (records ts edition) (forest_of vs) ≡ false
    → (f : Forest) → ¬ IsTreeOf ts edition ss ms f
no_cover ts edition ss ms vs h none f t =
    let e : false ≡ true = sym none ∙ (ap (covers (records ts edition)) (tree_of ts edition ss ms vs f h t) ∙ t.covering) in absurd cc

pub is_tree_of : (ts : List Token) (edition : Edition) (ss : List RapStep) (ms : List ℕ) (vs : List StepValue) → AreStepsOf ms ss vs → IsTreeSteps vs → covers (records ts edition) (forest_of vs) ≡ true
    → IsTreeOf ts edition ss ms (forest_of vs)
is_tree_of ts edition ss ms vs h t c = record {
  steps_are = subst (λ (l : List StepValue). AreStepsOf ms ss l) (sym t.shown) h;
  one = t.one;
  placed = t.placed;
  covering = c;
}

-- what holds for any messages holds for these
pub at_messages : (ms : List ℕ) (s : RapStep) (r : Option Step) → MatchOption r ((m : List ℕ) (v : StepValue) → ¬ IsStepOf m s v) (λ t. (m : List ℕ) → IsStepOf m s (step_value t))
    → MatchOption r ((v : StepValue) → ¬ IsStepOf ms s v) (λ t. IsStepOf ms s (step_value t))
at_messages ms s None h = h ms
at_messages ms s (Some t) h = h ms
