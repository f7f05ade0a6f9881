-- How many steps of a sort words show, by their lowest bytes.
use Rattle.std.proofs.Common.{◌≡◌, ℕ, ◌*◌, ◌^◌, ◌%◌, ◌||◌, List, [], ◌∷◌, Bool, true, false, cond, drop, refl, ap, arith}
use Rattle.std.proofs.lemmas.Bool.{ne_eqb}
use Rattle.std.specs.List.{count_by}
use Rattle.std.proofs.lemmas.List.Sums.{sum_by-cons}
use Rattle.rap_events.specs.History.{reports}
use Rattle.rap_events.specs.Output.{value_of, values}
use Rattle.rap_events.specs.StepValue.{StepValue, is_element, is_leaf}
use Rattle.rap_events.specs.Word.{has_byte, word_of_event}
use Rattle.rap_events.specs.declared.event.Event.{Event}
use Rattle.rap_events.specs.declared.event.Event.TheVariants as event

-- what the lowest byte of an event's word is; of a message's it is even
abbrev low : Event → ℕ
low (event.Token width kind) = 1
low (event.Enter kind) = 17
low event.Exit = 33
low (event.FloatSplit ends_in_dot) = 49
low (event.Error number) = 2 * number % 2 ^ 8
low event.Start = 65
low event.Precede = 81
low (event.Finish kind) = 97
low event.Extend = 113
low event.Abandon = 129

low_byte : (e : Event) → word_of_event e % 2 ^ 8 ≡ low e
low_byte (event.Token width kind) = omega arith
low_byte (event.Enter kind) = omega arith
low_byte event.Exit = refl
low_byte (event.FloatSplit true) = refl
low_byte (event.FloatSplit false) = refl
low_byte (event.Error number) = omega arith
low_byte event.Start = refl
low_byte event.Precede = refl
low_byte (event.Finish kind) = omega arith
low_byte event.Extend = refl
low_byte event.Abandon = refl

no_odd : (number byte : ℕ) → byte % 2 ≡ 1 → word_of_event (event.Error number) % 2 ^ 8 ≡ byte → ⊥
no_odd number byte odd e = omega (arith, odd, e)

-- a message's byte is no odd one
even : (number byte : ℕ) → byte % 2 ≡ 1 → has_byte byte (event.Error number) ≡ false
even number byte odd = ne_eqb (word_of_event (event.Error number) % 2 ^ 8) byte (λ e. no_odd number byte odd e)

abbrev Agrees : (StepValue → Bool) → ℕ → ℕ → Event → Type 0
Agrees p a b e = (ms : List (List ℕ)) → (has_byte a e || has_byte b e) ≡ p (value_of ms e)

of_element : (e : Event) → Agrees is_element 1 17 e
of_element (event.Token width kind) ms = rw (low_byte (event.Token width kind)) refl
of_element (event.Enter kind) ms = rw (low_byte (event.Enter kind)) refl
of_element event.Exit ms = refl
of_element (event.FloatSplit true) ms = refl
of_element (event.FloatSplit false) ms = refl
of_element (event.Error number) ms = rw (even number 1 refl, even number 17 refl) refl
of_element event.Start ms = refl
of_element event.Precede ms = refl
of_element (event.Finish kind) ms = rw (low_byte (event.Finish kind)) refl
of_element event.Extend ms = refl
of_element event.Abandon ms = refl

of_leaf : (e : Event) → Agrees is_leaf 1 1 e
of_leaf (event.Token width kind) ms = rw (low_byte (event.Token width kind)) refl
of_leaf (event.Enter kind) ms = rw (low_byte (event.Enter kind)) refl
of_leaf event.Exit ms = refl
of_leaf (event.FloatSplit true) ms = refl
of_leaf (event.FloatSplit false) ms = refl
of_leaf (event.Error number) ms = rw (even number 1 refl) refl
of_leaf event.Start ms = refl
of_leaf event.Precede ms = refl
of_leaf (event.Finish kind) ms = rw (low_byte (event.Finish kind)) refl
of_leaf event.Extend ms = refl
of_leaf event.Abandon ms = refl

-- where a test of steps agrees with the bytes, as many pass it as words have one of the bytes
counted : (p : StepValue → Bool) (a b : ℕ) → ((e : Event) → Agrees p a b e) → (es : List Event) (ms : List (List ℕ)) → count_by (λ e. has_byte a e || has_byte b e) es ≡ count_by p (values es ms)
counted p a b agree [] ms = refl
counted p a b agree (e ∷ es) ms =
    omega (
      arith,
      sum_by-cons (λ x. cond {A = ℕ} (has_byte a x || has_byte b x) 1 0) e es,
      sum_by-cons (λ v. cond {A = ℕ} (p v) 1 0) (value_of ms e) (values es (drop (reports e) ms)),
      ap (λ (t : Bool). cond {A = ℕ} t 1 0) (agree e ms),
      counted p a b agree es (drop (reports e) ms),
    )

pub count_elements : (es : List Event) (ms : List (List ℕ)) → count_by (λ e. has_byte 1 e || has_byte 17 e) es ≡ count_by is_element (values es ms)
count_elements es ms = counted is_element 1 17 of_element es ms

pub count_leaves : (es : List Event) (ms : List (List ℕ)) → count_by (λ e. has_byte 1 e || has_byte 1 e) es ≡ count_by is_leaf (values es ms)
count_leaves es ms = counted is_leaf 1 1 of_leaf es ms
