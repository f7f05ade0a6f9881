-- The steps are at most as many as the calls.
use Rattle.std.proofs.Common.{◌≡◌, ℕ, zero, suc, ◌+◌, ◌≤◌, List, [], ◌∷◌, ◌++◌, length, length-append, Bool, true, false, ap, sym, ◌∙◌, arith, refl}
use Rattle.rap_events.specs.StepValue.{enter, exit, token, float_split, error}
use Rattle.rap_events.specs.Forest.{Forest, none, node, leaf, message, split, ◌⧺◌, flat, split_ends, exit_of}
use Rattle.rap_events.specs.History.{Call}
use Rattle.rap_events.specs.History as call
use Rattle.rap_events.specs.Reading.{all_steps}
use Rattle.rap_events.specs.Machine.{Stack, floor, push, Config, close, merge, wrap, stretch, step, run, initial}
use Rattle.rap_events.proofs.MachineLemmas.{count_of}
use Rattle.rap_events.proofs.StepLemmas.{all_steps-⧺}

size : Forest → ℕ
size f = length (all_steps f)

size-node : (b : Forest) (k : ℕ) (x : Forest) → size (node b k x) ≡ size b + size x + 2
unfolding size
size-node b k x = omega (arith, length-append (all_steps b) (enter k ∷ (all_steps x ++ exit ∷ [])), length-append (all_steps x) (exit ∷ []))

size-leaf : (b : Forest) (k w : ℕ) → size (leaf b k w) ≡ size b + 1
unfolding size
size-leaf b k w = omega (arith, length-append (all_steps b) (token k w ∷ []))

size-message : (b : Forest) (m : List ℕ) → size (message b m) ≡ size b + 1
unfolding size
size-message b m = omega (arith, length-append (all_steps b) (error m ∷ []))

size-split : (b : Forest) (d : Bool) → size (split b d) ≡ size b + 1
unfolding size
size-split b d = omega (arith, length-append (all_steps b) (float_split d ∷ []))

size-⧺ : (f g : Forest) → size (f ⧺ g) ≡ size f + size g
unfolding size
size-⧺ f g = ap length (all_steps-⧺ f g) ∙ length-append (all_steps f) (all_steps g)

size-none : size none ≡ 0
unfolding size
size-none = refl

abbrev stack_weight : Stack → ℕ
stack_weight floor = 0
stack_weight (push r m b) = stack_weight r + size b + 1

abbrev weight : Config → ℕ
weight c = stack_weight c.below + size c.forest

weight-close : (k : ℕ) (c : Config) (s : Stack) → s ≡ c.below → weight (close k c s) ≤ weight c + 1
weight-close k c floor e = let w : stack_weight c.below ≡ 0 = ap stack_weight (sym e) in omega arith
weight-close k c (push r m b) e = let w : stack_weight c.below ≡ stack_weight r + size b + 1 = ap stack_weight (sym e) in omega (arith, size-node b k c.forest)

weight-merge : (c : Config) (s : Stack) → s ≡ c.below → weight (merge c s) ≤ weight c + 1
weight-merge c floor e = let w : stack_weight c.below ≡ 0 = ap stack_weight (sym e) in omega arith
weight-merge c (push r m b) e = let w : stack_weight c.below ≡ stack_weight r + size b + 1 = ap stack_weight (sym e) in omega (arith, size-⧺ b c.forest)

weight-wrap : (c : Config) (a : Bool) (x : Forest) → x ≡ c.forest → weight (wrap c a x) ≤ weight c + 1
weight-wrap c a none e = omega arith
weight-wrap c a (leaf f k w) e = omega arith
weight-wrap c a (message f m) e = omega arith
weight-wrap c a (split f m) e = omega arith
weight-wrap c false (node f k x) e = omega arith
weight-wrap c true (node f k x) e = omega (arith, size-node none k x, size-node f k x, size-none, ap size e)

weight-stretch : (c : Config) (x : Forest) (s : Stack) → x ≡ c.forest → s ≡ c.below → weight (stretch c x s) ≤ weight c + 1
weight-stretch c x floor e p = omega arith
weight-stretch c none (push r m b) e p = omega arith
weight-stretch c (leaf f k w) (push r m b) e p = omega arith
weight-stretch c (message f y) (push r m b) e p = omega arith
weight-stretch c (split f y) (push r m b) e p = omega arith
weight-stretch c (node f k x) (push r m b) e p =
    let w : stack_weight c.below ≡ stack_weight r + size b + 1 = ap stack_weight (sym p) in
    omega (arith, size-node b k (f ⧺ x), size-⧺ f x, size-node f k x, ap size e)

weight-step : (c : Config) (x : Call) → weight (step c x) ≤ weight c + 1
weight-step c call.start = omega (arith, size-none)
weight-step c call.precede = weight-wrap c c.closed c.forest refl
weight-step c (call.finish k) = weight-close k c c.below refl
weight-step c call.extend = weight-stretch c c.forest c.below refl refl
weight-step c call.abandon = weight-merge c c.below refl
weight-step c (call.token k w) = omega (arith, size-leaf c.forest k w)
weight-step c (call.float_split d) = omega (arith, size-split c.forest d)
weight-step c (call.error m) = omega (arith, size-message c.forest m)

weight-run : (c : Config) (xs : List Call) → weight (run c xs) ≤ weight c + length xs
weight-run c [] = omega arith
weight-run c (x ∷ xs) = omega (arith, weight-run (step c x) xs, weight-step c x)

exit_of-length : (n : ℕ) → length (exit_of n) ≤ 1
exit_of-length zero = omega arith
exit_of-length (suc n) = omega arith

-- a float's step stands for other steps
flat-size : (f : Forest) → length (flat f) ≤ size f
unfolding size
flat-size none = omega arith
flat-size (node b k x) =
    omega (arith, length-append (flat b) (enter k ∷ (flat x ++ exit_of (split_ends x))), length-append (flat x) (exit_of (split_ends x)), exit_of-length (split_ends x), flat-size b, flat-size x, size-node b k x)
flat-size (leaf b k w) = omega (arith, length-append (flat b) (token k w ∷ []), flat-size b, size-leaf b k w)
flat-size (message b m) = omega (arith, length-append (flat b) (error m ∷ []), flat-size b, size-message b m)
flat-size (split b d) = omega (arith, length-append (flat b) (float_split d ∷ []), flat-size b, size-split b d)

pub few_steps : (xs : List Call) → length (flat (run initial xs).forest) ≤ (run initial xs).count
few_steps xs = omega (arith, flat-size (run initial xs).forest, weight-run initial xs, count_of xs, size-none)
