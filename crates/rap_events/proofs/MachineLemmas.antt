-- What each call does to what a history has made.
use Rattle.std.proofs.Common.{◌≡◌, ℕ, ◌+◌, List, [], ◌∷◌, ◌++◌, length, Option, None, Bool, true, false, refl, sym, ◌∙◌, append_assoc, append-nil, arith, zero-add}
use Rattle.rap_events.specs.Forest.{Forest, none, node, leaf, message, split, ◌⧺◌}
use Rattle.rap_events.specs.Cover.{leaves}
use Rattle.rap_events.specs.History.{Call, history}
use Rattle.rap_events.specs.History as call
use Rattle.rap_events.specs.Machine.{Stack, floor, push, Config, close, merge, wrap, stretch, step, run, initial}
use Rattle.rap_events.proofs.Truth.{and_right}

pub run-push : (c : Config) (xs : List Call) (x : Call) → run c (xs ++ x ∷ []) ≡ step (run c xs) x
run-push c [] x = refl
run-push c (y ∷ xs) x = run-push (step c y) xs x

-- only the bottom has no marker
abbrev pub Rooted : Stack → Option ℕ → Type 0
Rooted floor m = m ≡ None
Rooted (push r n b) m = Rooted r n

abbrev pub RootedConfig : Config → Type 0
RootedConfig c = Rooted c.below c.marker

rooted-close : (k : ℕ) (c : Config) (s : Stack) → Rooted s c.marker → RootedConfig (close k c s)
rooted-close k c floor h = h
rooted-close k c (push r m b) h = h

rooted-merge : (c : Config) (s : Stack) → Rooted s c.marker → RootedConfig (merge c s)
rooted-merge c floor h = h
rooted-merge c (push r m b) h = h

rooted-wrap : (c : Config) (b : Bool) (f : Forest) → RootedConfig c → RootedConfig (wrap c b f)
rooted-wrap c b none h = h
rooted-wrap c b (leaf f k w) h = h
rooted-wrap c b (message f m) h = h
rooted-wrap c b (split f m) h = h
rooted-wrap c false (node f k x) h = h
rooted-wrap c true (node f k x) h = h

rooted-stretch : (c : Config) (x : Forest) (s : Stack) → RootedConfig c → Rooted s c.marker → RootedConfig (stretch c x s)
rooted-stretch c x floor g h = g
rooted-stretch c none (push r m b) g h = g
rooted-stretch c (leaf f k w) (push r m b) g h = g
rooted-stretch c (message f y) (push r m b) g h = g
rooted-stretch c (split f y) (push r m b) g h = g
rooted-stretch c (node f k x) (push r m b) g h = h

rooted-step : (c : Config) (x : Call) → RootedConfig c → RootedConfig (step c x)
rooted-step c call.start h = h
rooted-step c call.precede h = rooted-wrap c c.closed c.forest h
rooted-step c (call.finish k) h = rooted-close k c c.below h
rooted-step c call.extend h = rooted-stretch c c.forest c.below h h
rooted-step c call.abandon h = rooted-merge c c.below h
rooted-step c (call.token k w) h = h
rooted-step c (call.float_split d) h = h
rooted-step c (call.error m) h = h

rooted-run : (c : Config) (xs : List Call) → RootedConfig c → RootedConfig (run c xs)
rooted-run c [] h = h
rooted-run c (x ∷ xs) h = rooted-run (step c x) xs (rooted-step c x h)

pub rooted : (xs : List Call) → RootedConfig (run initial xs)
rooted xs = rooted-run initial xs refl

-- each call is counted
count-close : (k : ℕ) (c : Config) (s : Stack) → (close k c s).count ≡ c.count + 1
count-close k c floor = refl
count-close k c (push r m b) = refl

count-merge : (c : Config) (s : Stack) → (merge c s).count ≡ c.count + 1
count-merge c floor = refl
count-merge c (push r m b) = refl

count-wrap : (c : Config) (b : Bool) (f : Forest) → (wrap c b f).count ≡ c.count + 1
count-wrap c b none = refl
count-wrap c b (leaf f k w) = refl
count-wrap c b (message f m) = refl
count-wrap c b (split f m) = refl
count-wrap c false (node f k x) = refl
count-wrap c true (node f k x) = refl

count-stretch : (c : Config) (x : Forest) (s : Stack) → (stretch c x s).count ≡ c.count + 1
count-stretch c x floor = refl
count-stretch c none (push r m b) = refl
count-stretch c (leaf f k w) (push r m b) = refl
count-stretch c (message f y) (push r m b) = refl
count-stretch c (split f y) (push r m b) = refl
count-stretch c (node f k x) (push r m b) = refl

pub count-step : (c : Config) (x : Call) → (step c x).count ≡ c.count + 1
count-step c call.start = refl
count-step c call.precede = count-wrap c c.closed c.forest
count-step c (call.finish k) = count-close k c c.below
count-step c call.extend = count-stretch c c.forest c.below
count-step c call.abandon = count-merge c c.below
count-step c (call.token k w) = refl
count-step c (call.float_split d) = refl
count-step c (call.error m) = refl

count-run : (c : Config) (xs : List Call) → (run c xs).count ≡ c.count + length xs
count-run c [] = omega arith
count-run c (x ∷ xs) = omega (arith, count-run (step c x) xs, count-step c x)

pub count_of : (xs : List Call) → (run initial xs).count ≡ length xs
count_of xs = count-run initial xs ∙ zero-add (length xs)

-- a call that fits leaves the earlier ones fitting
sound-close : (k : ℕ) (c : Config) (s : Stack) → (close k c s).sound ≡ true → c.sound ≡ true
sound-close k c floor h = absurd cc
sound-close k c (push r m b) h = h

sound-merge : (c : Config) (s : Stack) → (merge c s).sound ≡ true → c.sound ≡ true
sound-merge c floor h = absurd cc
sound-merge c (push r m b) h = h

sound-wrap : (c : Config) (b : Bool) (f : Forest) → (wrap c b f).sound ≡ true → c.sound ≡ true
sound-wrap c b none h = absurd cc
sound-wrap c b (leaf f k w) h = absurd cc
sound-wrap c b (message f m) h = absurd cc
sound-wrap c b (split f m) h = absurd cc
sound-wrap c false (node f k x) h = absurd cc
sound-wrap c true (node f k x) h = h

sound-stretch : (c : Config) (x : Forest) (s : Stack) → (stretch c x s).sound ≡ true → c.sound ≡ true
sound-stretch c x floor h = absurd cc
sound-stretch c none (push r m b) h = absurd cc
sound-stretch c (leaf f k w) (push r m b) h = absurd cc
sound-stretch c (message f y) (push r m b) h = absurd cc
sound-stretch c (split f y) (push r m b) h = absurd cc
sound-stretch c (node f k x) (push r m b) h = and_right c.closed c.sound h

pub sound-step : (c : Config) (x : Call) → (step c x).sound ≡ true → c.sound ≡ true
sound-step c call.start h = h
sound-step c call.precede h = sound-wrap c c.closed c.forest h
sound-step c (call.finish k) h = sound-close k c c.below h
sound-step c call.extend h = sound-stretch c c.forest c.below h
sound-step c call.abandon h = sound-merge c c.below h
sound-step c (call.token k w) h = h
sound-step c (call.float_split d) h = h
sound-step c (call.error m) h = h

pub sound-run : (c : Config) (xs : List Call) → (run c xs).sound ≡ true → c.sound ≡ true
sound-run c [] h = h
sound-run c (x ∷ xs) h = sound-step c x (sound-run (step c x) xs h)

pub leaves-⧺ : (f g : Forest) → leaves (f ⧺ g) ≡ leaves f ++ leaves g
leaves-⧺ f none = sym (append-nil (leaves f))
leaves-⧺ f (node b k x) = simp (leaves-⧺ f b, append_assoc)
leaves-⧺ f (leaf b k w) = simp (leaves-⧺ f b, append_assoc)
leaves-⧺ f (message b m) = leaves-⧺ f b
leaves-⧺ f (split b d) = simp (leaves-⧺ f b, append_assoc)
