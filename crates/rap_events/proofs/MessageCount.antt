-- The messages of the forests are those that were reported.
use Rattle.std.proofs.Common.{◌≡◌, ℕ, ◌+◌, List, [], ◌∷◌, Bool, true, false, refl, ap, sym, arith}
use Rattle.rap_events.specs.Forest.{Forest, none, node, leaf, message, split, ◌⧺◌, message_count}
use Rattle.rap_events.specs.History.{Call}
use Rattle.rap_events.specs.History as call
use Rattle.rap_events.specs.Machine.{Stack, floor, push, Config, close, merge, wrap, stretch, step, run, initial}

message_count-⧺ : (f g : Forest) → message_count (f ⧺ g) ≡ message_count f + message_count g
message_count-⧺ f none = omega arith
message_count-⧺ f (node b k x) = omega (arith, message_count-⧺ f b)
message_count-⧺ f (leaf b k w) = message_count-⧺ f b
message_count-⧺ f (split b d) = message_count-⧺ f b
message_count-⧺ f (message b m) = omega (arith, message_count-⧺ f b)

abbrev stack_message_count : Stack → ℕ
stack_message_count floor = 0
stack_message_count (push r m b) = stack_message_count r + message_count b

record Counted (c : Config) : Type 0 where
  all : stack_message_count c.below + message_count c.forest ≡ c.messages

counted-close : (k : ℕ) (c : Config) (s : Stack) → s ≡ c.below → Counted c → Counted (close k c s)
counted-close k c floor e h = let w : stack_message_count c.below ≡ 0 = ap stack_message_count (sym e) in record { all = omega (arith, h.all) }
counted-close k c (push r m b) e h = let w : stack_message_count c.below ≡ stack_message_count r + message_count b = ap stack_message_count (sym e) in record { all = omega (arith, h.all) }

counted-merge : (c : Config) (s : Stack) → s ≡ c.below → Counted c → Counted (merge c s)
counted-merge c floor e h = let w : stack_message_count c.below ≡ 0 = ap stack_message_count (sym e) in record { all = omega (arith, h.all) }
counted-merge c (push r m b) e h = let w : stack_message_count c.below ≡ stack_message_count r + message_count b = ap stack_message_count (sym e) in record { all = omega (arith, h.all, message_count-⧺ b c.forest) }

counted-wrap : (c : Config) (a : Bool) (x : Forest) → x ≡ c.forest → Counted c → Counted (wrap c a x)
counted-wrap c a none e h = record { all = h.all }
counted-wrap c a (leaf f k w) e h = record { all = h.all }
counted-wrap c a (message f m) e h = record { all = h.all }
counted-wrap c a (split f m) e h = record { all = h.all }
counted-wrap c false (node f k x) e h = record { all = h.all }
counted-wrap c true (node f k x) e h = let w : message_count c.forest ≡ message_count f + message_count x = ap message_count (sym e) in record { all = omega (arith, h.all) }

counted-stretch : (c : Config) (x : Forest) (s : Stack) → x ≡ c.forest → s ≡ c.below → Counted c → Counted (stretch c x s)
counted-stretch c x floor e p h = record { all = h.all }
counted-stretch c none (push r m b) e p h = record { all = h.all }
counted-stretch c (leaf f k w) (push r m b) e p h = record { all = h.all }
counted-stretch c (message f y) (push r m b) e p h = record { all = h.all }
counted-stretch c (split f y) (push r m b) e p h = record { all = h.all }
counted-stretch c (node f k x) (push r m b) e p h =
    let w : stack_message_count c.below ≡ stack_message_count r + message_count b = ap stack_message_count (sym p) in
    let v : message_count c.forest ≡ message_count f + message_count x = ap message_count (sym e) in
    record { all = omega (arith, h.all, message_count-⧺ f x) }

counted-step : (c : Config) (x : Call) → Counted c → Counted (step c x)
counted-step c call.start h = record { all = omega (arith, h.all) }
counted-step c call.precede h = counted-wrap c c.closed c.forest refl h
counted-step c (call.finish k) h = counted-close k c c.below refl h
counted-step c call.extend h = counted-stretch c c.forest c.below refl refl h
counted-step c call.abandon h = counted-merge c c.below refl h
counted-step c (call.token k w) h = record { all = h.all }
counted-step c (call.float_split d) h = record { all = h.all }
counted-step c (call.error m) h = record { all = omega (arith, h.all) }

counted-run : (c : Config) (xs : List Call) → Counted c → Counted (run c xs)
counted-run c [] h = h
counted-run c (x ∷ xs) h = counted-run (step c x) xs (counted-step c x h)

pub no_messages : (xs : List Call) → (run initial xs).below ≡ floor → message_count (run initial xs).forest ≡ 0 → (run initial xs).messages ≡ 0
no_messages xs f z =
    let h = counted-run initial xs (record { all = refl }) in
    let w : stack_message_count (run initial xs).below ≡ 0 = ap stack_message_count f in
    omega (arith, h.all)
