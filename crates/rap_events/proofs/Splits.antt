-- Floats that are taken apart stand where they must, whatever is recorded after them.
use Rattle.std.proofs.Common.{◌≡◌, ℕ, ◌-◌, [], ◌∷◌, ◌++◌, Option, Bool, true, false, ◌&&◌, ◌||◌, ◌==◌, refl, ap, ◌∙◌, arith}
use Rattle.std.proofs.lemmas.Bool.{eq-eqb}
use Rattle.rap_base.specs.NodeKind.{FIELD_EXPR}
use Rattle.rap_events.specs.StepValue.{enter, exit}
use Rattle.rap_events.specs.Forest.{Forest, none, node, leaf, message, split, ◌⧺◌, flat, split_ends, exit_of, is_ended, splits_last, splits_placed}
use Rattle.rap_events.specs.Machine.{Stack, floor, push, Config, close, merge, wrap, stretch, stack_splits_placed, all_splits_placed}
use Rattle.rap_events.proofs.StepLemmas.{Before, before, Parts, node_parts}
use Rattle.rap_events.proofs.Truth.{and_left, and_right, and_both, or_left}

pub both_placed : (f : Forest) → Before f → splits_placed f ≡ true
both_placed f p = and_both (splits_last f) (is_ended f) p.last (eq-eqb (split_ends f) 0 p.ended)

pub before_none : Before none
before_none = record { last = refl; ended = refl }

-- a node that its parts make
pub node_last : (b : Forest) (k : ℕ) (x : Forest) → Before b → splits_last x ≡ true → (is_ended x || (k == FIELD_EXPR)) ≡ true → splits_last (node b k x) ≡ true
node_last b k x p l e =
    and_both (splits_last b && is_ended b) (splits_last x && (is_ended x || (k == FIELD_EXPR))) (both_placed b p) (and_both (splits_last x) (is_ended x || (k == FIELD_EXPR)) l e)

pub split_ends-⧺ : (f g : Forest) → split_ends f ≡ 0 → split_ends (f ⧺ g) ≡ split_ends g
split_ends-⧺ f none h = h
split_ends-⧺ f (node b k x) h = refl
split_ends-⧺ f (leaf b k w) h = refl
split_ends-⧺ f (message b m) h = refl
split_ends-⧺ f (split b d) h = refl

pub splits_last-⧺ : (f g : Forest) → Before f → splits_last g ≡ true → splits_last (f ⧺ g) ≡ true
splits_last-⧺ f none p h = p.last
splits_last-⧺ f (node b k x) p h =
    let q : Parts b k x = node_parts b k x h in
    node_last (f ⧺ b) k x (record { last = splits_last-⧺ f b p q.before.last; ended = split_ends-⧺ f b p.ended ∙ q.before.ended }) q.last q.kind
splits_last-⧺ f (leaf b k w) p h =
    let q : Before b = before b h in
    both_placed (f ⧺ b) (record { last = splits_last-⧺ f b p q.last; ended = split_ends-⧺ f b p.ended ∙ q.ended })
splits_last-⧺ f (message b m) p h =
    let q : Before b = before b h in
    both_placed (f ⧺ b) (record { last = splits_last-⧺ f b p q.last; ended = split_ends-⧺ f b p.ended ∙ q.ended })
splits_last-⧺ f (split b d) p h =
    let q : Before b = before b h in
    both_placed (f ⧺ b) (record { last = splits_last-⧺ f b p q.last; ended = split_ends-⧺ f b p.ended ∙ q.ended })

-- a node around a whole forest
pub record Wrapped (k : ℕ) (f : Forest) : Type 0 where
  pub steps : flat (node none k f) ≡ enter k ∷ (flat f ++ exit ∷ [])
  pub placed : splits_placed (node none k f) ≡ true

pub wrapped : (k : ℕ) (f : Forest) → splits_placed f ≡ true → Wrapped k f
wrapped k f h =
    let p : Before f = before f h in
    record {
      steps = ap (λ (n : ℕ). enter k ∷ (flat f ++ exit_of n)) p.ended;
      placed = both_placed (node none k f) (record { last = node_last none k f before_none p.last (or_left (is_ended f) (k == FIELD_EXPR) (eq-eqb (split_ends f) 0 p.ended)); ended = omega (arith, p.ended) });
    }

-- the same of all that a history has made
pub record Placed (c : Config) : Type 0 where
  pub below : stack_splits_placed c.below ≡ true
  pub forest : Before c.forest

pub placed : (c : Config) → all_splits_placed c ≡ true → Placed c
placed c h = record {
  below = and_left (stack_splits_placed c.below) (splits_placed c.forest) h;
  forest = before c.forest (and_right (stack_splits_placed c.below) (splits_placed c.forest) h);
}

pub all_placed : (c : Config) → Placed c → all_splits_placed c ≡ true
all_placed c p = and_both (stack_splits_placed c.below) (splits_placed c.forest) p.below (both_placed c.forest p.forest)

-- a marker more
pub start_placed : (c : Config) → all_splits_placed c ≡ true → (stack_splits_placed (push c.below c.marker c.forest) && splits_placed none) ≡ true
start_placed c h = and_both (stack_splits_placed c.below && splits_placed c.forest) true h refl

-- a token or a message more
pub point_placed : (c : Config) → all_splits_placed c ≡ true → (stack_splits_placed c.below && (splits_placed c.forest && true)) ≡ true
point_placed c h =
    and_both (stack_splits_placed c.below) (splits_placed c.forest && true) (and_left (stack_splits_placed c.below) (splits_placed c.forest) h)
    (and_both (splits_placed c.forest) true (and_right (stack_splits_placed c.below) (splits_placed c.forest) h) refl)

-- what stands under the markers
pub record Pushed (r : Stack) (b : Forest) : Type 0 where
  pub below : stack_splits_placed r ≡ true
  pub forest : Before b

pub pushed : (r : Stack) (m : Option ℕ) (b : Forest) → stack_splits_placed (push r m b) ≡ true → Pushed r b
pushed r m b h = record { below = and_left (stack_splits_placed r) (splits_placed b) h; forest = before b (and_right (stack_splits_placed r) (splits_placed b) h) }

pub placed-push : (r : Stack) (m : Option ℕ) (b : Forest) → stack_splits_placed r ≡ true → Before b → stack_splits_placed (push r m b) ≡ true
placed-push r m b h p = and_both (stack_splits_placed r) (splits_placed b) h (both_placed b p)

pub placed-close : (k : ℕ) (c : Config) (s : Stack) → s ≡ c.below → Placed c → Placed (close k c s)
placed-close k c floor e p = record { below = refl; forest = p.forest }
placed-close k c (push r m b) e p =
    let q : Pushed r b = pushed r m b (ap stack_splits_placed e ∙ p.below) in
    record {
      below = q.below;
      forest = record {
        last = node_last b k c.forest q.forest p.forest.last (or_left (is_ended c.forest) (k == FIELD_EXPR) (eq-eqb (split_ends c.forest) 0 p.forest.ended));
        ended = omega (arith, p.forest.ended);
      };
    }

pub placed-merge : (c : Config) (s : Stack) → s ≡ c.below → Placed c → Placed (merge c s)
placed-merge c floor e p = record { below = refl; forest = p.forest }
placed-merge c (push r m b) e p =
    let q : Pushed r b = pushed r m b (ap stack_splits_placed e ∙ p.below) in
    record {
      below = q.below;
      forest = record { last = splits_last-⧺ b c.forest q.forest p.forest.last; ended = split_ends-⧺ b c.forest q.forest.ended ∙ p.forest.ended };
    }

pub placed-wrap : (c : Config) (a : Bool) (x : Forest) → x ≡ c.forest → Placed c → Placed (wrap c a x)
placed-wrap c a none e p = record { below = p.below; forest = p.forest }
placed-wrap c a (leaf f k w) e p = record { below = p.below; forest = p.forest }
placed-wrap c a (message f m) e p = record { below = p.below; forest = p.forest }
placed-wrap c a (split f d) e p = record { below = p.below; forest = p.forest }
placed-wrap c false (node f k x) e p = record { below = p.below; forest = p.forest }
placed-wrap c true (node f k x) e p =
    let q : Parts f k x = node_parts f k x (ap splits_last e ∙ p.forest.last) in
    record {
      below = placed-push c.below c.marker f p.below q.before;
      forest = record { last = node_last none k x before_none q.last q.kind; ended = ap split_ends e ∙ p.forest.ended };
    }

pub placed-stretch : (c : Config) (x : Forest) (s : Stack) → x ≡ c.forest → s ≡ c.below → Placed c → Placed (stretch c x s)
placed-stretch c x floor e i p = record { below = p.below; forest = p.forest }
placed-stretch c none (push r m b) e i p = record { below = p.below; forest = p.forest }
placed-stretch c (leaf f k w) (push r m b) e i p = record { below = p.below; forest = p.forest }
placed-stretch c (message f y) (push r m b) e i p = record { below = p.below; forest = p.forest }
placed-stretch c (split f d) (push r m b) e i p = record { below = p.below; forest = p.forest }
placed-stretch c (node f k x) (push r m b) e i p =
    let u : Pushed r b = pushed r m b (ap stack_splits_placed i ∙ p.below) in
    let q : Parts f k x = node_parts f k x (ap splits_last e ∙ p.forest.last) in
    let same : split_ends (f ⧺ x) ≡ split_ends x = split_ends-⧺ f x q.before.ended in
    record {
      below = u.below;
      forest = record {
        last = node_last b k (f ⧺ x) u.forest (splits_last-⧺ f x q.before q.last) (ap (λ (n : ℕ). (n == 0) || (k == FIELD_EXPR)) same ∙ q.kind);
        ended = ap (λ (n : ℕ). n - 1) same ∙ ap split_ends e ∙ p.forest.ended;
      };
    }

pub floor_placed : (c : Config) → all_splits_placed c ≡ true → splits_placed c.forest ≡ true
floor_placed c h = and_right (stack_splits_placed c.below) (splits_placed c.forest) h
