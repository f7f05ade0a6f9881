-- What is computed of a script's messages and open nodes is so.
use Rattle.std.proofs.Common.{◌≡◌, ◌==◌, ◌<◌, ◌≤◌, ◌+◌, ◌-◌, ℕ, zero, suc, Bool, true, false, ◌&&◌, nat_le, List, Option, if◌then◌else◌, arith, refl, ap, sym, ◌∙◌, subst, eqb-true}
use Rattle.std.proofs.lemmas.Bool.Decides.{nat_tests}
use Rattle.rap_events.specs.Machine.{Stack}
use Rattle.rap_grammar_scripts.specs.Stand.{Stand, marker_below, far_below}
use Rattle.rap_grammar_scripts.specs.Kept.{one_of_two, two_of_two, told, More, Tells, Nodes, astray, nodes, after_nodes, either_nodes, turns_nodes, open_nodes, marker_under, stack_under, Opens, Stays, says_told, says_nodes, undone, Undone}
use Rattle.rap_grammar_scripts.proofs.Moves.{left_so, right_so}
use Rattle.rap_grammar_scripts.proofs.Tally.{fewer, Laws}

-- messages
both_more : (x y : Bool) (a b c : ℕ) → More x a b → More y b c → More (one_of_two x y) a c
both_more true true a b c h i = omega (arith, h, i)
both_more true false a b c h i = omega (arith, h, i)
both_more false true a b c h i = omega (arith, h, i)
both_more false false a b c h i = omega (arith, h, i)

left_more : (x y : Bool) (a b : ℕ) → More x a b → More (two_of_two x y) a b
left_more true true a b h = h
left_more true false a b h = omega (arith, h)
left_more false y a b h = h

right_more : (x y : Bool) (a b : ℕ) → More y a b → More (two_of_two x y) a b
right_more true y a b h = h
right_more false true a b h = omega (arith, h)
right_more false false a b h = h

more_once : (x : Bool) (a b c : ℕ) → More x a b → More x b c → More x a c
more_once true a b c h i = omega (arith, h, i)
more_once false a b c h i = omega (arith, h, i)

pub told_laws : Laws told Tells
told_laws = record {
  idle = λ p. record { input = refl; messages = omega arith };
  takes = λ k w p l. record { input = refl; messages = omega arith };
  takes_end = λ k w p. record { input = refl; messages = omega arith };
  reports = λ bytes p. record { input = refl; messages = omega arith };
  skips = λ bytes p. record { input = refl; messages = omega arith };
  starts = λ p. record { input = refl; messages = omega arith };
  precedes = λ p. record { input = refl; messages = omega arith };
  closes = λ f p. record { input = refl; messages = omega arith };
  splits = λ dot p l. record { input = refl; messages = omega arith };
  and_then = λ x y p r q h i.
      record {
        input = i.input ∙ h.input;
        messages = both_more x y p.messages r.messages q.messages h.messages i.messages;
      };
  left = λ x y p q h. record { input = h.input; messages = left_more x y p.messages q.messages h.messages };
  right = λ x y p q h. record { input = h.input; messages = right_more x y p.messages q.messages h.messages };
  first_turn = λ x p q h l. h;
  next_turn = λ x p r q h i l.
      record {
        input = i.input ∙ h.input;
        messages = more_once x p.messages r.messages q.messages h.messages i.messages;
      };
}

-- open nodes
stack_plus : (n m : ℕ) (b : Stack) → stack_under (n + m) b ≡ stack_under m (stack_under n b)
stack_plus zero m b = let e : zero + m ≡ m = omega arith in ap (λ (x : ℕ). stack_under x b) e
stack_plus (suc n) m b =
    let e : suc n + m ≡ suc (n + m) = omega arith in
    ap (λ (x : ℕ). stack_under x b) e ∙ stack_plus n m (far_below b)

marker_plus : (n m : ℕ) (k : Option ℕ) (b : Stack) →
    marker_under (n + m) k b ≡ marker_under m (marker_under n k b) (stack_under n b)
marker_plus zero m k b = let e : zero + m ≡ m = omega arith in ap (λ (x : ℕ). marker_under x k b) e
marker_plus (suc n) m k b =
    let e : suc n + m ≡ suc (n + m) = omega arith in
    ap (λ (x : ℕ). marker_under x k b) e ∙ marker_plus n m (marker_below b) (far_below b)

-- so many nodes more under both
under_more : (a b : ℕ) (p q : Stand) → Opens a b p q → (n c d : ℕ) → c ≡ a + n → d ≡ b + n → Opens c d p q
under_more a b p q h n c d e f = record {
  marker =
      ap (λ (x : ℕ). marker_under x q.marker q.below) f ∙ marker_plus b n q.marker q.below ∙
      ap (λ (x : Option ℕ). marker_under n x (stack_under b q.below)) h.marker ∙
      ap (λ (x : Stack). marker_under n (marker_under a p.marker p.below) x) h.below ∙
      sym (marker_plus a n p.marker p.below) ∙
      ap (λ (x : ℕ). marker_under x p.marker p.below) (sym e);
  below =
      ap (λ (x : ℕ). stack_under x q.below) f ∙ stack_plus b n q.below ∙
      ap (λ (x : Stack). stack_under n x) h.below ∙ sym (stack_plus a n p.below) ∙
      ap (λ (x : ℕ). stack_under x p.below) (sym e);
}

opens_on : (a b c : ℕ) (p r q : Stand) → Opens a b p r → Opens b c r q → Opens a c p q
opens_on a b c p r q h i = record { marker = i.marker ∙ h.marker; below = i.below ∙ h.below }

nodes_join : (t : Bool) (a b c d : ℕ) (p r q : Stand) → nat_le c b ≡ t → Opens a b p r → Opens c d r q →
    Stays (if t then nodes a ((b - c) + d) else nodes (a + (c - b)) d) p q
nodes_join true a b c d p r q e h i =
    opens_on a b ((b - c) + d) p r q h
    (under_more c d r q i (b - c) b ((b - c) + d) (grind (arith, nat_tests)) (omega arith))
nodes_join false a b c d p r q e h i =
    opens_on (a + (c - b)) c d p r q
    (under_more a b p r h (c - b) (a + (c - b)) c refl (grind (arith, nat_tests))) i

nodes_on : (x y : Nodes) (p r q : Stand) → Stays x p r → Stays y r q → Stays (after_nodes x y) p q
nodes_on astray y p r q h i = tt
nodes_on (nodes a b) astray p r q h i = tt
nodes_on (nodes a b) (nodes c d) p r q h i = nodes_join (nat_le c b) a b c d p r q refl h i

nodes_if : (t : Bool) (a b : ℕ) (p q : Stand) → (t ≡ true → Opens a b p q) →
    Stays (if t then nodes a b else astray) p q
nodes_if true a b p q h = h refl
nodes_if false a b p q h = tt

nodes_left : (x y : Nodes) (p q : Stand) → Stays x p q → Stays (either_nodes x y) p q
nodes_left astray y p q h = tt
nodes_left (nodes a b) astray p q h = tt
nodes_left (nodes a b) (nodes c d) p q h = nodes_if ((a == c) && (b == d)) a b p q (λ e. h)

nodes_right : (x y : Nodes) (p q : Stand) → Stays y p q → Stays (either_nodes x y) p q
nodes_right astray y p q h = tt
nodes_right (nodes a b) astray p q h = tt
nodes_right (nodes a b) (nodes c d) p q h =
    nodes_if ((a == c) && (b == d)) a b p q
    (λ e. rw (eqb-true a c (left_so (a == c) (b == d) e), eqb-true b d (right_so (a == c) (b == d) e)) h)

nodes_turn : (x : Nodes) (p q : Stand) → Stays x p q → fewer p q → Stays (turns_nodes x) p q
nodes_turn astray p q h l = tt
nodes_turn (nodes a b) p q h l = nodes_if (a == b) a b p q (λ e. h)

nodes_next : (t : Bool) (a b : ℕ) (p r q : Stand) → (t ≡ true → a ≡ b) → Stays (if t then nodes a b else astray) p r →
    Opens a b r q → Stays (if t then nodes a b else astray) p q
nodes_next true a b p r q e h i =
    opens_on a b b p r q h (subst (λ (x : ℕ). Opens x b r q) (e refl) i)
nodes_next false a b p r q e h i = tt

nodes_turns : (x : Nodes) (p r q : Stand) → Stays (turns_nodes x) p r → Stays x r q → fewer r q →
    Stays (turns_nodes x) p q
nodes_turns astray p r q h i l = tt
nodes_turns (nodes a b) p r q h i l = nodes_next (a == b) a b p r q (eqb-true a b) h i

pub nodes_laws : Laws open_nodes Stays
nodes_laws = record {
  idle = λ p. record { marker = refl; below = refl };
  takes = λ k w p l. record { marker = refl; below = refl };
  takes_end = λ k w p. record { marker = refl; below = refl };
  reports = λ bytes p. record { marker = refl; below = refl };
  skips = λ bytes p. record { marker = refl; below = refl };
  starts = λ p. record { marker = refl; below = refl };
  precedes = λ p. record { marker = refl; below = refl };
  closes = λ f p. record { marker = refl; below = refl };
  splits = λ dot p l. record { marker = refl; below = refl };
  and_then = nodes_on;
  left = nodes_left;
  right = nodes_right;
  first_turn = nodes_turn;
  next_turn = nodes_turns;
}

-- what says more
pub told_within : (x y : Bool) (p q : Stand) → says_told x y ≡ true → Tells x p q → Tells y p q
told_within true true p q h c = c
told_within false true p q h c = absurd cc
told_within true false p q h c = record { input = c.input; messages = omega (arith, c.messages) }
told_within false false p q h c = c

pub nodes_within : (x y : Nodes) (p q : Stand) → says_nodes x y ≡ true → Stays x p q → Stays y p q
nodes_within x astray p q h c = tt
nodes_within astray (nodes c d) p q h x = absurd cc
nodes_within (nodes a b) (nodes c d) p q h x =
    rw (← (eqb-true a c (left_so (a == c) (b == d) h)), ← (eqb-true b d (right_so (a == c) (b == d) h))) x

-- nothing done
undone_both : (x y : Bool) (p r q : Stand) → Undone x p r → Undone y r q → Undone (two_of_two x y) p q
undone_both true true p r q h i = i ∙ h
undone_both true false p r q h i = tt
undone_both false y p r q h i = tt

undone_left : (x y : Bool) (p q : Stand) → Undone x p q → Undone (two_of_two x y) p q
undone_left true true p q h = h
undone_left true false p q h = tt
undone_left false y p q h = tt

undone_right : (x y : Bool) (p q : Stand) → Undone y p q → Undone (two_of_two x y) p q
undone_right true y p q h = h
undone_right false y p q h = tt

pub undone_laws : Laws undone Undone
undone_laws = record {
  idle = λ p. refl;
  takes = λ k w p l. tt;
  takes_end = λ k w p. tt;
  reports = λ bytes p. tt;
  skips = λ bytes p. tt;
  starts = λ p. tt;
  precedes = λ p. tt;
  closes = λ f p. tt;
  splits = λ dot p l. tt;
  and_then = undone_both;
  left = undone_left;
  right = undone_right;
  first_turn = λ x p q h l. tt;
  next_turn = λ x p r q h i l. tt;
}

pub undone_within : (x y : Bool) (p q : Stand) → says_told x y ≡ true → Undone x p q → Undone y p q
undone_within true true p q h c = c
undone_within false true p q h c = absurd cc
undone_within true false p q h c = tt
undone_within false false p q h c = tt
