-- A script records no more events than is computed.
use Rattle.std.proofs.Common.{◌≡◌, ◌≢◌, ◌<◌, ◌≤◌, ◌+◌, ◌-◌, ◌*◌, ℕ, Bool, true, false, ◌&&◌, ◌||◌, not, List, [], ◌∷◌, length, length-drop, drop, nat_lt, if◌then◌else◌, arith, refl, ap, sym, ◌∙◌, subst}
use Rattle.std.proofs.lemmas.Bool.Decides.{nat_tests}
use Rattle.rap_events.specs.Forest.{Forest}
use Rattle.rap_events.specs.Record.{Record}
use Rattle.rap_events.specs.State.{skip_count}
use Rattle.rap_grammar_scripts.specs.Stand.{Stand, taken, reported, skipped_over, started, preceded, closed, split_apart}
use Rattle.rap_grammar_scripts.specs.Tally.{Measure}
use Rattle.rap_grammar_scripts.specs.Cost.{Paid, never, paid, Bill, unknown, bill, larger, smaller, most, least, sum, less, is_short, after_bill, either_bill, turns_bill, split_bill, events, Owes, Leaves, Owing, Leaving, Pays, owing, leaving, Costs, at_most, at_least, says_bill}
use Rattle.rap_grammar_scripts.proofs.Moves.{left_so, right_so}
use Rattle.rap_grammar_scripts.proofs.Tally.{fewer, Laws}

left_larger : (a b : ℕ) → a ≤ larger a b
left_larger a b = grind (arith, nat_tests)

right_larger : (a b : ℕ) → b ≤ larger a b
right_larger a b = grind (arith, nat_tests)

left_smaller : (a b : ℕ) → smaller a b ≤ a
left_smaller a b = grind (arith, nat_tests)

right_smaller : (a b : ℕ) → smaller a b ≤ b
right_smaller a b = grind (arith, nat_tests)

enough : (a b : ℕ) → nat_lt a b ≡ false → b ≤ a
enough a b h = grind (arith, nat_tests)

more_owed : (i j : ℕ) (p q : Stand) → i ≤ j → Owes i p q → Owes j p q
more_owed i j p q l h = record { left = h.left; few = omega (arith, l, h.few) }

less_left : (i j : ℕ) (p q : Stand) → j ≤ i → Leaves i p q → Leaves j p q
less_left i j p q l h = record { left = h.left; few = omega (arith, l, h.few) }

most_left : (a b : Paid) (p q : Stand) → Owing a p q → Owing (most a b) p q
most_left never b p q h = absurd h
most_left (paid a) never p q h = h
most_left (paid a) (paid b) p q h = more_owed a (larger a b) p q (left_larger a b) h

most_right : (a b : Paid) (p q : Stand) → Owing b p q → Owing (most a b) p q
most_right never b p q h = h
most_right (paid a) never p q h = absurd h
most_right (paid a) (paid b) p q h = more_owed b (larger a b) p q (right_larger a b) h

least_left : (a b : Paid) (p q : Stand) → Leaving a p q → Leaving (least a b) p q
least_left never b p q h = absurd h
least_left (paid a) never p q h = h
least_left (paid a) (paid b) p q h = less_left a (smaller a b) p q (left_smaller a b) h

least_right : (a b : Paid) (p q : Stand) → Leaving b p q → Leaving (least a b) p q
least_right never b p q h = h
least_right (paid a) never p q h = absurd h
least_right (paid a) (paid b) p q h = less_left b (smaller a b) p q (right_smaller a b) h

owed_both : (a b : Paid) (p r q : Stand) → Owing a p r → Owing b r q → Owing (sum a b) p q
owed_both never b p r q h i = absurd h
owed_both (paid a) never p r q h i = absurd i
owed_both (paid a) (paid b) p r q h i = record { left = i.left ∙ h.left; few = omega (arith, h.few, i.few) }

left_both : (a b : Paid) (p r q : Stand) → Leaving a p r → Leaving b r q → Leaving (sum a b) p q
left_both never b p r q h i = absurd h
left_both (paid a) never p r q h i = absurd i
left_both (paid a) (paid b) p r q h i =
    record { left = omega (arith, h.left, i.left); few = omega (arith, h.few, i.few) }

-- room, before or behind what it pays
pays_before : (a b : Paid) (p r q : Stand) → is_short a b ≡ false → Owing b p r → Leaving a r q → Leaving (less a b) p q
pays_before never b p r q s h i = absurd i
pays_before (paid a) never p r q s h i = absurd h
pays_before (paid a) (paid b) p r q s h i =
    record {
      left = omega (arith, h.left, i.left);
      few = omega (arith, h.few, h.left, i.few, enough a b s);
    }

pays_behind : (a b : Paid) (p r q : Stand) → is_short a b ≡ false → Leaving a p r → Owing b r q → Leaving (less a b) p q
pays_behind never b p r q s h i = absurd h
pays_behind (paid a) never p r q s h i = absurd i
pays_behind (paid a) (paid b) p r q s h i =
    record {
      left = omega (arith, h.left, i.left);
      few = omega (arith, h.few, i.left, i.few, enough a b s);
    }

joins : (s t : Bool) (a b c d : Paid) (p r q : Stand) → is_short d a ≡ s → is_short b c ≡ t → Pays a b p r →
    Pays c d r q →
    Costs (if s || t then unknown else bill (sum a c) (least (less d a) (least (less b c) (sum b d)))) p q
joins true t a b c d p r q e f x y = tt
joins false true a b c d p r q e f x y = tt
joins false false a b c d p r q e f (owing x) (owing y) = owing (owed_both a c p r q x y)
joins false false a b c d p r q e f (owing x) (leaving y) =
    leaving (least_left (less d a) (least (less b c) (sum b d)) p q (pays_before d a p r q e x y))
joins false false a b c d p r q e f (leaving x) (owing y) =
    leaving (least_right (less d a) (least (less b c) (sum b d)) p q
    (least_left (less b c) (sum b d) p q (pays_behind b c p r q f x y)))
joins false false a b c d p r q e f (leaving x) (leaving y) =
    leaving (least_right (less d a) (least (less b c) (sum b d)) p q
    (least_right (less b c) (sum b d) p q (left_both b d p r q x y)))

joined : (x y : Bill) (p r q : Stand) → Costs x p r → Costs y r q → Costs (after_bill x y) p q
joined unknown y p r q h i = tt
joined (bill a b) unknown p r q h i = tt
joined (bill a b) (bill c d) p r q h i = joins (is_short d a) (is_short b c) a b c d p r q refl refl h i

either_left : (x y : Bill) (p q : Stand) → Costs x p q → Costs (either_bill x y) p q
either_left unknown y p q h = tt
either_left (bill a b) unknown p q h = tt
either_left (bill a b) (bill c d) p q (owing h) = owing (most_left a c p q h)
either_left (bill a b) (bill c d) p q (leaving h) = leaving (least_left b d p q h)

either_right : (x y : Bill) (p q : Stand) → Costs y p q → Costs (either_bill x y) p q
either_right unknown y p q h = tt
either_right (bill a b) unknown p q h = tt
either_right (bill a b) (bill c d) p q (owing h) = owing (most_right a c p q h)
either_right (bill a b) (bill c d) p q (leaving h) = leaving (least_right b d p q h)

-- what took a token owes nothing
not_still : (a : Paid) (p q : Stand) → fewer p q → Owing a p q → ⊥
not_still never p q l h = h
not_still (paid a) p q l h = absurd (omega (arith, l, h.left))

moved : (a b : Paid) (p q : Stand) → fewer p q → Pays a b p q → Leaving b p q
moved a b p q l (owing h) = absurd (not_still a p q l h)
moved a b p q l (leaving h) = h

room_on : (b : Paid) (p r q : Stand) → Leaving b p r → Leaving b r q → Leaving b p q
room_on never p r q h i = h
room_on (paid b) p r q h i = record { left = omega (arith, h.left, i.left); few = omega (arith, h.few, i.few) }

one_turn : (x : Bill) (p q : Stand) → Costs x p q → fewer p q → Costs (turns_bill x) p q
one_turn unknown p q h l = tt
one_turn (bill a b) p q h l = leaving (moved a b p q l h)

turn_more : (x : Bill) (p r q : Stand) → Costs (turns_bill x) p r → Costs x r q → fewer r q → Costs (turns_bill x) p q
turn_more unknown p r q h i l = tt
turn_more (bill a b) p r q (owing h) i l = absurd h
turn_more (bill a b) p r q (leaving h) i l = leaving (room_on b p r q h (moved a b r q l i))

-- a call more
call_more : (p q : Stand) → q.rest ≡ p.rest → q.count ≡ p.count + 1 → Costs (bill (paid 1) never) p q
call_more p q e c = owing (record { left = ap length e; few = omega (arith, c) })

-- tokens less, and so many calls more
tokens_less : (n k : ℕ) (p q : Stand) → fewer p q → q.count ≡ p.count + n → n + k ≡ 256 → Leaves k p q
tokens_less n k p q l c e = record { left = l; few = omega (arith, l, c, e) }

-- a token that may be the end
may_end : (n : ℕ) (p q : Stand) → q.rest ≡ drop n p.rest → q.count ≡ p.count + 1 →
    Costs (bill (paid 1) (paid 255)) p q
may_end n p q e c = by_length (length q.rest) (length p.rest) refl refl (omega (arith, ap (λ (x : List Record). length x) e, length-drop n p.rest)) where
  by_length : (a b : ℕ) → a ≡ length q.rest → b ≡ length p.rest → a ≤ b → Costs (bill (paid 1) (paid 255)) p q
  by_length a b f g l = by_less (nat_lt a b) refl where
    by_less : (t : Bool) → nat_lt a b ≡ t → Costs (bill (paid 1) (paid 255)) p q
    by_less true h = leaving (tokens_less 1 255 p q (grind (arith, nat_tests)) c refl)
    by_less false h = owing (record { left = grind (arith, nat_tests); few = omega (arith, c) })

skips_so : (rs : List Record) (p q : Stand) → p.rest ≡ rs → q.rest ≡ drop 1 rs → q.count ≡ p.count + skip_count rs →
    Costs (bill (paid 3) (paid 252)) p q
skips_so [] p q e f c = owing (record { left = ap length f ∙ sym (ap length e); few = omega (arith, c) })
skips_so (r ∷ rs) p q e f c =
    leaving (tokens_less 4 252 p q (omega (arith, ap length e, ap length f)) c refl)

splits_so : (dot : Bool) (p : Stand) → fewer p (split_apart dot p) → Costs (split_bill dot) p (split_apart dot p)
splits_so true p l = leaving (tokens_less 2 254 p (split_apart true p) l refl refl)
splits_so false p l = leaving (tokens_less 4 252 p (split_apart false p) l refl refl)

pub laws : Laws events Costs
laws = record {
  idle = λ p. owing (record { left = refl; few = omega arith });
  takes = λ k w p l. leaving (tokens_less 1 255 p (taken k w p) l refl refl);
  takes_end = λ k w p. may_end w p (taken k w p) refl refl;
  reports = λ bytes p. call_more p (reported bytes p) refl refl;
  skips = λ bytes p. skips_so p.rest p (skipped_over bytes p) refl refl refl;
  starts = λ p. call_more p (started p) refl refl;
  precedes = λ p. call_more p (preceded p) refl refl;
  closes = λ f p. call_more p (closed 1 p.rest f p) refl refl;
  splits = splits_so;
  and_then = joined;
  left = either_left;
  right = either_right;
  first_turn = one_turn;
  next_turn = turn_more;
}

-- what is within other figures
owes_within : (a b : Paid) (p q : Stand) → at_most a b ≡ true → Owing a p q → Owing b p q
owes_within never b p q h x = absurd x
owes_within (paid a) never p q h x = absurd cc
owes_within (paid a) (paid b) p q h x = more_owed a b p q (grind (arith, nat_tests)) x

leaves_within : (a b : Paid) (p q : Stand) → at_least a b ≡ true → Leaving a p q → Leaving b p q
leaves_within never b p q h x = absurd x
leaves_within (paid a) never p q h x = absurd cc
leaves_within (paid a) (paid b) p q h x = less_left a b p q (grind (arith, nat_tests)) x

pub costs_within : (x y : Bill) (p q : Stand) → says_bill x y ≡ true → Costs x p q → Costs y p q
costs_within x unknown p q h c = tt
costs_within unknown (bill c d) p q h x = absurd cc
costs_within (bill a b) (bill c d) p q h (owing x) =
    owing (owes_within a c p q (left_so (at_most a c) (at_least b d) h) x)
costs_within (bill a b) (bill c d) p q h (leaving x) =
    leaving (leaves_within b d p q (right_so (at_most a c) (at_least b d) h) x)
