-- Empty forests at the bottom of a spot change nothing of what a script makes; so what an entry reads from the front of
-- an input is what the entry of the whole input reads under its marker.
use Rattle.std.proofs.Common.{◌≡◌, ℕ, ◌==◌, List, [], ◌∷◌, drop, refl, ap, sym, ◌∙◌}
use Rattle.rap_events.specs.Record.{Record}
use Rattle.rap_events.specs.Forest.{Forest, none, used}
use Rattle.rap_events.specs.LastToken.{last_after}
use Rattle.rap_grammar_scripts.specs.declared.rule.Rule.{Rule}
use Rattle.rap_grammar_scripts.specs.Script.{Script, Outcome, Spot, Runs, gives, passes, fails, ends_so, ends_else, takes, takes_any, bears, reports, reports_next, skips, starts, precedes, finishes, extends, abandons, splits_dotted, splits_whole, follows, obeys, turns, stops, newest, last_under}
use Rattle.rap_grammar_scripts.proofs.OneEnd.{one_end}
use Rattle.rap_grammar.specs.Part.{IsPrefixOf}
use Rattle.rap_grammar.specs.Top.{IsTopOf, top_tree}

-- the same forests, with empty ones below them
data Padded : List Forest → List Forest → Type 0 where
  bottom : Padded [] []
  empty_below : {c : List Forest} → Padded [] c → Padded [] (none ∷ c)
  same_above : {f : Forest} {b c : List Forest} → Padded b c → Padded (f ∷ b) (f ∷ c)

same_newest : {b c : List Forest} → Padded b c → newest b ≡ newest c
same_newest bottom = refl
same_newest (empty_below x) = refl
same_newest (same_above x) = refl

padded_older : {b c : List Forest} → Padded b c → Padded (drop 1 b) (drop 1 c)
padded_older bottom = bottom
padded_older (empty_below x) = x
padded_older (same_above x) = x

same_last : {b c : List Forest} → Padded b c → last_under b ≡ last_under c
same_last bottom = refl
same_last (empty_below x) = same_last x
same_last (same_above {f = f} x) = ap (λ (k : ℕ). last_after k f) (same_last x)

-- a spot with other forests below it
abbrev over : Spot → List Forest → Spot
over p c = record { rest = p.rest; forest = p.forest; below = c }

-- from a padded spot a script leads to a padded spot
record LeadsPadded {P : Type 0} (script_of : P → Script P) (s : Script P) (p q : Spot) (v : Outcome)
    (c : List Forest) : Type 0 where
  under : List Forest
  padded : Padded q.below under
  run : Runs script_of s (over p c) (over q under) v

-- a script that begins with a word leads on as what follows the word does
on : {P : Type 0} {script_of : P → Script P} {s t : Script P} {p r q : Spot} {v : Outcome} {c d : List Forest} →
    LeadsPadded script_of s r q v d →
    ((l : List Forest) → Runs script_of s (over r d) (over q l) v → Runs script_of t (over p c) (over q l) v) →
    LeadsPadded script_of t p q v c
on i f = record { under = i.under; padded = i.padded; run = f i.under i.run }

leads_padded : {P : Type 0} {script_of : P → Script P} {s : Script P} {p q : Spot} {v : Outcome} {c : List Forest} →
    Runs script_of s p q v → Padded p.below c → LeadsPadded script_of s p q v c
leads_padded {c = c} gives x = record { under = c; padded = x; run = gives }
leads_padded (passes h r) x = on (leads_padded r x) (λ l y. passes h y)
leads_padded (fails h r) x = on (leads_padded r x) (λ l y. fails h y)
leads_padded {p = p} (ends_so {k = k} h r) x =
    on (leads_padded r x)
    (λ l y. ends_so (ap (λ (n : ℕ). last_after n p.forest == k) (sym (same_last x)) ∙ h) y)
leads_padded {p = p} (ends_else {k = k} h r) x =
    on (leads_padded r x)
    (λ l y. ends_else (ap (λ (n : ℕ). last_after n p.forest == k) (sym (same_last x)) ∙ h) y)
leads_padded (takes h r) x = on (leads_padded r x) (λ l y. takes h y)
leads_padded (takes_any h r) x = on (leads_padded r x) (λ l y. takes_any h y)
leads_padded (bears h r) x = on (leads_padded r x) (λ l y. bears h y)
leads_padded (reports r) x = on (leads_padded r x) (λ l y. reports y)
leads_padded (reports_next r) x = on (leads_padded r x) (λ l y. reports_next y)
leads_padded (skips r) x = on (leads_padded r x) (λ l y. skips y)
leads_padded (starts r) x = on (leads_padded r (same_above x)) (λ l y. starts y)
leads_padded (precedes r) x = on (leads_padded r (same_above x)) (λ l y. precedes y)
leads_padded (finishes r) x = on (leads_padded r (padded_older x)) (λ l y. finishes (rw (sym (same_newest x)) y))
leads_padded (extends r) x = on (leads_padded r (padded_older x)) (λ l y. extends (rw (sym (same_newest x)) y))
leads_padded (abandons r) x = on (leads_padded r (padded_older x)) (λ l y. abandons (rw (sym (same_newest x)) y))
leads_padded (splits_dotted h j r) x =
    on (leads_padded r (padded_older x)) (λ l y. splits_dotted h j (rw (sym (same_newest x)) y))
leads_padded (splits_whole h j r) x =
    on (leads_padded r (padded_older x)) (λ l y. splits_whole h j (rw (sym (same_newest x)) y))
leads_padded (follows r z) x = let i = leads_padded r x in on (leads_padded z i.padded) (λ l y. follows i.run y)
leads_padded (obeys r z) x = let i = leads_padded r x in on (leads_padded z i.padded) (λ l y. obeys i.run y)
leads_padded (turns r z) x = let i = leads_padded r x in on (leads_padded z i.padded) (λ l y. turns i.run y)
leads_padded (stops r h) x = on (leads_padded r x) (λ l y. stops y h)

-- what an entry reads from the front is what the entry of the whole input reads
pub top_of_prefix : {s : Script Rule} {input : List Record} {made output : Forest} → IsPrefixOf s input made →
    IsTopOf s input output → output ≡ top_tree made (drop (used made) input)
top_of_prefix i j =
    let e = one_end j.run (leads_padded i.run (empty_below bottom)).run in
    j.tree ∙ rw (ap (λ (p : Spot). p.forest) e.spot, ap (λ (p : Spot). p.rest) e.spot) refl
