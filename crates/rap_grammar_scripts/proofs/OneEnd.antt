-- From one spot a script leads to one spot with one outcome.
use Rattle.std.proofs.Common.{◌≡◌, Bool, true, false, refl, ap, sym, ◌∙◌}
use Rattle.rap_grammar_scripts.specs.Script.{Script, Spot, Outcome, nothing, something, block, again, goes_on, Runs, gives, passes, fails, ends_so, ends_else, takes, takes_any, bears, reports, reports_next, skips, starts, precedes, finishes, extends, abandons, splits_dotted, splits_whole, follows, obeys, turns, stops}

-- the same end
pub record Same (p q : Spot) (v w : Outcome) : Type 0 where
  pub spot : p ≡ q
  pub outcome : v ≡ w

clash : {b : Bool} → b ≡ true → b ≡ false → ⊥
clash h i = let x : true ≡ false = sym h ∙ i in cc

-- the flags of a turn
abbrev one_flag : Outcome → Bool
one_flag nothing = false
one_flag something = false
one_flag block = false
one_flag (again a b) = a

abbrev other_flag : Outcome → Bool
other_flag nothing = false
other_flag something = false
other_flag block = false
other_flag (again a b) = b

pub one_end : {P : Type 0} {script_of : P → Script P} {s : Script P} {p q r : Spot} {v w : Outcome} →
    Runs script_of s p q v → Runs script_of s p r w → Same q r v w
one_end gives gives = record { spot = refl; outcome = refl }
one_end (passes e x) (passes f y) = one_end x y
one_end (passes e x) (fails f y) = absurd (clash e f)
one_end (fails e x) (passes f y) = absurd (clash f e)
one_end (fails e x) (fails f y) = one_end x y
one_end (ends_so e x) (ends_so f y) = one_end x y
one_end (ends_so e x) (ends_else f y) = absurd (clash e f)
one_end (ends_else e x) (ends_so f y) = absurd (clash f e)
one_end (ends_else e x) (ends_else f y) = one_end x y
one_end (takes e x) (takes f y) = one_end x y
one_end (takes_any e x) (takes_any f y) = one_end x y
one_end (bears e x) (bears f y) = one_end x y
one_end (reports x) (reports y) = one_end x y
one_end (reports_next x) (reports_next y) = one_end x y
one_end (skips x) (skips y) = one_end x y
one_end (starts x) (starts y) = one_end x y
one_end (precedes x) (precedes y) = one_end x y
one_end (finishes x) (finishes y) = one_end x y
one_end (extends x) (extends y) = one_end x y
one_end (abandons x) (abandons y) = one_end x y
one_end (splits_dotted e j x) (splits_dotted f k y) = one_end x y
one_end (splits_dotted e j x) (splits_whole f k y) = absurd (clash k j)
one_end (splits_whole e j x) (splits_dotted f k y) = absurd (clash j k)
one_end (splits_whole e j x) (splits_whole f k y) = one_end x y
one_end (follows x x') (follows y y') = let a = one_end x y in one_end x' (rw (a.spot, a.outcome) y')
one_end (obeys x x') (obeys y y') = let a = one_end x y in one_end x' (rw (a.spot, a.outcome) y')
one_end (turns x x') (turns y y') =
    let a = one_end x y in
    one_end x' (rw (a.spot, ap one_flag a.outcome, ap other_flag a.outcome) y')
one_end (turns x x') (stops y e) = let a = one_end x y in absurd (clash refl (ap goes_on a.outcome ∙ e))
one_end (stops x e) (turns y y') = let a = one_end x y in absurd (clash refl (ap goes_on (sym a.outcome) ∙ e))
one_end (stops x e) (stops y f) = one_end x y
