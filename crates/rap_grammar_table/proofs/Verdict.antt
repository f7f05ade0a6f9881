-- A walk that is accepted is accepted in its parts.
use Rattle.std.proofs.Common.{◌≡◌, Bool, true, false, refl, not, ◌||◌}
use Rattle.rap_grammar_table.proofs.Refusal.{Refusal, Verdict, accepted, refused, both, check, provided, in_case, by_bool, or_else_so, told_with, tells, by_telling, or_earlier, or_later}
use Rattle.rap_grammar_table.proofs.Walk.{first_try}
use Rattle.rap_grammar_table.proofs.Ways.{of_two}

pub both_left : (v w : Verdict) → both v w ≡ accepted → v ≡ accepted
both_left accepted w h = refl
both_left (refused r) w h = absurd cc

pub both_right : (v w : Verdict) → both v w ≡ accepted → w ≡ accepted
both_right accepted w h = h
both_right (refused r) w h = absurd cc

pub check_so : (b : Bool) (r : Refusal) → check b r ≡ accepted → b ≡ true
check_so true r h = refl
check_so false r h = absurd cc

pub provided_is : (b : Bool) (r : Refusal) (f : Unit {0} → Verdict) → provided b r f ≡ accepted → b ≡ true
provided_is true r f h = refl
provided_is false r f h = absurd cc

pub provided_so : (b : Bool) (r : Refusal) (f : Unit {0} → Verdict) → provided b r f ≡ accepted → f tt ≡ accepted
provided_so true r f h = h
provided_so false r f h = absurd cc

pub in_case_so : (b : Bool) (f : Unit {0} → Verdict) → b ≡ true → in_case b f ≡ accepted → f tt ≡ accepted
in_case_so true f e h = h
in_case_so false f e h = absurd cc

pub told_so : (f : Refusal → Refusal) (v : Verdict) → told_with f v ≡ accepted → v ≡ accepted
told_so f accepted h = refl
told_so f (refused r) h = absurd cc

by_telling_not : (b : Bool) (r s : Refusal) → by_telling b r s ≡ accepted → ⊥
by_telling_not true r s h = cc
by_telling_not false r s h = cc

pub or_earlier_so : (r : Refusal) (v : Verdict) → or_earlier r v ≡ accepted → v ≡ accepted
or_earlier_so r accepted h = refl
or_earlier_so r (refused s) h = absurd (by_telling_not (tells s) s r h)

pub or_later_so : (r : Refusal) (v : Verdict) → or_later r v ≡ accepted → v ≡ accepted
or_later_so r accepted h = refl
or_later_so r (refused s) h = absurd (by_telling_not (tells r || not (tells s)) r s h)

pub by_else : {A : Type 0} (v : Verdict) (f : Unit {0} → Verdict) (g : Refusal → Verdict) →
    or_else_so v f g ≡ accepted → (v ≡ accepted → f tt ≡ accepted → A) → ((r : Refusal) → g r ≡ accepted → A) → A
by_else accepted f g h p q = p refl h
by_else (refused r) f g h p q = q r h

pub by_either : {A : Type 0} (b : Bool) (f g : Unit {0} → Verdict) → by_bool b f g ≡ accepted →
    (b ≡ true → f tt ≡ accepted → A) → (g tt ≡ accepted → A) → A
by_either true f g h p q = p refl h
by_either false f g h p q = q h

pub by_try_so : {A : Type 0} (b : Bool) (f g : Unit {0} → Verdict) → first_try b f g ≡ accepted →
    (b ≡ true → f tt ≡ accepted → A) → (g tt ≡ accepted → A) → A
by_try_so true f g h p q =
    by_else (f tt) (λ u. accepted) (λ r. or_earlier r (g tt)) h (λ i j. p refl i) (λ r i. q (or_earlier_so r (g tt) i))
by_try_so false f g h p q = q h

pub by_try : {A : Type 0} (b : Bool) (f g : Unit {0} → Verdict) → first_try b f g ≡ accepted →
    (f tt ≡ accepted → A) → (g tt ≡ accepted → A) → A
by_try true f g h p q =
    by_else (f tt) (λ u. accepted) (λ r. or_earlier r (g tt)) h (λ i j. p i) (λ r i. q (or_earlier_so r (g tt) i))
by_try false f g h p q = q h

-- of two ways, the first or the second may be
pub by_first : {A : Type 0} (b c : Bool) (f g h : Unit {0} → Verdict) → b ≡ true → of_two b c f g h ≡ accepted →
    (f tt ≡ accepted → A) → (g tt ≡ accepted → A) → A
by_first true true f g h e w p q = p w
by_first true false f g h e w p q = q w
by_first false c f g h e w p q = absurd cc

pub by_second : {A : Type 0} (b c : Bool) (f g h : Unit {0} → Verdict) → c ≡ true → of_two b c f g h ≡ accepted →
    (f tt ≡ accepted → A) → (h tt ≡ accepted → A) → A
by_second true true f g h e w p q = p w
by_second false true f g h e w p q = q w
by_second b false f g h e w p q = absurd cc
