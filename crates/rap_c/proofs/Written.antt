-- Writes to room that may be too small.
use Rattle.std.proofs.Common.{◌≡◌, ℕ, zero, suc, ◌+◌, ◌-◌, ◌≤◌, List, [], ◌∷◌, ◌++◌, min, length, take, drop, refl, ap, ◌∙◌, arith, zero-add}
use borrow.Rule.Slice.PartMut.{put_mid}
use Rattle.std.specs.Prelude.{slice_set}
use Rattle.rap_c.specs.Filling.{overwritten, write_at}

pub overwritten-nothing : {A : Type 0} (old : List A) → overwritten old [] ≡ old
overwritten-nothing [] = refl
overwritten-nothing (x ∷ xs) = refl

pub write_at-nothing : {A : Type 0} (old : List A) (i : ℕ) → write_at old i [] ≡ old
write_at-nothing old zero = overwritten-nothing old
write_at-nothing [] (suc i) = refl
write_at-nothing (x ∷ xs) (suc i) = ap (λ l. x ∷ l) (write_at-nothing xs i)

-- nothing is written past the end
pub write_at-past : {A : Type 0} (old : List A) (i : ℕ) (new : List A) → length old ≤ i → write_at old i new ≡ old
write_at-past [] zero new h = refl
write_at-past [] (suc i) new h = refl
write_at-past (x ∷ xs) zero new h = absurd (omega (arith, h))
write_at-past (x ∷ xs) (suc i) new h = ap (λ l. x ∷ l) (write_at-past xs i new (omega (arith, h)))

pub overwritten-length : {A : Type 0} (old new : List A) → length (overwritten old new) ≡ length old
overwritten-length [] new = refl
overwritten-length (x ∷ xs) [] = refl
overwritten-length (x ∷ xs) (y ∷ ys) = ap suc (overwritten-length xs ys)

pub write_at-length : {A : Type 0} (old : List A) (i : ℕ) (new : List A) → length (write_at old i new) ≡ length old
write_at-length old zero new = overwritten-length old new
write_at-length [] (suc i) new = refl
write_at-length (x ∷ xs) (suc i) new = ap suc (write_at-length xs i new)

-- one at a place, and the others after it
pub write_at-set : {A : Type 0} (old : List A) (i : ℕ) (y : A) (ys : List A) → write_at (slice_set old i y) (suc i) ys ≡ write_at old i (y ∷ ys)
write_at-set [] zero y ys = refl
write_at-set [] (suc i) y ys = refl
write_at-set (x ∷ xs) zero y ys = refl
write_at-set (x ∷ xs) (suc i) y ys = ap (λ l. x ∷ l) (write_at-set xs i y ys)

pub overwritten-twice : {A : Type 0} (old us vs : List A) → write_at (overwritten old us) (length us) vs ≡ overwritten old (us ++ vs)
overwritten-twice [] [] vs = refl
overwritten-twice [] (u ∷ us) vs = refl
overwritten-twice (x ∷ xs) [] vs = refl
overwritten-twice (x ∷ xs) (u ∷ us) vs = ap (λ l. u ∷ l) (overwritten-twice xs us vs)

-- some at a place, and others after them
pub write_at-twice : {A : Type 0} (old : List A) (i j : ℕ) (us vs : List A) → j ≡ i + length us → write_at (write_at old i us) j vs ≡ write_at old i (us ++ vs)
write_at-twice old zero j us vs e = ap (λ k. write_at (overwritten old us) k vs) (e ∙ zero-add (length us)) ∙ overwritten-twice old us vs
write_at-twice [] (suc i) zero us vs e = refl
write_at-twice [] (suc i) (suc j) us vs e = refl
write_at-twice (x ∷ xs) (suc i) zero us vs e = absurd (omega (arith, e))
write_at-twice (x ∷ xs) (suc i) (suc j) us vs e = ap (λ l. x ∷ l) (write_at-twice xs i j us vs (omega (arith, e)))

-- as many as there is room for
pub over : {A : Type 0} (old new : List A) (c : ℕ) → c ≡ min (length new) (length old) → take c new ++ drop c old ≡ overwritten old new
over [] new zero e = refl
over [] new (suc c) e = absurd (omega (arith, e))
over (x ∷ xs) [] zero e = refl
over (x ∷ xs) [] (suc c) e = absurd (omega (arith, e))
over (x ∷ xs) (y ∷ ys) zero e = absurd (omega (arith, e))
over (x ∷ xs) (y ∷ ys) (suc c) e = ap (λ l. y ∷ l) (over xs ys c (omega (arith, e)))

over_at : {A : Type 0} (old : List A) (i : ℕ) (new : List A) (c : ℕ) → i ≤ length old → c ≡ min (length new) (length old - i) → take i old ++ (take c new ++ drop c (drop i old)) ≡ write_at old i new
over_at old zero new c h e = over old new c (omega (arith, e))
over_at [] (suc i) new c h e = absurd (omega (arith, h))
over_at (x ∷ xs) (suc i) new c h e = ap (λ l. x ∷ l) (over_at xs i new c (omega (arith, h)) (omega (arith, e)))

pub put_part : {A : Type 0} (old : List A) (i k : ℕ) (new part : List A) (c : ℕ) → i ≤ length old → c ≡ min (length new) (length old - i) → k ≡ c → part ≡ take c new → put_mid i k old part ≡ write_at old i new
put_part old i k new part c h e same is =
    ap (λ n. take i old ++ (part ++ drop n (drop i old))) same ∙ (ap (λ l. take i old ++ (l ++ drop c (drop i old))) is ∙ over_at old i new c h e)
