-- Lists whose elements have rising numbers, from one number to another.
use Rattle.std.proofs.Common.{◌≡◌, ℕ, zero, suc, ◌<◌, ◌≤◌, List, [], ◌∷◌, ◌++◌, length, map, arith}
use Rattle.std.specs.Prelude.{slice_index_or}
use Rattle.std.specs.List.Sorted.{IsNonDecreasingBy}

abbrev pub Rising : {X : Type 0} → (X → ℕ) → ℕ → List X → ℕ → Type 0
Rising n a [] b = a ≤ b
Rising n a (x ∷ xs) b = (a ≤ n x) × Rising n (n x) xs b

pub rising_lower : {X : Type 0} (n : X → ℕ) (a b c : ℕ) (xs : List X) → a ≤ b → Rising n b xs c → Rising n a xs c
rising_lower n a b c [] p h = omega (arith, p, h)
rising_lower n a b c (x ∷ xs) p h = (omega (arith, p, h.0), h.1)

pub rising_higher : {X : Type 0} (n : X → ℕ) (a b c : ℕ) (xs : List X) → b ≤ c → Rising n a xs b → Rising n a xs c
rising_higher n a b c [] p h = omega (arith, p, h)
rising_higher n a b c (x ∷ xs) p h = (h.0, rising_higher n (n x) b c xs p h.1)

pub rising_append : {X : Type 0} (n : X → ℕ) (a b c : ℕ) (xs ys : List X) → Rising n a xs b → Rising n b ys c → Rising n a (xs ++ ys) c
rising_append n a b c [] ys h k = rising_lower n a b c ys h k
rising_append n a b c (x ∷ xs) ys h k = (h.0, rising_append n (n x) b c xs ys h.1 k)

pub rising_map : {X Y : Type 0} (n : X → ℕ) (m : Y → ℕ) (f : X → Y) (a b : ℕ) (xs : List X) → ((x : X) → m (f x) ≡ n x) → Rising n a xs b → Rising m a (map f xs) b
rising_map n m f a b [] same h = h
rising_map n m f a b (x ∷ xs) same h = (
  omega (arith, same x, h.0),
  rising_lower m (m (f x)) (n x) b (map f xs) (omega (arith, same x)) (rising_map n m f (n x) b xs same h.1),
)

-- each is at least the first number
least : {X : Type 0} (n : X → ℕ) (a b k : ℕ) (xs : List X) (d : X) → Rising n a xs b → k < length xs → a ≤ n (slice_index_or xs k d)
least n a b k [] d h low = absurd (omega (arith, low))
least n a b zero (x ∷ xs) d h low = h.0
least n a b (suc k) (x ∷ xs) d h low = omega (arith, h.0, least n (n x) b k xs d h.1 (omega (arith, low)))

rising_pair : {X : Type 0} (n : X → ℕ) (a b i j : ℕ) (xs : List X) (d : X) → Rising n a xs b → i ≤ j → j < length xs → n (slice_index_or xs i d) ≤ n (slice_index_or xs j d)
rising_pair n a b i j [] d h p low = absurd (omega (arith, low))
rising_pair n a b zero zero (x ∷ xs) d h p low = omega arith
rising_pair n a b zero (suc j) (x ∷ xs) d h p low = least n (n x) b j xs d h.1 (omega (arith, low))
rising_pair n a b (suc i) zero (x ∷ xs) d h p low = absurd (omega (arith, p))
rising_pair n a b (suc i) (suc j) (x ∷ xs) d h p low = rising_pair n (n x) b i j xs d h.1 (omega (arith, p)) (omega (arith, low))

pub rising_list : {X : Type 0} (n : X → ℕ) (a b : ℕ) (xs : List X) → Rising n a xs b → IsNonDecreasingBy n xs
rising_list n a b xs h = λ i j d p low. rising_pair n a b i j xs d h p low

pub rising_none : {X : Type 0} (n : X → ℕ) (a b : ℕ) (xs : List X) → Rising n a xs b → a ≤ b
rising_none n a b [] h = h
rising_none n a b (x ∷ xs) h = omega (arith, h.0, rising_none n (n x) b xs h.1)
