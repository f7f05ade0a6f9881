-- Lists of ends, each once: by which outcomes a script ends, and in which state.
use Rattle.std.proofs.Common.{◌≡◌, Bool, true, false, ◌&&◌, ◌||◌, List, [], ◌∷◌, if◌then◌else◌, refl, sym}
use Rattle.rap_events.proofs.Truth.{and_left, and_right, and_both}
use Rattle.rap_grammar_scripts.specs.Script.{Outcome, nothing, something, block, again, goes_on}
use Rattle.rap_grammar_ends.proofs.Ends.{same}
use Rattle.rap_grammar_ends.proofs.Keeps.{same_outcome}

-- an end by an outcome in a state, or one of which nothing is known
pub data Ending (S : Type 0) : Type 0 where
  unknown : Ending S
  ends_in : Outcome → S → Ending S

-- whether there is such an end, by a test of two states
abbrev pub has : {S : Type 0} → (S → S → Bool) → Outcome → S → List (Ending S) → Bool
has eq v n [] = false
has eq v n (unknown ∷ l) = has eq v n l
has eq v n (ends_in w m ∷ l) = (same v w && eq n m) || has eq v n l

-- the ends of both, each once; where one is unknown, there are no others
abbrev pub join : {S : Type 0} → (S → S → Bool) → List (Ending S) → List (Ending S) → List (Ending S)
join eq [] m = m
join eq (unknown ∷ l) m = unknown ∷ []
join eq (ends_in v n ∷ l) m = if has eq v n m then join eq l m else ends_in v n ∷ join eq l m

-- the ends of what follows each of these
abbrev pub gather : {S : Type 0} → (S → S → Bool) → (Outcome → S → List (Ending S)) → List (Ending S) → List (Ending S)
gather eq h [] = []
gather eq h (unknown ∷ l) = unknown ∷ []
gather eq h (ends_in v n ∷ l) = join eq (h v n) (gather eq h l)

-- The ends of a loop, by those of its turns with any flags: a turn that goes on must end in a state as good as that at
-- its beginning.
abbrev pub settle : {S : Type 0} → (S → Bool) → List (Ending S) → List (Ending S)
settle good [] = []
settle good (unknown ∷ l) = unknown ∷ []
settle good (ends_in nothing n ∷ l) = ends_in nothing n ∷ settle good l
settle good (ends_in something n ∷ l) = ends_in something n ∷ settle good l
settle good (ends_in block n ∷ l) = ends_in block n ∷ settle good l
settle good (ends_in (again a b) n ∷ l) = if good n then settle good l else unknown ∷ []

-- with any flags
abbrev pub flagged : {S : Type 0} → (S → S → Bool) → (Bool → Bool → List (Ending S)) → List (Ending S)
flagged eq h = join eq (join eq (h true true) (h true false)) (join eq (h false true) (h false false))

-- whether no end is unknown, and this holds of each
abbrev pub every : {S : Type 0} → (Outcome → S → Bool) → List (Ending S) → Bool
every f [] = true
every f (unknown ∷ l) = false
every f (ends_in v n ∷ l) = f v n && every f l

-- states are the same where the test says so
abbrev pub Decides : {S : Type 0} → (S → S → Bool) → Type 0
Decides {S = S} eq = (m n : S) → eq m n ≡ true → m ≡ n

-- What holds of every end of a list holds of each that it has.
of_first : {S : Type 0} (f : Outcome → S → Bool) (v w : Outcome) (m n : S) (b c d : Bool) → same v w ≡ b →
    f w n ≡ true → (c ≡ true → m ≡ n) → (d ≡ true → f v m ≡ true) → ((b && c) || d) ≡ true → f v m ≡ true
of_first f v w m n true true d s e t r h = rw (same_outcome v w s, t refl) e
of_first f v w m n true false d s e t r h = r h
of_first f v w m n false c d s e t r h = r h

of_has : {S : Type 0} (eq : S → S → Bool) → Decides eq → (f : Outcome → S → Bool) (v : Outcome) (m : S)
    (l : List (Ending S)) → has eq v m l ≡ true → every f l ≡ true → f v m ≡ true
of_has eq t f v m [] h e = absurd cc
of_has eq t f v m (unknown ∷ l) h e = absurd cc
of_has eq t f v m (ends_in w n ∷ l) h e =
    of_first f v w m n (same v w) (eq m n) (has eq v m l) refl (and_left _ _ e) (t m n)
    (λ i. of_has eq t f v m l i (and_right (f w n) _ e)) h

-- of two lists in one
joined_rest : {S : Type 0} (f : Outcome → S → Bool) (v : Outcome) (n : S) (l : List (Ending S)) (b : Bool) →
    every f (if b then l else ends_in v n ∷ l) ≡ true → every f l ≡ true
joined_rest f v n l true e = e
joined_rest f v n l false e = and_right (f v n) _ e

pub joined_right : {S : Type 0} (eq : S → S → Bool) (f : Outcome → S → Bool) (l m : List (Ending S)) →
    every f (join eq l m) ≡ true → every f m ≡ true
joined_right eq f [] m e = e
joined_right eq f (unknown ∷ l) m e = absurd cc
joined_right eq f (ends_in v n ∷ l) m e =
    joined_right eq f l m (joined_rest f v n (join eq l m) (has eq v n m) e)

joined_first : {S : Type 0} (eq : S → S → Bool) → Decides eq → (f : Outcome → S → Bool) (v : Outcome) (n : S)
    (l m : List (Ending S)) (b : Bool) → b ≡ has eq v n m → every f m ≡ true →
    every f (if b then l else ends_in v n ∷ l) ≡ true → f v n ≡ true
joined_first eq t f v n l m true i h e = of_has eq t f v n m (sym i) h
joined_first eq t f v n l m false i h e = and_left _ _ e

pub joined_left : {S : Type 0} (eq : S → S → Bool) → Decides eq → (f : Outcome → S → Bool) (l m : List (Ending S)) →
    every f (join eq l m) ≡ true → every f l ≡ true
joined_left eq t f [] m e = refl
joined_left eq t f (unknown ∷ l) m e = absurd cc
joined_left eq t f (ends_in v n ∷ l) m e =
    let r = joined_rest f v n (join eq l m) (has eq v n m) e in
    and_both (f v n) (every f l)
    (joined_first eq t f v n (join eq l m) m (has eq v n m) refl (joined_right eq f l m r) e)
    (joined_left eq t f l m r)

-- of what follows each end
abbrev pub Then : {S : Type 0} → (Outcome → S → Bool) → (Outcome → S → List (Ending S)) → Outcome → S → Bool
Then f h v n = every f (h v n)

pub gathered : {S : Type 0} (eq : S → S → Bool) → Decides eq → (f : Outcome → S → Bool)
    (h : Outcome → S → List (Ending S)) (l : List (Ending S)) → every f (gather eq h l) ≡ true →
    every (Then f h) l ≡ true
gathered eq t f h [] e = refl
gathered eq t f h (unknown ∷ l) e = absurd cc
gathered eq t f h (ends_in v n ∷ l) e =
    and_both (every f (h v n)) (every (Then f h) l) (joined_left eq t f (h v n) (gather eq h l) e)
    (gathered eq t f h l (joined_right eq f (h v n) (gather eq h l) e))

-- of the ends of a loop's turns
abbrev pub Turned : {S : Type 0} → (S → Bool) → (Outcome → S → Bool) → Outcome → S → Bool
Turned good f nothing n = f nothing n
Turned good f something n = f something n
Turned good f block n = f block n
Turned good f (again a b) n = good n

settled_again : {S : Type 0} (f : Outcome → S → Bool) (l : List (Ending S)) (b : Bool) →
    every f (if b then l else unknown ∷ []) ≡ true → (b ≡ true) × (every f l ≡ true)
settled_again f l true e = (refl, e)
settled_again f l false e = absurd cc

pub settled : {S : Type 0} (good : S → Bool) (f : Outcome → S → Bool) (l : List (Ending S)) →
    every f (settle good l) ≡ true → every (Turned good f) l ≡ true
settled good f [] e = refl
settled good f (unknown ∷ l) e = absurd cc
settled good f (ends_in nothing n ∷ l) e =
    and_both (f nothing n) _ (and_left _ _ e) (settled good f l (and_right (f nothing n) _ e))
settled good f (ends_in something n ∷ l) e =
    and_both (f something n) _ (and_left _ _ e) (settled good f l (and_right (f something n) _ e))
settled good f (ends_in block n ∷ l) e =
    and_both (f block n) _ (and_left _ _ e) (settled good f l (and_right (f block n) _ e))
settled good f (ends_in (again a b) n ∷ l) e =
    let k = settled_again f (settle good l) (good n) e in
    and_both (good n) _ k.0 (settled good f l k.1)

pub of_flags : {S : Type 0} (eq : S → S → Bool) → Decides eq → (f : Outcome → S → Bool)
    (h : Bool → Bool → List (Ending S)) (a b : Bool) → every f (flagged eq h) ≡ true → every f (h a b) ≡ true
of_flags eq t f h true true e = joined_left eq t f (h true true) (h true false) (joined_left eq t f
    (join eq (h true true) (h true false)) (join eq (h false true) (h false false)) e)
of_flags eq t f h true false e = joined_right eq f (h true true) (h true false) (joined_left eq t f
    (join eq (h true true) (h true false)) (join eq (h false true) (h false false)) e)
of_flags eq t f h false true e = joined_left eq t f (h false true) (h false false) (joined_right eq f
    (join eq (h true true) (h true false)) (join eq (h false true) (h false false)) e)
of_flags eq t f h false false e = joined_right eq f (h false true) (h false false) (joined_right eq f
    (join eq (h true true) (h true false)) (join eq (h false true) (h false false)) e)

-- the last turn
pub of_stop : {S : Type 0} (good : S → Bool) (f : Outcome → S → Bool) (n : S) (v : Outcome) → goes_on v ≡ false →
    Turned good f v n ≡ true → f v n ≡ true
of_stop good f n nothing h e = e
of_stop good f n something h e = e
of_stop good f n block h e = e
of_stop good f n (again a b) h e = let z : true ≡ false = h in absurd cc
