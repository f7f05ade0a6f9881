-- What is known of the tokens that come next, before a test and after it.
use Rattle.std.specs.Prelude.{◌≡◌, ℕ, zero, suc, Bool, true, false, List, [], ◌∷◌, Option, Some, None}
use Rattle.rap_base.specs.TokenKind.{SHEBANG}
use Rattle.rap_events.specs.Record.{Record}
use Rattle.rap_grammar_scripts.specs.Test.{Test, kind_so, word_so, edition_so, comes, borne, negated, also, or_else, told, operator_so}
use Rattle.rap_grammar_table.specs.Known.{Place, unclear, Shows}
use Rattle.rap_grammar_table.proofs.Narrow.{narrowed}
use Rattle.rap_grammar_shapes.proofs.Content.{Content, any_leaf, leaf_of, choose, equal_kinds}

-- The kinds of which each of the next tokens has one, where that is known.
abbrev pub Ahead : Type 0
Ahead = List (Option (List ℕ))

abbrev pub of_kinds : Option (List ℕ) → Place
of_kinds ks = record { kinds = ks; words = None; joint = unclear }

abbrev pub places : Ahead → List Place
places [] = []
places (ks ∷ l) = of_kinds ks ∷ places l

-- The tokens come so.
abbrev pub Comes : Ahead → List Record → Type 0
Comes l rs = Shows (places l) rs

-- all kinds of tokens
abbrev pub kinds_below : ℕ → List ℕ
kinds_below zero = []
kinds_below (suc n) = n ∷ kinds_below n

abbrev pub all_kinds : List ℕ
all_kinds = kinds_below (suc SHEBANG)

-- so many tokens, each of one of all kinds where no more is known
abbrev pub or_all : Option (List ℕ) → Option (List ℕ)
or_all None = Some all_kinds
or_all (Some ks) = Some ks

abbrev pub filled : ℕ → Ahead → List Place
filled zero l = places l
filled (suc n) [] = of_kinds (or_all None) ∷ filled n []
filled (suc n) (ks ∷ l) = of_kinds (or_all ks) ∷ filled n l

-- how many tokens a test asks for their kinds
abbrev pub larger : ℕ → ℕ → ℕ
larger zero n = n
larger (suc m) zero = suc m
larger (suc m) (suc n) = suc (larger m n)

abbrev pub reach : Test → ℕ
reach (kind_so n f) = suc n
reach (word_so n f) = zero
reach (edition_so n f) = zero
reach (comes n k) = suc n
reach (borne n k) = suc n
reach (operator_so f) = zero
reach (negated t) = reach t
reach (also s t) = larger (reach s) (reach t)
reach (or_else s t) = larger (reach s) (reach t)
reach (told b) = zero

-- the kinds of each token, if these are at most ten, and nothing else
abbrev pub if_few : ℕ → List ℕ → List ℕ → Option (List ℕ)
if_few n [] ks = Some ks
if_few zero (j ∷ js) ks = None
if_few (suc n) (j ∷ js) ks = if_few n js ks

abbrev pub few_of : Option (List ℕ) → Option (List ℕ)
few_of None = None
few_of (Some ks) = if_few 10 ks ks

abbrev pub before_more : Option (List ℕ) → Ahead → Ahead
before_more None [] = []
before_more None (js ∷ l) = None ∷ js ∷ l
before_more (Some ks) l = Some ks ∷ l

abbrev pub brief : List Place → Ahead
brief [] = []
brief (p ∷ ps) = before_more (few_of p.kinds) (brief ps)

-- the same is known
abbrev pub equal_option : Option (List ℕ) → Option (List ℕ) → Bool
equal_option None None = true
equal_option None (Some js) = false
equal_option (Some ks) None = false
equal_option (Some ks) (Some js) = equal_kinds ks js

abbrev pub equal_ahead : Ahead → Ahead → Bool
equal_ahead [] [] = true
equal_ahead [] (js ∷ m) = false
equal_ahead (ks ∷ l) [] = false
equal_ahead (ks ∷ l) (js ∷ m) = let rest = equal_ahead l m in choose (equal_option ks js) rest false

-- ways in which the tokens may go on, each once
abbrev pub is_way_of : Ahead → List Ahead → Bool
is_way_of l [] = false
is_way_of l (m ∷ ms) = let rest = is_way_of l ms in choose (equal_ahead l m) true rest

abbrev pub with_way : Ahead → List Ahead → List Ahead
with_way l ms = choose (is_way_of l ms) ms (l ∷ ms)

abbrev pub ways : List (List Place) → List Ahead
ways [] = []
ways (p ∷ ps) = with_way (brief p) (ways ps)

-- What is known where a test has this answer: the ways in which the tokens may go on then, none where it cannot have it.
-- Where it does not hold, this says something of tokens alone of which something is known. A test of the operator says
-- nothing here: it may ask for a power that is not known.
abbrev pub asked : Bool → Test → Ahead → List Place
asked true h l = filled (reach h) l
asked false h l = places l

abbrev pub is_of_operator : Test → Bool
is_of_operator (operator_so f) = true
is_of_operator t = false

abbrev pub learned : Test → Bool → Ahead → List Ahead
learned h b l = let more = ways (narrowed h b (asked b h l)) in choose (is_of_operator h) (l ∷ []) more

-- What follows is computed of what is known, which is computed itself.
abbrev pub by_list : {A : Type 0} → List ℕ → (List ℕ → A) → A
by_list [] h = h []
by_list (k ∷ ks) h = by_list ks (λ x. h (k ∷ x))

abbrev pub by_option : {A : Type 0} → Option (List ℕ) → (Option (List ℕ) → A) → A
by_option None h = h None
by_option (Some ks) h = by_list ks (λ x. h (Some x))

abbrev pub by_ahead : {A : Type 0} → Ahead → (Ahead → A) → A
by_ahead [] h = h []
by_ahead (ks ∷ l) h = by_option ks (λ x. by_ahead l (λ y. h (x ∷ y)))

-- a leaf of the next token
abbrev pub leaf_by : Option (List ℕ) → Content
leaf_by None = any_leaf
leaf_by (Some ks) = leaf_of ks

abbrev pub next_leaf : Ahead → Content
next_leaf [] = any_leaf
next_leaf (ks ∷ l) = leaf_by ks
