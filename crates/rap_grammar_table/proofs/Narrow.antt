-- What the answer to a test says of the tokens that come next.
use Rattle.std.specs.Prelude.{◌≡◌, ℕ, zero, suc, Bool, true, false, ◌==◌, not, List, [], ◌∷◌, ◌++◌, Option, Some, None}
use Rattle.rap_base.specs.TokenKind.{EOF}
use Rattle.rap_events.specs.Composite.{parts}
use Rattle.rap_events.specs.Record.{Record}
use Rattle.rap_grammar_scripts.specs.Test.{Test, kind_so, word_so, edition_so, comes, borne, negated, also, or_else, told, operator_so, holds}
use Rattle.rap_grammar_table.proofs.Evaluate.{behind, evaluate, is_kind, of_truth}
use Rattle.rap_grammar_table.specs.Known.{Answer, sure, never, unclear, Place}
use Rattle.rap_grammar_table.specs.Notation.{those}

-- of which it holds, or does not, as the answer is
abbrev pub answering : Bool → (ℕ → Bool) → ℕ → Bool
answering true f k = f k
answering false f k = not (f k)

-- one way, with fewer kinds of its first token, or none where no kind is left
abbrev pub with_kinds : List ℕ → Place → List Place → List (List Place)
with_kinds [] p ps = []
with_kinds (k ∷ ks) p ps = (record { kinds = Some (k ∷ ks); words = p.words; joint = p.joint } ∷ ps) ∷ []

abbrev pub first_kinds : (ℕ → Bool) → Option (List ℕ) → Place → List Place → List (List Place)
first_kinds f None p ps = (p ∷ ps) ∷ []
first_kinds f (Some ks) p ps = with_kinds (those f ks) p ps

-- the same for the token after so many
abbrev pub by_kind : ℕ → (ℕ → Bool) → List Place → List (List Place)
by_kind n f [] = [] ∷ []
by_kind zero f (p ∷ ps) = first_kinds f p.kinds p ps
by_kind (suc n) f (p ∷ ps) = behind p (by_kind n f ps)

-- the same for the words that a token is read as
abbrev pub with_words : List ℕ → Place → List Place → List (List Place)
with_words [] p ps = []
with_words (k ∷ ks) p ps = (record { kinds = p.kinds; words = Some (k ∷ ks); joint = p.joint } ∷ ps) ∷ []

abbrev pub first_words : (ℕ → Bool) → Option (List ℕ) → Place → List Place → List (List Place)
first_words f None p ps = (p ∷ ps) ∷ []
first_words f (Some ks) p ps = with_words (those f ks) p ps

abbrev pub by_word : ℕ → (ℕ → Bool) → List Place → List (List Place)
by_word n f [] = [] ∷ []
by_word zero f (p ∷ ps) = first_words f p.words p ps
by_word (suc n) f (p ∷ ps) = behind p (by_word n f ps)

-- one way, or none where it is known to answer otherwise
abbrev pub unless_known : Bool → Answer → List Place → List (List Place)
unless_known true never p = []
unless_known false sure p = []
unless_known b a p = p ∷ []

-- a token that does not touch the next one, and where it does none
abbrev pub apart_from : Answer → Place → List Place → List (List Place)
apart_from sure p ps = []
apart_from never p ps = (p ∷ ps) ∷ []
apart_from unclear p ps = (record { kinds = p.kinds; words = p.words; joint = never } ∷ ps) ∷ []

abbrev pub by_apart : ℕ → List Place → List (List Place)
by_apart n [] = [] ∷ []
by_apart zero (p ∷ ps) = apart_from p.joint p ps
by_apart (suc n) (p ∷ ps) = behind p (by_apart n ps)

-- Two tokens that do not come so: the first is another, or does not touch the second, or that is another.
abbrev pub by_two : Bool → ℕ → ℕ → ℕ → Answer → List Place → List (List Place)
by_two true j i n unclear p =
    by_kind n (answering false (is_kind j)) p ++ (by_apart n p ++ by_kind (suc n) (answering false (is_kind i)) p)
by_two b j i n a p = unless_known false a p

abbrev pub by_no_tokens : ℕ → List ℕ → ℕ → Answer → List Place → List (List Place)
by_no_tokens j [] n a p = unless_known false a p
by_no_tokens j (i ∷ []) n a p = by_two (not (i == EOF)) j i n a p
by_no_tokens j (i ∷ m ∷ ms) n a p = unless_known false a p

-- tokens of this kind come next, or not: one token's kind is known then
abbrev pub by_tokens : List ℕ → ℕ → ℕ → Bool → Answer → List Place → List (List Place)
by_tokens [] n k b a p = by_kind n (answering b (is_kind k)) p
by_tokens (j ∷ js) n k true a p = unless_known true a p
by_tokens (j ∷ js) n k false a p = by_no_tokens j js n a p

-- the ways of each way
abbrev pub each : (List Place → List (List Place)) → List (List Place) → List (List Place)
each f [] = []
each f (p ∷ ps) = f p ++ each f ps

-- the ways that are left of one way where a test is answered so
abbrev pub narrowed : Test → Bool → List Place → List (List Place)
narrowed (kind_so n f) b p = by_kind n (answering b f) p
narrowed (word_so n f) b p = by_word n (answering b f) p
narrowed (edition_so n f) b p = p ∷ []
narrowed (comes n k) b p = by_tokens (parts k) n k b (evaluate (comes n k) p) p
narrowed (borne n k) b p = unless_known b (evaluate (borne n k) p) p
narrowed (negated t) b p = narrowed t (not b) p
narrowed (also s t) true p = each (λ q. narrowed t true q) (narrowed s true p)
narrowed (also s t) false p = narrowed s false p ++ each (λ q. narrowed t false q) (narrowed s true p)
narrowed (or_else s t) true p = narrowed s true p ++ each (λ q. narrowed t true q) (narrowed s false p)
narrowed (or_else s t) false p = each (λ q. narrowed t false q) (narrowed s false p)
narrowed (told c) b p = unless_known b (of_truth c) p
narrowed (operator_so f) b p = unless_known b (evaluate (operator_so f) p) p

-- a test of the tokens that come next, and its answer
pub record Fact : Type 0 where
  pub test : Test
  pub answer : Bool

-- the ways that are left where all of these are so
abbrev pub left_by : List Fact → List (List Place) → List (List Place)
left_by [] g = g
left_by (x ∷ xs) g = each (λ p. narrowed x.test x.answer p) (left_by xs g)

-- they are so of these tokens
abbrev pub AreSo : List Fact → List Record → Type 0
AreSo [] rs = Unit {0}
AreSo (x ∷ xs) rs = (holds x.test rs ≡ x.answer) × AreSo xs rs

-- whether a test looks further than the first token
abbrev pub past_first : ℕ → Bool
past_first zero = false
past_first (suc n) = true

abbrev pub either_is : Bool → Bool → Bool
either_is true b = true
either_is false b = b

abbrev pub looks_on : Test → Bool
looks_on (kind_so n f) = past_first n
looks_on (word_so n f) = past_first n
looks_on (edition_so n f) = false
looks_on (comes n k) = past_first n
looks_on (borne n k) = past_first n
looks_on (negated t) = looks_on t
looks_on (also s t) = either_is (looks_on s) (looks_on t)
looks_on (or_else s t) = either_is (looks_on s) (looks_on t)
looks_on (told b) = false
looks_on (operator_so f) = true
