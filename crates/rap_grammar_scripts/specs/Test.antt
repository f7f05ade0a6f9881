-- Tests of the tokens that come next, as data.
use Rattle.std.specs.Prelude.{ℕ, zero, suc, Bool, ◌&&◌, ◌||◌, not, List, drop}
use Rattle.rap_base.specs.declared.edition.Edition.{Edition}
use Rattle.rap_events.specs.Composite.{is_at}
use Rattle.rap_events.specs.Cover.{first_may_bear}
use Rattle.rap_events.specs.Record.{Record, next_kind, kind_at, contextual_at, edition_at}
use Rattle.rap_grammar_scripts.specs.Operator.{operator_at}

-- After so many tokens comes one of such a kind, one that may be read as such a word, or one of such an edition. There
-- comes a token of this kind, be it written with several, or one that may bear this kind. Such an operator comes next.
-- A test does not hold; two tests hold; one of two does. Or it is told before.
pub data Test : Type 0 where
  kind_so : ℕ → (ℕ → Bool) → Test
  word_so : ℕ → (ℕ → Bool) → Test
  edition_so : ℕ → (Edition → Bool) → Test
  comes : ℕ → ℕ → Test
  borne : ℕ → ℕ → Test
  operator_so : (ℕ → Bool) → Test
  negated : Test → Test
  also : Test → Test → Test
  or_else : Test → Test → Test
  told : Bool → Test

-- the kind of the token after so many
abbrev pub kind_after : ℕ → List Record → ℕ
kind_after zero rs = next_kind rs
kind_after (suc n) rs = kind_at rs (suc n)

-- whether a test holds where these tokens come next
abbrev pub holds : Test → List Record → Bool
holds (kind_so n f) rs = f (kind_after n rs)
holds (word_so n f) rs = f (contextual_at rs n)
holds (edition_so n f) rs = f (edition_at rs n)
holds (comes n k) rs = is_at k (drop n rs)
holds (borne n k) rs = first_may_bear (drop n rs) k
holds (operator_so f) rs = f (operator_at rs)
holds (negated t) rs = not (holds t rs)
holds (also s t) rs = holds s rs && holds t rs
holds (or_else s t) rs = holds s rs || holds t rs
holds (told b) rs = b
