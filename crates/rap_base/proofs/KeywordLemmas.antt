-- Looking keywords up, by their kinds and by their texts.
use Rattle.std.proofs.Common.{eq-eqb, List, [], ◌∷◌, length, Option, Some, ap, sym, ◌∙◌, ◌≡◌, ℕ, Bool, true, false, ◌<◌, ◌≤◌, ◌==◌, ◌||◌, ◌&&◌, nat_le, cond, suc, zero, refl, inl, inr, arith, subst, not-suc-le-zero}
use Rattle.std.specs.Prelude.{bytes_eq, IfSome}
use Rattle.std.specs.List.{list_all}
use Rattle.std.proofs.lemmas.Slice.Eq.{bytes_eq-Decides}
use Rattle.std.proofs.lemmas.Bool.{cases_lt, and_parts}
use Rattle.rap_base.specs.Edition.{at_least_2018, at_least_2024}
use Rattle.rap_base.specs.Keyword.{is_keyword, kind_of_word, from_keyword, from_contextual_keyword, reserved, contextual, keyword_name}
use Rattle.rap_base.specs.Names.{name_of}
use Rattle.rap_base.specs.NodeKind.{PATH_META}
use Rattle.rap_base.specs.TokenKind.{AS_KW, YEET_KW, ASYNC_KW, AWAIT_KW, TRY_KW, GEN_KW}
use Rattle.rap_base.specs.declared.edition.Edition.{Edition}
use Rattle.rap_base.specs.declared.edition.Edition.TheVariants.{Edition2015, Edition2018, Edition2021, Edition2024}

-- every kind from AS_KW to YEET_KW is a keyword's, and five of them depend on the edition
abbrev pub is_keyword_by_range : ℕ → Edition → Bool
is_keyword_by_range kind edition =
    cond (kind == ASYNC_KW || kind == AWAIT_KW || kind == TRY_KW) (at_least_2018 edition)
    (cond (kind == GEN_KW) (at_least_2024 edition) (nat_le AS_KW kind && nat_le kind YEET_KW))

same : Bool → Bool → Bool
same true b = b
same false true = false
same false false = true

same_is : (a b : Bool) → same a b ≡ true → a ≡ b
unfolding same
same_is true true e = refl
same_is true false e = cc
same_is false true e = cc
same_is false false e = refl

-- each number below n passes
all_below : (ℕ → Bool) → ℕ → Bool
all_below p zero = true
all_below p (suc n) = p n && all_below p n

all_below-at : (p : ℕ → Bool) (n k : ℕ) → all_below p n ≡ true → k < n → p k ≡ true
unfolding all_below
all_below-at p zero k h lt = absurd (not-suc-le-zero lt)
all_below-at p (suc n) k h lt =
    let parts = and_parts (p n) (all_below p n) h in
    elim (cases_lt k n) [
      | inl below ↦ all_below-at p n k parts.1 below
      | inr last ↦ let at : n ≡ k = omega arith in subst (λ j. p j ≡ true) at parts.0
    ]

pub is_keyword-by_range : (kind : ℕ) (edition : Edition) → kind ≤ PATH_META → is_keyword kind edition ≡ is_keyword_by_range kind edition
unfolding all_below same
is_keyword-by_range kind Edition2015 last = same_is _ _ (all_below-at (λ k. same (is_keyword k Edition2015) (is_keyword_by_range k Edition2015)) 330 kind refl (omega arith))
is_keyword-by_range kind Edition2018 last = same_is _ _ (all_below-at (λ k. same (is_keyword k Edition2018) (is_keyword_by_range k Edition2018)) 330 kind refl (omega arith))
is_keyword-by_range kind Edition2021 last = same_is _ _ (all_below-at (λ k. same (is_keyword k Edition2021) (is_keyword_by_range k Edition2021)) 330 kind refl (omega arith))
is_keyword-by_range kind Edition2024 last = same_is _ _ (all_below-at (λ k. same (is_keyword k Edition2024) (is_keyword_by_range k Edition2024)) 330 kind refl (omega arith))

-- the rows whose words have n bytes
abbrev pub of_length : ℕ → List (List ℕ × ℕ) → List (List ℕ × ℕ)
of_length n [] = []
of_length n (row ∷ rows) = cond (length row.0 == n) (row ∷ of_length n rows) (of_length n rows)

-- a word of another length is another word
other_length : (text word : List ℕ) (n : ℕ) → length text ≡ n → (length word == n) ≡ false → bytes_eq text word ≡ true → ⊥
other_length text word n size other same =
    let word_size : length word ≡ n = rw (← (bytes_eq-Decides text word).0 same) size in
    let hit : (length word == n) ≡ true = eq-eqb _ _ word_size in
    cc

-- a text of n bytes is looked for among the words of n bytes alone
kind_of_word-of_length : (n : ℕ) (rows : List (List ℕ × ℕ)) (text : List ℕ) → length text ≡ n → kind_of_word rows text ≡ kind_of_word (of_length n rows) text
kind_of_word-of_length n [] text size = refl
kind_of_word-of_length n (row ∷ rows) text size =
    let rest = kind_of_word-of_length n rows text size in
    elim (length row.0 == n) as (λ b. (length row.0 == n) ≡ b → kind_of_word (row ∷ rows) text ≡ kind_of_word (cond b (row ∷ of_length n rows) (of_length n rows)) text) [
      | true ↦ λ _. ap (λ r. cond (bytes_eq text row.0) (Some row.1) r) rest
      | false ↦ λ other. elim (bytes_eq text row.0) as (λ b. bytes_eq text row.0 ≡ b → cond b (Some row.1) (kind_of_word rows text) ≡ kind_of_word (of_length n rows) text) [
        | true ↦ λ same. absurd (other_length text row.0 n size other same)
        | false ↦ λ _. rest
      ] refl
    ] refl

pub from_length : (n : ℕ) (rows : List (List ℕ × ℕ)) (text : List ℕ) (kind : Option ℕ) → length text ≡ n → kind ≡ kind_of_word (of_length n rows) text → kind ≡ kind_of_word rows text
from_length n rows text kind size found = found ∙ sym (kind_of_word-of_length n rows text size)

-- a row whose kind is named by its word
is_named : List ℕ × ℕ → Bool
is_named row = bytes_eq (name_of row.1) (keyword_name row.0)

named_row : (row : List ℕ × ℕ) (text : List ℕ) → is_named row ≡ true → bytes_eq text row.0 ≡ true → name_of row.1 ≡ keyword_name text
unfolding is_named
named_row row text named same =
    (bytes_eq-Decides (name_of row.1) (keyword_name row.0)).0 named ∙ ap keyword_name (sym ((bytes_eq-Decides text row.0).0 same))

named_rows : (rows : List (List ℕ × ℕ)) (text : List ℕ) → list_all is_named rows ≡ true → IfSome (kind_of_word rows text) (λ kind. name_of kind ≡ keyword_name text)
named_rows [] text all = tt
named_rows (row ∷ rows) text all =
    let parts = and_parts (is_named row) (list_all is_named rows) all in
    elim (bytes_eq text row.0) as (λ b. bytes_eq text row.0 ≡ b → IfSome (cond b (Some row.1) (kind_of_word rows text)) (λ kind. name_of kind ≡ keyword_name text)) [
      | true ↦ λ same. named_row row text parts.0 same
      | false ↦ λ _. named_rows rows text parts.1
    ] refl

pub from_keyword-named : (text : List ℕ) (edition : Edition) → IfSome (from_keyword text edition) (λ kind. name_of kind ≡ keyword_name text)
unfolding is_named
from_keyword-named text Edition2015 = named_rows (reserved Edition2015) text refl
from_keyword-named text Edition2018 = named_rows (reserved Edition2018) text refl
from_keyword-named text Edition2021 = named_rows (reserved Edition2021) text refl
from_keyword-named text Edition2024 = named_rows (reserved Edition2024) text refl

pub from_contextual_keyword-named : (text : List ℕ) (edition : Edition) → IfSome (from_contextual_keyword text edition) (λ kind. name_of kind ≡ keyword_name text)
unfolding is_named
from_contextual_keyword-named text Edition2015 = named_rows (contextual Edition2015) text refl
from_contextual_keyword-named text Edition2018 = named_rows (contextual Edition2018) text refl
from_contextual_keyword-named text Edition2021 = named_rows (contextual Edition2021) text refl
from_contextual_keyword-named text Edition2024 = named_rows (contextual Edition2024) text refl
