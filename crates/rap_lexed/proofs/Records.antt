-- The records of tokens, and the tokens that a leaf stands for.
use Rattle.std.proofs.Common.{◌≡◌, refl, sym, ◌∙◌, ap, subst, List, [], ◌∷◌, ℕ, ◌+◌, ◌<◌, ◌≤◌, inl, inr, zero, suc, Bool, true, false, not, ◌&&◌, ◌||◌, cond, length, drop, take, append-nil, arith}
use Rattle.std.specs.Prelude.{◌==◌, nat_lt}
use Rattle.std.specs.List.{prefix_len, list_all}
use Rattle.std.proofs.lemmas.Bool.{and_parts, eqb-true, ltb-true, cond-true, cond-false, cases_Bool, or_parts, not-true, not_from_true, not_from_false}
use Rattle.std.proofs.lemmas.List.Sums.{sum_by-cons}
use Rattle.rap_base.specs.TokenKind.{IDENT, FLOAT_NUMBER}
use Rattle.rap_base.specs.TokenTests.{is_trivia}
use Rattle.rap_base.specs.declared.edition.Edition.{Edition}
use Rattle.rap_events.specs.Record.{Record}
use Rattle.rap_events.specs.OperatorTable.{composites}
use Rattle.rap_events.specs.Composite.{row_of, parts, begins_with}
use Rattle.rap_events.specs.Cover.{of_tokens, of_float, first_may_bear, first_splits, stands}
use Rattle.rap_lexed.specs.LexedStr.{Token, joined}
use Rattle.rap_lexed.specs.Input.{contextual_of, ends_with_dot, begins_touching, joint_of, records}
use Rattle.rap_lexed.specs.Trivia.{is_trivial, is_significant, significant}

abbrev pub record_of : Token → List Token → Edition → Record
record_of t ts edition = record { kind = t.kind; contextual = contextual_of t edition; edition = edition; joint = joint_of t ts }

pub records-trivial : (t : Token) (ts : List Token) (edition : Edition) → is_trivial t ≡ true → records (t ∷ ts) edition ≡ records ts edition
records-trivial t ts edition h = cond-true (is_trivial t) (records ts edition) (record_of t ts edition ∷ records ts edition) h

pub records-significant : (t : Token) (ts : List Token) (edition : Edition) → is_trivial t ≡ false → records (t ∷ ts) edition ≡ record_of t ts edition ∷ records ts edition
records-significant t ts edition h = cond-false (is_trivial t) (records ts edition) (record_of t ts edition ∷ records ts edition) h

pub significant-trivial : (t : Token) (ts : List Token) → is_trivial t ≡ true → significant (t ∷ ts) ≡ significant ts
significant-trivial t ts h =
    let uncounted : cond {A = ℕ} (is_significant t) 1 0 ≡ 0 = cond-false (is_significant t) 1 0 (not_from_true (is_trivial t) h) in
    omega (arith, sum_by-cons (λ x. cond {A = ℕ} (is_significant x) 1 0) t ts)

pub significant-more : (t : Token) (ts : List Token) → is_trivial t ≡ false → significant (t ∷ ts) ≡ suc (significant ts)
significant-more t ts h =
    let counted : cond {A = ℕ} (is_significant t) 1 0 ≡ 1 = cond-true (is_significant t) 1 0 (not_from_false (is_trivial t) h) in
    omega (arith, sum_by-cons (λ x. cond {A = ℕ} (is_significant x) 1 0) t ts)

pub prefix-yes : (p : Token → Bool) (t : Token) (ts : List Token) → p t ≡ true → prefix_len p (t ∷ ts) ≡ suc (prefix_len p ts)
prefix-yes p t ts h = cond-true (p t) (1 + prefix_len p ts) 0 h ∙ omega arith

pub prefix-no : (p : Token → Bool) (t : Token) (ts : List Token) → p t ≡ false → prefix_len p (t ∷ ts) ≡ 0
prefix-no p t ts h = cond-false (p t) (1 + prefix_len p ts) 0 h

-- trivia at the beginning have no records
pub records-past : (ts : List Token) (edition : Edition) → records (drop (prefix_len is_trivial ts) ts) edition ≡ records ts edition
records-past [] edition = refl
records-past (t ∷ ts) edition = elim (cases_Bool (is_trivial t)) [
  | inl h ↦ ap (λ n. records (drop n (t ∷ ts)) edition) (prefix-yes is_trivial t ts h) ∙ records-past ts edition ∙ sym (records-trivial t ts edition h)
  | inr h ↦ ap (λ n. records (drop n (t ∷ ts)) edition) (prefix-no is_trivial t ts h)
]

pub significant-past : (ts : List Token) → significant (drop (prefix_len is_trivial ts) ts) ≡ significant ts
significant-past [] = refl
significant-past (t ∷ ts) = elim (cases_Bool (is_trivial t)) [
  | inl h ↦ ap (λ n. significant (drop n (t ∷ ts))) (prefix-yes is_trivial t ts h) ∙ significant-past ts ∙ sym (significant-trivial t ts h)
  | inr h ↦ ap (λ n. significant (drop n (t ∷ ts))) (prefix-no is_trivial t ts h)
]

-- no trivia come first
abbrev pub IsPast : List Token → Type 0
IsPast [] = Unit {0}
IsPast (t ∷ ts) = is_trivial t ≡ false

pub past-is-past : (ts : List Token) → IsPast (drop (prefix_len is_trivial ts) ts)
past-is-past [] = tt
past-is-past (t ∷ ts) = elim (cases_Bool (is_trivial t)) [
  | inl h ↦ subst (λ (n : ℕ). IsPast (drop n (t ∷ ts))) (sym (prefix-yes is_trivial t ts h)) (past-is-past ts)
  | inr h ↦ subst (λ (n : ℕ). IsPast (drop n (t ∷ ts))) (sym (prefix-no is_trivial t ts h)) h
]

-- tokens of which none is trivia have a record each
pub records-drop : (n : ℕ) (ts : List Token) (edition : Edition) → n ≤ prefix_len is_significant ts → records (drop n ts) edition ≡ drop n (records ts edition)
records-drop zero ts edition h = refl
records-drop (suc n) [] edition h = absurd (omega arith)
records-drop (suc n) (t ∷ ts) edition h = elim (cases_Bool (is_trivial t)) [
  | inl e ↦ let none : prefix_len is_significant (t ∷ ts) ≡ 0 = prefix-no is_significant t ts (not_from_true (is_trivial t) e) in absurd (omega arith)
  | inr e ↦
      let more : prefix_len is_significant (t ∷ ts) ≡ suc (prefix_len is_significant ts) = prefix-yes is_significant t ts (not_from_false (is_trivial t) e) in
      records-drop n ts edition (omega arith) ∙ ap (drop (suc n)) (sym (records-significant t ts edition e))
]

pub significant-drop : (n : ℕ) (ts : List Token) → n ≤ prefix_len is_significant ts → significant (drop n ts) + n ≡ significant ts
significant-drop zero ts h = omega arith
significant-drop (suc n) [] h = absurd (omega arith)
significant-drop (suc n) (t ∷ ts) h = elim (cases_Bool (is_trivial t)) [
  | inl e ↦ let none : prefix_len is_significant (t ∷ ts) ≡ 0 = prefix-no is_significant t ts (not_from_true (is_trivial t) e) in absurd (omega arith)
  | inr e ↦
      let more : prefix_len is_significant (t ∷ ts) ≡ suc (prefix_len is_significant ts) = prefix-yes is_significant t ts (not_from_false (is_trivial t) e) in
      omega (arith, significant-drop n ts (omega arith), significant-more t ts e)
]

-- neither an identifier nor a float number, whose joint bits say something else
abbrev is_plain : ℕ → Bool
is_plain kind = not (kind == IDENT) && not (kind == FLOAT_NUMBER)

rows-plain : (rows : List (ℕ × List ℕ)) (kind : ℕ) → list_all (λ row. list_all is_plain row.1) rows ≡ true → list_all is_plain (row_of rows kind) ≡ true
rows-plain [] kind h = refl
rows-plain (row ∷ rows) kind h =
    let all = and_parts (list_all is_plain row.1) (list_all (λ row. list_all is_plain row.1) rows) h in
    elim (cases_Bool (row.0 == kind)) [
      | inl e ↦ ap (list_all is_plain) (cond-true (row.0 == kind) row.1 (row_of rows kind) e) ∙ all.0
      | inr e ↦ ap (list_all is_plain) (cond-false (row.0 == kind) row.1 (row_of rows kind) e) ∙ rows-plain rows kind all.1
    ]

parts-plain : (kind : ℕ) → list_all is_plain (parts kind) ≡ true
parts-plain kind = rows-plain composites kind refl

-- a plain token is joint exactly if the token right after it is no trivia and no identifier
joint-plain : (t : Token) (ts : List Token) → is_plain t.kind ≡ true → joint_of t ts ≡ begins_touching ts
joint-plain t ts h =
    let both = and_parts (not (t.kind == IDENT)) (not (t.kind == FLOAT_NUMBER)) h in
    cond-false (t.kind == IDENT) false (cond (t.kind == FLOAT_NUMBER) (not (ends_with_dot t.text)) (begins_touching ts)) (not-true (t.kind == IDENT) both.0)
    ∙ cond-false (t.kind == FLOAT_NUMBER) (not (ends_with_dot t.text)) (begins_touching ts) (not-true (t.kind == FLOAT_NUMBER) both.1)

-- after a joint bit no trivia come
touching-past : (ts : List Token) → begins_touching ts ≡ true → IsPast ts
touching-past [] h = tt
touching-past (t ∷ ts) h = (or_parts (is_trivia t.kind) (t.kind == IDENT) (not-true (is_trivia t.kind || (t.kind == IDENT)) h)).0

head-counts : (t : Token) (ts : List Token) → is_trivial t ≡ false → prefix_len is_significant (t ∷ ts) ≡ suc (prefix_len is_significant ts)
head-counts t ts h = prefix-yes is_significant t ts (not_from_false (is_trivial t) h)

-- the tokens of an operator touch
pub operator-touches : (ks : List ℕ) (ts : List Token) (edition : Edition) → list_all is_plain ks ≡ true → IsPast ts → begins_with ks (records ts edition) ≡ true → length ks ≤ prefix_len is_significant ts
operator-touches [] ts edition plain past h = omega arith
operator-touches (k ∷ []) [] edition plain past h = cc h
operator-touches (k ∷ []) (t ∷ ts) edition plain past h = omega (arith, head-counts t ts past)
operator-touches (k ∷ j ∷ ks) [] edition plain past h = cc h
operator-touches (k ∷ j ∷ ks) (t ∷ ts) edition plain past h =
    let begins : begins_with (k ∷ j ∷ ks) (record_of t ts edition ∷ records ts edition) ≡ true = ap (begins_with (k ∷ j ∷ ks)) (sym (records-significant t ts edition past)) ∙ h in
    let both = and_parts (t.kind == k) (joint_of t ts && begins_with (j ∷ ks) (records ts edition)) begins in
    let rest = and_parts (joint_of t ts) (begins_with (j ∷ ks) (records ts edition)) both.1 in
    let plains = and_parts (is_plain k) (list_all is_plain (j ∷ ks)) plain in
    let same : is_plain t.kind ≡ true = ap is_plain (eqb-true t.kind k both.0) ∙ plains.0 in
    let next : IsPast ts = touching-past ts (sym (joint-plain t ts same) ∙ rest.0) in
    omega (arith, head-counts t ts past, operator-touches (j ∷ ks) ts edition plains.1 next rest.1)

-- a token that is read as a kind is no trivia
reads_as-one : (kind : ℕ) (ts : List Token) (edition : Edition) → IsPast ts → first_may_bear (records ts edition) kind ≡ true → 1 ≤ prefix_len is_significant ts
reads_as-one kind [] edition past h = cc h
reads_as-one kind (t ∷ ts) edition past h = omega (arith, head-counts t ts past)

-- so do the tokens of a leaf
pub leaf-touches : (kind width : ℕ) (ts : List Token) (edition : Edition) → IsPast ts → stands (of_tokens kind width) (records ts edition) ≡ true → (0 < width) × (width ≤ prefix_len is_significant ts)
leaf-touches kind width ts edition past h =
    let one = first_may_bear (records ts edition) kind in
    let more = nat_lt 0 width && ((length (parts kind) == width) && begins_with (parts kind) (records ts edition)) in
    elim (cases_Bool (width == 1)) [
      | inl e ↦
          let w : width ≡ 1 = eqb-true width 1 e in
          let reads_as : 1 ≤ prefix_len is_significant ts = reads_as-one kind ts edition past (sym (cond-true (width == 1) one more e) ∙ h) in
          (omega arith, omega arith)
      | inr e ↦
          let all = and_parts (nat_lt 0 width) ((length (parts kind) == width) && begins_with (parts kind) (records ts edition)) (sym (cond-false (width == 1) one more e) ∙ h) in
          let both = and_parts (length (parts kind) == width) (begins_with (parts kind) (records ts edition)) all.1 in
          let w : length (parts kind) ≡ width = eqb-true (length (parts kind)) width both.0 in
          let touches : length (parts kind) ≤ prefix_len is_significant ts = operator-touches (parts kind) ts edition (parts-plain kind) past both.1 in
          (ltb-true 0 width all.0, omega arith)
    ]

-- as many records as tokens that are no trivia
pub length-records : (ts : List Token) (edition : Edition) → length (records ts edition) ≡ significant ts
length-records [] edition = refl
length-records (t ∷ ts) edition =
    elim (cases_Bool (is_trivial t)) as (λ _. length (records (t ∷ ts) edition) ≡ significant (t ∷ ts)) [
      | inl e ↦ ap length (records-trivial t ts edition e) ∙ (length-records ts edition ∙ sym (significant-trivial t ts e))
      | inr e ↦ omega (arith, ap length (records-significant t ts edition e), length-records ts edition, significant-more t ts e)
    ]

agree : (b d : Bool) → cond (not b) (not d) d ≡ true → b ≡ d
agree true true h = refl
agree true false h = absurd cc
agree false true h = absurd cc
agree false false h = refl

joint-float : (t : Token) (ts : List Token) → t.kind ≡ FLOAT_NUMBER → joint_of t ts ≡ not (ends_with_dot t.text)
joint-float t ts e = ap (λ k. cond (k == IDENT) false (cond (k == FLOAT_NUMBER) (not (ends_with_dot t.text)) (begins_touching ts))) e

-- a float that is taken apart is one token, and ends in a dot exactly if its text does
pub float-touches : (d : Bool) (ts : List Token) (edition : Edition) → IsPast ts → stands (of_float d) (records ts edition) ≡ true → (1 ≤ prefix_len is_significant ts) × (ends_with_dot (joined (take 1 ts)) ≡ d)
float-touches d [] edition past h = cc h
float-touches d (t ∷ ts) edition past h =
    let splits : first_splits (record_of t ts edition ∷ records ts edition) d ≡ true = ap (λ rs. first_splits rs d) (sym (records-significant t ts edition past)) ∙ h in
    let both = and_parts (t.kind == FLOAT_NUMBER) (cond (joint_of t ts) (not d) d) splits in
    let joint : joint_of t ts ≡ not (ends_with_dot t.text) = joint-float t ts (eqb-true t.kind FLOAT_NUMBER both.0) in (
      omega (arith, head-counts t ts past),
      ap ends_with_dot (append-nil t.text) ∙ agree (ends_with_dot t.text) d (ap (λ b. cond b (not d) d) (sym joint) ∙ both.1),
    )
