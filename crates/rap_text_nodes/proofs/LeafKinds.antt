-- No leaf of an output is white space or a comment.
use Rattle.std.proofs.Common.{◌≡◌, ◌==◌, ◌&&◌, ◌||◌, not, nat_lt, cond, if◌then◌else◌, ℕ, zero, suc, Bool, true, false, List, [], ◌∷◌, ◌++◌, inl, inr, length, drop, Some, refl, sym, ap, subst, ◌∙◌}
use Rattle.std.specs.Prelude.{bytes_eq, unwrap_or}
use Rattle.std.specs.List.{list_all}
use Rattle.std.proofs.lemmas.Bool.{cases_Bool, cond-true, cond-false}
use Rattle.rap_base.specs.Keyword.{contextual, from_contextual_keyword, is_keyword, kind_of_word}
use Rattle.rap_base.specs.TokenKind.{COMMENT, EOF, IDENT, WHITESPACE}
use Rattle.rap_base.specs.TokenTests.{is_trivia}
use Rattle.rap_base.specs.declared.edition.Edition.{Edition}
use Rattle.rap_base.specs.declared.edition.Edition.TheVariants.{Edition2015, Edition2018, Edition2021, Edition2024}
use Rattle.rap_events.proofs.Truth.{and_left, and_right}
use Rattle.rap_events.specs.Composite.{begins_with, parts}
use Rattle.rap_events.specs.Cover.{Leaf, of_tokens, of_float, covers, leaf_width, leaves, first_may_bear, stands, stand}
use Rattle.rap_events.specs.Forest.{Forest, none, node, leaf, message, split}
use Rattle.rap_events.specs.Record.{Record}
use Rattle.rap_grammar_table.proofs.Known.{by_or, same_number}
use Rattle.rap_lexed.specs.Input.{contextual_of, joint_of, records}
use Rattle.rap_lexed.specs.Token.{Token}

-- the kind of no white space and no comment
abbrev pub IsPlain : ℕ → Type 0
IsPlain kind = is_trivia kind ≡ false

-- No leaf is one, wherever it stands.
abbrev pub ArePlain : Forest → Type 0
ArePlain none = Unit {0}
ArePlain (node before kind children) = ArePlain before × ArePlain children
ArePlain (leaf before kind width) = ArePlain before × IsPlain kind
ArePlain (message before bytes) = ArePlain before
ArePlain (split before ends_in_dot) = ArePlain before

-- the records of a text
record PlainRecord (r : Record) : Type 0 where
  kind : IsPlain r.kind
  contextual : IsPlain r.contextual

abbrev PlainRecords : List Record → Type 0
PlainRecords [] = Unit {0}
PlainRecords (r ∷ rs) = PlainRecord r × PlainRecords rs

not_so : (b : Bool) → not b ≡ true → b ≡ false
not_so true h = absurd cc
not_so false h = refl

abbrev plain_rows : List (List ℕ × ℕ) → Bool
plain_rows rows = list_all (λ row. not (is_trivia row.1)) rows

word_plain : (rows : List (List ℕ × ℕ)) (text : List ℕ) → plain_rows rows ≡ true →
    IsPlain (unwrap_or (kind_of_word rows text) IDENT)
word_plain [] text h = refl
word_plain (row ∷ rows) text h =
    elim (cases_Bool (bytes_eq text row.0)) [
      | inl e ↦
          ap (λ k. is_trivia (unwrap_or k IDENT)) (cond-true (bytes_eq text row.0) (Some row.1) (kind_of_word rows text) e)
          ∙ not_so (is_trivia row.1) (and_left (not (is_trivia row.1)) (plain_rows rows) h)
      | inr e ↦
          ap (λ k. is_trivia (unwrap_or k IDENT)) (cond-false (bytes_eq text row.0) (Some row.1) (kind_of_word rows text) e)
          ∙ word_plain rows text (and_right (not (is_trivia row.1)) (plain_rows rows) h)
    ]

keyword_plain : (text : List ℕ) (edition : Edition) → IsPlain (unwrap_or (from_contextual_keyword text edition) IDENT)
keyword_plain text Edition2015 = word_plain (contextual Edition2015) text refl
keyword_plain text Edition2018 = word_plain (contextual Edition2018) text refl
keyword_plain text Edition2021 = word_plain (contextual Edition2021) text refl
keyword_plain text Edition2024 = word_plain (contextual Edition2024) text refl

contextual_plain : (t : Token) (edition : Edition) → IsPlain (contextual_of t edition)
contextual_plain t edition =
    elim (cases_Bool (t.kind == IDENT)) as (λ _. IsPlain (contextual_of t edition)) [
      | inl e ↦
          ap is_trivia (cond-true (t.kind == IDENT) (unwrap_or (from_contextual_keyword t.text edition) IDENT) EOF e)
          ∙ keyword_plain t.text edition
      | inr e ↦
          ap is_trivia (cond-false (t.kind == IDENT) (unwrap_or (from_contextual_keyword t.text edition) IDENT) EOF e)
    ]

records_if : (b : Bool) (r : Record) (rs : List Record) → (b ≡ false → PlainRecord r) → PlainRecords rs →
    PlainRecords (if b then rs else (r ∷ rs))
records_if true r rs f h = h
records_if false r rs f h = (f refl, h)

records_plain : (ts : List Token) (edition : Edition) → PlainRecords (records ts edition)
records_plain [] edition = tt
records_plain (t ∷ ts) edition =
    records_if (is_trivia t.kind)
    (record { kind = t.kind; contextual = contextual_of t edition; edition = edition; joint = joint_of t ts })
    (records ts edition) (λ e. record { kind = e; contextual = contextual_plain t edition })
    (records_plain ts edition)

plain_behind : (n : ℕ) (rs : List Record) → PlainRecords rs → PlainRecords (drop n rs)
plain_behind zero rs h = h
plain_behind (suc n) [] h = tt
plain_behind (suc n) (r ∷ rs) h = plain_behind n rs h.1

-- a kind that a record may bear
borne_plain : (rs : List Record) (kind : ℕ) → PlainRecords rs → first_may_bear rs kind ≡ true → IsPlain kind
borne_plain [] kind h b = absurd cc
borne_plain (r ∷ rs) kind h b =
    by_or (r.kind == kind) (((r.kind == IDENT) && (r.contextual == kind)) || ((kind == IDENT) && is_keyword r.kind Edition2024)) b
    (λ e. subst (λ (k : ℕ). IsPlain k) (same_number r.kind kind e) h.0.kind)
    (λ e.
    by_or ((r.kind == IDENT) && (r.contextual == kind)) ((kind == IDENT) && is_keyword r.kind Edition2024) e
    (λ f.
    subst (λ (k : ℕ). IsPlain k) (same_number r.contextual kind (and_right (r.kind == IDENT) (r.contextual == kind) f))
    h.0.contextual)
    (λ f.
    subst (λ (k : ℕ). IsPlain k)
    (sym (same_number kind IDENT (and_left (kind == IDENT) (is_keyword r.kind Edition2024) f))) refl))

-- an operator of several tokens
no_width : (w : ℕ) (b : Bool) → (nat_lt 0 w && ((0 == w) && b)) ≡ true → true ≡ false
no_width w b h =
    let e = same_number 0 w (and_left (0 == w) b (and_right (nat_lt 0 w) ((0 == w) && b) h)) in
    let l : nat_lt 0 0 ≡ true = subst (λ (k : ℕ). nat_lt 0 k ≡ true) (sym e) (and_left (nat_lt 0 w) ((0 == w) && b) h) in
    absurd cc

composed_plain : (kind w : ℕ) (rs : List Record) →
    (nat_lt 0 w && ((length (parts kind) == w) && begins_with (parts kind) rs)) ≡ true → IsPlain kind
composed_plain kind w rs h =
    elim (cases_Bool (is_trivia kind)) as (λ _. IsPlain kind) [
      | inl e ↦
          absurd
          (let z : true ≡ false =
          by_or (kind == WHITESPACE) (kind == COMMENT) e
          (λ i.
          no_width w (begins_with [] rs)
          (subst (λ (k : ℕ). (nat_lt 0 w && ((length (parts k) == w) && begins_with (parts k) rs)) ≡ true)
          (same_number kind WHITESPACE i) h))
          (λ i.
          no_width w (begins_with [] rs)
          (subst (λ (k : ℕ). (nat_lt 0 w && ((length (parts k) == w) && begins_with (parts k) rs)) ≡ true)
          (same_number kind COMMENT i) h)) in cc)
      | inr e ↦ e
    ]

stands_if : (b : Bool) (kind w : ℕ) (rs : List Record) → PlainRecords rs →
    (if b then first_may_bear rs kind
    else (nat_lt 0 w && ((length (parts kind) == w) && begins_with (parts kind) rs))) ≡ true → IsPlain kind
stands_if true kind w rs h s = borne_plain rs kind h s
stands_if false kind w rs h s = composed_plain kind w rs s

-- the leaves of a list
abbrev PlainLeaf : Leaf → Type 0
PlainLeaf (of_tokens kind width) = IsPlain kind
PlainLeaf (of_float ends_in_dot) = Unit {0}

abbrev PlainLeaves : List Leaf → Type 0
PlainLeaves [] = Unit {0}
PlainLeaves (l ∷ ls) = PlainLeaf l × PlainLeaves ls

leaf_plain : (l : Leaf) (rs : List Record) → PlainRecords rs → stands l rs ≡ true → PlainLeaf l
leaf_plain (of_tokens kind width) rs h s = stands_if (width == 1) kind width rs h s
leaf_plain (of_float ends_in_dot) rs h s = tt

leaves_plain : (ls : List Leaf) (rs : List Record) → PlainRecords rs → stand ls rs ≡ true → PlainLeaves ls
leaves_plain [] rs h s = tt
leaves_plain (l ∷ ls) rs h s = (
  leaf_plain l rs h (and_left (stands l rs) (stand ls (drop (leaf_width l) rs)) s),
  leaves_plain ls (drop (leaf_width l) rs) (plain_behind (leaf_width l) rs h)
      (and_right (stands l rs) (stand ls (drop (leaf_width l) rs)) s),
)

plain_first : (ls ms : List Leaf) → PlainLeaves (ls ++ ms) → PlainLeaves ls
plain_first [] ms h = tt
plain_first (l ∷ ls) ms h = (h.0, plain_first ls ms h.1)

plain_second : (ls ms : List Leaf) → PlainLeaves (ls ++ ms) → PlainLeaves ms
plain_second [] ms h = h
plain_second (l ∷ ls) ms h = plain_second ls ms h.1

forest_plain : (f : Forest) → PlainLeaves (leaves f) → ArePlain f
forest_plain none h = tt
forest_plain (node before kind children) h = (
  forest_plain before (plain_first (leaves before) (leaves children) h),
  forest_plain children (plain_second (leaves before) (leaves children) h),
)
forest_plain (leaf before kind width) h = (
  forest_plain before (plain_first (leaves before) (of_tokens kind width ∷ []) h),
  (plain_second (leaves before) (of_tokens kind width ∷ []) h).0,
)
forest_plain (message before bytes) h = forest_plain before h
forest_plain (split before ends_in_dot) h = forest_plain before (plain_first (leaves before) (of_float ends_in_dot ∷ []) h)

-- An output that covers the records of a text has none.
pub covered_plain : (ts : List Token) (edition : Edition) (f : Forest) → covers (records ts edition) f ≡ true → ArePlain f
covered_plain ts edition f c =
    forest_plain f (leaves_plain (leaves f) (records ts edition) (records_plain ts edition) c)
