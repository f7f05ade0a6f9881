-- A word is reserved or contextual exactly if it stands at its place in the table, by its kind.
use Rattle.std.proofs.Common.{◌≡◌, ℕ, Bool, true, false, ◌||◌, ◌&&◌, ◌==◌, ◌<◌, ◌≤◌, nat_le, List, [], ◌∷◌, ◌++◌, Option, Some, None, Bor, length, map, if◌then◌else◌, refl, ap, sym, ◌∙◌, subst, arith}
use Rattle.std.specs.Prelude.{bytes_eq, codes, is_some, slice_index_or}
use Rattle.std.specs.List.{list_all}
use Rattle.std.proofs.lemmas.Bool.{and_parts, cond-true, cond-false, eqb-true, leb-true}
use Rattle.std.proofs.lemmas.List.{get_or-map, length-map}
use Rattle.std.proofs.lemmas.List.Folds.{list_all_at}
use Rattle.std.proofs.lemmas.Slice.Eq.{bytes_eq-Decides}
use Rattle.rap_base.specs.Keyword.{kind_of_word, reserved, contextual, from_keyword, from_contextual_keyword}
use Rattle.rap_base.specs.KeywordTable.{contextual_ever}
use Rattle.rap_base.specs.NodeKind.{PATH_META}
use Rattle.rap_base.specs.TokenKind.{DYN_KW}
use Rattle.rap_base.specs.WordRows.{word_rows}
use Rattle.rap_base.specs.Word.{place, known_kind, last_reserved, is_contextual_kind, is_ever_contextual}
use Rattle.rap_base.specs.declared.edition.Edition.{Edition}
use Rattle.rap_base.specs.declared.edition.Edition.TheVariants.{Edition2015, Edition2018, Edition2021, Edition2024}

-- a row of the table as a contract sees it
abbrev row_of : Bor (List ℕ) × ℕ → List ℕ × ℕ
row_of row = (row.0.now, row.1)

-- the row at a word's place
abbrev at : List ℕ → List ℕ × ℕ
at text = slice_index_or word_rows (place text) ([], 0)

place-within : (text : List ℕ) → place text < 512
place-within text = omega arith

-- a word of a list stands at its place
stands : List ℕ × ℕ → Bool
stands row = bytes_eq (at row.0).0 row.0

-- a word that does not stand at its place is in no list of words that do
not_among : (rows : List (List ℕ × ℕ)) (text : List ℕ) → list_all stands rows ≡ true → bytes_eq (at text).0 text ≡ false → kind_of_word rows text ≡ None
unfolding stands
not_among [] text all h = refl
not_among (row ∷ rows) text all h =
    let parts = and_parts (stands row) (list_all stands rows) all in
    (elim (bytes_eq text row.0) as (λ z. bytes_eq text row.0 ≡ z → (if z then Some row.1 else kind_of_word rows text) ≡ None) [
      | true ↦ λ s.
          let same : text ≡ row.0 = (bytes_eq-Decides text row.0).0 s in
          let hit : bytes_eq (at text).0 text ≡ true = subst (λ w. bytes_eq (at w).0 w ≡ true) (sym same) parts.0 in cc
      | false ↦ λ _. not_among rows text parts.1 h
    ]) refl

-- a kind, if it passes
abbrev passing : (ℕ → Bool) → ℕ → Option ℕ
passing p kind = if p kind then Some kind else None

same_kind : Option ℕ → Option ℕ → Bool
same_kind None None = true
same_kind None (Some kind) = false
same_kind (Some k) None = false
same_kind (Some k) (Some kind) = k == kind

same_kind-is : (k kind : Option ℕ) → same_kind k kind ≡ true → k ≡ kind
unfolding same_kind
same_kind-is None None h = refl
same_kind-is None (Some kind) h = cc
same_kind-is (Some k) None h = cc
same_kind-is (Some k) (Some kind) h = ap Some (eqb-true k kind h)

clash : (b : Bool) → b ≡ true → b ≡ false → ⊥
clash true e f = cc
clash false e f = cc

abbrev is_empty : List ℕ → Bool
is_empty [] = true
is_empty (byte ∷ bytes) = false

second : (a b : Bool) → a ≡ false → (a || b) ≡ true → b ≡ true
second true b e h = cc
second false b e h = h

-- the words of a list are those of the table whose kinds pass
agrees : List (List ℕ × ℕ) → (ℕ → Bool) → List ℕ × ℕ → Bool
agrees rows p row = is_empty row.0 || same_kind (kind_of_word rows row.0) (passing p row.1)

module _ (rows : List (List ℕ × ℕ)) (p : ℕ → Bool) (stand : list_all stands rows ≡ true) (agree : list_all (agrees rows p) word_rows ≡ true) where
  at-agrees : (text : List ℕ) → agrees rows p (at text) ≡ true
  at-agrees text =
      elim (agrees rows p (at text)) as (λ b. agrees rows p (at text) ≡ b → agrees rows p (at text) ≡ true) [
        | true ↦ λ e. e
        | false ↦ λ e. absurd (clash (list_all (agrees rows p) word_rows) agree (list_all_at (agrees rows p) word_rows (place text) ([], 0) (place-within text) e))
      ] refl

  -- the kind of a word that stands at its place
  found : (text : List ℕ) → 0 < length text → bytes_eq (at text).0 text ≡ true → kind_of_word rows text ≡ passing p (at text).1
  unfolding agrees
  found [] some hit = absurd (omega (arith, some))
  found (byte ∷ bytes) some hit =
      let text = byte ∷ bytes in
      let same : (at text).0 ≡ text = (bytes_eq-Decides (at text).0 text).0 hit in
      let long : is_empty (at text).0 ≡ false = subst (λ (w : List ℕ). is_empty w ≡ false) (sym same) refl in
      let kind = second (is_empty (at text).0) (same_kind (kind_of_word rows (at text).0) (passing p (at text).1)) long (at-agrees text) in
      subst (λ (w : List ℕ). kind_of_word rows w ≡ passing p (at text).1) same (same_kind-is _ _ kind)

  missing : (text : List ℕ) → bytes_eq (at text).0 text ≡ false → kind_of_word rows text ≡ None
  missing text other = not_among rows text stand other

abbrev pub known : List (List ℕ × ℕ)
known = reserved Edition2024 ++ contextual_ever

abbrev any : ℕ → Bool
any kind = true

known-stand : list_all stands known ≡ true
unfolding stands
known-stand = refl

known-agree : list_all (agrees known any) word_rows ≡ true
unfolding agrees same_kind
known-agree = refl

-- what passes of a known word's kind
abbrev part : (ℕ → Bool) → Option ℕ → Option ℕ
part p None = None
part p (Some kind) = passing p kind

module _ (rows : List (List ℕ × ℕ)) (p : ℕ → Bool) (stand : list_all stands rows ≡ true) (agree : list_all (agrees rows p) word_rows ≡ true) where
  part-of-some : (text : List ℕ) → 0 < length text → kind_of_word rows text ≡ part p (known_kind text)
  part-of-some text some =
      elim (bytes_eq (at text).0 text) as (λ b. bytes_eq (at text).0 text ≡ b → kind_of_word rows text ≡ part p (known_kind text)) [
        | true ↦ λ hit. found rows p stand agree text some hit ∙ sym (ap (part p) (found known any known-stand known-agree text some hit))
        | false ↦ λ miss. missing rows p stand agree text miss ∙ sym (ap (part p) (missing known any known-stand known-agree text miss))
      ] refl

reserved-stand : (edition : Edition) → list_all stands (reserved edition) ≡ true
unfolding stands
reserved-stand Edition2015 = refl
reserved-stand Edition2018 = refl
reserved-stand Edition2021 = refl
reserved-stand Edition2024 = refl

reserved-agree : (edition : Edition) → list_all (agrees (reserved edition) (λ kind. nat_le kind (last_reserved edition))) word_rows ≡ true
unfolding agrees same_kind
reserved-agree Edition2015 = refl
reserved-agree Edition2018 = refl
reserved-agree Edition2021 = refl
reserved-agree Edition2024 = refl

contextual-stand : (edition : Edition) → list_all stands (contextual edition) ≡ true
unfolding stands
contextual-stand Edition2015 = refl
contextual-stand Edition2018 = refl
contextual-stand Edition2021 = refl
contextual-stand Edition2024 = refl

contextual-agree : (edition : Edition) → list_all (agrees (contextual edition) (is_contextual_kind edition)) word_rows ≡ true
unfolding agrees same_kind
contextual-agree Edition2015 = refl
contextual-agree Edition2018 = refl
contextual-agree Edition2021 = refl
contextual-agree Edition2024 = refl

reserved-nothing : (edition : Edition) → from_keyword [] edition ≡ None
reserved-nothing Edition2015 = refl
reserved-nothing Edition2018 = refl
reserved-nothing Edition2021 = refl
reserved-nothing Edition2024 = refl

contextual-nothing : (edition : Edition) → from_contextual_keyword [] edition ≡ None
contextual-nothing Edition2015 = refl
contextual-nothing Edition2018 = refl
contextual-nothing Edition2021 = refl
contextual-nothing Edition2024 = refl

-- the word that an edition reserves, by its kind
pub reserved-part : (text : List ℕ) (edition : Edition) → from_keyword text edition ≡ part (λ kind. nat_le kind (last_reserved edition)) (known_kind text)
reserved-part [] edition = reserved-nothing edition
reserved-part (byte ∷ bytes) edition = part-of-some (reserved edition) _ (reserved-stand edition) (reserved-agree edition) (byte ∷ bytes) (omega arith)

-- the contextual keyword of an edition, by its kind
pub contextual-part : (text : List ℕ) (edition : Edition) → from_contextual_keyword text edition ≡ part (is_contextual_kind edition) (known_kind text)
contextual-part [] edition = contextual-nothing edition
contextual-part (byte ∷ bytes) edition = part-of-some (contextual edition) _ (contextual-stand edition) (contextual-agree edition) (byte ∷ bytes) (omega arith)

no_kind : (kind : Option ℕ) → is_some kind ≡ false → kind ≡ None
no_kind None h = refl
no_kind (Some k) h = cc

no_more : (row : List ℕ × ℕ) (rows : List (List ℕ × ℕ)) (text : List ℕ) → kind_of_word (row ∷ rows) text ≡ None → kind_of_word rows text ≡ None
no_more row rows text =
    elim (bytes_eq text row.0) as (λ b. (if b then Some row.1 else kind_of_word rows text) ≡ None → kind_of_word rows text ≡ None) [
      | true ↦ λ h. cc
      | false ↦ λ h. h
    ]

-- what is no contextual keyword of the first edition is one of none
pub never : (text : List ℕ) (edition : Edition) → is_ever_contextual text ≡ false → from_contextual_keyword text edition ≡ None
never text Edition2015 h = no_kind (from_contextual_keyword text Edition2015) h
never text Edition2018 h = no_more (codes "dyn", DYN_KW) contextual_ever text (no_kind (from_contextual_keyword text Edition2015) h)
never text Edition2021 h = no_more (codes "dyn", DYN_KW) contextual_ever text (no_kind (from_contextual_keyword text Edition2015) h)
never text Edition2024 h = no_more (codes "dyn", DYN_KW) contextual_ever text (no_kind (from_contextual_keyword text Edition2015) h)

-- no word is shorter or longer
fits : List ℕ → Bool
fits word = nat_le 2 (length word) && nat_le (length word) 15

unfit : (rows : List (List ℕ × ℕ)) (text : List ℕ) → list_all (λ row. fits row.0) rows ≡ true → fits text ≡ false → kind_of_word rows text ≡ None
unfit [] text all h = refl
unfit (row ∷ rows) text all h =
    let parts = and_parts (fits row.0) (list_all (λ row. fits row.0) rows) all in
    (elim (bytes_eq text row.0) as (λ z. bytes_eq text row.0 ≡ z → (if z then Some row.1 else kind_of_word rows text) ≡ None) [
      | true ↦ λ s. let same : fits text ≡ true = ap fits ((bytes_eq-Decides text row.0).0 s) ∙ parts.0 in cc
      | false ↦ λ _. unfit rows text parts.1 h
    ]) refl

known-fit : list_all (λ row. fits row.0) known ≡ true
unfolding fits
known-fit = refl

and-false : (b : Bool) → (b && false) ≡ false
and-false true = refl
and-false false = refl

lt-leb : (a b : ℕ) → a < b → nat_le b a ≡ false
lt-leb a b h = grind (arith, h)

pub short : (text : List ℕ) → length text < 2 → known_kind text ≡ None
unfolding fits
short text h = unfit known text known-fit (ap (λ b. b && nat_le (length text) 15) (lt-leb (length text) 2 h))

pub long : (text : List ℕ) → 15 < length text → known_kind text ≡ None
unfolding fits
long text h = unfit known text known-fit (ap (λ b. nat_le 2 (length text) && b) (lt-leb 15 (length text) h) ∙ and-false (nat_le 2 (length text)))

-- a row's number is a kind's
is_kind : List ℕ × ℕ → Bool
is_kind row = nat_le row.1 PATH_META

all_kinds : list_all is_kind word_rows ≡ true
unfolding is_kind
all_kinds = refl

at-is_kind : (text : List ℕ) → is_kind (at text) ≡ true
at-is_kind text =
    elim (is_kind (at text)) as (λ b. is_kind (at text) ≡ b → is_kind (at text) ≡ true) [
      | true ↦ λ e. e
      | false ↦ λ e. absurd (clash (list_all is_kind word_rows) all_kinds (list_all_at is_kind word_rows (place text) ([], 0) (place-within text) e))
    ] refl

-- the table's row at a word's place
module _ (table : List (Bor (List ℕ) × ℕ)) (text : List ℕ) (i : ℕ) (none : Bor (List ℕ) × ℕ) (same : map row_of table ≡ word_rows) (here : i ≡ place text) where
  row-is : row_of (slice_index_or table i none) ≡ at text
  row-is =
      let long : length table ≡ 512 = sym (length-map table row_of) ∙ ap length same in
      let within : place text < 512 = place-within text in
      sym (get_or-map row_of table i none ([], 0) (omega (arith, long, within, here)))
      ∙ ap (λ rows. slice_index_or rows i ([], 0)) same
      ∙ ap (λ j. slice_index_or word_rows j ([], 0)) here

  pub number-is_kind : (slice_index_or table i none).1 ≤ PATH_META
  unfolding is_kind
  number-is_kind = subst (λ row. row.1 ≤ PATH_META) (sym row-is) (leb-true (at text).1 PATH_META (at-is_kind text))

  pub hit : 0 < length text → bytes_eq (slice_index_or table i none).0.now text ≡ true → Some (slice_index_or table i none).1 ≡ known_kind text
  hit some is =
      ap (λ row. Some row.1) row-is
      ∙ sym (found known any known-stand known-agree text some (subst (λ row. bytes_eq row.0 text ≡ true) row-is is))

  pub miss : bytes_eq (slice_index_or table i none).0.now text ≡ false → known_kind text ≡ None
  miss other = missing known any known-stand known-agree text (subst (λ row. bytes_eq row.0 text ≡ false) row-is other)

-- ---- What the calls return, by the kind of the known word

passes : (p : ℕ → Bool) (kind : ℕ) → p kind ≡ true → passing p kind ≡ Some kind
passes p kind h = cond-true (p kind) (Some kind) None h

fails : (p : ℕ → Bool) (kind : ℕ) → p kind ≡ false → passing p kind ≡ None
fails p kind h = cond-false (p kind) (Some kind) None h

module _ (text : List ℕ) (edition : Edition) where
  abbrev is_reserved_kind : ℕ → Bool
  is_reserved_kind kind = nat_le kind (last_reserved edition)

  pub reserved-none : known_kind text ≡ None → from_keyword text edition ≡ None
  reserved-none e = reserved-part text edition ∙ ap (part is_reserved_kind) e

  pub contextual-none : known_kind text ≡ None → from_contextual_keyword text edition ≡ None
  contextual-none e = contextual-part text edition ∙ ap (part (is_contextual_kind edition)) e

  module _ (kind : ℕ) (is : known_kind text ≡ Some kind) where
    pub reserved-yes : nat_le kind (last_reserved edition) ≡ true → from_keyword text edition ≡ Some kind
    reserved-yes h = reserved-part text edition ∙ (ap (part is_reserved_kind) is ∙ passes is_reserved_kind kind h)

    pub reserved-no : nat_le kind (last_reserved edition) ≡ false → from_keyword text edition ≡ None
    reserved-no h = reserved-part text edition ∙ (ap (part is_reserved_kind) is ∙ fails is_reserved_kind kind h)

    pub contextual-yes : is_contextual_kind edition kind ≡ true → from_contextual_keyword text edition ≡ Some kind
    contextual-yes h = contextual-part text edition ∙ (ap (part (is_contextual_kind edition)) is ∙ passes (is_contextual_kind edition) kind h)

    pub contextual-no : is_contextual_kind edition kind ≡ false → from_contextual_keyword text edition ≡ None
    contextual-no h = contextual-part text edition ∙ (ap (part (is_contextual_kind edition)) is ∙ fails (is_contextual_kind edition) kind h)

    some_passing : (p : ℕ → Bool) → is_some (passing p kind) ≡ p kind
    some_passing p = elim (p kind) as (λ b. is_some (if b then Some kind else None) ≡ b) [ true ↦ refl | false ↦ refl ]

    -- whether it is a contextual keyword
    pub contextual-is : is_some (from_contextual_keyword text edition) ≡ is_contextual_kind edition kind
    contextual-is = ap is_some (contextual-part text edition) ∙ (ap (λ k. is_some (part (is_contextual_kind edition) k)) is ∙ some_passing (is_contextual_kind edition))
