-- Changes of a text.
use Rattle.std.proofs.Common.{◌≡◌, ℕ, ◌+◌, List, [], ◌∷◌, ◌++◌, Option, Some, None, MatchOption, ◌<◌, length, get_or, take, drop, sym, ap, ◌∙◌, subst}
use Rattle.std.proofs.lemmas.List.{drop_more}
use Rattle.rast_document.specs.declared.change.Change.{Change}
use Rattle.rast_document.specs.declared.encoding.Encoding.{Encoding}
use Rattle.rast_document.specs.declared.position.Span.{Span}
use Rattle.rast_document.specs.Changes.{AllChange, Changes, Replaces}
use Rattle.rast_document.proofs.PlaceLemmas.{one_place}

-- a range is replaced in one way
pub one_replaced : (e : Encoding) (old : List ℕ) (span : Span) (text a b : List ℕ) → Replaces e old span text a → Replaces e old span text b → a ≡ b
one_replaced e old span text a b first second =
    let from = one_place e old span.start first.from second.from first.start second.start in
    let to = one_place e old span.end first.to second.to first.end second.end in
    let back : take first.from old ++ text ++ drop first.to old ≡ take second.from old ++ text ++ drop second.to old =
    ap (λ i. take i old ++ text ++ drop first.to old) from ∙ ap (λ i. take second.from old ++ text ++ drop i old) to in
    first.replaced ∙ (back ∙ sym second.replaced)

-- a change leaves one text
one_by_span : (e : Encoding) (old : List ℕ) (span : Option Span) (text a b : List ℕ) →
    MatchOption span (a ≡ text) (λ s. Replaces e old s text a) → MatchOption span (b ≡ text) (λ s. Replaces e old s text b) → a ≡ b
one_by_span e old None text a b first second = first ∙ sym second
one_by_span e old (Some span) text a b first second = one_replaced e old span text a b first second

pub one_change : (e : Encoding) (old : List ℕ) (c : Change) (a b : List ℕ) → Changes e old c a → Changes e old c b → a ≡ b
one_change e old c a b first second = one_by_span e old c.span c.text.now a b first second

-- and so do changes in a row
pub one_text : (e : Encoding) (old : List ℕ) (cs : List Change) (a b : List ℕ) → AllChange e old cs a → AllChange e old cs b → a ≡ b
one_text e old [] a b first second = first ∙ sym second
one_text e old (c ∷ cs) a b first second =
    let same = one_change e old c second.0 first.0 second.1 first.1 in
    one_text e first.0 cs a b first.2 (subst (λ (m : List ℕ). AllChange e m cs b) same second.2)

-- what a change after others leads to
pub changed_more : (e : Encoding) (old middle : List ℕ) (c : Change) (cs : List Change) (new : List ℕ) → Changes e old c middle → AllChange e middle cs new → AllChange e old (c ∷ cs) new
changed_more e old middle c cs new one more = (middle, one, more)

pub changed_past : (e : Encoding) (old middle : List ℕ) (c : Change) (cs : List Change) (new : List ℕ) → Changes e old c middle → AllChange e old (c ∷ cs) new → AllChange e middle cs new
changed_past e old middle c cs new one all =
    subst (λ (m : List ℕ). AllChange e m cs new) (one_change e old c all.0 middle all.1 one) all.2

-- one change of a list
pub reach_more : (e : Encoding) (old middle : List ℕ) (cs : List Change) (i : ℕ) (d : Change) (new : List ℕ) → i < length cs → Changes e old (get_or cs i d) middle →
    AllChange e middle (drop (i + 1) cs) new → AllChange e old (drop i cs) new
reach_more e old middle cs i d new within one more =
    subst (λ (xs : List Change). AllChange e old xs new) (sym (drop_more cs i d within))
    (changed_more e old middle (get_or cs i d) (drop (i + 1) cs) new one more)

pub reach_past : (e : Encoding) (old middle : List ℕ) (cs : List Change) (i : ℕ) (d : Change) (new : List ℕ) → i < length cs → Changes e old (get_or cs i d) middle →
    AllChange e old (drop i cs) new → AllChange e middle (drop (i + 1) cs) new
reach_past e old middle cs i d new within one all =
    changed_past e old middle (get_or cs i d) (drop (i + 1) cs) new one
    (subst (λ (xs : List Change). AllChange e old xs new) (drop_more cs i d within) all)

pub reach_none : (e : Encoding) (old : List ℕ) (cs : List Change) (i : ℕ) (d : Change) (new : List ℕ) → i < length cs →
    ((middle : List ℕ) → Changes e old (get_or cs i d) middle → ⊥) → AllChange e old (drop i cs) new → ⊥
reach_none e old cs i d new within none all =
    let parts = subst (λ (xs : List Change). AllChange e old xs new) (drop_more cs i d within) all in
    none parts.0 parts.1
