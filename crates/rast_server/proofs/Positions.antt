-- What may be selected around positions, as far as it is written.
use Rattle.std.proofs.Common.{◌≡◌, ℕ, ◌+◌, ◌<◌, ◌≤◌, Bool, true, false, List, [], ◌∷◌, ◌++◌, codes, length, refl, ap, subst, ◌∙◌, arith, IfOk, Result, Ok, Err, Vec}
use Rattle.std.specs.Prelude.{if◌then◌else◌}
use Rattle.std.specs.declared.alloc.AllocError.{AllocError}
use Rattle.std.specs.declared.alloc.Global.{Global}
use Rattle.std.proofs.lemmas.List.{length-append}
use Rattle.rap_lexed.specs.StrForest.{StrForest}
use Rattle.rap_ranged.specs.Ranged.{Ranged}
use Rattle.rap_ranged.specs.RangedForest.{RangedNode}
use Rattle.flat_tree.specs.FlatTree.{elements_of_tree}
use Rattle.flat_tree.specs.declared.element.Element.{Element}
use Rattle.rast_answers.specs.Selections.{IsSelection}
use Rattle.rast_answers.specs.declared.extent.Extent.{Extent}
use Rattle.rast_document.specs.declared.document.Document.{Document}
use Rattle.rast_document.specs.declared.position.Position.{Position}
use Rattle.rast_server.specs.SelectionText.{AreSelected, IsLongerAt, IsPart, IsSelectionText, MaySelect, comma_behind}
use Rattle.rast_server.specs.SelectionText.AreSelected.{none, more}
use Rattle.rast_server.specs.declared.limit.TheConstants.{LIMIT}

-- what is written for the first positions
pub record IsWritten (d : Document) (es : List Element) (places : List Position) (json : List ℕ) (is_first : Bool) : Type 0 where
  pub text : List ℕ
  pub selected : AreSelected d es places text
  pub json_is : json ≡ codes "[" ++ text
  pub comma : (if is_first then [] else codes ",") ≡ comma_behind places
  pub within : length json + 1 ≤ LIMIT

pub none_written : (d : Document) (es : List Element) (json : List ℕ) → json ≡ codes "[" → IsWritten d es [] json true
none_written d es json e = record {
  text = [];
  selected = none;
  json_is = e;
  comma = refl;
  within = omega (arith, ap length e);
}

comma_then : (places : List Position) (place : Position) → codes "," ≡ comma_behind (places ++ place ∷ [])
comma_then [] place = refl
comma_then (p ∷ ps) place = refl

selected_more : (d : Document) (es : List Element) (places : List Position) (place : Position) (json part : List ℕ) (is_first : Bool) (h : IsWritten d es places json is_first)
    → IsPart d es place (if is_first then [] else codes ",") part → AreSelected d es (places ++ place ∷ []) (h.text ++ part)
selected_more d es places place json part is_first h n =
    more places h.text place part h.selected (subst (λ (l : List ℕ). IsPart d es place l part) h.comma n)

pub next_written : (d : Document) (es : List Element) (places : List Position) (place : Position) (json part longer : List ℕ) (is_first : Bool) → IsWritten d es places json is_first
    → IsPart d es place (if is_first then [] else codes ",") part → longer ≡ json ++ part → length longer + 1 ≤ LIMIT → IsWritten d es (places ++ place ∷ []) longer false
next_written d es places place json part longer is_first h n e low = record {
  text = h.text ++ part;
  selected = selected_more d es places place json part is_first h n;
  json_is = e ∙ ap (λ l. l ++ part) h.json_is;
  comma = comma_then places place;
  within = low;
}

-- the last part makes the answer too long
pub too_long : (d : Document) (es : List Element) (places later : List Position) (place : Position) (json part : List ℕ) (is_first : Bool) → IsWritten d es places json is_first
    → IsPart d es place (if is_first then [] else codes ",") part → LIMIT < length (json ++ part) + 1 → IsLongerAt d es ((places ++ place ∷ []) ++ later)
too_long d es places later place json part is_first h n high = record {
  first = places ++ place ∷ [];
  later = later;
  answer = codes "[" ++ (h.text ++ part) ++ codes "]";
  places_are = refl;
  is = record { text = h.text ++ part; selected = selected_more d es places place json part is_first h n; answer_is = refl };
  longer =
      let same : json ++ part ≡ codes "[" ++ (h.text ++ part) = ap (λ l. l ++ part) h.json_is in
      omega (arith, high, ap length same, length-append (codes "[" ++ (h.text ++ part)) (codes "]"));
}

-- all is written
pub all_written : (d : Document) (es : List Element) (places : List Position) (json answer : List ℕ) (is_first : Bool) → IsWritten d es places json is_first → answer ≡ json ++ codes "]"
    → IsSelectionText d es places answer × (length answer ≤ LIMIT)
all_written d es places json answer is_first h e = (
  record { text = h.text; selected = h.selected; answer_is = e ∙ ap (λ l. l ++ codes "]") h.json_is },
  omega (arith, ap length e, length-append json (codes "]"), h.within),
)

-- what an answer says of each tree, as a fact about the answer
pub may_select : (r : Result (Vec Extent Global) AllocError) (es : List Element) (offset : ℕ)
    → ((f : StrForest) (root : RangedNode) → Ranged f root → es ≡ elements_of_tree root → IfOk r (λ list. IsSelection root es offset list.items))
    → IfOk r (λ list. MaySelect es offset list.items)
may_select (Ok list) es offset h = h
may_select (Err e) es offset h = tt
