-- Which leaves have tokens in a range.
use Rattle.std.proofs.Common.{◌≡◌, ◌∙◌, ℕ, List, Option, Some, None, true, false, ap, refl, sym}
use Rattle.std.specs.List.{slice_get}
use Rattle.flat_tree.specs.declared.element.Element.{Element}
use Rattle.rast_answers.specs.declared.token_kind.Class.{Class}
use Rattle.rast_answers.specs.Tokens.{colored_at, colored_of, is_asked}
use Rattle.rast_answers.specs.TokenTable.{class_of}

not_asked : (from to : ℕ) (e : Element) (class : Option Class) → is_asked from to e ≡ false → colored_of from to (Some e) class ≡ None
not_asked from to e None outside = refl
not_asked from to e (Some class) outside = rw outside

-- what is not asked for has no tokens, whatever its class
pub uncolored :
    (from to i : ℕ) (es : List Element) (e : Element) → slice_get es i ≡ Some e → is_asked from to e ≡ false
    → None ≡ colored_at from to es i
uncolored from to i es e found outside =
    sym (ap (λ (x : Option Element). colored_of from to x (class_of es i)) found ∙ not_asked from to e (class_of es i) outside)

asked :
    (from to : ℕ) (e : Element) (class : Class) → is_asked from to e ≡ true
    → colored_of from to (Some e) (Some class) ≡ Some (record { start = e.start; end = e.end; class = class })
asked from to e class inside = rw inside

-- what is asked for has those of its class
pub colored :
    (from to i : ℕ) (es : List Element) (e : Element) (class : Class) → slice_get es i ≡ Some e → is_asked from to e ≡ true
    → class_of es i ≡ Some class → Some (record { start = e.start; end = e.end; class = class }) ≡ colored_at from to es i
colored from to i es e class found inside is =
    sym (ap (λ (x : Option Element). colored_of from to x (class_of es i)) found
    ∙ (ap (λ (k : Option Class). colored_of from to (Some e) k) is ∙ asked from to e class inside))
