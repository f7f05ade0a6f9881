-- The rules of fields: which of a node's children are found. Children are named by numbers that grow from left to right.
use Rattle.std.specs.Prelude.{ℕ, Bool, true, false, ◌&&◌, ◌==◌, nat_lt, List, [], ◌∷◌, Option, Some, None, if◌then◌else◌}
use Rattle.std.specs.List.{filter, last_or, slice_get}
use Rattle.rap_fields.specs.declared.rule.Place.{Place}
use Rattle.rap_fields.specs.declared.rule.Place.TheVariants.{Anywhere, Before, OnlyBefore, After, Past}
use Rattle.rap_fields.specs.declared.rule.Step.{Step}
use Rattle.rap_fields.specs.declared.rule.Which.{Which}
use Rattle.rap_fields.specs.declared.rule.Which.TheVariants.{First, Last, All}
use Rattle.rap_grammar_table.specs.Known.{among}

-- A look at the children: for which of some kinds, and at which place.
pub data Look : Type 0 where
  look : Place → Which → List ℕ → Look

abbrev pub look_of : Step → Look
look_of s = look s.place s.which s.kinds.now

-- whether a child stands at a place, which is told by what was found before
abbrev pub stands : Place → Option ℕ → ℕ → Bool
stands Anywhere m x = true
stands Before None x = true
stands Before (Some m) x = nat_lt x m
stands OnlyBefore None x = false
stands OnlyBefore (Some m) x = nat_lt x m
stands After None x = false
stands After (Some m) x = nat_lt m x
stands Past None x = true
stands Past (Some m) x = nat_lt m x

-- whether a child of this kind is one of those that a look is for
abbrev pub fits : Look → Option ℕ → ℕ → ℕ → Bool
fits (look p w ks) m kind x = stands p m x && among ks kind

-- the one of several: the last, or the first
abbrev pub one_of : Which → List ℕ → Option ℕ
one_of First xs = slice_get xs 0
one_of Last xs = last_or None xs
one_of All xs = slice_get xs 0

abbrev pub which_of : Look → Which
which_of (look p w ks) = w

-- those of some children, of these kinds, that a look is for
abbrev pub fitting : (ℕ → ℕ) → Option ℕ → Look → List ℕ → List ℕ
fitting kind m l xs = filter (λ x. fits l m (kind x) x) xs

-- what one look after another finds, each with what the look before has found; nothing without a look
abbrev pub found : (ℕ → ℕ) → Option ℕ → List Look → List ℕ → Option ℕ
found kind m [] xs = m
found kind m (l ∷ ls) xs = found kind (one_of (which_of l) (fitting kind m l xs)) ls xs

-- a field by its number, with the looks of its rule
abbrev pub Row : Type 0
Row = ℕ × List Look

abbrev pub first_of : List ℕ → List Look
first_of ks = look Anywhere First ks ∷ []

abbrev pub last_of : List ℕ → List Look
last_of ks = look Anywhere Last ks ∷ []

abbrev pub all_of : List ℕ → List Look
all_of ks = look Anywhere All ks ∷ []

-- the rule of a field among those of a kind; no looks where it has none
abbrev pub of_field : ℕ → List Row → List Look
of_field f [] = []
of_field f ((g, ls) ∷ rs) = if g == f then ls else of_field f rs
