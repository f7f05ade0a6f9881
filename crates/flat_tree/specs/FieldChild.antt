-- The children of a field of a node.
use Rattle.std.specs.Prelude.{ℕ, ◌-◌, List, [], ◌∷◌, Option, Some, None, length, take}
use Rattle.std.specs.List.{slice_get}
use Rattle.flat_tree.specs.Navigation.{child_indices}
use Rattle.flat_tree.specs.declared.element.Element.{Element}
use Rattle.rap_fields.specs.Rule.{Look, fitting, found, one_of, which_of}
use Rattle.rap_fields.specs.RuleOf.{rule_of}
use Rattle.rap_fields.specs.declared.rule.Which.{Which}
use Rattle.rap_fields.specs.declared.rule.Which.TheVariants.{First, Last, All}
use Rattle.rap_ranged.specs.RangedForest.{RangedNode}

-- the kind of an element; 0, which none has, where there is no element
abbrev pub kind_of : Option Element → ℕ
kind_of None = 0
kind_of (Some e) = e.kind

abbrev pub kind_in : List Element → ℕ → ℕ
kind_in es i = kind_of (slice_get es i)

-- what the rule of a field finds among the children of a node
abbrev pub field_child : List Element → RangedNode → ℕ → ℕ → Option ℕ
field_child es root i field = found (kind_in es) None (rule_of (kind_in es i) field) (child_indices root i)

-- one, or none
abbrev pub those : Option ℕ → List ℕ
those None = []
those (Some x) = x ∷ []

-- of what fits a look all, if it is for all, and else the one
abbrev pub chosen : Which → List ℕ → List ℕ
chosen First xs = those (one_of First xs)
chosen Last xs = those (one_of Last xs)
chosen All xs = xs

abbrev pub chosen_by : (ℕ → ℕ) → Option ℕ → Option Look → List ℕ → List ℕ
chosen_by kind m None xs = []
chosen_by kind m (Some l) xs = chosen (which_of l) (fitting kind m l xs)

-- what the last look of a rule finds, at the place that those before it tell
abbrev pub found_last : (ℕ → ℕ) → List Look → List ℕ → List ℕ
found_last kind ls xs =
    chosen_by kind (found kind None (take (length ls - 1) ls) xs) (slice_get ls (length ls - 1)) xs

-- the children of a field
abbrev pub field_children : List Element → RangedNode → ℕ → ℕ → List ℕ
field_children es root i field = found_last (kind_in es) (rule_of (kind_in es i) field) (child_indices root i)
