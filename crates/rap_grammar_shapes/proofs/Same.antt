-- The automaton of a kind takes what the shape of the kind spells, and nothing else: both are one language.
use Rattle.std.proofs.Common.{◌≡◌, ◌==◌, ◌&&◌, ℕ, Bool, true, false, List, [], ◌∷◌, refl, subst, if◌then◌else◌}
use Rattle.rap_events.proofs.Truth.{and_left, and_right}
use Rattle.rap_grammar_table.specs.Shapes.{Child, Shape, Spells, a_node}
use Rattle.rap_grammar_table.proofs.Known.{same_number}
use Rattle.rap_grammar_shapes.specs.Shapes.{shape_in, shape_of, shapes}
use Rattle.rap_grammar_shapes.proofs.Along.{spelled}
use Rattle.rap_grammar_shapes.proofs.Automata.{Accepts}
use Rattle.rap_grammar_shapes.proofs.Fits.{content_holds, content_of, fits, spells_sound, without_error}
use Rattle.rap_grammar_shapes.proofs.Models.{model}
use Rattle.rap_grammar_shapes.proofs.Runs.{runs_so}

abbrev pub all_taken : List (ℕ × Shape) → Bool
all_taken [] = true
all_taken (row ∷ rows) = fits row.0 row.1 && all_taken rows

shapes_taken : all_taken shapes ≡ true
shapes_taken = refl

taken_so : (kind : ℕ) (s : Shape) (cs : List Child) → fits kind s ≡ true → Spells s cs → Accepts (model kind) 0 cs
taken_so kind s cs h t =
    runs_so (model kind) (content_of s) (and_right (without_error s) _ h) cs (content_holds t)
    (spells_sound (and_left (without_error s) _ h) t)

by_row : (b : Bool) (s rest : Shape) (cs : List Child) → Spells (if b then s else rest) cs →
    {A : Type 0} → (b ≡ true → Spells s cs → A) → (Spells rest cs → A) → A
by_row true s rest cs t f g = f refl t
by_row false s rest cs t f g = g t

all_taken_so : (rows : List (ℕ × Shape)) → all_taken rows ≡ true → (kind : ℕ) (cs : List Child) →
    Spells (shape_in rows kind) cs → Accepts (model kind) 0 cs
all_taken_so [] h kind cs (a_node m) = absurd cc
all_taken_so (row ∷ rows) h kind cs t =
    by_row (row.0 == kind) row.1 (shape_in rows kind) cs t
    (λ e u.
    subst (λ (k : ℕ). Accepts (model k) 0 cs) (same_number row.0 kind e)
    (taken_so row.0 row.1 cs (and_left (fits row.0 row.1) _ h) u))
    (λ u. all_taken_so rows (and_right (fits row.0 row.1) _ h) kind cs u)

pub record IsOneLanguage (kind : ℕ) (cs : List Child) : Type 0 where
  pub taken : Spells (shape_of kind) cs → Accepts (model kind) 0 cs
  pub spells : Accepts (model kind) 0 cs → Spells (shape_of kind) cs

-- whatever the children
pub one_language : (kind : ℕ) (cs : List Child) → IsOneLanguage kind cs
one_language kind cs =
    record { taken = λ t. all_taken_so shapes shapes_taken kind cs t; spells = λ t. spelled kind cs t }
