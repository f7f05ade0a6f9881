-- What the parameters of a message say of a document.
use Rattle.std.specs.Prelude.{ℕ, ℤ, List, [], ◌∷◌, Option, Some, None, codes, option_and_then, option_map}
use Rattle.serde_json.specs.Data.{Data, Items, no_items, item}
use Rattle.serde_json.specs.Find.{as_array, as_i64, as_number, as_str, get, pointer}
use Rattle.rast_document.specs.declared.change.Change.{Change}
use Rattle.rast_document.specs.declared.position.Position.{Position}
use Rattle.rast_document.specs.declared.position.Span.{Span}
use Rattle.rast_messages.specs.Messages.{text_in}
use Rattle.rast_messages.specs.Places.{position_in, span_in}

-- the name of the document
abbrev pub uri_in : Data → Option (List ℕ)
uri_in d = option_and_then as_str (pointer (codes "/textDocument/uri") d)

-- its version
abbrev pub version_in : Data → Option ℤ
version_in d = option_and_then as_i64 (option_and_then as_number (pointer (codes "/textDocument/version") d))

abbrev pub ahead : {X : Type 0} → Option X → Option (List X) → Option (List X)
ahead None xs = None
ahead (Some x) None = None
ahead (Some x) (Some xs) = Some (x ∷ xs)

-- what each item says, if each says something
abbrev pub all_in : {X : Type 0} → (Data → Option X) → Items → Option (List X)
all_in says no_items = Some []
all_in says (item d ds) = ahead (says d) (all_in says ds)

-- what a change says: its range, if it has one, and its text
abbrev pub said : Change → Option Span × List ℕ
said c = (c.span, c.text.now)

abbrev pub change_of_parts : Option Data → Option (List ℕ) → Option (Option Span × List ℕ)
change_of_parts range None = None
change_of_parts None (Some text) = Some (None, text)
change_of_parts (Some range) (Some text) = option_map (λ span. (Some span, text)) (span_in range)

abbrev pub change_in : Data → Option (Option Span × List ℕ)
change_in d = change_of_parts (get (codes "range") d) (text_in (codes "text") d)

-- the changes in their order
abbrev pub changes_in : Data → Option (List (Option Span × List ℕ))
changes_in d = option_and_then (all_in change_in) (option_and_then as_array (get (codes "contentChanges") d))

-- the positions in their order
abbrev pub positions_in : Data → Option (List Position)
positions_in d = option_and_then (all_in position_in) (option_and_then as_array (get (codes "positions") d))
