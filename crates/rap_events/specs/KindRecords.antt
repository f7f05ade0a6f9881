-- The records of tokens of which nothing but the kinds is known.
use Rattle.std.specs.Prelude.{ℕ, Bool, not, List, [], ◌∷◌, ◌++◌, ◌==◌, ◌||◌, ◌&&◌, if◌then◌else◌}
use Rattle.rap_base.specs.TokenKind.{EOF, IDENT}
use Rattle.rap_base.specs.TokenTests.{is_trivia}
use Rattle.rap_base.specs.declared.edition.Edition.{Edition}
use Rattle.rap_events.specs.Record.{Record}

-- neither trivia nor an identifier
abbrev pub touches : ℕ → Bool
touches kind = not (is_trivia kind || (kind == IDENT))

-- what a token may be read as where its text is no contextual keyword
abbrev pub contextual_of_kind : ℕ → ℕ
contextual_of_kind kind = if kind == IDENT then IDENT else EOF

-- the record of a token, or nothing for trivia
abbrev pub kind_record : ℕ → Bool → Edition → List Record
kind_record kind joint edition =
    if is_trivia kind then []
    else
    (record { kind = kind; contextual = contextual_of_kind kind; edition = edition; joint = joint } ∷ [])

-- The records of tokens of these kinds, in order. The last kind is that of the token after them. A token is joint if
-- neither its kind nor the next one is trivia's or an identifier's.
abbrev pub kind_records : List ℕ → Edition → List Record
kind_records [] edition = []
kind_records (kind ∷ []) edition = []
kind_records (kind ∷ next ∷ kinds) edition =
    kind_record kind (touches kind && touches next) edition ++ kind_records (next ∷ kinds) edition
