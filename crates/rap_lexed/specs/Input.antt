-- What the parser reads of a text.
use Rattle.std.specs.Prelude.{ℕ, List, [], ◌∷◌, Bool, false, not, ◌==◌, ◌||◌, if◌then◌else◌, unwrap_or, ◌+◌, ◌-◌, drop, length, slice_index}
use Rattle.std.specs.Str.{byte}
use Rattle.rap_base.specs.TokenKind.{EOF, IDENT, FLOAT_NUMBER}
use Rattle.rap_base.specs.TokenTests.{is_trivia}
use Rattle.rap_base.specs.Keyword.{from_contextual_keyword}
use Rattle.rap_base.specs.declared.edition.Edition.{Edition}
use Rattle.rap_events.specs.Record.{Record}
use Rattle.rap_lexed.specs.LexedStr.{Token, token_at}

-- what an identifier may be read as: the contextual keyword of its text, or an identifier
abbrev pub contextual_of : Token → Edition → ℕ
contextual_of t edition = if t.kind == IDENT then unwrap_or (from_contextual_keyword t.text edition) IDENT else EOF

-- the last byte of a text is a dot
abbrev pub ends_with_dot : List ℕ → Bool
ends_with_dot text = slice_index text (length text - 1) == byte "."

-- a token comes first, and is neither trivia nor an identifier
abbrev pub begins_touching : List Token → Bool
begins_touching [] = false
begins_touching (t ∷ ts) = not (is_trivia t.kind || (t.kind == IDENT))

-- The joint bit of a token, by the tokens after it: never of an identifier; of a float number, that its text does
-- not end with a dot; of any other token, that the one right after it is neither trivia nor an identifier.
abbrev pub joint_of : Token → List Token → Bool
joint_of t ts =
    if t.kind == IDENT then false
    else (if t.kind == FLOAT_NUMBER then not (ends_with_dot t.text) else begins_touching ts)

-- each token that is no trivia, in order
abbrev pub records : List Token → Edition → List Record
records [] edition = []
records (t ∷ ts) edition =
    if is_trivia t.kind then records ts edition
    else
    (record { kind = t.kind; contextual = contextual_of t edition; edition = edition; joint = joint_of t ts } ∷
    records ts edition)

-- the record of the token at a place, or nothing where it is trivia
abbrev pub records_at : List Token → ℕ → Edition → List Record
records_at ts i edition =
    if is_trivia (token_at ts i).kind then []
    else
    (record {
      kind = (token_at ts i).kind;
      contextual = contextual_of (token_at ts i) edition;
      edition = edition;
      joint = joint_of (token_at ts i) (drop (i + 1) ts);
    } ∷ [])
