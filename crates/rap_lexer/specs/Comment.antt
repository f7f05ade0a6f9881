-- Comments (the Reference, "Comments"), from what follows their `//` or `/*`.
use Rattle.std.specs.Prelude.{◌≡◌, ◌≢◌, ℕ, Bool, not, ◌&&◌, List, [], ◌∷◌, if◌then◌else◌, MatchBool}
use Rattle.std.specs.Str.{byte}
use Rattle.rap_lexer.specs.Class.{is_in}
use Rattle.rap_lexer.specs.Lexeme.{plain, with_remark}
use Rattle.rap_lexer.specs.Run.{next_is, tail, after_run}
use Rattle.rap_base.specs.TokenKind.{COMMENT, INNER_DOC_COMMENT, OUTER_DOC_COMMENT}
use Rattle.rap_lexer.specs.declared.lexer.lexeme.Lexeme.{Lexeme}
use Rattle.rap_lexer.specs.declared.lexer.lexeme.Remark.TheVariants.{OpenComment}
use Rattle.rap_lexer.specs.declared.lexer.run.Class.TheVariants.{InLine}

-- `//!` is inner doc; `///` that no `/` follows is outer doc
abbrev pub line_kind : List ℕ → ℕ
line_kind cs =
    if next_is (byte "!") cs then INNER_DOC_COMMENT
    else (if next_is (byte "/") cs && not (next_is (byte "/") (tail cs)) then OUTER_DOC_COMMENT
    else COMMENT)

-- A line comment runs up to the next line feed, or to the end.
abbrev pub IsLineComment : List ℕ → Lexeme → List ℕ → Type 0
IsLineComment cs token rest = (token ≡ plain (line_kind cs)) × (rest ≡ after_run (is_in InLine) cs)

-- `/*!` is inner doc; `/**` that neither `*` nor `/` follows is outer doc
abbrev pub block_kind : List ℕ → ℕ
block_kind cs =
    if next_is (byte "!") cs then INNER_DOC_COMMENT
    else
    (if next_is (byte "*") cs && not (next_is (byte "*") (tail cs)) &&
    not (next_is (byte "/") (tail cs)) then OUTER_DOC_COMMENT
    else COMMENT)

-- neither a `/*` nor a `*/` stands first
abbrev pub IsText : List ℕ → Type 0
IsText cs = ((rest : List ℕ) → cs ≢ byte "/" ∷ byte "*" ∷ rest) × ((rest : List ℕ) → cs ≢ byte "*" ∷ byte "/" ∷ rest)

-- The body of a block comment stands at the beginning of the text, and `rest` follows it. Comments inside it nest.
pub data Body : List ℕ → List ℕ → Type 0 where
  empty : (rest : List ℕ) → Body rest rest
  comment : (cs mid rest : List ℕ) → Body cs (byte "*" ∷ byte "/" ∷ mid) → Body mid rest →
      Body (byte "/" ∷ byte "*" ∷ cs) rest
  text : (c : ℕ) (cs rest : List ℕ) → IsText (c ∷ cs) → Body cs rest → Body (c ∷ cs) rest

-- the comment ends with the `*/` before `rest`
abbrev pub Ends : List ℕ → List ℕ → Type 0
Ends cs rest = Body cs (byte "*" ∷ byte "/" ∷ rest)

-- A block comment runs to its `*/`. Without one it runs to the end, and that is reported.
abbrev pub IsBlockComment : List ℕ → Lexeme → List ℕ → Type 0
IsBlockComment cs token rest =
    (closed : Bool)
    × (token ≡ (if closed then plain (block_kind cs) else with_remark (block_kind cs) OpenComment))
    × MatchBool closed (Ends cs rest) ((rest ≡ []) × ((end : List ℕ) → ¬ Ends cs end))
