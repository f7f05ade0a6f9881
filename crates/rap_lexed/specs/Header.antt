-- What stands before the first token of a text: the shebang and the frontmatter of a script source.
use Rattle.std.specs.Prelude.{◌≡◌, ◌≢◌, ℕ, ◌<◌, ◌⊎◌, Bool, ◌||◌, ◌==◌, false, true, Option, Some, None, MatchOption, IfSome, option_to_list, unwrap_or, List, [], ◌∷◌, ◌++◌, chars, slice_range, IsCharBoundary}
use Rattle.std.specs.Option.{option_map}
use Rattle.rap_base.specs.TokenKind.{WHITESPACE, COMMENT, SHEBANG, FRONTMATTER, L_BRACK}
use Rattle.rap_base.specs.declared.edition.Edition.{Edition}
use Rattle.rap_lexer.specs.First.{First}
use Rattle.rap_lexer.specs.declared.lexer.lexeme.Lexeme.{Lexeme}
use Rattle.rap_frontmatter.specs.Refusal.{Refusal, IsRefused}
use Rattle.rap_frontmatter.specs.Script.{Script, IsScript, HasLine}
use Rattle.rap_lexed.specs.Token.{Token}

-- The pieces that end at these places: a shebang, which begins the text, and a frontmatter, which begins where the
-- shebang ends, or at the start where there is none.
abbrev pub pieces : List ℕ → Option ℕ → Option ℕ → List Token
pieces text shebang frontmatter =
    option_to_list (option_map (λ end. record { kind = SHEBANG; text = slice_range text 0 end }) shebang)
    ++ option_to_list
    (option_map
    (λ end. record { kind = FRONTMATTER; text = slice_range text (unwrap_or shebang 0) end }) frontmatter)

-- the pieces of a script source: the shebang over its span, and the frontmatter from there up to the content
abbrev pub script_pieces : Script → List Token
script_pieces s = pieces s.text (option_map (λ r. r.end) s.shebang) (option_map (λ _. s.content.start) s.frontmatter)

-- white space and comments that are no doc comments
abbrev pub is_passed : ℕ → Bool
is_passed kind = (kind == WHITESPACE) || (kind == COMMENT)

-- The kind of the first token past white space and comments that are no doc comments, if there is one.
pub data Leads (edition : Edition) : List ℕ → Option ℕ → Type 0 where
  nothing : Leads edition [] None
  token : (cs rest : List ℕ) (t : Lexeme) → First edition cs t rest → is_passed t.kind ≡ false →
      Leads edition cs (Some t.kind)
  past : (cs rest : List ℕ) (t : Lexeme) (kind : Option ℕ) → First edition cs t rest → is_passed t.kind ≡ true →
      Leads edition rest kind → Leads edition cs kind

-- The text begins with `#!`, and no `[` leads what follows, as in an inner attribute. The first line takes `len` bytes.
pub record HasShebangLine (edition : Edition) (text : List ℕ) (len : ℕ) : Type 0 where
  pub after : List ℕ
  pub begins : text ≡ 35 ∷ 33 ∷ after
  pub kind : Option ℕ
  pub leads : Leads edition (chars after) kind
  pub no_bracket : kind ≢ Some L_BRACK
  pub next : ℕ
  pub line : HasLine text len next

-- the text begins an inner attribute: `#!` and, past white space and comments, `[`
pub record BeginsAttribute (edition : Edition) (text : List ℕ) : Type 0 where
  pub after : List ℕ
  pub begins : text ≡ 35 ∷ 33 ∷ after
  pub leads : Leads edition (chars after) (Some L_BRACK)

-- How long the shebang's line is, without its end, if there is one (rustc_lexer, `strip_shebang`).
abbrev pub IsShebangLine : Edition → List ℕ → Option ℕ → Type 0
IsShebangLine edition text end =
    MatchOption end (((after : List ℕ) → text ≢ 35 ∷ 33 ∷ after) ⊎ BeginsAttribute edition text)
    (HasShebangLine edition text)

-- The pieces of a text that is refused as a script source: its shebang's line alone, if there is one.
pub record IsRefusedHeader (edition : Edition) (text : List ℕ) (header : List Token) : Type 0 where
  pub refusal : Refusal
  pub refused : IsRefused text refusal
  pub shebang : Option ℕ
  pub line : IsShebangLine edition text shebang
  pub is : header ≡ pieces text shebang None

-- The pieces of a text that is accepted as one.
pub record IsScriptHeader (text : List ℕ) (header : List Token) : Type 0 where
  pub script : Script
  pub accepted : IsScript text script
  pub is : header ≡ script_pieces script

-- what stands before the first token
abbrev pub IsHeader : Edition → List ℕ → List Token → Type 0
IsHeader edition text header = IsScriptHeader text header ⊎ IsRefusedHeader edition text header

-- the kinds of the pieces
abbrev pub header_kinds : Option ℕ → Option ℕ → List ℕ
header_kinds shebang frontmatter =
    option_to_list (option_map (λ _. SHEBANG) shebang) ++ option_to_list (option_map (λ _. FRONTMATTER) frontmatter)

-- each of the pieces has a byte, and ends at a border of characters
pub record AreEnds (text : List ℕ) (shebang frontmatter : Option ℕ) : Type 0 where
  pub first : IfSome shebang (λ end. (0 < end) × IsCharBoundary text end)
  pub second : IfSome frontmatter (λ end. (unwrap_or shebang 0 < end) × IsCharBoundary text end)
