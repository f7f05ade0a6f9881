-- Common tokens: characters that are tokens of their own, white space, and words.
use Rattle.std.specs.Prelude.{◌≡◌, ◌≢◌, ◌<◌, ℕ, Bool, true, false, ◌||◌, ◌&&◌, ◌==◌, not, nat_lt, List, [], ◌∷◌, if◌then◌else◌, chars, drop, IsCharBoundary}
use Rattle.std.specs.Str.{byte}
use Rattle.rap_base.specs.TokenKind.{ERROR, IDENT, STRING}
use Rattle.rap_base.specs.Word.{is_ever_contextual}
use Rattle.rap_base.specs.declared.edition.Edition.{Edition}
use Rattle.rap_lexer.specs.Class.{is_ascii_in}
use Rattle.rap_lexer.specs.First.{First, single_kind}
use Rattle.rap_lexer.specs.Lexeme.{plain}
use Rattle.rap_lexer.specs.Run.{after_run}
use Rattle.rap_lexer.specs.declared.lexer.run.Class.TheVariants.{White, IdentStart, IdentContinue}

-- the byte is an ASCII character that is a token of its own, whatever follows it
abbrev pub is_lone : ℕ → Bool
is_lone b = nat_lt b 128 && (not (single_kind b == ERROR) && not ((b == byte "/") || (b == byte "#")))

-- the byte makes what stands before it more than a word: a prefix before a quote or `#`, or it is past ASCII
abbrev pub ends_no_word : ℕ → Bool
ends_no_word b = nat_lt 127 b || ((b == byte "\"") || ((b == byte "'") || (b == byte "#")))

-- a character of white space past ASCII begins with the byte: U+0085, U+200E, U+200F, U+2028 or U+2029
abbrev pub begins_white : ℕ → Bool
begins_white b = (b == 0xc2) || (b == 0xe2)

-- such a byte stands first
abbrev pub next_fits : (ℕ → Bool) → List ℕ → Bool
next_fits p [] = false
next_fits p (b ∷ bs) = p b

-- The text, in bytes, begins with another token than a common one.
abbrev pub is_uncommon : List ℕ → Bool
is_uncommon [] = true
is_uncommon (b ∷ bs) =
    if is_ascii_in White b then next_fits begins_white (after_run (is_ascii_in White) (b ∷ bs))
    else (if is_ascii_in IdentStart b then next_fits ends_no_word (after_run (is_ascii_in IdentContinue) (b ∷ bs))
    else not (is_lone b))

-- a word of this kind is an identifier that is a contextual keyword of some edition
abbrev pub is_contextual : ℕ → List ℕ → Bool
is_contextual kind word = (kind == IDENT) && is_ever_contextual word

-- The text begins with a common token of this kind and this length in bytes.
pub record IsCommon (edition : Edition) (text : List ℕ) (kind n : ℕ) : Type 0 where
  pub token : First edition (chars text) (plain kind) (chars (drop n text))
  pub no_string : kind ≢ STRING
  pub positive : 0 < n
  pub border : IsCharBoundary text n
  pub common : is_uncommon text ≡ false
