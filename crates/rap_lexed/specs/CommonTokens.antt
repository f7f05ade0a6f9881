-- Common tokens, which the lexer takes one after another without a look at what is to be reported.
-- (What calls promise one another; no promise of the library rests on it.)
use Rattle.std.specs.Prelude.{◌≢◌, ℕ, ◌<◌, List, [], ◌∷◌, ◌++◌, chars, drop, length, slice_range, IsCharBoundary}
use Rattle.rap_base.specs.TokenKind.{STRING}
use Rattle.rap_base.specs.TokenTests.{IsTokenKind}
use Rattle.rap_base.specs.declared.edition.Edition.{Edition}
use Rattle.rap_lexer.specs.Common.{is_contextual}
use Rattle.rap_lexer.specs.First.{First}
use Rattle.rap_lexer.specs.Lexeme.{plain}
use Rattle.rap_lexed.specs.Contextual.{noted}

-- from one place to another stands a token about which nothing is reported, and which is no string
pub record IsCommonAt (edition : Edition) (text : List ℕ) (kind from to : ℕ) : Type 0 where
  pub first : First edition (chars (drop from text)) (plain kind) (chars (drop to text))
  pub token : IsTokenKind kind
  pub no_string : kind ≢ STRING
  pub some : from < to
  pub border : IsCharBoundary text to

-- Such tokens, taken from a place on, lead from the first kinds and starts, and the first numbers of contextual
-- keywords, to these, and to this place.
pub data TakesCommon (edition : Edition) (text kinds starts numbers : List ℕ) (from : ℕ) : List ℕ → List ℕ → List ℕ → ℕ → Type 0 where
  none : TakesCommon edition text kinds starts numbers from kinds starts numbers from
  more : (ks ss ns : List ℕ) (at kind to : ℕ) → TakesCommon edition text kinds starts numbers from ks ss ns at →
      IsCommonAt edition text kind at to →
      TakesCommon edition text kinds starts numbers from (ks ++ kind ∷ []) (ss ++ to ∷ [])
      (noted ns (length ks) (is_contextual kind (slice_range text at to))) to
