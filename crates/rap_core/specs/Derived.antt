-- What is told of a text: that it is in the core grammar, or what of it is outside.
use Rattle.std.specs.Prelude.{◌≡◌, ℕ, List, [], Option, MatchOption}
use Rattle.rap_base.specs.NodeKind.{SOURCE_FILE}
use Rattle.rap_base.specs.declared.edition.Edition.{Edition}
use Rattle.rap_events.specs.Forest.{Forest, none, node, message_count}
use Rattle.rap_grammar_table.specs.Tops.{MakesRow, file_row}
use Rattle.rap_lexed.specs.Input.{records}
use Rattle.rap_lexed.specs.LexedStr.{Lexed}
use Rattle.ra_ap_parser.specs.Headline.{IsParsed}
use Rattle.ra_ap_parser.specs.declared.entry_point.TopEntryPoint.TheVariants.{SourceFile}
use Rattle.rap_core.specs.Listed.{Lists}
use Rattle.rap_core.specs.declared.listing.Places.{Places}

-- The core grammar derives the text's tokens as a file, and the lexer has no message. So the text's tree as a file is the
-- derivation's, without a message: the tree of `IsParsed` is the one that `parse_text` gives.
pub record IsDerived (text : List ℕ) (edition : Edition) : Type 0 where
  pub lexed : Lexed
  pub forest : Forest
  pub derives : MakesRow file_row (records lexed.tokens edition) forest
  pub parsed : IsParsed text edition SourceFile lexed (node none SOURCE_FILE forest)
  pub silent : message_count (node none SOURCE_FILE forest) ≡ 0
  pub quiet : lexed.errors ≡ []

-- The places are those of tokens of the text that the lexer has a message of, and of nodes of its tree: the one of
-- `IsParsed`, which `parse_text` gives with the trivia put back.
pub record IsListed (text : List ℕ) (edition : Edition) (places : Places) : Type 0 where
  pub lexed : Lexed
  pub tree : Forest
  pub parsed : IsParsed text edition SourceFile lexed tree
  pub lists : Lists lexed tree places

-- what is told of a text: nothing is outside, or these places are
abbrev pub IsTold : List ℕ → Edition → Option Places → Type 0
IsTold text edition told = MatchOption told (IsDerived text edition) (IsListed text edition)
