-- The tree of a whole text.
use Rattle.std.specs.Prelude.{◌≡◌, ℕ, List, length, map}
use Rattle.rap_base.specs.declared.edition.Edition.{Edition}
use Rattle.rap_events.specs.Forest.{Forest}
use Rattle.rap_lexed.specs.LexedStr.{Lexed}
use Rattle.rap_lexed.specs.StrForest.{str_flat}
use Rattle.rap_lexed.specs.Trivia.{with_trivia}
use Rattle.ra_ap_parser.specs.Headline.{IsParsed}
use Rattle.ra_ap_parser.specs.declared.entry_point.TopEntryPoint.{TopEntryPoint}
use Rattle.syntax_tree.specs.Places.{HavePlaces}
use Rattle.syntax_tree.specs.Ranged.{Ranged}
use Rattle.syntax_tree.specs.RangedForest.{RangedNode, alone}
use Rattle.syntax_tree.specs.RangedMessages.{RangedMessage, ranged_message}
use Rattle.syntax_tree.specs.Reports.{all_reports}

-- The root is the one tree of the text's tokens, with the place of each node and leaf, and covers the whole text; each
-- range is on character boundaries; and the messages are those of the tree, and after them those of
-- the lexer, each with the range of the leaf at its position.
pub record IsTextTree (text : List ℕ) (edition : Edition) (entry : TopEntryPoint) (root : RangedNode) (messages : List RangedMessage) : Type 0 where
  pub lexed : Lexed
  pub forest : Forest
  pub parsed : IsParsed text edition entry lexed forest
  pub ranged : Ranged (with_trivia lexed.tokens forest) root
  pub start : root.start ≡ 0
  pub end : root.end ≡ length text
  pub places : HavePlaces text (alone root)
  pub reports : messages ≡ map (ranged_message root.children) (all_reports lexed (str_flat (with_trivia lexed.tokens forest)))
