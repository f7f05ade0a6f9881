-- The tree of a whole text.
use Rattle.std.specs.Prelude.{◌≡◌, ℕ, List, All, length, map}
use Rattle.std.specs.List.Sorted.{IsNonDecreasingBy}
use Rattle.rap_base.specs.declared.edition.Edition.{Edition}
use Rattle.rap_events.specs.Forest.{Forest}
use Rattle.rap_lexed.specs.LexedStr.{Lexed}
use Rattle.rap_lexed.specs.StrForest.{str_flat}
use Rattle.rap_lexed.specs.Trivia.{with_trivia}
use Rattle.ra_ap_parser.specs.Headline.{IsParsed}
use Rattle.ra_ap_parser.specs.declared.entry_point.TopEntryPoint.{TopEntryPoint}
use Rattle.rap_ranged.specs.MergedMessages.{merged}
use Rattle.rap_ranged.specs.Places.{IsPlace}
use Rattle.rap_ranged.specs.Ranged.{Ranged}
use Rattle.rap_ranged.specs.RangedForest.{RangedNode}
use Rattle.rap_ranged.specs.RangedMessages.{RangedMessage, ranged_message}
use Rattle.rap_ranged.specs.Reports.{lexer_reports, reports_of}
use Rattle.rap_ranged.specs.Seats.{AreSeated}
use Rattle.flat_tree.specs.FlatTree.{elements_of_tree}
use Rattle.flat_tree.specs.declared.element.Element.{Element}

-- The elements are those of the one tree of the text's tokens, with the place of each node and leaf. It covers the whole
-- text, and each range is on character boundaries. Each message of the tree stands where the leaves before it end. The
-- messages are those of the tree merged with those of the lexer, each with the range of the leaf at its position: so they
-- are in the order of their positions.
pub record IsFlatText (text : List ℕ) (edition : Edition) (entry : TopEntryPoint) (es : List Element) (messages : List RangedMessage) : Type 0 where
  pub lexed : Lexed
  pub forest : Forest
  pub root : RangedNode
  pub parsed : IsParsed text edition entry lexed forest
  pub ranged : Ranged (with_trivia lexed.tokens forest) root
  pub elements : es ≡ elements_of_tree root
  pub seated : AreSeated 0 (with_trivia lexed.tokens forest)
  pub start : root.start ≡ 0
  pub end : root.end ≡ length text
  pub places : All (λ (e : Element). IsPlace text e.start e.end) es
  pub reports :
      messages
      ≡ merged (map (ranged_message root.children) (reports_of (str_flat (with_trivia lexed.tokens forest))))
      (map (ranged_message root.children) (lexer_reports lexed.tokens lexed.errors))
  pub in_order : IsNonDecreasingBy (λ (m : RangedMessage). m.at) messages
