-- What is returned of an output.
use Rattle.std.specs.Prelude.{◌≡◌, ℕ, List, if◌then◌else◌}
use Rattle.rap_events.specs.Forest.{Forest, flat, one_tree, used}
use Rattle.rap_lexed.specs.LexedStr.{Token}
use Rattle.rap_lexed.specs.StrForest.{str_flat}
use Rattle.rap_lexed.specs.Trivia.{with_trivia}
use Rattle.rap_c.specs.Given.{IsGiven}
use Rattle.rap_c.specs.Item.{Item, text_items, output_items}
use Rattle.rap_lexed.specs.Used.{end_after}
use Rattle.rap_c.specs.declared.answer.RapAnswer.{RapAnswer}
use Rattle.rap_c.specs.declared.step.RapStep.{RapStep}

-- the steps of the tree, trivia put back, or the output's own if it is no tree
abbrev pub items_of : List Token → Forest → List Item
items_of ts output = if one_tree output then text_items (str_flat (with_trivia ts output)) else output_items (flat output)

-- The output is returned, and the end of the last token that it consumed.
pub record IsOutput (ts : List Token) (output : Forest) (steps steps_after : List RapStep) (messages messages_after : List ℕ) (answer : RapAnswer) : Type 0 where
  pub given : IsGiven (items_of ts output) steps steps_after messages messages_after answer
  pub status : answer.status ≡ (if one_tree output then 0 else 1)
  pub used_is : answer.used ≡ end_after (used output) ts
