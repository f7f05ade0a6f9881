use Rattle.rap_small_grammar.proofs.IncludedBrackets.{brackets_hold, call_holds}
use Rattle.rap_small_grammar.proofs.InTable.{block_holds, contents_hold, expression_holds, field_list_holds, file_holds, item_holds, item_list_holds, items_hold, statements_hold, type_holds}
use Rattle.rap_small_grammar.proofs.laws.holds_in_table.Goals as goal

pub returns-clause-file : goal.returns-clause-file
returns-clause-file c = file_holds

pub returns-clause-items : goal.returns-clause-items
returns-clause-items c = items_hold

pub returns-clause-item : goal.returns-clause-item
returns-clause-item c = item_holds

pub returns-clause-item_list : goal.returns-clause-item_list
returns-clause-item_list c = item_list_holds

pub returns-clause-field_list : goal.returns-clause-field_list
returns-clause-field_list c = field_list_holds

pub returns-clause-block : goal.returns-clause-block
returns-clause-block c = block_holds

pub returns-clause-statements : goal.returns-clause-statements
returns-clause-statements c = statements_hold

pub returns-clause-contents : goal.returns-clause-contents
returns-clause-contents c = contents_hold

pub returns-clause-expression : goal.returns-clause-expression
returns-clause-expression c = expression_holds

pub returns-clause-type_ : goal.returns-clause-type_
returns-clause-type_ c = type_holds

pub returns-clause-brackets : goal.returns-clause-brackets
returns-clause-brackets c = brackets_hold

pub returns-clause-call : goal.returns-clause-call
returns-clause-call c = call_holds
