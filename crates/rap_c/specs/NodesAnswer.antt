-- The result of a call that returns a tree in one list.
use Rattle.rap_c.specs.Answer.{number_of}
use Rattle.rap_c.specs.declared.answer.Fault.{Fault}
use Rattle.rap_c.specs.declared.element.RapNodesAnswer.{RapNodesAnswer}

-- the result at a fault
abbrev pub nodes_refusal : Fault → RapNodesAnswer
nodes_refusal fault = record { status = number_of fault; elements = 0; messages = 0; message_bytes = 0; used = 0 }
