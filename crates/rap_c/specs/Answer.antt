-- Results by their status numbers.
use Rattle.std.specs.Prelude.{ℕ}
use Rattle.rap_c.specs.declared.answer.Fault.{Fault}
use Rattle.rap_c.specs.declared.answer.Fault.TheVariants.{NoEdition, NoEntry, NotUtf8, TextTooLong, TooManyTokens, NoMemory, NoNode, NoBrace, NoRecord, NoSteps}
use Rattle.rap_c.specs.declared.answer.RapAnswer.{RapAnswer}

-- a fault's status
abbrev pub number_of : Fault → ℕ
number_of NoEdition = 2
number_of NoEntry = 3
number_of NotUtf8 = 4
number_of TextTooLong = 5
number_of TooManyTokens = 6
number_of NoMemory = 7
number_of NoNode = 8
number_of NoBrace = 9
number_of NoRecord = 10
number_of NoSteps = 11

-- the result at a fault
abbrev pub refusal : Fault → RapAnswer
refusal fault = record { status = number_of fault; steps = 0; message_bytes = 0; used = 0 }
