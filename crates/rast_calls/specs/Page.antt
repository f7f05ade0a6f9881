-- What is made for calls.
use Rattle.std.specs.Prelude.{ℕ, List, Result, String, string_bytes}
use Rattle.std.specs.declared.alloc.Global.{Global}
use Rattle.rast_common.specs.Ran.{IsMade}
use Rattle.rast_common.specs.Shown.{Shown, plain}
use Rattle.rast_common.specs.declared.fault.Fault.{Fault}
use Rattle.rast_common.specs.declared.fault.Fault.TheVariants as common
use Rattle.rast_calls.specs.Listed.{Comes, Lists}
use Rattle.rast_calls.specs.declared.asked.Asked.{Asked}
use Rattle.rast_calls.specs.declared.pushed.CallFault.{CallFault}
use Rattle.rast_calls.specs.declared.pushed.CallFault.TheVariants.{TextTooLong, TooManyTokens, NoBrace, NoToken, NoMemory}

-- what is reported about a fault
abbrev pub fault_of : CallFault → Fault
fault_of TextTooLong = common.TextTooLong
fault_of TooManyTokens = common.TooManyTokens
fault_of NoBrace = common.NoBraceInInput
fault_of NoToken = common.NoToken
fault_of NoMemory = common.NoMemory

-- the lines of what the calls return, or a fault in their place
abbrev pub Makes : List ℕ → Asked → Result (String Global) Fault → Type 0
Makes text asked made = IsMade (λ lines. Lists text asked (string_bytes lines)) (Comes text asked) fault_of made

-- what is shown of lines
abbrev pub shown_of : String Global → Shown
shown_of lines = plain (string_bytes lines)
