-- What is made of a text.
use Rattle.std.specs.Prelude.{ℕ, List, Result}
use Rattle.rap_base.specs.declared.edition.Edition.{Edition}
use Rattle.rast_common.specs.Ran.{IsMade}
use Rattle.rast_common.specs.declared.fault.Fault.{Fault}
use Rattle.rast_common.specs.declared.fault.Fault.TheVariants as common
use Rattle.rast_print.specs.Lists.{Comes, Lists}
use Rattle.rast_print.specs.declared.asked.Asked.{Asked}
use Rattle.rast_print.specs.declared.listing.ListFault.{ListFault}
use Rattle.rast_print.specs.declared.listing.ListFault.TheVariants.{TextTooLong, TooManyTokens, NoBrace, NoMemory}

-- what is reported about a fault
abbrev pub fault_of : ListFault → Fault
fault_of TextTooLong = common.TextTooLong
fault_of TooManyTokens = common.TooManyTokens
fault_of NoBrace = common.NoBrace
fault_of NoMemory = common.NoMemory

-- the lines that are asked for, or a fault in their place
abbrev pub Makes : List ℕ → Edition → Asked → Result (List ℕ) Fault → Type 0
Makes text edition asked made = IsMade (Lists text edition asked) (Comes text edition asked) fault_of made
