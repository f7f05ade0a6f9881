-- What is reported about a fault.
use Rattle.std.specs.Prelude.{ℕ, List, ◌++◌, codes}
use Rattle.rast_common.specs.declared.fault.Fault.{Fault}
use Rattle.rast_common.specs.declared.fault.Fault.TheVariants.{TextTooLong, TooManyTokens, NoBrace, NoBraceInInput, NoToken, NoMemory, CannotWrite}

-- what the line says behind the program's name
abbrev pub fault_text : Fault → List ℕ
fault_text TextTooLong = codes ": text too long\n"
fault_text TooManyTokens = codes ": too many tokens\n"
fault_text NoBrace = codes ": the text does not begin with `{`\n"
fault_text NoBraceInInput = codes ": the input does not begin with `{`\n"
fault_text NoToken = codes ": not a token's kind\n"
fault_text NoMemory = codes ": no memory\n"
fault_text CannotWrite = codes ": cannot write\n"

-- the line of the program of this name
abbrev pub fault_line : List ℕ → Fault → List ℕ
fault_line name fault = name ++ fault_text fault
