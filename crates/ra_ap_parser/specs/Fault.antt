-- The texts of faults.
use Rattle.std.specs.Prelude.{ℕ, List, codes}
use Rattle.ra_ap_parser.specs.declared.entry_point.ParseFault.{ParseFault}
use Rattle.ra_ap_parser.specs.declared.entry_point.ParseFault.TheVariants.{TooManyTokens, NoMemory}
use Rattle.ra_ap_parser.specs.declared.whole_text.TextFault.{TextFault}
use Rattle.ra_ap_parser.specs.declared.whole_text.TextFault.TheVariants.{TextTooLong as TooLong, TooManyTokens as TooMany, NoMemory as TextNoMemory, Refused}

abbrev pub text_fault_text : {R : Type 0} → TextFault R → List ℕ
text_fault_text TooLong = codes "text too long"
text_fault_text TooMany = codes "too many tokens"
text_fault_text TextNoMemory = codes "no memory"
text_fault_text (Refused e) = codes "refused by the sink"

abbrev pub parse_fault_text : ParseFault → List ℕ
parse_fault_text TooManyTokens = codes "too many tokens"
parse_fault_text NoMemory = codes "no memory"
