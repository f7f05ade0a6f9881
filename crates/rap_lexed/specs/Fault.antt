-- The texts of the lexer's faults.
use Rattle.std.specs.Prelude.{ℕ, List, codes}
use Rattle.rap_lexed.specs.declared.lexed_str.LexFault.{LexFault}
use Rattle.rap_lexed.specs.declared.lexed_str.LexFault.TheVariants.{TextTooLong, NoMemory}

abbrev pub lex_fault_text : LexFault → List ℕ
lex_fault_text TextTooLong = codes "text too long"
lex_fault_text NoMemory = codes "no memory"
