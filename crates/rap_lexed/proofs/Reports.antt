-- Something is reported about each token, or nothing.
use Rattle.std.proofs.Common.{◌≡◌, ◌≢◌, ℕ, Bool, List, [], ◌∷◌, inl, inr, Option, Some, None, MatchOption, option_to_list, Result, Ok, Err, if◌then◌else◌, map, chars, length, refl, subst, sym, arith}
use Rattle.std.proofs.lemmas.Bool.{cases_eq}
use Rattle.rap_lexer.proofs.EscapeFaults.{some_list}
use Rattle.rap_lexer.proofs.EscapeReadings.{some_reading}
use Rattle.rap_lexer.specs.Escape.{backslash, carriage_return, message, plain_character, BeginsNot, Character, CharacterReports, StringReports, Reports}
use Rattle.rap_lexer.specs.Escape.Character.{plain, escaped}
use Rattle.rap_lexer.specs.Escape.CharacterReports.{empty, bare_return, faulty, more, one}
use Rattle.rap_lexer.specs.declared.escape.Fault.{Fault}
use Rattle.rap_lexer.specs.declared.escape.Fault.TheVariants.{ZeroChars, MoreThanOneChar}
use Rattle.rap_lexer.specs.declared.escape.Mode.{Mode}
use Rattle.rap_lexer.specs.declared.escape.Mode.TheVariants.{Char, Byte, Str, ByteStr, CStr}
use Rattle.rap_lexer.specs.declared.lexer.lexeme.Remark.{Remark}
use Rattle.rap_lexed.proofs.Bodies.{some_body}
use Rattle.rap_lexed.specs.Reported.{checked_mode, has_note, prefix_note, fixed_message, IsBody, ReportsOf, ReportsFaults}

-- a body that begins with a character is read in some way
some_character : (mode : Mode) (c : ℕ) (cs : List ℕ) → (outcome : Result ℕ Fault) × (rest : List ℕ) × Character mode (c ∷ cs) outcome rest
some_character mode c cs = elim (cases_eq c backslash) [
  | inl e ↦ let r = some_reading mode cs in (r.outcome, r.rest, subst (λ (b : ℕ). Character mode (b ∷ cs) r.outcome r.rest) (sym e) (escaped cs r.outcome r.rest r.escape))
  | inr n ↦ (plain_character mode c, cs, plain c cs n)
]

no_return : (c : ℕ) (cs : List ℕ) → c ≢ carriage_return → BeginsNot (carriage_return ∷ []) (c ∷ cs)
no_return c cs n rest e = let f : c ≡ carriage_return = cc in n f

of_character : (mode : Mode) (c : ℕ) (cs : List ℕ) → BeginsNot (carriage_return ∷ []) (c ∷ cs) → (outcome : Result ℕ Fault) (rest : List ℕ) → Character mode (c ∷ cs) outcome rest → (faults : List Fault) × CharacterReports mode (c ∷ cs) faults
of_character mode c cs b (Err fault) rest h = (fault ∷ [], faulty (c ∷ cs) fault rest b h)
of_character mode c cs b (Ok value) [] h = ([], one (c ∷ cs) value b h)
of_character mode c cs b (Ok value) (d ∷ rest) h = (MoreThanOneChar ∷ [], more (c ∷ cs) value d rest b h)

of_single : (mode : Mode) (body : List ℕ) → (faults : List Fault) × CharacterReports mode body faults
of_single mode [] = (ZeroChars ∷ [], empty)
of_single mode (c ∷ cs) = elim (cases_eq c carriage_return) [
  | inl e ↦ ([], subst (λ (b : ℕ). CharacterReports mode (b ∷ cs) []) (sym e) (bare_return cs))
  | inr n ↦ let h = some_character mode c cs in of_character mode c cs (no_return c cs n) h.0 h.1 h.2
]

of_string : (mode : Mode) (body : List ℕ) → (faults : List Fault) × StringReports mode body faults
of_string mode body = some_list (length body) mode body (omega arith)

some_faults : (mode : Mode) (body : List ℕ) → (faults : List Fault) × Reports mode body faults
some_faults Char body = of_single Char body
some_faults Byte body = of_single Byte body
some_faults Str body = of_string Str body
some_faults ByteStr body = of_string ByteStr body
some_faults CStr body = of_string CStr body

pub some_messages : (note : Bool) (text : List ℕ) (remark : Remark) → (ms : List (List ℕ)) × ReportsOf note text remark ms
some_messages note text remark = by_mode (checked_mode remark)
  where
    by_mode : (o : Option Mode) → (ms : List (List ℕ)) × MatchOption o (ms ≡ (if has_note note remark then prefix_note text ∷ [] else option_to_list (fixed_message remark))) (λ mode. (body : List ℕ) × IsBody mode text body × ReportsFaults mode body ms)
    by_mode None = (_, refl)
    by_mode (Some mode) = let b = some_body mode text in let f = some_faults mode (chars b.0) in (map (λ fault. message fault mode) f.0, (b.0, b.1, (f.0, f.1, refl)))
