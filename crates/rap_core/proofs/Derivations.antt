-- What follows of the tree of a text whose tokens the core grammar derives.
use Rattle.std.proofs.Common.{◌≡◌, ℕ, List, [], ◌∷◌, length, refl, subst, arith}
use Rattle.rap_base.specs.NodeKind.{SOURCE_FILE}
use Rattle.rap_base.specs.declared.edition.Edition.{Edition}
use Rattle.rap_events.specs.Forest.{Forest, none, node, message_count}
use Rattle.rap_events.specs.Record.{Record}
use Rattle.rap_grammar_table.specs.Tops.{MakesRow, file_row}
use Rattle.rap_lexed.specs.Input.{records}
use Rattle.rap_lexed.specs.LexedStr.{Lexed, Message}
use Rattle.ra_ap_parser.specs.Headline.{IsParsed}
use Rattle.ra_ap_parser.specs.declared.entry_point.TopEntryPoint.TheVariants.{SourceFile}
use Rattle.rap_core.specs.Derived.{IsDerived}

no_message : (messages : List Message) → length messages ≡ 0 → messages ≡ []
no_message [] e = refl
no_message (m ∷ ms) e = absurd (omega (arith, e))

-- the parser's tree is the derivation's, by what the parser promises of the core grammar
pub derived : (text : List ℕ) (edition : Edition) (lexed : Lexed) (output : Forest) (input : List Record)
    → IsParsed text edition SourceFile lexed output → input ≡ records lexed.tokens edition
    → (forest : Forest) × MakesRow file_row input forest → length lexed.errors ≡ 0 → IsDerived text edition
derived text edition lexed output input parsed e found quiet =
    let derives : MakesRow file_row (records lexed.tokens edition) found.0 = subst (λ (rs : List Record). MakesRow file_row rs found.0) e found.1 in
    let same = parsed.core (node none SOURCE_FILE found.0) (found.0, derives, refl) in
    record {
      lexed = lexed;
      forest = found.0;
      derives = derives;
      parsed = subst (λ (f : Forest). IsParsed text edition SourceFile lexed f) same.0 parsed;
      silent = subst (λ (f : Forest). message_count f ≡ 0) same.0 same.1;
      quiet = no_message lexed.errors quiet;
    }
