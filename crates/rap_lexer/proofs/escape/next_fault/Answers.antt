use Rattle.std.proofs.Common.{◌≡◌, ◌≢◌, ◌<◌, ◌⊎◌, inl, inr, List, ◌∷◌, [], true, false, arith, encode_utf8_all, length}
use Rattle.rap_lexer.specs.Escape.{StringReports}
use Rattle.rap_lexer.specs.Escape.StringReports.{end}
use Rattle.rap_lexer.specs.declared.escape.Fault.{Fault}
use Rattle.rap_lexer.proofs.BareCharacters.{bare_smaller, past_run}
use Rattle.rap_lexer.proofs.EscapeStrings.{begins_line, past_gap, past_character, gap_smaller}
use Rattle.rap_lexer.proofs.escape.next_fault.Goals as goal
use Rattle.rap_lexer.proofs.escape.next_fault.Goals.{else-c-eq92-via-then-c-eq92+else-eq, else-c-eq92-via-else-c-eq92, After-skip_bare, After-character, After-skip_gap}

-- what is reported past the bare characters is reported from the beginning
past : (c : After-skip_bare) → (faults : List Fault) → StringReports c.args.mode c.skip_bare.new.rest faults → StringReports c.args.mode c.args.rest.now faults
past c faults t = c.body.invariant faults (past_run c.args.mode c.body.rest (encode_utf8_all c.body.rest) c.skip_bare.new.rest c.skip_bare.ensures faults t)

line_begins : (c : After-skip_gap) → begins_line c.bump.new.self ≡ true
line_begins c = cc

pub body-smaller-then-eq : goal.body-smaller-then-eq
body-smaller-then-eq c =
    let less : length c.skip_gap.new.rest < length c.skip_bare.new.rest = gap_smaller _ _ _ c.in-Some.ensures.taken _ c.skip_gap.ensures in
    let goal : length c.skip_gap.new.rest < length c.body.rest = omega (arith, less, bare_smaller c.body.rest (encode_utf8_all c.body.rest) c.skip_bare.new.rest c.skip_bare.ensures) in
    goal

pub body-preserved-then-eq : goal.body-preserved-then-eq
body-preserved-then-eq c = λ faults t. past (goal.at.body-preserved-then-eq c).After-skip_bare faults (past_gap _ _ _ c.in-Some.ensures.taken c.args.mode c.skip_gap.new.rest faults c.if-c-eq92.true (line_begins c) c.skip_gap.ensures t)

no_gap : (c : After-character) → (c.in-Some.c ≢ 92) ⊎ (begins_line c.bump.new.self ≡ false)
no_gap c = elim c.else-c-eq92.branch [ else-c-eq92-via-then-c-eq92+else-eq w ↦ inr cc | else-c-eq92-via-else-c-eq92 w ↦ inl w.if-c-eq92.false ]

pub returns-in-Some-reported : goal.returns-in-Some-reported
returns-in-Some-reported c = λ faults t. past (goal.at.returns-in-Some-reported c).After-skip_bare _ (past_character _ _ _ c.in-Some.ensures.taken c.args.mode c.character.result c.character.new.rest (c.in-Some-reported.fault ∷ []) faults (no_gap (goal.at.returns-in-Some-reported c).After-character) c.character.ensures c.in-Some-reported.ensures t)

pub body-preserved : goal.body-preserved
body-preserved c = λ faults t. past (goal.at.body-preserved c).After-skip_bare _ (past_character _ _ _ c.in-Some.ensures.taken c.args.mode c.character.result c.character.new.rest [] faults (no_gap (goal.at.body-preserved c).After-character) c.character.ensures c.in_default-reported.ensures t)

pub returns-in_default : goal.returns-in_default
returns-in_default c = let e = c.in_default.ensures.taken in (e.1, past (goal.at.returns-in_default c).After-skip_bare [] (rw e.0 end))
