-- What is computed of the scripts of Entry: the open nodes are as before, and a token is taken.
-- Written by crates/rap_grammar_facts/facts from the scripts: an edit here is lost.
use Rattle.std.proofs.Common.{◌≡◌, ℕ, true, refl}
use Rattle.rap_events.specs.State.{state}
use Rattle.rap_events.specs.declared.parser.Parser.{Parser}
use Rattle.rap_grammar_scripts.specs.Effects.{level}
use Rattle.rap_grammar_scripts.specs.Exec.{Does}
use Rattle.rap_grammar_scripts.specs.Script.{Outcome}
use Rattle.rap_grammar_frame.specs.Grew.{Grew}
use Rattle.rap_grammar_facts.proofs.Alone.{kept}
use Rattle.rap_grammar_facts.proofs.Grown.{grown}
use Rattle.rap_grammar_scripts.proofs.Scripts.{scripts}
use Rattle.rap_grammar_scripts.specs.Entry as script

pub level_source_file : level script.source_file ≡ true
unfolding scripts
level_source_file = refl

pub grew_source_file : {n : ℕ} {v : Outcome} → (p q : Parser) →
    Does n script.source_file v (state p) (state q) →
    Grew (state p) (state q) 0
unfolding scripts
grew_source_file p q d = grown 0 p q d refl

pub level_macro_stmts : level script.macro_stmts ≡ true
unfolding scripts
level_macro_stmts = refl

pub grew_macro_stmts : {n : ℕ} {v : Outcome} → (p q : Parser) →
    Does n script.macro_stmts v (state p) (state q) →
    Grew (state p) (state q) 0
unfolding scripts
grew_macro_stmts p q d = grown 0 p q d refl

-- all of them
pub ruleset facts = (kept, level_source_file, grew_source_file, level_macro_stmts, grew_macro_stmts)
