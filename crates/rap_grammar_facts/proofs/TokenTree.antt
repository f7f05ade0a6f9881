-- What is computed of the scripts of TokenTree: the open nodes are as before, and a token is taken.
-- Written by crates/rap_grammar_facts/facts from the scripts: an edit here is lost.
use Rattle.std.proofs.Common.{◌≡◌, ◌<◌, ℕ, true, refl}
use Rattle.rap_events.specs.State.{state}
use Rattle.rap_events.specs.declared.parser.Parser.{Parser}
use Rattle.rap_grammar_scripts.specs.Effects.{level}
use Rattle.rap_grammar_scripts.specs.Exec.{Does}
use Rattle.rap_grammar_scripts.specs.Script.{Outcome}
use Rattle.rap_grammar_frame.proofs.Done.{moved}
use Rattle.rap_grammar_facts.proofs.Alone.{kept}
use Rattle.rap_grammar_scripts.proofs.Scripts.{scripts}
use Rattle.rap_grammar_scripts.specs.TokenTree as script

pub level_token_tree : level script.token_tree ≡ true
unfolding scripts
level_token_tree = refl

pub level_macro_call_after_excl : level script.macro_call_after_excl ≡ true
unfolding scripts
level_macro_call_after_excl = refl

pub moved_macro_call_after_excl : {n : ℕ} {v : Outcome} → (p q : Parser) →
    Does n script.macro_call_after_excl v (state p) (state q) →
    (state q).left < (state p).left
unfolding scripts
moved_macro_call_after_excl p q d = moved p q d refl

-- all of them
pub ruleset facts = (kept, level_token_tree, level_macro_call_after_excl, moved_macro_call_after_excl)
