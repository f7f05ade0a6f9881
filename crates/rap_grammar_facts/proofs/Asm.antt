-- What is computed of the scripts of Asm: the open nodes are as before, and a token is taken.
-- Written by crates/rap_grammar_facts/facts from the scripts: an edit here is lost.
use Rattle.std.proofs.Common.{◌≡◌, ◌<◌, ℕ, Bool, true, false, if◌then◌else◌, refl}
use Rattle.rap_events.specs.State.{state}
use Rattle.rap_events.specs.declared.parser.Parser.{Parser}
use Rattle.rap_grammar_scripts.specs.Effects.{level}
use Rattle.rap_grammar_scripts.specs.Exec.{Does}
use Rattle.rap_grammar_scripts.specs.Script.{Outcome, something, again, loop}
use Rattle.rap_grammar_frame.specs.Grew.{Grew}
use Rattle.rap_grammar_facts.specs.Alone.{DoesAlone}
use Rattle.rap_grammar_facts.proofs.Alone.{kept}
use Rattle.rap_grammar_facts.proofs.Grown.{grown}
use Rattle.rap_grammar_facts.proofs.Moved.{turned}
use Rattle.rap_grammar_facts.proofs.Turning.{TurnsAlone, turned_on, turned_off}
use Rattle.rap_grammar_scripts.proofs.Scripts.{scripts}
use Rattle.rap_grammar_scripts.specs.Asm as script

pub level_asm_template : level script.asm_template ≡ true
unfolding scripts
level_asm_template = refl

pub grew_asm_template : {n : ℕ} {v : Outcome} → (p q : Parser) →
    Does n script.asm_template v (state p) (state q) →
    Grew (state p) (state q) 40
unfolding scripts
grew_asm_template p q d = grown 40 p q d refl

pub level_reg_spec : level script.reg_spec ≡ true
unfolding scripts
level_reg_spec = refl

pub level_parse_reg : level script.parse_reg ≡ true
unfolding scripts
level_parse_reg = refl

pub turned_clobber_turn : (on : Bool) (a : Bool) (b : Bool) → (p q : Parser) →
    DoesAlone (script.clobber_turn a b) (if on then again false false else something) (state p) (state q) →
    on ≡ true → (state q).left < (state p).left
unfolding scripts
turned_clobber_turn on a b p q d e = let x = d.at 0 in turned on p q x e refl

pub again_clobber_turn : (on : Bool) (o p q : Parser) → TurnsAlone script.clobber_turn o p →
    DoesAlone (script.clobber_turn false false) (if on then again false false else something) (state p) (state q) →
    on ≡ true → TurnsAlone script.clobber_turn o q
unfolding scripts
again_clobber_turn on o p q t d e = turned_on on o p q t d e refl

pub last_clobber_turn : (on : Bool) (o p q : Parser) → TurnsAlone script.clobber_turn o p →
    DoesAlone (script.clobber_turn false false) (if on then again false false else something) (state p) (state q) →
    on ≡ false → DoesAlone (loop script.clobber_turn false false) something (state o) (state q)
unfolding scripts
last_clobber_turn on o p q t d e = turned_off on o p q t d e

pub level_clobber_abis : level script.clobber_abis ≡ true
unfolding scripts
level_clobber_abis = refl

pub level_parse_clobber_abi : level script.parse_clobber_abi ≡ true
unfolding scripts
level_parse_clobber_abi = refl

pub level_flow_option : level script.flow_option ≡ true
unfolding scripts
level_flow_option = refl

pub level_option_name : level script.option_name ≡ true
unfolding scripts
level_option_name = refl

pub turned_options_turn : (on : Bool) (a : Bool) (b : Bool) → (p q : Parser) →
    DoesAlone (script.options_turn a b) (if on then again false false else something) (state p) (state q) →
    on ≡ true → (state q).left < (state p).left
unfolding scripts
turned_options_turn on a b p q d e = let x = d.at 0 in turned on p q x e refl

pub again_options_turn : (on : Bool) (o p q : Parser) → TurnsAlone script.options_turn o p →
    DoesAlone (script.options_turn false false) (if on then again false false else something) (state p) (state q) →
    on ≡ true → TurnsAlone script.options_turn o q
unfolding scripts
again_options_turn on o p q t d e = turned_on on o p q t d e refl

pub last_options_turn : (on : Bool) (o p q : Parser) → TurnsAlone script.options_turn o p →
    DoesAlone (script.options_turn false false) (if on then again false false else something) (state p) (state q) →
    on ≡ false → DoesAlone (loop script.options_turn false false) something (state o) (state q)
unfolding scripts
last_options_turn on o p q t d e = turned_off on o p q t d e

pub level_asm_options : level script.asm_options ≡ true
unfolding scripts
level_asm_options = refl

pub level_parse_options : level script.parse_options ≡ true
unfolding scripts
level_parse_options = refl

pub level_operand_name : level script.operand_name ≡ true
unfolding scripts
level_operand_name = refl

pub level_dir_spec : level script.dir_spec ≡ true
unfolding scripts
level_dir_spec = refl

pub level_reg_operand : (a : Bool) → level (script.reg_operand a) ≡ true
unfolding scripts
level_reg_operand true = refl
level_reg_operand false = refl

pub level_asm_sym : level script.asm_sym ≡ true
unfolding scripts
level_asm_sym = refl

pub level_asm_operand : level script.asm_operand ≡ true
unfolding scripts
level_asm_operand = refl

pub level_missing_operand : level script.missing_operand ≡ true
unfolding scripts
level_missing_operand = refl

pub level_no_operand : (a : Bool) → level (script.no_operand a) ≡ true
unfolding scripts
level_no_operand true = refl
level_no_operand false = refl

pub level_asm_piece : (a : Bool) → level (script.asm_piece a) ≡ true
unfolding scripts
level_asm_piece true = refl
level_asm_piece false = refl

pub level_asm_pieces : level script.asm_pieces ≡ true
unfolding scripts
level_asm_pieces = refl

pub grew_asm_pieces : {n : ℕ} {v : Outcome} → (p q : Parser) →
    Does n script.asm_pieces v (state p) (state q) →
    Grew (state p) (state q) 40
unfolding scripts
grew_asm_pieces p q d = grown 40 p q d refl

-- all of them
pub ruleset facts = (
  kept,
  level_asm_template,
  grew_asm_template,
  level_reg_spec,
  level_parse_reg,
  turned_clobber_turn,
  again_clobber_turn,
  last_clobber_turn,
  level_clobber_abis,
  level_parse_clobber_abi,
  level_flow_option,
  level_option_name,
  turned_options_turn,
  again_options_turn,
  last_options_turn,
  level_asm_options,
  level_parse_options,
  level_operand_name,
  level_dir_spec,
  level_reg_operand,
  level_asm_sym,
  level_asm_operand,
  level_missing_operand,
  level_no_operand,
  level_asm_piece,
  level_asm_pieces,
  grew_asm_pieces,
)
