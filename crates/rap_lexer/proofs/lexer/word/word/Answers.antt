use Rattle.std.proofs.Common.{◌≡◌, ◌∷◌, encode_utf8_all, ◌∙◌}
use Rattle.rap_lexer.specs.Class.{is_in}
use Rattle.rap_lexer.specs.Run.{run_of}
use Rattle.rap_lexer.specs.declared.lexer.run.Class.TheVariants.{IdentContinue}
use Rattle.rap_lexer.proofs.Runs.{run_prefix}
use Rattle.rap_lexer.proofs.lexer.word.word.Goals as goal

pub taken-text-requires : goal.taken-text-requires
taken-text-requires c =
    (c.args.first ∷ run_of (is_in IdentContinue) c.args.cursor.now, c.requires ∙ run_prefix (is_in IdentContinue) c.args.first c.args.cursor.now _ c.eat_run.ensures)

pub returns : goal.returns
returns c =
    let initial = c.args.first ∷ run_of (is_in IdentContinue) c.args.cursor.now in
    let text : c.taken-text.result.now ≡ encode_utf8_all initial = c.taken-text.ensures initial (c.requires ∙ run_prefix (is_in IdentContinue) c.args.first c.args.cursor.now _ c.eat_run.ensures) in
    rw (text, c.eat_run.ensures) at c.word_before.ensures
