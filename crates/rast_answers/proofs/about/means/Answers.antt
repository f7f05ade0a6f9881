use Rattle.std.proofs.Common.{◌∙◌, string_bytes}
use Rattle.rast_answers.proofs.AimLaws.{meant}
use Rattle.rast_answers.proofs.about.means.Goals as goal

pub returns : goal.returns
returns c =
    c.is_meant.ensures
    ∙ meant (string_bytes c.args.document.now.text) c.args.elements.now c.args.node c.args.index c.args.reach c.args.aim c.requires.reach
