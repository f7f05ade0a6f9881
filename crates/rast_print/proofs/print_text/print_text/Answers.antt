use Rattle.std.proofs.Common.{◌∙◌}
use Rattle.ra_ap_parser.proofs.Parsed.{headed}
use Rattle.rast_print.specs.Prints.{Prints}
use Rattle.rast_print.proofs.Lines.{printed_whole}
use Rattle.rast_print.proofs.print_text.print_text.Goals as goal

pub returns-clause-printed : goal.returns-clause-printed
returns-clause-printed c =
    let lexed = c.in_ok-parsed.parsed.lexed in
    printed_whole c.args.text.now c.args.edition c.args.entry lexed c.in-Ok._whole c.after-printer.result c.intersperse_trivia.new.sink c.report_errors.new.sink
    (c.after-printer.ensures.tree ∙ c.roomy_lines-lines.ensures) c.after-printer.ensures.messages c.after-printer.ensures.depth
    (headed Prints c.args.text.now c.args.edition c.args.entry lexed c.in_ok-parsed.parsed.output c.in-Ok._whole c.after-printer.result c.intersperse_trivia.new.sink
    c.in_ok-parsed.ensures.parsed c.in-Ok.ensures.steps c.in-Ok.ensures.answer c.in-Ok.ensures.whole)
    c.in-Ok-report_errors.ensures
