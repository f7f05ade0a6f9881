use Rattle.std.proofs.Common.{refl}
use Rattle.rast_page.proofs.RowsAlong.{rows_whole}
use Rattle.rast_page.proofs.Shown.{inert_page}
use Rattle.rast_page.proofs.run.page_of.Goals as goal

pub returns-clause-page : goal.returns-clause-page
returns-clause-page c =
    let rows = rows_whole c.args.text.now c.args.edition c.args.entry c.in_ok-parsed.parsed.lexed c.in_ok-parsed.parsed.whole c.new-rows.result c.parse_text.new.sink c.report_errors.new.sink c.new-rows.ensures.steps c.new-rows.ensures.messages c.in_ok-parsed.ensures.parsed c.in-Ok.ensures in
    record {
      frame_is = refl;
      name = c.in-Ok-name_of_file.ensures;
      rows = rows;
      inert = inert_page c.args.file.now c.args.text.now c.args.edition c.args.entry _ _ c.in-Ok-name_of_file.ensures rows;
    }
