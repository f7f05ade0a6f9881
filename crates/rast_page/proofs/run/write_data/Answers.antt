use Rattle.rast_page.proofs.Appended.{data_appended}
use Rattle.rast_page.proofs.run.write_data.Goals as goal

pub returns : goal.returns
returns g c =
    data_appended c.args.page.now _ _ _ _ _ _ _ _ c.as_str.ensures.value c.as_str-2.ensures.value c.as_str-3.ensures.value
    c.in_ok-write_both.ensures c.in_ok-write_both-2.ensures c.in_ok-write_both-3.ensures c.in_ok-write_all.ensures.bytes
