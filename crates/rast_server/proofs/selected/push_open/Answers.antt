use Rattle.std.proofs.Common.{◌++◌, codes, get_or, rules, string_bytes, ap, ◌∙◌}
use Rattle.rast_answers.specs.declared.extent.Extent.{Extent}
use Rattle.rast_server.specs.SelectionText.{extent_text, nested_from}
use Rattle.rast_server.proofs.Nested.{range_written}
use Rattle.rast_server.proofs.selected.push_open.Goals as goal

pub loop-extent-preserved : goal.loop-extent-preserved
loop-extent-preserved c =
    let none : Extent = record { start = 0; end = 0 } in
    let here = extent_text c.args.document.now (get_or c.args.extents.now c.loop-extent.extent-index none) in (
      range_written c.args.document.now c.args.extents.now c.loop-extent.extent-index none c.loop-extent.before.now (string_bytes c.loop-extent.json)
          (string_bytes c.push_range.new.json) (string_bytes c.args.json.now ++ nested_from c.args.document.now (codes "{\"range\":") c.args.extents.now) c.loop-extent-test.true
          (c.in_ok-push_range.ensures ∙ ap (λ l. l ++ here) c.in_ok-push_str.ensures.bytes)
          c.loop-extent.invariant.0,
      search rules,
    )
