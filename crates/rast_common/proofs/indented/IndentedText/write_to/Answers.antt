use Rattle.std.proofs.Common.{rules, refl, List}
use Rattle.std.proofs.lemmas.List.{drop_more}
use Rattle.rast_common.proofs.Spelling.{front-bounds, front-more}
use Rattle.rast_common.specs.declared.indented.Indent.{Indent}
use Rattle.rast_common.proofs.indented.IndentedText.write_to.Goals as goal

pub put_line-requires-clause-end : goal.put_line-requires-clause-end
put_line-requires-clause-end g c =
    let items : List Indent = c.as_slice-indent-items.result.now in
    let bounds = front-bounds _ _ _ _ _ _ _ _ (drop_more items c.indents.indent-index (record { at = 0; levels = 0 }) (search rules)) c.indents.invariant in
    search (rules, bounds.1)

pub indents-preserved : goal.indents-preserved
indents-preserved g c =
    let items : List Indent = c.as_slice-indent-items.result.now in
    front-more _ _ _ _ _ _ _ _ _ _ (drop_more items c.indents.indent-index (record { at = 0; levels = 0 }) (search rules)) refl c.indents.invariant c.in_ok-put_line.ensures
