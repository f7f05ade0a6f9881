use Rattle.std.proofs.Common.{◌≡◌, string_bytes}
use Rattle.std.specs.List.{filter_map}
use Rattle.rast_answers.specs.declared.highlights.Subject.TheVariants.{Node}
use Rattle.rast_answers.specs.Highlights.{highlight_at}
use Rattle.rast_answers.specs.Jumps.{is_body, label_in}
use Rattle.rast_answers.specs.Reaches.{IsReach}
use Rattle.rast_answers.specs.Rows.{indices_to}
use Rattle.rast_answers.proofs.highlights.highlights_of_node.Given as goal

abbrev pub invariant-leaves : goal.invariant-leaves
invariant-leaves l = record {
  list : l.list.items ≡ filter_map (highlight_at (string_bytes l.document.text) l.elements (Node l.node)) (indices_to l.index);
  body : l.body ≡ is_body l.elements l.node;
  label : l.label ≡ label_in l.elements l.node;
  reach : IsReach (string_bytes l.document.text) l.elements l.node l.index l.reach;
}
