use Rattle.std.proofs.Common.{ℕ, List, drop, string_bytes}
use Rattle.rast_document.specs.Changes.{AllChange}
use Rattle.rast_document.specs.Indexed.{AgreeTo}
use Rattle.rast_document.proofs.document.Document.change.Given as goal

abbrev pub invariant-loop-change : goal.invariant-loop-change
invariant-loop-change l = record {
  agree : AgreeTo (string_bytes l.fn.self.text) (string_bytes l.text) l.same;
  reach : (new : List ℕ) → AllChange l.fn.self.encoding (string_bytes l.text) (drop l.change-index l.rest) new
      → AllChange l.fn.self.encoding (string_bytes l.fn.self.text) l.fn.changes new;
  only : (new : List ℕ) → AllChange l.fn.self.encoding (string_bytes l.fn.self.text) l.fn.changes new
      → AllChange l.fn.self.encoding (string_bytes l.text) (drop l.change-index l.rest) new;
}
