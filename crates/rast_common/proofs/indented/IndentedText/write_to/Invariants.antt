use Rattle.std.proofs.Common.{drop}
use Rattle.std.specs.Io.KnownBytes.{append_known}
use Rattle.rast_common.proofs.Spelling.{AddsFront}
use Rattle.rast_common.proofs.indented.IndentedText.write_to.Given as goal

abbrev pub invariant-indents : goal.invariant-indents
invariant-indents g l = AddsFront (g.W.Write.contents l.fn.out) (append_known (g.W.Write.contents l.out) l.block) l.from (drop l.indent-index l.indent-items) l.text l.fn.self
