use Rattle.std.proofs.Common.{◌∙◌, ◌≤◌, subst}
use Rattle.rap_base.specs.NodeKind.{PATH_META}
use Rattle.rap_base.proofs.Named.{table-names}
use Rattle.rap_base.proofs.syntax_kind.SyntaxKind.name.Goals as goal

pub returns : goal.returns
returns c =
    let last = subst (λ kind. kind ≤ PATH_META) c.self.view_is c.self.invariant in
    table-names c.numbered.result.now c.from.result _ _ c.numbered.ensures.table (c.from.ensures ∙ c.self.view_is) last
