use Rattle.std.proofs.Common.{◌≤◌, sym, ◌∙◌}
use Rattle.rap_c.proofs.NoKind.{no_kind}
use Rattle.std.proofs.lemmas.List.{get_or_past}
use Rattle.rap_base.specs.Names.{names}
use Rattle.rap_c.proofs.kind_name.name_bytes.Goals as goal

pub returns-in-None : goal.returns-in-None
returns-in-None c =
    let past : 330 ≤ c.args.kind = no_kind c.args.kind (sym c.kind_of.ensures ∙ c.in-None.is) in
    sym (get_or_past names c.args.kind _ past)
