use Rattle.std.proofs.Common.{sym, ◌∙◌, arith}
use Rattle.std.specs.Cmp.Lexicographic.{other_text}
use Rattle.rap_base.specs.Names.{name_of}
use Rattle.rap_c.proofs.NoKind.{none_next}
use Rattle.rap_c.proofs.kind_name.rap_kind_of_name.Goals as goal

pub kinds-preserved : goal.kinds-preserved
kinds-preserved c =
    none_next name_of c.args.name.now c.kinds.kind c.kinds.invariant
    (λ e. other_text c.name_bytes.result.now c.args.name.now (sym c.if-eq.false ∙ c.eq.ensures) (c.name_bytes.ensures ∙ e))

pub returns-clause-first : goal.returns-clause-first
returns-clause-first c = λ kind low. c.kinds.invariant kind (omega (arith, low, c.kinds-test.false))
