use Rattle.std.proofs.Common.{rules, arith, ◌<◌, ◌/◌, length, refl}
use Rattle.std.proofs.lemmas.Grind.{common_steps}
use Rattle.rap_base.specs.TokenSet.{member}
use Rattle.rap_base.proofs.TokenSets.{with_next, without_kinds}
use Rattle.rap_base.proofs.token_set.TokenSet.new.Goals as goal

pub kinds-init : goal.kinds-init
unfolding member
kinds-init c = record { size = refl; kinds_so_far = without_kinds }

pub kinds-preserved : goal.kinds-preserved
unfolding member
kinds-preserved c =
    let token : c.from-number.result < 157 = grind (arith, common_steps) in
    let within : c.from-number.result / 64 < length c.kinds.set.words = omega (arith, c.kinds.invariant.size) in
    record {
      size = search rules;
      kinds_so_far = λ k. with_next _ _ _ _ k within c.kinds-test.true (search rules) (c.kinds.invariant.kinds_so_far k);
    }

pub returns : goal.returns
returns c = λ k. grind (arith, common_steps, c.kinds.invariant.kinds_so_far k)
