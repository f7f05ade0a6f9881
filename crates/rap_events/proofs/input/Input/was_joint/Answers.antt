use Rattle.std.proofs.Common.{◌≡◌, ℕ, ◌+◌, ◌-◌, length, All, List, sym, ap, ◌∙◌, subst, arith}
use Rattle.rap_events.specs.Record.{Record, IsTokenRecord, with_last_joint}
use Rattle.rap_events.specs.Input.{records, Holds}
use Rattle.rap_events.proofs.Columns.{length-records}
use Rattle.rap_events.proofs.Records.{All-with_last_joint}
use Rattle.rap_events.proofs.input.Input.was_joint.Goals as goal

pub overflow_sub-self-inside : goal.overflow_sub-self-inside
overflow_sub-self-inside c = omega (arith, length-records c.self.inside.columns c.self.inside.len, ap length c.self.view_is)

pub set_joint-requires : goal.set_joint-requires
set_joint-requires c =
    let place : (c.self.inside.len - 1) + 1 ≡ c.self.inside.len = omega (arith, length-records c.self.inside.columns c.self.inside.len, ap length c.self.view_is) in
    let P : ℕ → Type 0 = λ n. Holds c.self.inside.columns n in
    subst P (sym place) c.self.invariant.0

pub invariant_of-self : goal.invariant_of-self
invariant_of-self c =
    let place : (c.self.inside.len - 1) + 1 ≡ c.self.inside.len = omega (arith, length-records c.self.inside.columns c.self.inside.len, ap length c.self.view_is) in
    let P : ℕ → Type 0 = λ n. Holds c.set_joint.new.self n in
    let Q : ℕ → Type 0 = λ n. records c.set_joint.new.self n ≡ with_last_joint (records c.self.inside.columns n) in
    let R : List Record → Type 0 = λ rs. All IsTokenRecord rs in
    (subst P place c.set_joint.ensures.holds, subst R (sym (subst Q place c.set_joint.ensures.records)) (All-with_last_joint _ c.self.invariant.1))

pub returns : goal.returns
returns c =
    let place : (c.self.inside.len - 1) + 1 ≡ c.self.inside.len = omega (arith, length-records c.self.inside.columns c.self.inside.len, ap length c.self.view_is) in
    let Q : ℕ → Type 0 = λ n. records c.set_joint.new.self n ≡ with_last_joint (records c.self.inside.columns n) in
    subst Q place c.set_joint.ensures.records ∙ ap with_last_joint c.self.view_is
