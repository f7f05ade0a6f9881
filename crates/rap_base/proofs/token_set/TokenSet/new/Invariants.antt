use Rattle.std.proofs.Common.{◌≡◌, ℕ, ◌==◌, take, length}
use Rattle.std.specs.List.{list_any}
use Rattle.rap_base.specs.TokenSet.{member}
use Rattle.rap_base.proofs.token_set.TokenSet.new.Given as goal

abbrev pub invariant-kinds : goal.invariant-kinds
invariant-kinds l = record {
  size : length l.set.words ≡ 3;
  kinds_so_far : (kind : ℕ) → member l.set kind ≡ list_any (λ k. k == kind) (take l.kind-index l.kinds);
}
