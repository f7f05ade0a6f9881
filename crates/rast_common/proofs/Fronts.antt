-- Bytes that were written in parts.
use Rattle.std.proofs.Common.{◌≡◌, ℕ, ◌+◌, ◌-◌, List, ◌++◌, Option, sym, subst, ap, ◌∙◌, length, take, drop, arith}
use Rattle.std.proofs.KnownBytes.{Appends-kept, Appends-trans}
use Rattle.std.proofs.Math.Seq.{take-add}
use Rattle.std.proofs.lemmas.List.{length-drop, take_all}
use Rattle.std.specs.Io.KnownBytes.{Appends, Keeps}

-- the first bytes, and then some of those after them
pub front_more : (old mid new : Option (List ℕ)) (bytes : List ℕ) (first more all : ℕ) → all ≡ first + more
    → Appends old mid (take first bytes) → Appends mid new (take more (take (length bytes - first) (drop first bytes))) → Appends old new (take all bytes)
front_more old mid new bytes first more all e p q =
    let rest : take (length bytes - first) (drop first bytes) ≡ drop first bytes = take_all (length bytes - first) (drop first bytes) (omega (arith, length-drop first bytes)) in
    let joined : take first bytes ++ take more (take (length bytes - first) (drop first bytes)) ≡ take all bytes =
    ap (λ l. take first bytes ++ take more l) rest ∙ sym (ap (λ n. take n bytes) e ∙ take-add first more bytes) in
    subst (Appends old new) joined (Appends-trans old mid new (take first bytes) (take more (take (length bytes - first) (drop first bytes))) p q)

-- nothing more
pub front_same : (old mid new : Option (List ℕ)) (bytes : List ℕ) (first all : ℕ) → all ≡ first
    → Appends old mid (take first bytes) → Keeps mid new → Appends old new (take all bytes)
front_same old mid new bytes first all e p q =
    let P : ℕ → Type 0 = λ n. Appends old new (take n bytes) in
    subst P (sym e) (Appends-kept old mid new (take first bytes) p q)
