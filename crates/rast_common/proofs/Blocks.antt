-- What is added to a block.
use Rattle.std.proofs.Common.{◌≡◌, ℕ, ◌+◌, ◌≤◌, List, ◌++◌, Option, None, Some, ap, sym, ◌∙◌, append_assoc, arith, length, take}
use Rattle.std.proofs.Math.Seq.{take-append-add}
use Rattle.std.proofs.lemmas.List.{take-append-le, length-take-le}
use Rattle.std.specs.Io.KnownBytes.{Appends, append_known}
use borrow.Rule.Slice.PartMut.{put_mid, post_of}

-- the first of the bytes that were copied behind those of the block
pub front_of_mid : (a k n e : ℕ) (xs ys : List ℕ) → a ≤ length xs → n ≤ length ys → e ≡ a + n → take e (put_mid a k xs ys) ≡ take a xs ++ take n ys
front_of_mid a k n e xs ys within few same =
    let here : length (take a xs) ≡ a = length-take-le a xs within in
    let end : e ≡ length (take a xs) + n = omega (arith, here, same) in
    ap (λ m. take m (put_mid a k xs ys)) end
    ∙ (take-append-add (take a xs) (ys ++ post_of a k xs) n
    ∙ ap (λ l. take a xs ++ l) (take-append-le n ys (post_of a k xs) few))

-- two parts were added to a block, and nothing was written
pub added_two : (known : Option (List ℕ)) (old mid new x y : List ℕ) → mid ≡ old ++ x → new ≡ mid ++ y → Appends (append_known known old) (append_known known new) (x ++ y)
added_two None old mid new x y p q = tt
added_two (Some b) old mid new x y p q =
    let whole : new ≡ old ++ (x ++ y) = q ∙ ap (λ l. l ++ y) p ∙ append_assoc old x y in
    ap (λ l. b ++ l) whole ∙ sym (append_assoc b old (x ++ y))
