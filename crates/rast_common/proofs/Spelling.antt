-- What is added to a text whose indentations are kept as numbers, and what of it is written.
use Rattle.std.proofs.Common.{◌≡◌, ℕ, zero, suc, ◌+◌, ◌-◌, ◌*◌, ◌≤◌, List, [], ◌∷◌, ◌++◌, Option, None, Some, IfSome, IsSome, refl, ap, sym, subst, ◌∙◌, append_assoc, append-nil, arith, codes, drop, take, length}
use Rattle.std.proofs.KnownBytes.{Appends-trans}
use Rattle.std.proofs.lemmas.List.{drop-append-le, take-append-le, length-drop, drop_all, take_all, length-append}
use Rattle.std.proofs.lemmas.Bool.{false≢true}
use Rattle.std.specs.Io.KnownBytes.{Appends, append_known}
use Rattle.std.specs.List.{slice_range}
use Rattle.rast_common.specs.Indented.{indent}
use Rattle.rast_common.specs.Spelled.{AreInOrder, spelled}
use Rattle.rast_common.specs.declared.indented.Indent.{Indent}

-- ---- the spaces

pub indent-append : (m n : ℕ) → indent m ++ indent n ≡ indent (m + n)
indent-append zero n = let e : n ≡ 0 + n = omega arith in ap indent e
indent-append (suc m) n = let more : suc (m + n) ≡ suc m + n = omega arith in ap (λ l. codes "  " ++ l) (indent-append m n) ∙ ap indent more

take-indent : (n more all : ℕ) → n + more ≡ all → take (2 * n) (indent all) ≡ indent n
take-indent zero more all e = refl
take-indent (suc n) more zero e = let no : ⊥ = omega (arith, e) in absurd no
take-indent (suc n) more (suc all) e =
    let rest : n + more ≡ all = omega (arith, e) in
    let twice : 2 * suc n ≡ suc (suc (2 * n)) = omega arith in
    ap (λ k. take k (indent (suc all))) twice ∙ ap (λ l. codes "  " ++ l) (take-indent n more all rest)

-- a prefix of these spaces
pub spaces_are : (n : ℕ) → n ≤ 32 → take (2 * n) (codes "                                                                ") ≡ indent n
spaces_are n h = take-indent n (32 - n) 32 (omega (arith, h))

-- some of the spaces were added, and then more of them
pub indent-more : (old mid new : Option (List ℕ)) (all left next : ℕ) (bytes : List ℕ) → left ≤ all → next ≤ left → bytes ≡ indent next
    → Appends old mid (indent (all - left)) → Appends mid new bytes → Appends old new (indent (all - (left - next)))
indent-more old mid new all left next bytes le within e p q =
    let so_far : (all - left) + next ≡ all - (left - next) = omega (arith, le, within) in
    let sum : indent (all - left) ++ bytes ≡ indent (all - (left - next)) =
    ap (λ l. indent (all - left) ++ l) e ∙ indent-append (all - left) next ∙ ap indent so_far in
    subst (Appends old new) sum (Appends-trans old mid new (indent (all - left)) bytes p q)

-- ---- the indentations

end-of : (start : ℕ) (is : List Indent) (end : ℕ) → AreInOrder start is end → start ≤ end
end-of start [] end h = h
end-of start (i ∷ is) end h = omega (arith, h.0, end-of i.at is end h.1)

in_order-longer : (start : ℕ) (is : List Indent) (end more : ℕ) → end ≤ more → AreInOrder start is end → AreInOrder start is more
in_order-longer start [] end more le h = omega (arith, le, h)
in_order-longer start (i ∷ is) end more le h = (h.0, in_order-longer i.at is end more le h.1)

pub in_order-append : (start : ℕ) (is : List Indent) (old new more : List ℕ) → new ≡ old ++ more → AreInOrder start is (length old) → AreInOrder start is (length new)
in_order-append start is old new more e h = in_order-longer start is (length old) (length new) (omega (arith, ap length e, length-append old more)) h

pub in_order-push : (start : ℕ) (is : List Indent) (end : ℕ) (i : Indent) → i.at ≡ end → AreInOrder start is end → AreInOrder start (is ++ i ∷ []) end
in_order-push start [] end i here h = (omega (arith, here, h), omega (arith, here))
in_order-push start (x ∷ xs) end i here h = (h.0, in_order-push x.at xs end i here h.1)

-- ---- the text

slice-append : (t more : List ℕ) (start end : ℕ) → start ≤ end → end ≤ length t → slice_range (t ++ more) start end ≡ slice_range t start end
slice-append t more start end le within =
    let room : end - start ≤ length (drop start t) = omega (arith, le, within, length-drop start t) in
    ap (take (end - start)) (drop-append-le start t more (omega (arith, le, within)))
    ∙ take-append-le (end - start) (drop start t) more room

spelled-more : (start : ℕ) (is : List Indent) (t more : List ℕ) → AreInOrder start is (length t) → spelled start is (t ++ more) ≡ spelled start is t ++ more
spelled-more start [] t more h = drop-append-le start t more h
spelled-more start (i ∷ is) t more h =
    let front : List ℕ = slice_range t start i.at in
    ap (λ l. l ++ (indent i.levels ++ spelled i.at is (t ++ more))) (slice-append t more start i.at h.0 (end-of i.at is (length t) h.1))
    ∙ (ap (λ l. front ++ (indent i.levels ++ l)) (spelled-more i.at is t more h.1)
    ∙ (ap (λ l. front ++ l) (sym (append_assoc (indent i.levels) (spelled i.at is t) more))
    ∙ sym (append_assoc front (indent i.levels ++ spelled i.at is t) more)))

pub spelled-append : (start : ℕ) (is : List Indent) (old new more : List ℕ) → new ≡ old ++ more → AreInOrder start is (length old) → spelled start is new ≡ spelled start is old ++ more
spelled-append start is old new more e h = ap (λ t. spelled start is t) e ∙ spelled-more start is old more h

-- what is known to have been added
pub in_order-known : (start : ℕ) (is : List Indent) (old new : List ℕ) (more : Option (List ℕ)) → IsSome more → IfSome more (λ bytes. new ≡ old ++ bytes)
    → AreInOrder start is (length old) → AreInOrder start is (length new)
in_order-known start is old new None known e h = absurd (false≢true known)
in_order-known start is old new (Some bytes) known e h = in_order-append start is old new bytes e h

pub spelled-known : (start : ℕ) (is : List Indent) (old new : List ℕ) (more : Option (List ℕ)) → IfSome more (λ bytes. new ≡ old ++ bytes)
    → AreInOrder start is (length old) → IfSome more (λ bytes. spelled start is new ≡ spelled start is old ++ bytes)
spelled-known start is old new None e h = tt
spelled-known start is old new (Some bytes) e h = spelled-append start is old new bytes e h

pub spelled-push : (start : ℕ) (is : List Indent) (t : List ℕ) (i : Indent) → i.at ≡ length t → AreInOrder start is (length t) → spelled start (is ++ i ∷ []) t ≡ spelled start is t ++ indent i.levels
spelled-push start [] t i here h =
    let rest : drop i.at t ≡ [] = drop_all i.at t (omega (arith, here)) in
    let whole : slice_range t start i.at ≡ drop start t = take_all (i.at - start) (drop start t) (omega (arith, here, length-drop start t)) in
    ap (λ l. l ++ (indent i.levels ++ drop i.at t)) whole ∙ ap (λ l. drop start t ++ l) (ap (λ l. indent i.levels ++ l) rest ∙ append-nil (indent i.levels))
spelled-push start (x ∷ xs) t i here h =
    let front : List ℕ = slice_range t start x.at in
    ap (λ l. front ++ (indent x.levels ++ l)) (spelled-push x.at xs t i here h.1)
    ∙ (ap (λ l. front ++ l) (sym (append_assoc (indent x.levels) (spelled x.at xs t) (indent i.levels)))
    ∙ sym (append_assoc front (indent x.levels ++ spelled x.at xs t) (indent i.levels)))

-- ---- what is written

-- An empty block holds nothing.
empty_block : (known : Option (List ℕ)) (items : List ℕ) → items ≡ [] → Appends known (append_known known items) []
empty_block None items e = tt
empty_block (Some x) items e = ap (λ l. x ++ l) e

-- A block that is written holds no bytes after those that are written.
pub written_block : (before mid after : Option (List ℕ)) (items all : List ℕ) → Appends before (append_known mid items) all → Appends mid after items → Appends before after all
written_block None mid after items all p q = tt
written_block (Some x) None after items all p q = absurd p
written_block (Some x) (Some y) None items all p q = absurd q
written_block (Some x) (Some y) (Some z) items all p q = q ∙ p

-- All of the text was added except the part from a place on.
pub record AddsFront (before known : Option (List ℕ)) (start : ℕ) (is : List Indent) (t all : List ℕ) : Type 0 where
  pub front : List ℕ
  pub added : Appends before known front
  pub split : front ++ spelled start is t ≡ all
  pub in_order : AreInOrder start is (length t)

pub front-none : (before : Option (List ℕ)) (items : List ℕ) (is : List Indent) (t all : List ℕ) → items ≡ [] → spelled 0 is t ≡ all → AreInOrder 0 is (length t)
    → AddsFront before (append_known before items) 0 is t all
front-none before items is t all none e h = record { front = []; added = empty_block before items none; split = e; in_order = h }

pub front-more : (before known after : Option (List ℕ)) (start : ℕ) (rest is : List Indent) (i : Indent) (t all bytes : List ℕ)
    → rest ≡ i ∷ is → bytes ≡ slice_range t start i.at → AddsFront before known start rest t all → Appends known after (bytes ++ indent i.levels)
    → AddsFront before after i.at is t all
front-more before known after start rest is i t all bytes first these h p =
    let levels : List ℕ = indent i.levels in
    let P : List Indent → Type 0 = λ is. AreInOrder start is (length t) in
    record {
      front = h.front ++ (bytes ++ levels);
      added = Appends-trans before known after h.front (bytes ++ levels) h.added p;
      split =
          append_assoc h.front (bytes ++ levels) (spelled i.at is t)
          ∙ ap (λ l. h.front ++ l) (append_assoc bytes levels (spelled i.at is t))
          ∙ ap (λ l. h.front ++ (l ++ (levels ++ spelled i.at is t))) these
          ∙ ap (λ l. h.front ++ spelled start l t) (sym first)
          ∙ h.split;
      in_order = (subst P first h.in_order).1;
    }

pub front-all : (before known mid after : Option (List ℕ)) (start : ℕ) (rest : List Indent) (t all bytes items : List ℕ)
    → rest ≡ [] → bytes ≡ drop start t → AddsFront before known start rest t all → Appends known (append_known mid items) bytes → Appends mid after items
    → Appends before after all
front-all before known mid after start rest t all bytes items none these h p q =
    let whole : h.front ++ bytes ≡ all = ap (λ l. h.front ++ l) these ∙ ap (λ l. h.front ++ spelled start l t) (sym none) ∙ h.split in
    written_block before mid after items all (subst (Appends before (append_known mid items)) whole (Appends-trans before known (append_known mid items) h.front bytes h.added p)) q

-- where the next part begins and ends
pub front-bounds : (before known : Option (List ℕ)) (start : ℕ) (rest is : List Indent) (i : Indent) (t all : List ℕ) → rest ≡ i ∷ is → AddsFront before known start rest t all
    → (start ≤ i.at) × (i.at ≤ length t)
front-bounds before known start rest is i t all first h =
    let P : List Indent → Type 0 = λ is. AreInOrder start is (length t) in
    let here = subst P first h.in_order in
    (here.0, end-of i.at is (length t) here.1)

pub front-end : (before known : Option (List ℕ)) (start : ℕ) (rest : List Indent) (t all : List ℕ) → AddsFront before known start rest t all → start ≤ length t
front-end before known start rest t all h = end-of start rest (length t) h.in_order
