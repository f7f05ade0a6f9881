-- What the room for elements holds after a step.
use Rattle.std.proofs.Common.{◌≡◌, ℕ, zero, suc, ◌+◌, ◌<◌, ◌≤◌, List, [], ◌∷◌, ◌++◌, Some, refl, ap, sym, subst, ◌∙◌, get_or, length, length-append, length-set, map, min, take, arith}
use Rattle.std.specs.Prelude.{slice_set}
use Rattle.std.specs.List.{slice_get}
use Rattle.std.proofs.lemmas.List.{get_or-map, get_or-take, length-map, map-append, map-set, take-append-le, take-set-le, take_all}
use Rattle.std.proofs.lemmas.Option.{get_or_from_slice_get, slice_get_within}
use Rattle.std.proofs.Math.Seq.{take-set-lt}
use Rattle.rap_lexed.specs.StrStep.{str_enter, str_exit, str_token}
use Rattle.rap_ranged.specs.Listed.{ListedElement, no_parent}
use Rattle.rap_ranged.specs.Listing.{Listing, ended, listing_after, newest}
use Rattle.rap_c.specs.Element.{cell}
use Rattle.rap_c.specs.Filling.{overwritten}
use Rattle.rap_c.specs.Lays.{AllPlaced, HoldsElements, IsChain, IsUp, places, ElementRoom}
use Rattle.rap_c.specs.Words.{as_word}
use Rattle.rap_c.specs.declared.element.RapElement.{RapElement}
use Rattle.rap_c.proofs.Written.{overwritten-nothing, overwritten-length}

-- an element by its numbers
abbrev pub numbered : ℕ → ℕ → ℕ → ℕ → ℕ → RapElement
numbered kind start end after parent = record { kind = kind; start = start; end = end; after = after; parent = parent }

-- writing into a room that is filled
pub set_filled : {A : Type 0} (xs ys : List A) (i : ℕ) (y : A) → i < length ys → slice_set (overwritten xs ys) i y ≡ overwritten xs (slice_set ys i y)
set_filled [] ys i y h = refl
set_filled (x ∷ xs) [] i y h = absurd (omega (arith, h))
set_filled (x ∷ xs) (z ∷ zs) zero y h = refl
set_filled (x ∷ xs) (z ∷ zs) (suc i) y h = ap (λ l. z ∷ l) (set_filled xs zs i y (omega (arith, h)))

pub set_next : {A : Type 0} (xs ys : List A) (y : A) → slice_set (overwritten xs ys) (length ys) y ≡ overwritten xs (ys ++ y ∷ [])
set_next [] ys y = refl
set_next (x ∷ xs) [] y = ap (λ l. y ∷ l) (sym (overwritten-nothing xs))
set_next (x ∷ xs) (z ∷ zs) y = ap (λ l. z ∷ l) (set_next xs zs y)

pub get_filled : {A : Type 0} (xs ys : List A) (i : ℕ) (d : A) → i < length ys → i < length xs → get_or (overwritten xs ys) i d ≡ get_or ys i d
get_filled [] ys i d h k = absurd (omega (arith, k))
get_filled (x ∷ xs) [] i d h k = absurd (omega (arith, h))
get_filled (x ∷ xs) (z ∷ zs) zero d h k = refl
get_filled (x ∷ xs) (z ∷ zs) (suc i) d h k = get_filled xs zs i d (omega (arith, h)) (omega (arith, k))

-- the room with a list's elements
abbrev pub filled_with : List RapElement → List ListedElement → List RapElement
filled_with room es = overwritten room (take (places room) (map cell es))

pub places_same : (room : List RapElement) (es : List ListedElement) → places (filled_with room es) ≡ places room
places_same room es = ap (λ n. min n no_parent) (overwritten-length room (take (places room) (map cell es)))

-- one element more
more_in : (room : List RapElement) (es : List ListedElement) (e : ListedElement) → length es < places room → slice_set (filled_with room es) (length es) (cell e) ≡ filled_with room (es ++ e ∷ [])
more_in room es e h =
    let old : take (places room) (map cell es) ≡ map cell es = take_all (places room) (map cell es) (omega (arith, h, length-map es cell)) in
    let new : take (places room) (map cell (es ++ e ∷ [])) ≡ map cell es ++ cell e ∷ [] =
    ap (take (places room)) (map-append cell es (e ∷ []))
    ∙ take_all (places room) (map cell es ++ cell e ∷ []) (omega (arith, h, length-append (map cell es) (cell e ∷ []), length-map es cell)) in
    ap (λ l. slice_set (overwritten room l) (length es) (cell e)) old
    ∙ (ap (λ n. slice_set (overwritten room (map cell es)) n (cell e)) (sym (length-map es cell))
    ∙ (set_next room (map cell es) (cell e) ∙ ap (overwritten room) (sym new)))

more_out : (room : List RapElement) (es : List ListedElement) (e : ListedElement) → places room ≤ length es → filled_with room es ≡ filled_with room (es ++ e ∷ [])
more_out room es e h =
    ap (overwritten room)
    (sym (take-append-le (places room) (map cell es) (cell e ∷ []) (omega (arith, h, length-map es cell))) ∙ ap (take (places room)) (sym (map-append cell es (e ∷ []))))

longer : (n : ℕ) (xs : List RapElement) (i : ℕ) → i < n → i < length xs → i < length (take n xs)
longer zero xs i h k = absurd (omega (arith, h))
longer (suc n) [] i h k = absurd (omega (arith, k))
longer (suc n) (x ∷ xs) zero h k = omega arith
longer (suc n) (x ∷ xs) (suc i) h k = omega (arith, longer n xs i (omega (arith, h)) (omega (arith, k)))

-- one element changes
set_in : (room : List RapElement) (es : List ListedElement) (i : ℕ) (e : ListedElement) → i < places room → i < length es → slice_set (filled_with room es) i (cell e) ≡ filled_with room (slice_set es i e)
set_in room es i e h k =
    let long : i < length (take (places room) (map cell es)) = longer (places room) (map cell es) i h (omega (arith, k, length-map es cell)) in
    set_filled room (take (places room) (map cell es)) i (cell e) long
    ∙ ap (overwritten room) (sym (take-set-lt (places room) (map cell es) i (cell e) h) ∙ ap (take (places room)) (sym (map-set cell es i e)))

set_out : (room : List RapElement) (es : List ListedElement) (i : ℕ) (e : ListedElement) → places room ≤ i → filled_with room es ≡ filled_with room (slice_set es i e)
set_out room es i e h =
    ap (overwritten room) (sym (take-set-le (places room) (map cell es) i (cell e) h) ∙ ap (take (places room)) (sym (map-set cell es i e)))

read_in : (room : List RapElement) (es : List ListedElement) (i : ℕ) (e : ListedElement) (d : RapElement) → i < places room → slice_get es i ≡ Some e → get_or (filled_with room es) i d ≡ cell e
read_in room es i e d h k =
    let low : i < length es = slice_get_within es i e k in
    let long : i < length (take (places room) (map cell es)) = longer (places room) (map cell es) i h (omega (arith, low, length-map es cell)) in
    get_filled room (take (places room) (map cell es)) i d long (omega (arith, h))
    ∙ (get_or-take (places room) (map cell es) i d h
    ∙ (get_or-map cell es i e d low ∙ ap cell (get_or_from_slice_get es i e e k)))

-- the indices of open nodes are those of elements
chain_low : (es : List ListedElement) (i : ℕ) (others : List ℕ) → IsChain es (i ∷ others) → i < length es
chain_low es i others h = slice_get_within es i h.0.0 h.0.1

-- where an element has a place, so has each open node
up_zero : (room n count beyond : ℕ) (es : List ListedElement) (open_nodes : List ℕ) → IsUp room open_nodes beyond n → IsChain es open_nodes → length es < room → (beyond ≡ 0) × IsUp room open_nodes 0 n
up_zero room n count zero es open_nodes h k low = (refl, h)
up_zero room n count (suc b) es [] h k low = absurd h
up_zero room n count (suc b) es (i ∷ others) h k low = absurd (omega (arith, h.0, chain_low es i others k, low))

-- the newest open node is below 2^32
newest_small : (room : ℕ) (open_nodes : List ℕ) → room ≤ no_parent → AllPlaced room open_nodes → newest open_nodes ≤ no_parent
newest_small room [] h k = omega arith
newest_small room (i ∷ others) h k = omega (arith, h, k.0)

small_word : (n : ℕ) → n ≤ no_parent → as_word n ≡ n
small_word n h = omega (arith, h)

-- each element stays where it is, in its node, when others come
get_before : (es xs : List ListedElement) (i : ℕ) (e : ListedElement) → slice_get es i ≡ Some e → slice_get (es ++ xs) i ≡ Some e
get_before [] xs i e h = absurd (omega (arith, slice_get_within [] i e h))
get_before (y ∷ ys) xs zero e h = h
get_before (y ∷ ys) xs (suc i) e h = get_before ys xs i e h

get_after : (es : List ListedElement) (x : ListedElement) → slice_get (es ++ x ∷ []) (length es) ≡ Some x
get_after [] x = refl
get_after (y ∷ ys) x = get_after ys x

chain_more : (es xs : List ListedElement) (open_nodes : List ℕ) → IsChain es open_nodes → IsChain (es ++ xs) open_nodes
chain_more es xs [] h = tt
chain_more es xs (i ∷ others) h = ((h.0.0, get_before es xs i h.0.0 h.0.1, h.0.2), chain_more es xs others h.1)

-- and when one ends
get_set : (es : List ListedElement) (i j : ℕ) (e x : ListedElement) → slice_get es j ≡ Some x → (i ≡ j → e.parent ≡ x.parent) → (y : ListedElement) × (slice_get (slice_set es i e) j ≡ Some y) × (y.parent ≡ x.parent)
get_set [] i j e x h k = absurd (omega (arith, slice_get_within [] j x h))
get_set (y ∷ ys) zero zero e x h k = (e, refl, k refl)
get_set (y ∷ ys) zero (suc j) e x h k = (x, h, refl)
get_set (y ∷ ys) (suc i) zero e x h k = (x, h, refl)
get_set (y ∷ ys) (suc i) (suc j) e x h k = get_set ys i j e x h (λ s. k (ap suc s))

same_there : (es : List ListedElement) (i : ℕ) (d e : ListedElement) → slice_get es i ≡ Some d → slice_get es i ≡ Some e → d ≡ e
same_there es i d e h g = cc

chain_set : (es : List ListedElement) (i : ℕ) (d e : ListedElement) (open_nodes : List ℕ) → slice_get es i ≡ Some d → e.parent ≡ d.parent → IsChain es open_nodes → IsChain (slice_set es i e) open_nodes
chain_set es i d e [] at p h = tt
chain_set es i d e (j ∷ others) at p h =
    let P : ℕ → Type 0 = λ n. slice_get es n ≡ Some d in
    let g = get_set es i j e h.0.0 h.0.1 (λ s. p ∙ ap (λ (x : ListedElement). x.parent) (same_there es j d h.0.0 (subst P s at) h.0.1)) in
    ((g.0, g.1, g.2 ∙ h.0.2), chain_set es i d e others at p h.1)

-- one node more is open, with a place or without
up_more : (room n : ℕ) (open_nodes : List ℕ) (count : ℕ) → count < room → IsUp room open_nodes 0 n → IsUp room (count ∷ open_nodes) 0 count
up_more room n open_nodes count h k = (refl, (h, k.1))

-- a node begins
enter_in : (kind at : ℕ) (old new : ElementRoom) (room : List RapElement) (l : Listing) → l.at ≡ at → HoldsElements room l.elements l.opened old → old.count < places old.elements
    → new.elements ≡ slice_set old.elements old.count (numbered kind (as_word at) (as_word at) 0 old.newest)
    → new.newest ≡ old.count → new.count ≡ old.count + 1 → new.beyond ≡ old.beyond
    → HoldsElements room (listing_after l (str_enter kind)).elements (listing_after l (str_enter kind)).opened new
enter_in kind at old new room l place h low written newest_is count beyond =
    let es : List ListedElement = l.elements in
    let e : ListedElement = record { kind = kind; start = l.at; end = l.at; after = 0; parent = newest l.opened } in
    let low_es : length es < places room = omega (arith, low, h.count, ap places h.is, places_same room es) in
    let z = up_zero (places room) old.newest old.count old.beyond es l.opened h.up h.chain low_es in
    let small : newest l.opened ≤ no_parent = newest_small (places room) l.opened (omega arith) z.1.1 in
    let parent : old.newest ≡ as_word (newest l.opened) = z.1.0 ∙ sym (small_word (newest l.opened) small) in
    let zero_is : 0 ≡ as_word 0 = omega arith in
    let make : ℕ → ℕ → ℕ → RapElement = λ n a p. numbered kind (as_word n) (as_word n) a p in
    let as_cell : make at 0 old.newest ≡ cell e =
    ap (λ n. make n 0 old.newest) (sym place) ∙ (ap (λ n. make l.at n old.newest) zero_is ∙ ap (λ n. make l.at (as_word 0) n) parent) in
    record {
      is =
          written
          ∙ (ap (λ l. slice_set l old.count (make at 0 old.newest)) h.is
          ∙ (ap (λ n. slice_set (filled_with room es) n (make at 0 old.newest)) h.count
          ∙ (ap (λ x. slice_set (filled_with room es) (length es) x) as_cell ∙ more_in room es e low_es)));
      count = omega (arith, count, h.count, length-append es (e ∷ []));
      few = omega (arith, beyond, z.0);
      up =
          let first : new.newest ≡ length es = newest_is ∙ h.count in
          let P : ℕ → ℕ → Type 0 = λ b n. IsUp (places room) (length es ∷ l.opened) b n in
          subst (λ b. P b new.newest) (sym (beyond ∙ z.0)) (subst (P 0) (sym first) (refl, (low_es, z.1.1)));
      chain = ((e, get_after es e, refl), chain_more es (e ∷ []) l.opened h.chain);
    }

pub enter_out : (kind at : ℕ) (old new : ElementRoom) (room : List RapElement) (l : Listing) → HoldsElements room l.elements l.opened old → places old.elements ≤ old.count
    → new.elements ≡ old.elements → new.newest ≡ old.newest → new.count ≡ old.count + 1 → new.beyond ≡ old.beyond + 1
    → HoldsElements room (listing_after l (str_enter kind)).elements (listing_after l (str_enter kind)).opened new
enter_out kind at old new room l h high kept newest_is count beyond =
    let es : List ListedElement = l.elements in
    let e : ListedElement = record { kind = kind; start = l.at; end = l.at; after = 0; parent = newest l.opened } in
    let high_es : places room ≤ length es = omega (arith, high, h.count, ap places h.is, places_same room es) in
    record {
      is = kept ∙ (h.is ∙ more_out room es e high_es);
      count = omega (arith, count, h.count, length-append es (e ∷ []));
      few = omega (arith, beyond, h.few, length-append es (e ∷ []));
      up =
          let P : ℕ → ℕ → Type 0 = λ b n. IsUp (places room) (length es ∷ l.opened) b n in
          let more : new.beyond ≡ suc old.beyond = omega (arith, beyond) in
          subst (λ b. P b new.newest) (sym more) (subst (P (suc old.beyond)) (sym newest_is) (high_es, h.up));
      chain = ((e, get_after es e, refl), chain_more es (e ∷ []) l.opened h.chain);
    }

-- a leaf comes
leaf_in : (kind at end : ℕ) (text : List ℕ) (old new : ElementRoom) (room : List RapElement) (l : Listing) → l.at ≡ at → end ≡ at + length text → HoldsElements room l.elements l.opened old → old.count < places old.elements
    → new.elements ≡ slice_set old.elements old.count (numbered kind (as_word at) (as_word end) (as_word (old.count + 1)) old.newest)
    → new.newest ≡ old.newest → new.count ≡ old.count + 1 → new.beyond ≡ old.beyond
    → HoldsElements room (listing_after l (str_token kind text)).elements (listing_after l (str_token kind text)).opened new
leaf_in kind at end text old new room l place end_is h low written newest_is count beyond =
    let es : List ListedElement = l.elements in
    let e : ListedElement = record { kind = kind; start = l.at; end = l.at + length text; after = length es + 1; parent = newest l.opened } in
    let low_es : length es < places room = omega (arith, low, h.count, ap places h.is, places_same room es) in
    let z = up_zero (places room) old.newest old.count old.beyond es l.opened h.up h.chain low_es in
    let small : newest l.opened ≤ no_parent = newest_small (places room) l.opened (omega arith) z.1.1 in
    let parent : old.newest ≡ as_word (newest l.opened) = z.1.0 ∙ sym (small_word (newest l.opened) small) in
    let end_at : end ≡ l.at + length text = end_is ∙ ap (λ n. n + length text) (sym place) in
    let after_is : old.count + 1 ≡ length es + 1 = ap (λ n. n + 1) h.count in
    let make : ℕ → ℕ → ℕ → ℕ → RapElement = λ n m a p. numbered kind (as_word n) (as_word m) (as_word a) p in
    let as_cell : make at end (old.count + 1) old.newest ≡ cell e =
    ap (λ n. make n end (old.count + 1) old.newest) (sym place)
    ∙ (ap (λ n. make l.at n (old.count + 1) old.newest) end_at
    ∙ (ap (λ n. make l.at (l.at + length text) n old.newest) after_is ∙ ap (λ n. make l.at (l.at + length text) (length es + 1) n) parent)) in
    record {
      is =
          written
          ∙ (ap (λ l. slice_set l old.count (make at end (old.count + 1) old.newest)) h.is
          ∙ (ap (λ n. slice_set (filled_with room es) n (make at end (old.count + 1) old.newest)) h.count
          ∙ (ap (λ x. slice_set (filled_with room es) (length es) x) as_cell ∙ more_in room es e low_es)));
      count = omega (arith, count, h.count, length-append es (e ∷ []));
      few = omega (arith, beyond, z.0);
      up =
          let P : ℕ → ℕ → Type 0 = λ b n. IsUp (places room) l.opened b n in
          subst (λ b. P b new.newest) (sym beyond) (subst (P old.beyond) (sym newest_is) h.up);
      chain = chain_more es (e ∷ []) l.opened h.chain;
    }

pub leaf_out : (kind : ℕ) (text : List ℕ) (old new : ElementRoom) (room : List RapElement) (l : Listing) → HoldsElements room l.elements l.opened old → places old.elements ≤ old.count
    → new.elements ≡ old.elements → new.newest ≡ old.newest → new.count ≡ old.count + 1 → new.beyond ≡ old.beyond
    → HoldsElements room (listing_after l (str_token kind text)).elements (listing_after l (str_token kind text)).opened new
leaf_out kind text old new room l h high kept newest_is count beyond =
    let es : List ListedElement = l.elements in
    let e : ListedElement = record { kind = kind; start = l.at; end = l.at + length text; after = length es + 1; parent = newest l.opened } in
    let high_es : places room ≤ length es = omega (arith, high, h.count, ap places h.is, places_same room es) in
    record {
      is = kept ∙ (h.is ∙ more_out room es e high_es);
      count = omega (arith, count, h.count, length-append es (e ∷ []));
      few = omega (arith, beyond, h.few, length-append es (e ∷ []));
      up =
          let P : ℕ → ℕ → Type 0 = λ b n. IsUp (places room) l.opened b n in
          subst (λ b. P b new.newest) (sym beyond) (subst (P old.beyond) (sym newest_is) h.up);
      chain = chain_more es (e ∷ []) l.opened h.chain;
    }

-- the newest open node ends
abbrev end_of : ListedElement → ℕ → ℕ → ListedElement
end_of e at after = record e { end = at; after = after }

exit_is : (es : List ListedElement) (i at : ℕ) (e : ListedElement) → slice_get es i ≡ Some e → ended es i at (slice_get es i) ≡ slice_set es i (end_of e at (length es))
exit_is es i at e h = ap (ended es i at) h

-- the rooms of what is left
holds_ended : (room : List RapElement) (es fs : List ListedElement) (open_nodes : List ℕ) (new : ElementRoom) → fs ≡ es → HoldsElements room es open_nodes new → HoldsElements room fs open_nodes new
holds_ended room es fs open_nodes new same h = subst (λ l. HoldsElements room l open_nodes new) (sym same) h

exit_past : (at b : ℕ) (old new : ElementRoom) (room : List RapElement) (es : List ListedElement) (open_nodes : List ℕ) → old.beyond ≡ suc b → HoldsElements room es open_nodes old → IsUp (places room) open_nodes (suc b) old.newest
    → new.elements ≡ old.elements → new.newest ≡ old.newest → new.count ≡ old.count → new.beyond ≡ b
    → HoldsElements room (listing_after (record { elements = es; opened = open_nodes; at = at }) str_exit).elements (listing_after (record { elements = es; opened = open_nodes; at = at }) str_exit).opened new
exit_past at b old new room es [] deep h up kept newest_is count beyond = absurd up
exit_past at b old new room es (i ∷ others) deep h up kept newest_is count beyond =
    let e : ListedElement = h.chain.0.0 in
    let f : ListedElement = end_of e at (length es) in
    holds_ended room (slice_set es i f) (ended es i at (slice_get es i)) others new (exit_is es i at e h.chain.0.1) (record {
      is = kept ∙ (h.is ∙ set_out room es i f up.0);
      count = count ∙ (h.count ∙ sym (length-set es i f));
      few = omega (arith, beyond, deep, h.few, length-set es i f);
      up =
          let P : ℕ → ℕ → Type 0 = λ b n. IsUp (places room) others b n in
          subst (λ b. P b new.newest) (sym beyond) (subst (P b) (sym newest_is) up.1);
      chain = chain_set es i e f others h.chain.0.1 refl h.chain.1;
    })

pub exit_beyond : (at : ℕ) (old new : ElementRoom) (room : List RapElement) (l : Listing) → l.at ≡ at → HoldsElements room l.elements l.opened old → 0 < old.beyond
    → new.elements ≡ old.elements → new.newest ≡ old.newest → new.count ≡ old.count → new.beyond + 1 ≡ old.beyond
    → HoldsElements room (listing_after l str_exit).elements (listing_after l str_exit).opened new
exit_beyond at old new room l place h some kept newest_is count beyond =
    let deep : old.beyond ≡ suc new.beyond = omega (arith, beyond) in
    exit_past l.at new.beyond old new room l.elements l.opened deep h (subst (λ b. IsUp (places room) l.opened b old.newest) deep h.up) kept newest_is count refl

exit_placed : (at : ℕ) (old new : ElementRoom) (read d : RapElement) (room : List RapElement) (es : List ListedElement) (open_nodes : List ℕ) → HoldsElements room es open_nodes old → IsUp (places room) open_nodes 0 old.newest
    → old.newest < places room → read ≡ get_or old.elements old.newest d
    → new.elements ≡ slice_set old.elements old.newest (numbered read.kind read.start (as_word at) (as_word old.count) read.parent)
    → new.newest ≡ read.parent → new.count ≡ old.count → new.beyond ≡ 0
    → HoldsElements room (listing_after (record { elements = es; opened = open_nodes; at = at }) str_exit).elements (listing_after (record { elements = es; opened = open_nodes; at = at }) str_exit).opened new
exit_placed at old new read d room es [] h up low is written newest_is count beyond = absurd (omega (arith, up.0, low))
exit_placed at old new read d room es (i ∷ others) h up low is written newest_is count beyond =
    let e : ListedElement = h.chain.0.0 in
    let f : ListedElement = end_of e at (length es) in
    let here : old.newest ≡ i = up.0 in
    let low_i : i < places room = up.1.0 in
    let is_cell : read ≡ cell e =
    is
    ∙ (ap (λ l. get_or l old.newest d) h.is
    ∙ (ap (λ n. get_or (filled_with room es) n d) here ∙ read_in room es i e d low_i h.chain.0.1)) in
    let make : RapElement → ℕ → RapElement = λ x n. numbered x.kind x.start (as_word at) (as_word n) x.parent in
    let last : newest others ≤ no_parent = newest_small (places room) others (omega arith) up.1.1 in
    let up_is : new.newest ≡ newest others = newest_is ∙ (ap (λ (x : RapElement). x.parent) is_cell ∙ (ap as_word h.chain.0.2 ∙ small_word (newest others) last)) in
    holds_ended room (slice_set es i f) (ended es i at (slice_get es i)) others new (exit_is es i at e h.chain.0.1) (record {
      is =
          written
          ∙ (ap (λ l. slice_set l old.newest (make read old.count)) h.is
          ∙ (ap (λ n. slice_set (filled_with room es) n (make read old.count)) here
          ∙ (ap (λ x. slice_set (filled_with room es) i (make x old.count)) is_cell
          ∙ (ap (λ n. slice_set (filled_with room es) i (make (cell e) n)) h.count
          ∙ set_in room es i f low_i (chain_low es i others h.chain)))));
      count = count ∙ (h.count ∙ sym (length-set es i f));
      few = omega (arith, beyond);
      up =
          let P : ℕ → ℕ → Type 0 = λ b n. IsUp (places room) others b n in
          subst (λ b. P b new.newest) (sym beyond) (up_is, up.1.1);
      chain = chain_set es i e f others h.chain.0.1 refl h.chain.1;
    })

exit_in : (at : ℕ) (old new : ElementRoom) (d : RapElement) (room : List RapElement) (l : Listing) → l.at ≡ at → HoldsElements room l.elements l.opened old → old.beyond ≡ 0
    → old.newest < places old.elements → let read : RapElement = get_or old.elements old.newest d in
    new.elements ≡ slice_set old.elements old.newest (numbered read.kind read.start (as_word at) (as_word old.count) read.parent)
    → new.newest ≡ read.parent → new.count ≡ old.count → new.beyond ≡ old.beyond
    → HoldsElements room (listing_after l str_exit).elements (listing_after l str_exit).opened new
exit_in at old new d room l place h none low written newest_is count beyond =
    let read : RapElement = get_or old.elements old.newest d in
    let same : ℕ → RapElement = λ n. numbered read.kind read.start (as_word n) (as_word old.count) read.parent in
    exit_placed l.at old new read d room l.elements l.opened h (subst (λ b. IsUp (places room) l.opened b old.newest) none h.up)
    (omega (arith, low, ap places h.is, places_same room l.elements)) refl (written ∙ ap (λ n. slice_set old.elements old.newest (same n)) (sym place)) newest_is count (beyond ∙ none)

exit_nothing : (at : ℕ) (old new : ElementRoom) (room : List RapElement) (es : List ListedElement) (open_nodes : List ℕ) → HoldsElements room es open_nodes old → IsUp (places room) open_nodes 0 old.newest
    → places room ≤ old.newest → new.elements ≡ old.elements → new.newest ≡ old.newest → new.count ≡ old.count → new.beyond ≡ 0
    → HoldsElements room (listing_after (record { elements = es; opened = open_nodes; at = at }) str_exit).elements (listing_after (record { elements = es; opened = open_nodes; at = at }) str_exit).opened new
exit_nothing at old new room es [] h up high kept newest_is count beyond = record {
  is = kept ∙ h.is;
  count = count ∙ h.count;
  few = omega (arith, beyond);
  up =
      let P : ℕ → ℕ → Type 0 = λ b n. IsUp (places room) [] b n in
      subst (λ b. P b new.newest) (sym beyond) (newest_is ∙ up.0, tt);
  chain = tt;
}
exit_nothing at old new room es (i ∷ others) h up high kept newest_is count beyond = absurd (omega (arith, up.0, up.1.0, high))

pub exit_out : (old new : ElementRoom) (room : List RapElement) (l : Listing) → HoldsElements room l.elements l.opened old → old.beyond ≡ 0
    → places old.elements ≤ old.newest → new.elements ≡ old.elements → new.newest ≡ old.newest → new.count ≡ old.count → new.beyond ≡ old.beyond
    → HoldsElements room (listing_after l str_exit).elements (listing_after l str_exit).opened new
exit_out old new room l h none high kept newest_is count beyond =
    exit_nothing l.at old new room l.elements l.opened h (subst (λ b. IsUp (places room) l.opened b old.newest) none h.up)
    (omega (arith, high, ap places h.is, places_same room l.elements)) kept newest_is count (beyond ∙ none)

-- the same of places of 32 bits, which are written as they are
pub enter_at : (kind at : ℕ) (old new : ElementRoom) (room : List RapElement) (l : Listing) → at ≤ no_parent → l.at ≡ at → HoldsElements room l.elements l.opened old → old.count < places old.elements
    → new.elements ≡ slice_set old.elements old.count (numbered kind at at 0 old.newest)
    → new.newest ≡ old.count → new.count ≡ old.count + 1 → new.beyond ≡ old.beyond
    → HoldsElements room (listing_after l (str_enter kind)).elements (listing_after l (str_enter kind)).opened new
enter_at kind at old new room l small place h low written newest_is count beyond =
    let make : ℕ → List RapElement = λ n. slice_set old.elements old.count (numbered kind n n 0 old.newest) in
    enter_in kind at old new room l place h low (written ∙ ap make (sym (small_word at small))) newest_is count beyond

pub leaf_at : (kind at end : ℕ) (text : List ℕ) (old new : ElementRoom) (room : List RapElement) (l : Listing) → at ≤ no_parent → end ≤ no_parent → l.at ≡ at → end ≡ at + length text → HoldsElements room l.elements l.opened old
    → old.count < places old.elements → new.elements ≡ slice_set old.elements old.count (numbered kind at end (as_word (old.count + 1)) old.newest)
    → new.newest ≡ old.newest → new.count ≡ old.count + 1 → new.beyond ≡ old.beyond
    → HoldsElements room (listing_after l (str_token kind text)).elements (listing_after l (str_token kind text)).opened new
leaf_at kind at end text old new room l small small_end place end_is h low written newest_is count beyond =
    let make : ℕ → ℕ → List RapElement = λ n m. slice_set old.elements old.count (numbered kind n m (as_word (old.count + 1)) old.newest) in
    leaf_in kind at end text old new room l place end_is h low
    (written ∙ (ap (λ n. make n end) (sym (small_word at small)) ∙ ap (make (as_word at)) (sym (small_word end small_end)))) newest_is count beyond

pub exit_at : (at : ℕ) (old new : ElementRoom) (d : RapElement) (room : List RapElement) (l : Listing) → at ≤ no_parent → l.at ≡ at → HoldsElements room l.elements l.opened old → old.beyond ≡ 0
    → old.newest < places old.elements → let read : RapElement = get_or old.elements old.newest d in
    new.elements ≡ slice_set old.elements old.newest (numbered read.kind read.start at (as_word old.count) read.parent)
    → new.newest ≡ read.parent → new.count ≡ old.count → new.beyond ≡ old.beyond
    → HoldsElements room (listing_after l str_exit).elements (listing_after l str_exit).opened new
exit_at at old new d room l small place h none low written newest_is count beyond =
    let read : RapElement = get_or old.elements old.newest d in
    let make : ℕ → List RapElement = λ n. slice_set old.elements old.newest (numbered read.kind read.start n (as_word old.count) read.parent) in
    exit_in at old new d room l place h none low (written ∙ ap make (sym (small_word at small))) newest_is count beyond

-- nothing is written yet
pub nothing_held : (room : List RapElement) (r : ElementRoom) → r.elements ≡ room → r.count ≡ 0 → r.newest ≡ no_parent → r.beyond ≡ 0 → HoldsElements room [] [] r
nothing_held room r same count newest_is beyond =
    let none : take (places room) (map cell []) ≡ [] = take_all (places room) [] (omega arith) in
    record {
      is = same ∙ (sym (overwritten-nothing room) ∙ ap (overwritten room) (sym none));
      count = count;
      few = omega (arith, beyond);
      up =
          let P : ℕ → Type 0 = λ b. IsUp (places room) [] b r.newest in
          subst P (sym beyond) (newest_is, tt);
      chain = tt;
    }
