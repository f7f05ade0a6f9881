-- Whether a node that is parsed again stands in a row as its category's own row has it.
use Rattle.std.proofs.Common.{◌≡◌, ◌==◌, ◌&&◌, ◌||◌, ℕ, zero, suc, Bool, true, false, not, List, [], ◌∷◌, Option, Some, None, refl, ap}
use Rattle.rap_base.specs.TokenKind.{L_CURLY}
use Rattle.rap_events.proofs.Truth.{and_left, and_right}
use Rattle.rap_grammar_table.proofs.Places.{same_category, same_category_so}
use Rattle.rap_grammar_table.specs.Rows.{grammar}
use Rattle.rap_grammar_table.specs.Again.{category_in, parsed_again}
use Rattle.rap_grammar_table.specs.Category.{AssocItems, Attr, Block, ExternItems, ItemList, MatchArms, RecordFields, RecordValues, TokenTree, UseTrees, Variants, Category}
use Rattle.rap_grammar_table.specs.Known.{among}
use Rattle.rap_grammar_table.specs.Shapes.{same_kinds}
use Rattle.rap_grammar_table.specs.Table.{Piece, tok, word, comp, cat, Items, nil, begin, close, piece, choice, repeat, turns_of, group, folds, folding, way, unless, appended, row_at}
use Rattle.rap_grammar_table.proofs.Known.{same_number}

-- the same words, pieces, and parts of rows
abbrev pub same_words : Option (List ℕ) → Option (List ℕ) → Bool
same_words None None = true
same_words (Some ks) (Some js) = same_kinds ks js
same_words v w = false

abbrev pub same_piece : Piece → Piece → Bool
same_piece (tok ks v) (tok js w) = same_kinds ks js && same_words v w
same_piece (word k) (word j) = k == j
same_piece (comp k) (comp j) = k == j
same_piece (cat c) (cat d) = same_category c d
same_piece p q = false

abbrev pub same_items : Items → Items → Bool
same_items nil nil = true
same_items (begin a) (begin b) = same_items a b
same_items (close k a) (close j b) = (k == j) && same_items a b
same_items (piece p a) (piece q b) = same_piece p q && same_items a b
same_items (choice a b c) (choice x y z) = same_items a x && (same_items b y && same_items c z)
same_items (repeat a b c) (repeat x y z) = same_items a x && (same_items b y && same_items c z)
same_items a b = false

pub same_kinds_so : (ks js : List ℕ) → same_kinds ks js ≡ true → ks ≡ js
same_kinds_so [] [] h = refl
same_kinds_so (k ∷ ks) (j ∷ js) h =
    rw (same_number k j (and_left (k == j) _ h), same_kinds_so ks js (and_right (k == j) _ h)) refl
same_kinds_so ks js h = absurd cc

same_words_so : (v w : Option (List ℕ)) → same_words v w ≡ true → v ≡ w
same_words_so None None h = refl
same_words_so (Some ks) (Some js) h = ap (λ (x : List ℕ). Some x) (same_kinds_so ks js h)
same_words_so v w h = absurd cc

pub same_piece_so : (p q : Piece) → same_piece p q ≡ true → p ≡ q
same_piece_so (tok ks v) (tok js w) h =
    rw (same_kinds_so ks js (and_left (same_kinds ks js) _ h), same_words_so v w (and_right (same_kinds ks js) _ h))
    refl
same_piece_so (word k) (word j) h = ap (λ (n : ℕ). word n) (same_number k j h)
same_piece_so (comp k) (comp j) h = ap (λ (n : ℕ). comp n) (same_number k j h)
same_piece_so (cat c) (cat d) h = ap (λ (n : Category). cat n) (same_category_so c d h)
same_piece_so p q h = absurd cc

pub same_items_so : (a b : Items) → same_items a b ≡ true → a ≡ b
same_items_so nil nil h = refl
same_items_so (begin a) (begin b) h = ap (λ (x : Items). begin x) (same_items_so a b h)
same_items_so (close k a) (close j b) h =
    rw (same_number k j (and_left (k == j) _ h), same_items_so a b (and_right (k == j) _ h)) refl
same_items_so (piece p a) (piece q b) h =
    rw (same_piece_so p q (and_left (same_piece p q) _ h), same_items_so a b (and_right (same_piece p q) _ h)) refl
same_items_so (choice a b c) (choice x y z) h =
    let i = and_right (same_items a x) _ h in
    rw (
      same_items_so a x (and_left (same_items a x) _ h),
      same_items_so b y (and_left (same_items b y) _ i),
      same_items_so c z (and_right (same_items b y) _ i),
    ) refl
same_items_so (repeat a b c) (repeat x y z) h =
    let i = and_right (same_items a x) _ h in
    rw (
      same_items_so a x (and_left (same_items a x) _ h),
      same_items_so b y (and_left (same_items b y) _ i),
      same_items_so c z (and_right (same_items b y) _ i),
    ) refl
same_items_so a b h = absurd cc

-- A category's row that is followed so far by what stands in the newest open node, and what is left of it.
pub record Followed : Type 0 where
  pub category : Category
  pub left : Items

abbrev pub if_same : Bool → Followed → List Followed → List Followed
if_same true q qs = q ∷ qs
if_same false q qs = qs

-- past a piece, and past turns
abbrev pub past_piece : Piece → Category → Items → List Followed → List Followed
past_piece p c (piece q is) qs = if_same (same_piece q p) (record { category = c; left = is }) qs
past_piece p c is qs = qs

abbrev pub step_piece : Piece → List Followed → List Followed
step_piece p [] = []
step_piece p (q ∷ qs) = past_piece p q.category q.left (step_piece p qs)

abbrev pub past_turns : Items → Items → Category → Items → List Followed → List Followed
past_turns a z c (repeat b y is) qs =
    if_same (same_items b a && same_items y z) (record { category = c; left = is }) qs
past_turns a z c is qs = qs

abbrev pub step_turns : Items → Items → List Followed → List Followed
step_turns a z [] = []
step_turns a z (q ∷ qs) = past_turns a z q.category q.left (step_turns a z qs)

-- one of them ends with the node, under its kind
abbrev pub is_category : Option Category → Category → Bool
is_category None c = false
is_category (Some d) c = same_category d c

abbrev pub ends_one : ℕ → Category → Items → Bool
ends_one k c (close j nil) = (j == k) && is_category (category_in parsed_again k) c
ends_one k c is = false

abbrev pub ends_some : ℕ → List Followed → Bool
ends_some k [] = false
ends_some k (q ∷ qs) = ends_one k q.category q.left || ends_some k qs

abbrev pub is_none : Option Category → Bool
is_none None = true
is_none (Some c) = false

-- what comes next begins with no brace
abbrev pub no_brace_first : Items → Bool
no_brace_first (begin is) = no_brace_first is
no_brace_first (piece (tok kinds words) is) = not (among kinds L_CURLY)
no_brace_first (piece (cat c) is) = same_category c Attr
no_brace_first is = false

-- that is told of the newest open node where nothing is in it yet
abbrev pub told_first : Bool → Items → List Bool → List Bool
told_first true is (f ∷ fs) = no_brace_first is ∷ fs
told_first true is [] = []
told_first false is fs = fs

abbrev pub every_way : (Items → Bool) → Items → Bool
every_way f (way js a m ws) = f a && every_way f ws
every_way f is = true

-- a category's first row, or another, without its beginning
abbrev pub behind_begin : Option Items → Items
behind_begin (Some (begin is)) = is
behind_begin r = nil

abbrev pub followed_from : Category → ℕ → Followed
followed_from c n = record { category = c; left = behind_begin (row_at n (grammar c)) }

abbrev pub all_followed : List Followed
all_followed =
    followed_from Block 0 ∷ followed_from RecordFields 0 ∷ followed_from RecordValues 0 ∷ followed_from Variants 0 ∷
    followed_from MatchArms 0 ∷ followed_from UseTrees 0 ∷ followed_from ExternItems 0 ∷ followed_from TokenTree 2 ∷
    followed_from AssocItems 0 ∷ followed_from ItemList 0 ∷ []

-- Each node that is parsed again is all of such a row, or begins with no brace: of what is left of a row, where such
-- rows are followed so far in the newest open node, whether nothing is in it, and which open nodes begin with no brace.
abbrev pub parts_so : ℕ → List Followed → Bool → List Bool → Items → Bool
parts_so zero qs new fs is = false
parts_so (suc d) qs new fs nil = true
parts_so (suc d) qs new fs (begin is) = parts_so d all_followed true (false ∷ told_first new (begin is) fs) is
parts_so (suc d) qs new [] (close k is) = false
parts_so (suc d) qs new (f ∷ fs) (close k is) =
    (is_none (category_in parsed_again k) || (f || ends_some k qs)) && parts_so d [] false fs is
parts_so (suc d) qs new fs (piece p is) = parts_so d (step_piece p qs) false (told_first new (piece p is) fs) is
parts_so (suc d) qs new fs (choice a b is) =
    parts_so d qs new fs (appended a is) && parts_so d qs new fs (appended b is)
parts_so (suc d) qs new fs (repeat a z is) =
    (parts_so d [] false [] a && parts_so d [] false [] z) && parts_so d (step_turns a z qs) false fs is
parts_so (suc d) qs new fs (turns_of a z) = parts_so d [] false [] a && parts_so d [] false [] z
parts_so (suc d) qs new fs (group a is) = parts_so d [] false [] a && parts_so d [] false fs is
parts_so (suc d) qs new fs (folds n ws is) =
    every_way (λ a. parts_so d [] false (false ∷ []) a) ws && parts_so d [] false fs is
parts_so (suc d) qs new fs (folding n ws) = every_way (λ a. parts_so d [] false (false ∷ []) a) ws
parts_so (suc d) qs new fs (way js a m ws) = false
parts_so (suc d) qs new fs (unless h w is) = parts_so d qs new fs is
