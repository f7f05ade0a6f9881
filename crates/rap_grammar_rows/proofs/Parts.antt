-- The part at a place, by its numbers.
use Rattle.std.proofs.Common.{◌≡◌, ℕ, zero, suc, ◌+◌, ◌<◌, List, [], ◌∷◌, drop, length, get_or, refl, sym, ap, ◌∙◌, subst, arith}
use Rattle.rap_grammar_rows.specs.Code.{forms, firsts, seconds, nexts, sets, turns}
use Rattle.rap_grammar_rows.specs.Decode.{AreAt, category_of, form_of, item_at, build, parts_of, set_in, words_in, turn_in}
use Rattle.rap_grammar_rows.specs.Guards.{guards, guard_at}
use Rattle.rap_grammar_rows.specs.Meaning.{at_place}
use Rattle.rap_grammar_rows.specs.Rows.{all_parts}
use Rattle.rap_grammar_table.specs.Table.{tok, word, comp, cat, Items, nil, begin, close, piece, choice, repeat, group, folds, way, unless}

item_drop : (n k m : ℕ) (is : List Items) → m ≡ n + k → item_at k (drop n is) ≡ item_at m is
item_drop zero k m is e = let f : m ≡ k = omega arith in ap (λ (i : ℕ). item_at i is) (sym f)
item_drop (suc n) k m [] e = refl
item_drop (suc n) k zero (i ∷ is) e = absurd (omega arith)
item_drop (suc n) k (suc m) (i ∷ is) e = let f : m ≡ n + k = omega arith in item_drop n k m is f

built_at : (p : ℕ) (fs xs ys ns : List ℕ) → p < length fs → p < length xs → p < length ys → p < length ns →
    item_at p (parts_of fs xs ys ns) ≡
    build (form_of (get_or fs p 0)) (get_or xs p 0) (get_or ys p 0) (get_or ns p 0) (drop (suc p) (parts_of fs xs ys ns))
unfolding parts_of
built_at p [] xs ys ns a b c d = absurd (omega arith)
built_at p (f ∷ fs) [] ys ns a b c d = absurd (omega arith)
built_at p (f ∷ fs) (x ∷ xs) [] ns a b c d = absurd (omega arith)
built_at p (f ∷ fs) (x ∷ xs) (y ∷ ys) [] a b c d = absurd (omega arith)
built_at zero (f ∷ fs) (x ∷ xs) (y ∷ ys) (n ∷ ns) a b c d = refl
built_at (suc p) (f ∷ fs) (x ∷ xs) (y ∷ ys) (n ∷ ns) a b c d =
    built_at p fs xs ys ns (omega arith) (omega arith) (omega arith) (omega arith)

forms_length : length forms ≡ 3356
unfolding forms
forms_length = refl

firsts_length : length firsts ≡ 3356
unfolding firsts
firsts_length = refl

seconds_length : length seconds ≡ 3356
unfolding seconds
seconds_length = refl

nexts_length : length nexts ≡ 3356
unfolding nexts
nexts_length = refl

pub part_is : (p f x y n : ℕ) → AreAt p f x y n → at_place p ≡ build (form_of f) x y n (drop (suc p) all_parts)
unfolding all_parts
part_is p f x y n h =
    let b : item_at p (parts_of forms firsts seconds nexts) ≡ build (form_of (get_or forms p 0)) (get_or firsts p 0) (get_or seconds p 0) (get_or nexts p 0) (drop (suc p) (parts_of forms firsts seconds nexts)) =
    built_at p forms firsts seconds nexts (omega (arith, forms_length, h.inside)) (omega (arith, firsts_length, h.inside)) (omega (arith, seconds_length, h.inside)) (omega (arith, nexts_length, h.inside)) in
    rw (h.form_is, h.first_is, h.second_is, h.next_is) b

behind_is : (p n m : ℕ) → m ≡ p + 1 + n → item_at n (drop (suc p) all_parts) ≡ at_place m
behind_is p n m e = item_drop (suc p) n m all_parts (omega arith)

-- the part of each form
of_form : (p f x y n g : ℕ) → AreAt p f x y n → f ≡ g → at_place p ≡ build (form_of g) x y n (drop (suc p) all_parts)
of_form p f x y n g h e = subst (λ (i : ℕ). at_place p ≡ build (form_of i) x y n (drop (suc p) all_parts)) e (part_is p f x y n h)

pub end_is : (p f x y n : ℕ) → AreAt p f x y n → f ≡ 0 → at_place p ≡ nil
end_is p f x y n h e = of_form p f x y n 0 h e

pub start_is : (p f x y n m : ℕ) → AreAt p f x y n → f ≡ 1 → m ≡ p + 1 + n → at_place p ≡ begin (at_place m)
start_is p f x y n m h e i = of_form p f x y n 1 h e ∙ ap begin (behind_is p n m i)

pub close_is : (p f x y n m : ℕ) → AreAt p f x y n → f ≡ 2 → m ≡ p + 1 + n → at_place p ≡ close x (at_place m)
close_is p f x y n m h e i = of_form p f x y n 2 h e ∙ ap (λ (w : Items). close x w) (behind_is p n m i)

pub token_is : (p f x y n s w m : ℕ) → AreAt p f x y n → f ≡ 3 → s ≡ x → w ≡ y → m ≡ p + 1 + n →
    at_place p ≡ piece (tok (set_in s sets) (words_in w sets)) (at_place m)
token_is p f x y n s w m h e i j k = rw (i, j, ← behind_is p n m k) (of_form p f x y n 3 h e)

pub word_is : (p f x y n m : ℕ) → AreAt p f x y n → f ≡ 4 → m ≡ p + 1 + n → at_place p ≡ piece (word x) (at_place m)
word_is p f x y n m h e i = of_form p f x y n 4 h e ∙ ap (λ (w : Items). piece (word x) w) (behind_is p n m i)

pub operator_is : (p f x y n m : ℕ) → AreAt p f x y n → f ≡ 5 → m ≡ p + 1 + n →
    at_place p ≡ piece (comp x) (at_place m)
operator_is p f x y n m h e i = of_form p f x y n 5 h e ∙ ap (λ (w : Items). piece (comp x) w) (behind_is p n m i)

pub category_is : (p f x y n m : ℕ) → AreAt p f x y n → f ≡ 6 → m ≡ p + 1 + n →
    at_place p ≡ piece (cat (category_of x)) (at_place m)
category_is p f x y n m h e i = of_form p f x y n 6 h e ∙ ap (λ (w : Items). piece (cat (category_of x)) w) (behind_is p n m i)

pub choice_is : (p f x y n a b m : ℕ) → AreAt p f x y n → f ≡ 7 → a ≡ p + 1 + x → b ≡ p + 1 + y → m ≡ p + 1 + n →
    at_place p ≡ choice (at_place a) (at_place b) (at_place m)
choice_is p f x y n a b m h e i j k = rw (← behind_is p x a i, ← behind_is p y b j, ← behind_is p n m k) (of_form p f x y n 7 h e)

pub repeat_is : (p f x y n a b m : ℕ) → AreAt p f x y n → f ≡ 8 → a ≡ p + 1 + x → b ≡ p + 1 + y → m ≡ p + 1 + n →
    at_place p ≡ repeat (at_place a) (at_place b) (at_place m)
repeat_is p f x y n a b m h e i j k = rw (← behind_is p x a i, ← behind_is p y b j, ← behind_is p n m k) (of_form p f x y n 8 h e)

pub group_is : (p f x y n a m : ℕ) → AreAt p f x y n → f ≡ 9 → a ≡ p + 1 + x → m ≡ p + 1 + n →
    at_place p ≡ group (at_place a) (at_place m)
group_is p f x y n a m h e i k = rw (← behind_is p x a i, ← behind_is p n m k) (of_form p f x y n 9 h e)

pub folds_is : (p f x y n a m : ℕ) → AreAt p f x y n → f ≡ 10 → a ≡ p + 1 + x → m ≡ p + 1 + n →
    at_place p ≡ folds y (at_place a) (at_place m)
folds_is p f x y n a m h e i k = rw (← behind_is p x a i, ← behind_is p n m k) (of_form p f x y n 10 h e)

pub turn_is : (p f x y n t a m : ℕ) → AreAt p f x y n → f ≡ 11 → t ≡ y → a ≡ p + 1 + x → m ≡ p + 1 + n →
    at_place p ≡ way (set_in (turn_in t turns).0 sets) (at_place a) (turn_in t turns).1 (at_place m)
turn_is p f x y n t a m h e i j k = rw (i, ← behind_is p x a j, ← behind_is p n m k) (of_form p f x y n 11 h e)

pub guard_is : (p f x y n t m : ℕ) → AreAt p f x y n → f ≡ 12 → t ≡ x → m ≡ p + 1 + n →
    at_place p ≡ unless (guard_at t guards).0 (guard_at t guards).1 (at_place m)
guard_is p f x y n t m h e i j = rw (i, ← behind_is p n m j) (of_form p f x y n 12 h e)
