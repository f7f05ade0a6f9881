-- A list is split at the first or the last of its marks: what stands before it, and behind it.
use Rattle.std.proofs.Common.{◌≡◌, ◌||◌, ℕ, Bool, true, false, List, [], ◌∷◌, ◌++◌, Option, Some, None, if◌then◌else◌, refl, ap, sym, ◌∙◌}
use Rattle.std.specs.List.{filter, last_or, slice_get}
use Rattle.rap_events.proofs.Truth.{or_left, or_right}
use Rattle.rap_fields.specs.Place.{before_first, before_last, behind_first, has_mark}

-- Truth values.
pub by_bool : {A : Type 0} (b : Bool) → (b ≡ true → A) → (b ≡ false → A) → A
by_bool true f g = f refl
by_bool false f g = g refl

pub if_true : {A : Type 0} (b : Bool) (x y : A) → b ≡ true → (if b then x else y) ≡ x
if_true true x y h = refl
if_true false x y h = absurd cc

pub if_false : {A : Type 0} (b : Bool) (x y : A) → b ≡ false → (if b then x else y) ≡ y
if_false true x y h = absurd cc
if_false false x y h = refl

pub or_rest : (b c : Bool) → b ≡ false → (b || c) ≡ true → c ≡ true
or_rest true c h i = absurd cc
or_rest false c h i = i

pub not_left : (b c : Bool) → (b || c) ≡ false → b ≡ false
not_left true c h = absurd cc
not_left false c h = refl

pub not_right : (b c : Bool) → (b || c) ≡ false → c ≡ false
not_right true c h = absurd cc
not_right false c h = h

-- Marks in two lists.
pub has-++ : {A : Type 0} (m : A → Bool) (cs ds : List A) → has_mark m (cs ++ ds) ≡ (has_mark m cs || has_mark m ds)
has-++ m [] ds = refl
has-++ m (c ∷ cs) ds =
    ap (λ b. m c || b) (has-++ m cs ds) ∙ more (m c) (has_mark m cs) (has_mark m ds)
  where
    more : (t u v : Bool) → (t || (u || v)) ≡ ((t || u) || v)
    more true u v = refl
    more false u v = refl

pub none_first : {A : Type 0} (m : A → Bool) (cs ds : List A) → has_mark m (cs ++ ds) ≡ false → has_mark m cs ≡ false
none_first m cs ds h = not_left (has_mark m cs) (has_mark m ds) (sym (has-++ m cs ds) ∙ h)

pub none_second : {A : Type 0} (m : A → Bool) (cs ds : List A) → has_mark m (cs ++ ds) ≡ false → has_mark m ds ≡ false
none_second m cs ds h = not_right (has_mark m cs) (has_mark m ds) (sym (has-++ m cs ds) ∙ h)

pub some_second : {A : Type 0} (m : A → Bool) (cs ds : List A) → has_mark m cs ≡ false → has_mark m (cs ++ ds) ≡ true
    → has_mark m ds ≡ true
some_second m cs ds n h = or_rest (has_mark m cs) (has_mark m ds) n (sym (has-++ m cs ds) ∙ h)

pub some_first : {A : Type 0} (m : A → Bool) (cs ds : List A) → has_mark m ds ≡ false → has_mark m (cs ++ ds) ≡ true
    → has_mark m cs ≡ true
some_first m cs ds n h = left_one (has_mark m cs) (has_mark m ds) n (sym (has-++ m cs ds) ∙ h)
  where
    left_one : (b c : Bool) → c ≡ false → (b || c) ≡ true → b ≡ true
    left_one true c i j = refl
    left_one false true i j = absurd cc
    left_one false false i j = absurd cc

-- The parts of two lists.
pub same_else : {A : Type 0} (b : Bool) (x y z : A) → (b ≡ false → y ≡ z) → (if b then x else y) ≡ (if b then x else z)
same_else true x y z f = refl
same_else false x y z f = f refl

pub first_in : {A : Type 0} (m : A → Bool) (cs ds : List A) → has_mark m cs ≡ true → before_first m (cs ++ ds) ≡ before_first m cs
first_in m [] ds h = absurd cc
first_in m (c ∷ cs) ds h =
    same_else (m c) [] (c ∷ before_first m (cs ++ ds)) (c ∷ before_first m cs)
    (λ e. ap (λ l. c ∷ l) (first_in m cs ds (or_rest (m c) (has_mark m cs) e h)))

pub first_past : {A : Type 0} (m : A → Bool) (cs ds : List A) → has_mark m cs ≡ false
    → before_first m (cs ++ ds) ≡ cs ++ before_first m ds
first_past m [] ds h = refl
first_past m (c ∷ cs) ds h =
    if_false (m c) [] (c ∷ before_first m (cs ++ ds)) (not_left (m c) (has_mark m cs) h)
    ∙ ap (λ l. c ∷ l) (first_past m cs ds (not_right (m c) (has_mark m cs) h))

pub first_none : {A : Type 0} (m : A → Bool) (cs : List A) → has_mark m cs ≡ false → before_first m cs ≡ cs
first_none m [] h = refl
first_none m (c ∷ cs) h =
    if_false (m c) [] (c ∷ before_first m cs) (not_left (m c) (has_mark m cs) h)
    ∙ ap (λ l. c ∷ l) (first_none m cs (not_right (m c) (has_mark m cs) h))

pub behind_in : {A : Type 0} (m : A → Bool) (cs ds : List A) → has_mark m cs ≡ true
    → behind_first m (cs ++ ds) ≡ behind_first m cs ++ ds
behind_in {A} m [] ds h = absurd cc
behind_in {A} m (c ∷ cs) ds h =
    both (m c) cs (behind_first m cs) (behind_first m (cs ++ ds))
    (λ e. behind_in m cs ds (or_rest (m c) (has_mark m cs) e h))
  where
    both : (b : Bool) (xs ys zs : List A) → (b ≡ false → zs ≡ ys ++ ds)
        → (if b then xs ++ ds else zs) ≡ (if b then xs else ys) ++ ds
    both true xs ys zs f = refl
    both false xs ys zs f = f refl

pub behind_past : {A : Type 0} (m : A → Bool) (cs ds : List A) → has_mark m cs ≡ false
    → behind_first m (cs ++ ds) ≡ behind_first m ds
behind_past m [] ds h = refl
behind_past m (c ∷ cs) ds h =
    if_false (m c) (cs ++ ds) (behind_first m (cs ++ ds)) (not_left (m c) (has_mark m cs) h)
    ∙ behind_past m cs ds (not_right (m c) (has_mark m cs) h)

pub behind_none : {A : Type 0} (m : A → Bool) (cs : List A) → has_mark m cs ≡ false → behind_first m cs ≡ []
behind_none m [] h = refl
behind_none m (c ∷ cs) h =
    if_false (m c) cs (behind_first m cs) (not_left (m c) (has_mark m cs) h)
    ∙ behind_none m cs (not_right (m c) (has_mark m cs) h)

pub last_in : {A : Type 0} (m : A → Bool) (cs ds : List A) → has_mark m ds ≡ true → before_last m (cs ++ ds) ≡ cs ++ before_last m ds
last_in m [] ds h = refl
last_in m (c ∷ cs) ds h =
    if_true (has_mark m (cs ++ ds)) (c ∷ before_last m (cs ++ ds)) (if m c then [] else c ∷ (cs ++ ds))
    (has-++ m cs ds ∙ or_right (has_mark m cs) (has_mark m ds) h)
    ∙ ap (λ l. c ∷ l) (last_in m cs ds h)

pub last_past : {A : Type 0} (m : A → Bool) (cs ds : List A) → has_mark m ds ≡ false → has_mark m cs ≡ true
    → before_last m (cs ++ ds) ≡ before_last m cs
last_past m [] ds h i = absurd cc
last_past m (c ∷ cs) ds h i =
    by_bool (has_mark m cs)
    (λ e.
    if_true (has_mark m (cs ++ ds)) (c ∷ before_last m (cs ++ ds)) (if m c then [] else c ∷ (cs ++ ds))
    (has-++ m cs ds ∙ or_left (has_mark m cs) (has_mark m ds) e)
    ∙ (ap (λ l. c ∷ l) (last_past m cs ds h e)
    ∙ sym (if_true (has_mark m cs) (c ∷ before_last m cs) (if m c then [] else c ∷ cs) e)))
    (λ e.
    let one : m c ≡ true = own (m c) (has_mark m cs) e i in
    if_false (has_mark m (cs ++ ds)) (c ∷ before_last m (cs ++ ds)) (if m c then [] else c ∷ (cs ++ ds))
    (has-++ m cs ds ∙ neither (has_mark m cs) (has_mark m ds) e h)
    ∙ (if_true (m c) [] (c ∷ (cs ++ ds)) one
    ∙ (sym (if_true (m c) [] (c ∷ cs) one)
    ∙ sym (if_false (has_mark m cs) (c ∷ before_last m cs) (if m c then [] else c ∷ cs) e))))
  where
    own : (b c : Bool) → c ≡ false → (b || c) ≡ true → b ≡ true
    own true c e i = refl
    own false true e i = absurd cc
    own false false e i = absurd cc

    neither : (b c : Bool) → b ≡ false → c ≡ false → (b || c) ≡ false
    neither true c e i = absurd cc
    neither false c e i = i

pub last_none : {A : Type 0} (m : A → Bool) (cs : List A) → has_mark m cs ≡ false → before_last m cs ≡ cs
last_none m [] h = refl
last_none m (c ∷ cs) h =
    if_false (has_mark m cs) (c ∷ before_last m cs) (if m c then [] else c ∷ cs)
    (not_right (m c) (has_mark m cs) h)
    ∙ if_false (m c) [] (c ∷ cs) (not_left (m c) (has_mark m cs) h)

-- a mark that stands before others is one of all
pub some_before : {A : Type 0} (m n : A → Bool) (cs : List A) → has_mark m (before_first n cs) ≡ true
    → has_mark m cs ≡ true
some_before m n [] h = absurd cc
some_before m n (c ∷ cs) h =
    by_bool (n c)
    (λ e. none_so (ap (λ l. has_mark m l) (sym (if_true (n c) [] (c ∷ before_first n cs) e)) ∙ h))
    (λ e.
    here_or_later (m c) (has_mark m (before_first n cs)) (has_mark m cs) (some_before m n cs)
    (ap (λ l. has_mark m l) (sym (if_false (n c) [] (c ∷ before_first n cs) e)) ∙ h))
  where
    none_so : false ≡ true → (m c || has_mark m cs) ≡ true
    none_so i = absurd cc

    here_or_later : (b x y : Bool) → (x ≡ true → y ≡ true) → (b || x) ≡ true → (b || y) ≡ true
    here_or_later true x y f i = refl
    here_or_later false x y f i = f i

-- What stands from the first mark on.
abbrev pub from_first : {A : Type 0} → (A → Bool) → List A → List A
from_first m [] = []
from_first m (c ∷ cs) = if m c then c ∷ cs else from_first m cs

pub front_and_rest : {A : Type 0} (m : A → Bool) (cs : List A) → cs ≡ before_first m cs ++ from_first m cs
front_and_rest m [] = refl
front_and_rest m (c ∷ cs) =
    both (m c) (c ∷ cs) (before_first m cs) (from_first m cs) c (ap (λ l. c ∷ l) (front_and_rest m cs))
  where
    both : {A : Type 0} (b : Bool) (xs us vs : List A) (x : A) → xs ≡ x ∷ (us ++ vs)
        → xs ≡ (if b then [] else x ∷ us) ++ (if b then xs else vs)
    both true xs us vs x e = refl
    both false xs us vs x e = e

-- Elements of which a test is true.
pub filter_in : {A : Type 0} (p : A → Bool) (x : A) (xs : List A) → p x ≡ true → filter p (x ∷ xs) ≡ x ∷ filter p xs
filter_in p x xs h = if_true (p x) (x ∷ filter p xs) (filter p xs) h

pub filter_out : {A : Type 0} (p : A → Bool) (x : A) (xs : List A) → p x ≡ false → filter p (x ∷ xs) ≡ filter p xs
filter_out p x xs h = if_false (p x) (x ∷ filter p xs) (filter p xs) h

pub filter_marks : {A : Type 0} (p : A → Bool) (xs : List A) → has_mark p xs ≡ false → filter p xs ≡ []
filter_marks p [] h = refl
filter_marks p (x ∷ xs) h =
    filter_out p x xs (not_left (p x) (has_mark p xs) h) ∙ filter_marks p xs (not_right (p x) (has_mark p xs) h)

-- the first mark, and what stands before and behind it
pub record FirstMark (A : Type 0) (p : A → Bool) (xs : List A) : Type 0 where
  pub one : A
  pub is_one : p one ≡ true
  pub all : xs ≡ before_first p xs ++ (one ∷ behind_first p xs)
  pub first : slice_get (filter p xs) 0 ≡ Some one

pub first_mark : {A : Type 0} (p : A → Bool) (xs : List A) → has_mark p xs ≡ true → FirstMark A p xs
first_mark p [] h = absurd cc
first_mark {A} p (x ∷ xs) h =
    by_bool (p x)
    (λ e.
    record {
      one = x;
      is_one = e;
      all =
          sym
          (ap (λ (l : List A). l ++ (x ∷ behind_first p (x ∷ xs))) (if_true (p x) [] (x ∷ before_first p xs) e)
          ∙ ap (λ (l : List A). x ∷ l) (if_true (p x) xs (behind_first p xs) e));
      first = ap (λ (l : List A). slice_get l 0) (filter_in p x xs e);
    })
    (λ e.
    let r = first_mark p xs (or_rest (p x) (has_mark p xs) e h) in
    record {
      one = r.one;
      is_one = r.is_one;
      all =
          ap (λ (l : List A). x ∷ l) r.all
          ∙ sym
          (ap (λ (l : List A). l ++ (r.one ∷ behind_first p (x ∷ xs))) (if_false (p x) [] (x ∷ before_first p xs) e)
          ∙ ap (λ (l : List A). (x ∷ before_first p xs) ++ (r.one ∷ l)) (if_false (p x) xs (behind_first p xs) e));
      first = ap (λ (l : List A). slice_get l 0) (filter_out p x xs e) ∙ r.first;
    })

-- the last mark, and what stands before and behind it
pub record LastMark (A : Type 0) (p : A → Bool) (xs : List A) : Type 0 where
  pub one : A
  pub rest : List A
  pub all : xs ≡ before_last p xs ++ (one ∷ rest)
  pub last : last_or None (filter p xs) ≡ Some one

pub last_mark : {A : Type 0} (p : A → Bool) (xs : List A) → has_mark p xs ≡ true → LastMark A p xs
last_mark p [] h = absurd cc
last_mark {A} p (x ∷ xs) h =
    by_bool (has_mark p xs)
    (λ e.
    let r = last_mark p xs e in
    record {
      one = r.one;
      rest = r.rest;
      all =
          ap (λ (l : List A). x ∷ l) r.all
          ∙ sym
          (ap (λ (l : List A). l ++ (r.one ∷ r.rest))
          (if_true (has_mark p xs) (x ∷ before_last p xs) (if p x then [] else x ∷ xs) e));
      last = found_more (p x) x (filter p xs) r.one r.last;
    })
    (λ e.
    let o = own (p x) (has_mark p xs) e h in
    record {
      one = x;
      rest = xs;
      all =
          sym
          (ap (λ (l : List A). l ++ (x ∷ xs))
          (if_false (has_mark p xs) (x ∷ before_last p xs) (if p x then [] else x ∷ xs) e
          ∙ if_true (p x) [] (x ∷ xs) o));
      last =
          ap (λ (l : List A). last_or None l) (filter_in p x xs o ∙ ap (λ (l : List A). x ∷ l) (filter_marks p xs e));
    })
  where
    own : (b c : Bool) → c ≡ false → (b || c) ≡ true → b ≡ true
    own true c e i = refl
    own false true e i = absurd cc
    own false false e i = absurd cc

    found_more : (b : Bool) (y : A) (ys : List A) (o : A) → last_or None ys ≡ Some o
        → last_or None (if b then y ∷ ys else ys) ≡ Some o
    found_more false y ys o e = e
    found_more true y [] o e = absurd cc
    found_more true y (z ∷ zs) o e = e
