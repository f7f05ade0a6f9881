-- A test does not hold before the tokens that exclude it.
use Rattle.std.proofs.Common.{◌≡◌, ℕ, zero, suc, ◌<◌, ◌≤◌, ◌-◌, Bool, true, false, ◌&&◌, ◌||◌, ◌==◌, List, [], ◌∷◌, ◌++◌, length, refl, sym, ap, ◌∙◌, subst}
use Rattle.std.proofs.lemmas.Bool.{eqb-true, eq-eqb, ne_eqb}
use Rattle.std.specs.Prelude.{not}
use Rattle.rap_base.specs.TokenKind.{EOF, COLON, COMMA, EQ, POUND, L_PAREN, R_PAREN, L_CURLY, L_ANGLE, R_ANGLE, LIFETIME_IDENT, IMPL_KW, FOR_KW, IN_KW, MUT_KW, AMP, PIPE, IDENT, UNDERSCORE, BANG, CONST_KW, FN_KW, UNSAFE_KW, EXTERN_KW, SELF_KW, SUPER_KW, CRATE_KW}
use Rattle.rap_events.specs.Composite.{begins_with}
use Rattle.rap_events.specs.Record.{Record, kind_at}
use Rattle.rap_grammar_rows.proofs.Coming.{Some_tokens, some_tokens, no_token, one_token, mark_known, kind_known}
use Rattle.rap_grammar_rows.specs.Claims.{Segment, IsRefused}
use Rattle.rap_grammar_rows.specs.Excluders.{none_of, some_of, coming, not_twice, path_or_pointer, no_named_param, no_restriction, params_begin, no_ident_pat, excluders, excluder_in, is_excluded}
use Rattle.rap_grammar_rows.specs.Guards.{Guard, guards, guard_at}
use Rattle.rap_grammar_rows.specs.declared.guard.Ahead.{Ahead}
use Rattle.rap_grammar_scripts.specs.First.{one_of}
use Rattle.rap_grammar_scripts.specs.Test.{holds}
use Rattle.rap_grammar_scripts.specs.Words.{next_is}
use Rattle.rap_grammar_table.specs.GenericRows.{bounds_end}
use Rattle.rap_grammar_table.specs.Known.{Sees, this_way, later_way}
use Rattle.rap_grammar_table.proofs.Known.{never_so}

-- truths
not_both : (a b : Bool) → (not a && b) ≡ true → (a ≡ false) × (b ≡ true)
not_both true b h = absurd cc
not_both false b h = (refl, h)

not_one : (a : Bool) → not a ≡ true → a ≡ false
not_one true h = absurd cc
not_one false h = refl

no_and : (a b : Bool) → a ≡ false → (a && b) ≡ false
no_and true b h = absurd cc
no_and false b h = refl

no_or : (a b : Bool) → a ≡ false → b ≡ false → (a || b) ≡ false
no_or true b h g = absurd cc
no_or false b h g = g

not_so : (a : Bool) → a ≡ true → not a ≡ false
not_so true h = refl
not_so false h = absurd cc

left_true : (a b : Bool) → a ≡ true → (a || b) ≡ true
left_true true b h = refl
left_true false b h = absurd cc

right_true : (a b : Bool) → b ≡ true → (a || b) ≡ true
right_true true b h = refl
right_true false b h = h

flip : (j k : ℕ) → (k == j) ≡ false → (j == k) ≡ false
flip j k h = ne_eqb j k (λ e. let t : (k == j) ≡ true = eq-eqb k j (sym e) in absurd cc)

turned : (j k : ℕ) → (k == j) ≡ true → (j == k) ≡ true
turned j k h = eq-eqb j k (sym (eqb-true k j h))

none_one : (js : List ℕ) (k : ℕ) → none_of js k ≡ true → one_of js k ≡ false
none_one [] k h = refl
none_one (j ∷ []) k h = no_or (j == k) false (flip j k (not_one (k == j) h)) refl
none_one (j ∷ i ∷ js) k h =
    let b : ((k == j) ≡ false) × (none_of (i ∷ js) k ≡ true) = not_both (k == j) (none_of (i ∷ js) k) h in
    no_or (j == k) (one_of (i ∷ js) k) (flip j k b.0) (none_one (i ∷ js) k b.1)

some_in : (a b c d : Bool) → (a || b) ≡ true → (a ≡ true → c ≡ true) → (b ≡ true → d ≡ true) → (c || d) ≡ true
some_in true b c d h f g = left_true c d (f refl)
some_in false b c d h f g = right_true c d (g h)

some_one : (js : List ℕ) (k : ℕ) → some_of js k ≡ true → one_of js k ≡ true
some_one [] k h = absurd cc
some_one (j ∷ []) k h = left_true (j == k) false (turned j k h)
some_one (j ∷ i ∷ js) k h =
    some_in (k == j) (some_of (i ∷ js) k) (j == k) (one_of (i ∷ js) k) h (turned j k) (some_one (i ∷ js) k)

negated_or : (a b c : Bool) → (a || b) ≡ true → not (a || (b || c)) ≡ false
negated_or true b c h = refl
negated_or false true c h = refl
negated_or false false c h = absurd cc

either_so : {A : Type 0} (a b : Bool) → (a || b) ≡ true → (a ≡ true → A) → (b ≡ true → A) → A
either_so true b h f g = f refl
either_so false b h f g = g h

no_third : (a b c : Bool) → b ≡ false → (a && (b && c)) ≡ false
no_third false b c h = refl
no_third true b c h = rw h refl

no_colon : (k : ℕ) → ((R_PAREN == k) || false) ≡ true → (k == COLON) ≡ false
no_colon k h =
    either_so (R_PAREN == k) false h
    (λ e. let i : R_PAREN ≡ k = eqb-true R_PAREN k e in subst (λ (n : ℕ). (n == COLON) ≡ false) i refl) (λ e. absurd cc)

alone_known : (a : Bool) → (not a || false) ≡ true → a ≡ false
alone_known true h = absurd cc
alone_known false h = refl

-- what a test is before such tokens
abbrev Excludes : (Ahead → Bool) → Guard → Type 0
Excludes f g = (r : Record) (rs l : List Record) → f (coming (r ∷ rs)) ≡ true → holds g.0 (r ∷ (rs ++ l)) ≡ false

abbrev AllExclude : List (Ahead → Bool) → List Guard → Type 0
AllExclude [] gs = Unit {0}
AllExclude (f ∷ fs) [] = ⊥
AllExclude (f ∷ fs) (g ∷ gs) = Excludes f g × AllExclude fs gs

exclude_at : (n : ℕ) (fs : List (Ahead → Bool)) (gs : List Guard) → AllExclude fs gs → (r : Record) (rs l : List Record) →
    excluder_in n fs (coming (r ∷ rs)) ≡ true → holds (guard_at n gs).0 (r ∷ (rs ++ l)) ≡ false
exclude_at n [] gs a r rs l h = absurd cc
exclude_at n (f ∷ fs) [] a r rs l h = absurd a
exclude_at zero (f ∷ fs) (g ∷ gs) a r rs l h = a.0 r rs l h
exclude_at (suc n) (f ∷ fs) (g ∷ gs) a r rs l h = exclude_at n fs gs a.1 r rs l h

-- two marks in a row
twice_known : (a j x d : Bool) → (not a || (not j || (not d && not x))) ≡ true → (a && (j && x)) ≡ false
twice_known false j x d h = refl
twice_known true false x d h = refl
twice_known true true false d h = refl
twice_known true true true false h = absurd cc
twice_known true true true true h = absurd cc

once_known : (a j x : Bool) → (not a || (not j || false)) ≡ true → (a && (j && x)) ≡ false
once_known false j x h = refl
once_known true false x h = refl
once_known true true x h = absurd cc

no_pair : (k : ℕ) (r : Record) (rs l : List Record) → not_twice k (coming (r ∷ rs)) ≡ true →
    begins_with (k ∷ k ∷ []) (r ∷ (rs ++ l)) ≡ false
no_pair k r [] l h = once_known (r.kind == k) r.joint (begins_with (k ∷ []) l) h
no_pair k r (s ∷ us) l h = twice_known (r.kind == k) r.joint (s.kind == k) (s.kind == EOF) h

-- a path or a function pointer
path_kinds : (n m : Bool) (p q c : Bool) → (n || m) ≡ true → (n ≡ true → p ≡ true) → (m ≡ true → q ≡ true) →
    not (p || (q || c)) ≡ false
path_kinds true m p q c h f g = rw (f refl) refl
path_kinds false m p q c h f g = let e : q ≡ true = g h in negated_or p q c (right_true p q e)

pair_too : (p q c : Bool) → c ≡ true → not (p || (q || c)) ≡ false
pair_too true q c e = refl
pair_too false true c e = refl
pair_too false false c e = rw e refl

path_first : (r : Record) (c d : Bool) →
    ((some_of (FN_KW ∷ UNSAFE_KW ∷ EXTERN_KW ∷ []) r.kind ||
    some_of (IDENT ∷ SELF_KW ∷ SUPER_KW ∷ CRATE_KW ∷ []) r.kind) || d) ≡ true → (d ≡ true → c ≡ true) →
    not (one_of (FN_KW ∷ UNSAFE_KW ∷ EXTERN_KW ∷ []) r.kind ||
    (one_of (IDENT ∷ SELF_KW ∷ SUPER_KW ∷ CRATE_KW ∷ []) r.kind || c)) ≡ false
path_first r c d h f =
    either_so (some_of (FN_KW ∷ UNSAFE_KW ∷ EXTERN_KW ∷ []) r.kind ||
    some_of (IDENT ∷ SELF_KW ∷ SUPER_KW ∷ CRATE_KW ∷ []) r.kind) d h
    (λ e. path_kinds (some_of (FN_KW ∷ UNSAFE_KW ∷ EXTERN_KW ∷ []) r.kind)
    (some_of (IDENT ∷ SELF_KW ∷ SUPER_KW ∷ CRATE_KW ∷ []) r.kind) _ _ c e
    (some_one (FN_KW ∷ UNSAFE_KW ∷ EXTERN_KW ∷ []) r.kind)
    (some_one (IDENT ∷ SELF_KW ∷ SUPER_KW ∷ CRATE_KW ∷ []) r.kind))
    (λ e. pair_too (one_of (FN_KW ∷ UNSAFE_KW ∷ EXTERN_KW ∷ []) r.kind)
    (one_of (IDENT ∷ SELF_KW ∷ SUPER_KW ∷ CRATE_KW ∷ []) r.kind) c (f e))

no_second : {A : Type 0} (a j : Bool) → (a && (j && false)) ≡ true → A
no_second false j h = absurd cc
no_second true false h = absurd cc
no_second true true h = absurd cc

path_comes : Excludes path_or_pointer (guard_at 0 guards)
path_comes r [] l h =
    path_first r (begins_with (COLON ∷ COLON ∷ []) (r ∷ l)) ((r.kind == COLON) && (r.joint && false)) h
    (no_second (r.kind == COLON) r.joint)
path_comes r (s ∷ us) l h =
    path_first r (begins_with (COLON ∷ COLON ∷ []) (r ∷ s ∷ (us ++ l)))
    ((r.kind == COLON) && (r.joint && (s.kind == COLON))) h (λ e. e)

-- a name with a colon
no_name : (k : ℕ) → none_of (IDENT ∷ UNDERSCORE ∷ []) k ≡ true → ((k == IDENT) || (k == UNDERSCORE)) ≡ false
no_name k h =
    let n : ((k == IDENT) ≡ false) × (not (k == UNDERSCORE) ≡ true) = not_both (k == IDENT) (not (k == UNDERSCORE)) h in
    no_or (k == IDENT) (k == UNDERSCORE) n.0 (not_one (k == UNDERSCORE) n.1)

named_known : (n a d c j t x : Bool) → (n || ((not d && not c) || (c && (j && t)))) ≡ true → (n ≡ true → a ≡ false) →
    (t ≡ true → x ≡ true) → (a && (c && not (c && (j && x)))) ≡ false
named_known true a d c j t x h f g = no_and a _ (f refl)
named_known false false d c j t x h f g = refl
named_known false true d false j t x h f g = refl
named_known false true false true false t x h f g = absurd cc
named_known false true true true false t x h f g = absurd cc
named_known false true false true true t x h f g = let e : x ≡ true = g h in rw e refl
named_known false true true true true t x h f g = let e : x ≡ true = g h in rw e refl

only_left : (n a x : Bool) → (n || false) ≡ true → (n ≡ true → a ≡ false) → (a && x) ≡ false
only_left true a x h f = no_and a x (f refl)
only_left false a x h f = absurd cc

no_named : Excludes no_named_param (guard_at 4 guards)
no_named r [] l h =
    only_left (none_of (IDENT ∷ UNDERSCORE ∷ []) r.kind) ((r.kind == IDENT) || (r.kind == UNDERSCORE)) _ h
    (no_name r.kind)
no_named r (s ∷ us) l h =
    named_known (none_of (IDENT ∷ UNDERSCORE ∷ []) r.kind) ((r.kind == IDENT) || (r.kind == UNDERSCORE)) (s.kind == EOF)
    (s.kind == COLON) s.joint (kind_at us 0 == COLON) (begins_with (COLON ∷ []) (us ++ l)) h (no_name r.kind)
    (mark_known us l)

-- a restriction
record NoName (k : ℕ) : Type 0 where
  no_in : (k == IN_KW) ≡ false
  no_other : one_of (CRATE_KW ∷ SELF_KW ∷ SUPER_KW ∷ []) k ≡ false

no_name_there : (k : ℕ) → none_of (EOF ∷ CRATE_KW ∷ SELF_KW ∷ SUPER_KW ∷ IN_KW ∷ []) k ≡ true → NoName k
no_name_there k h =
    let a = not_both (k == EOF) (none_of (CRATE_KW ∷ SELF_KW ∷ SUPER_KW ∷ IN_KW ∷ []) k) h in
    let b = not_both (k == CRATE_KW) (none_of (SELF_KW ∷ SUPER_KW ∷ IN_KW ∷ []) k) a.1 in
    let c = not_both (k == SELF_KW) (none_of (SUPER_KW ∷ IN_KW ∷ []) k) b.1 in
    let d = not_both (k == SUPER_KW) (none_of (IN_KW ∷ []) k) c.1 in
    record {
      no_in = not_one (k == IN_KW) d.1;
      no_other =
          no_or (CRATE_KW == k) _ (flip CRATE_KW k b.0)
          (no_or (SELF_KW == k) _ (flip SELF_KW k c.0) (no_or (SUPER_KW == k) false (flip SUPER_KW k d.0) refl));
    }

not_before : (q y : Bool) → y ≡ true → (q && not y) ≡ false
not_before false y e = refl
not_before true y e = rw e refl

restricted_known : (n a m o t q y i : Bool) → (n || (m || (o && t))) ≡ true → (n ≡ true → a ≡ false) →
    (m ≡ true → (i ≡ false) × (q ≡ false)) → (o ≡ true → i ≡ false) → (t ≡ true → y ≡ true) →
    ((a && (q && not y)) || (a && i)) ≡ false
restricted_known n false m o t q y i h f g k w = refl
restricted_known true true m o t q y i h f g k w = absurd (let e = f refl in absurd cc)
restricted_known false true true o t q y i h f g k w =
    let e = g refl in no_or (q && not y) i (no_and q (not y) e.1) e.0
restricted_known false true false true t q y i h f g k w = no_or _ i (not_before q y (w h)) (k refl)
restricted_known false true false false t q y i h f g k w = absurd cc

no_restricted : Excludes no_restriction (guard_at 10 guards)
no_restricted r [] l h =
    let e : (r.kind == L_PAREN) ≡ false = alone_known (r.kind == L_PAREN) h in
    no_or _ _ (no_and (r.kind == L_PAREN) _ e) (no_and (r.kind == L_PAREN) _ e)
no_restricted r (s ∷ us) l h =
    restricted_known (not (r.kind == L_PAREN)) (r.kind == L_PAREN)
    (none_of (EOF ∷ CRATE_KW ∷ SELF_KW ∷ SUPER_KW ∷ IN_KW ∷ []) s.kind) (not (s.kind == IN_KW))
    (kind_at us 0 == COLON)
    (one_of (CRATE_KW ∷ SELF_KW ∷ SUPER_KW ∷ []) s.kind) (kind_at (us ++ l) 0 == COLON) (s.kind == IN_KW) h
    (not_one (r.kind == L_PAREN)) (λ e. let n = no_name_there s.kind e in (n.no_in, n.no_other))
    (not_one (s.kind == IN_KW)) (kind_known us l)

-- generic parameters
params_known : (a p q s t u v : Bool) → (a && (p || (q && s))) ≡ true → (p ≡ true → t ≡ true) →
    (q ≡ true → u ≡ true) → (s ≡ true → v ≡ true) → not (a && (t || (u && v))) ≡ false
params_known false p q s t u v h f g k = absurd cc
params_known true true q s t u v h f g k = rw (f refl) refl
params_known true false false s t u v h f g k = absurd cc
params_known true false true s t u v h f g k =
    let e : u ≡ true = g refl in let i : v ≡ true = k h in not_so (t || (u && v)) (right_true t (u && v) (rw e (rw i refl)))

none_there : {A : Type 0} (a : Bool) → (a && false) ≡ true → A
none_there false h = absurd cc
none_there true h = absurd cc

some_known : (us l : List Record) → some_of (R_ANGLE ∷ COMMA ∷ COLON ∷ EQ ∷ []) (kind_at us 0) ≡ true →
    one_of (R_ANGLE ∷ COMMA ∷ COLON ∷ EQ ∷ []) (kind_at (us ++ l) 0) ≡ true
some_known [] l h = absurd cc
some_known (u ∷ us) l h = some_one (R_ANGLE ∷ COMMA ∷ COLON ∷ EQ ∷ []) u.kind h

params_come : Excludes params_begin (guard_at 12 guards)
params_come r [] l h = none_there (r.kind == L_ANGLE) h
params_come r (s ∷ us) l h =
    params_known (r.kind == L_ANGLE) (some_of (POUND ∷ R_ANGLE ∷ CONST_KW ∷ []) s.kind)
    (some_of (LIFETIME_IDENT ∷ IDENT ∷ []) s.kind) (some_of (R_ANGLE ∷ COMMA ∷ COLON ∷ EQ ∷ []) (kind_at us 0)) _ _ _ h
    (some_one (POUND ∷ R_ANGLE ∷ CONST_KW ∷ []) s.kind) (some_one (LIFETIME_IDENT ∷ IDENT ∷ []) s.kind)
    (some_known us l)

-- a name that is a pattern
ident_known : (a p q b j t x : Bool) → (not a || (p || (b && (j && t)))) ≡ true → (p ≡ true → q ≡ true) →
    (t ≡ true → x ≡ true) → (a && (not q && not (b && (j && x)))) ≡ false
ident_known false p q b j t x h f g = refl
ident_known true true q b j t x h f g = rw (f refl) refl
ident_known true false q false j t x h f g = absurd cc
ident_known true false q true false t x h f g = absurd cc
ident_known true false false true true t x h f g = rw (g h) refl
ident_known true false true true true t x h f g = refl

no_ident : Excludes no_ident_pat (guard_at 15 guards)
no_ident r [] l h = no_and (r.kind == IDENT) _ (alone_known (r.kind == IDENT) h)
no_ident r (s ∷ us) l h =
    ident_known (r.kind == IDENT) (some_of (L_PAREN ∷ L_CURLY ∷ BANG ∷ []) s.kind)
    (one_of (L_PAREN ∷ L_CURLY ∷ BANG ∷ []) s.kind) (s.kind == COLON) s.joint (kind_at us 0 == COLON)
    (begins_with (COLON ∷ []) (us ++ l)) h (some_one (L_PAREN ∷ L_CURLY ∷ BANG ∷ []) s.kind) (mark_known us l)

all_exclude : AllExclude excluders guards
all_exclude = (
  path_comes,
  (
    (λ r rs l h. not_one (r.kind == COLON) h),
    (
      (λ r rs l h. none_one (LIFETIME_IDENT ∷ IMPL_KW ∷ FOR_KW ∷ []) r.kind h),
      (
        (λ r rs l h. no_pair COLON r rs l h),
        (
          no_named,
          (
            no_named,
            (
              (λ r rs l h. no_pair L_ANGLE r rs l h),
              (
                (λ r rs l h. no_pair PIPE r rs l h),
                (
                  (λ r rs l h. no_pair AMP r rs l h),
                  (
                    (λ r rs l h. not_one (r.kind == L_ANGLE) h),
                    (
                      no_restricted,
                      (
                        (λ r rs l h. none_one (L_ANGLE ∷ L_PAREN ∷ BANG ∷ IMPL_KW ∷ CONST_KW ∷ []) r.kind h),
                        (
                          params_come,
                          (
                            (λ r rs l h. not_one (r.kind == IMPL_KW) h),
                            (
                              (λ r rs l h. not_one (r.kind == MUT_KW) h),
                              (
                                no_ident,
                                (
                                  (λ r rs l h. not_one (r.kind == LIFETIME_IDENT) h),
                                  (
                                    (λ r rs l h. not_one (r.kind == L_CURLY) h),
                                    ((λ r rs l h. not_one (r.kind == COLON) h), tt),
                                  ),
                                ),
                              ),
                            ),
                          ),
                        ),
                      ),
                    ),
                  ),
                ),
              ),
            ),
          ),
        ),
      ),
    ),
  ),
)

pub refused_by_tokens : (tokens : List Record) (at end guard : ℕ) (c : Ahead) → at < end → end ≤ length tokens →
    ((ks : List Record) → Segment tokens at end ks → c ≡ coming ks) → is_excluded guard c ≡ true →
    IsRefused guard tokens at end
refused_by_tokens tokens at end guard c h l k e ks s rest sees =
    let t : Some_tokens ks = some_tokens tokens ks at end h l s in
    let x : is_excluded guard (coming (t.front ∷ t.others)) ≡ true =
    subst (λ (d : Ahead). is_excluded guard d ≡ true) (k ks s ∙ ap coming t.are) e in
    ap (λ (l : List Record). holds (guard_at guard guards).0 (l ++ rest)) t.are ∙
    exclude_at guard excluders guards all_exclude t.front t.others rest x

-- behind a type alone stands a `)`
closes : (l : List Record) → Sees (guard_at 4 guards).1 l → (kind_at l 0 == COLON) ≡ false
closes l (this_way s) = no_colon (kind_at l 0) (s.fits 0).kinds
closes l (later_way s) = elim s [ ]

pub refused_at_end : (tokens : List Record) (at end : ℕ) → end - at ≡ 1 → at ≤ end → end ≤ length tokens →
    IsRefused 4 tokens at end
refused_at_end tokens at end o h l ks s rest sees =
    let t : (r : Record) × (ks ≡ r ∷ []) = one_token tokens ks at end o h l s in
    ap (λ (l : List Record). holds (guard_at 4 guards).0 (l ++ rest)) t.1 ∙
    no_third ((t.0.kind == IDENT) || (t.0.kind == UNDERSCORE)) (kind_at rest 0 == COLON) _ (closes rest sees)

-- behind a colon with no bounds stands what ends them
pub refused_before_end : (tokens : List Record) (at : ℕ) → IsRefused 18 tokens at at
refused_before_end tokens at ks s rest sees =
    let t : ks ≡ [] = no_token tokens ks at s in
    ap (λ (l : List Record). holds (guard_at 18 guards).0 (l ++ rest)) t ∙
    never_so (next_is COLON) bounds_end rest refl sees
