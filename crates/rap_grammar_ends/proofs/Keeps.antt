-- A run of a script ends where its computed ends say, and what stands below its nodes stays as it is.
use Rattle.std.proofs.Common.{◌≡◌, ℕ, zero, suc, List, [], ◌∷◌, Bool, true, false, ◌&&◌, ◌||◌, ◌==◌, refl, sym, subst, drop, if◌then◌else◌, arith}
use Rattle.std.proofs.lemmas.Bool.Decides.{nat_tests}
use Rattle.rap_base.specs.NodeKind.{FIELD_EXPR}
use Rattle.rap_base.specs.TokenKind.{ERROR}
use Rattle.rap_events.proofs.Truth.{and_left, and_right, and_both}
use Rattle.rap_events.specs.Composite.{width}
use Rattle.rap_events.specs.FloatSplit.{split_children}
use Rattle.rap_events.specs.Forest.{Forest, none, node, leaf, message, ◌⧺◌}
use Rattle.rap_events.specs.Record.{next_kind}
use Rattle.rap_events.specs.State.{with_kind, but_last, skipped, last_children}
use Rattle.rap_grammar_scripts.specs.Knot.{script_of}
use Rattle.rap_grammar_scripts.specs.declared.rule.Rule.{Rule}
use Rattle.rap_grammar_scripts.specs.declared.rule.Rule.TheVariants as knot
use Rattle.rap_grammar_scripts.specs.Script.{Script, Outcome, nothing, something, block, again, Spot, goes_on, Runs, gives, passes, fails, ends_so, ends_else, takes, takes_any, bears, reports, reports_next, skips, starts, precedes, finishes, extends, abandons, splits_dotted, splits_whole, follows, obeys, turns, stops, newest, last_kind}
use Rattle.rap_grammar_ends.proofs.Ends.{End, bad, at_end, same, same_flag, has, join, gather, settle, flagged, outcomes, all_at, rule_ends, ends, every}

-- so many nodes are open above a place where this holds
abbrev pub Above : (Forest → List Forest → Type 0) → ℕ → Forest → List Forest → Type 0
Above b zero f fs = b f fs
Above b (suc n) f [] = ⊥
Above b (suc n) f (g ∷ fs) = Above b n g fs

-- it stays true where the forest grows
abbrev pub Grows : (Forest → List Forest → Type 0) → Type 0
Grows b = (f x : Forest) (fs : List Forest) → b f fs → b (f ⧺ x) fs

above_grows : (b : Forest → List Forest → Type 0) → Grows b → (n : ℕ) → Grows (Above b n)
above_grows b g zero f x fs k = g f x fs k
above_grows b g (suc n) f x [] k = k
above_grows b g (suc n) f x (h ∷ fs) k = k

-- where a node is open, its forest may be any
other : (b : Forest → List Forest → Type 0) (n : ℕ) (f g : Forest) (fs : List Forest) → Above b (suc n) f fs →
    Above b (suc n) g fs
other b n f g [] k = k
other b n f g (h ∷ fs) k = k

-- the end of one: what it becomes stands last in the next older forest
closed : (b : Forest → List Forest → Type 0) → Grows b → (n : ℕ) (f x : Forest) (fs : List Forest) →
    Above b (suc n) f fs → Above b n (newest fs ⧺ x) (drop 1 fs)
closed b g n f x [] k = absurd k
closed b g n f x (h ∷ fs) k = above_grows b g n h x fs k

-- one node above so many is one more
one_more : (b : Forest → List Forest → Type 0) (n : ℕ) (f : Forest) (fs : List Forest) → Above b (suc n) f fs →
    Above (Above b n) 1 f fs
one_more b n f [] k = k
one_more b n f (h ∷ fs) k = k

one_less : (b : Forest → List Forest → Type 0) (n : ℕ) (f : Forest) (fs : List Forest) → Above (Above b n) 1 f fs →
    Above b (suc n) f fs
one_less b n f [] k = k
one_less b n f (h ∷ fs) k = k

pub same_number : (j k : ℕ) → (j == k) ≡ true → j ≡ k
same_number j k h = grind (arith, nat_tests)

same_flags : (a b : Bool) → same_flag a b ≡ true → a ≡ b
same_flags true true h = refl
same_flags true false h = absurd cc
same_flags false true h = absurd cc
same_flags false false h = refl

pub same_outcome : (v w : Outcome) → same v w ≡ true → v ≡ w
same_outcome nothing nothing h = refl
same_outcome something something h = refl
same_outcome block block h = refl
same_outcome (again a b) (again c d) h =
    rw (same_flags a c (and_left _ _ h), same_flags b d (and_right (same_flag a c) _ h)) refl
same_outcome nothing something h = absurd cc
same_outcome nothing block h = absurd cc
same_outcome nothing (again c d) h = absurd cc
same_outcome something nothing h = absurd cc
same_outcome something block h = absurd cc
same_outcome something (again c d) h = absurd cc
same_outcome block nothing h = absurd cc
same_outcome block something h = absurd cc
same_outcome block (again c d) h = absurd cc
same_outcome (again a b) nothing h = absurd cc
same_outcome (again a b) something h = absurd cc
same_outcome (again a b) block h = absurd cc

-- What holds of every end of a list holds of each that it has.
of_first : (f : Outcome → ℕ → Bool) (v w : Outcome) (j k : ℕ) (b : Bool) → f w k ≡ true → (b ≡ true → f v j ≡ true) →
    ((same v w && (j == k)) || b) ≡ true → f v j ≡ true
of_first f v w j k true e r h = r refl
of_first f v w j k false e r h =
    let c : (same v w && (j == k)) ≡ true = grind (arith, nat_tests) in
    rw (same_outcome v w (and_left _ _ c), same_number j k (and_right (same v w) _ c)) e

of_has : (f : Outcome → ℕ → Bool) (v : Outcome) (j : ℕ) (l : List End) → has v j l ≡ true → every f l ≡ true →
    f v j ≡ true
of_has f v j [] h e = absurd cc
of_has f v j (bad ∷ l) h e = absurd cc
of_has f v j (at_end w k ∷ l) h e =
    of_first f v w j k (has v j l) (and_left _ _ e) (λ i. of_has f v j l i (and_right (f w k) _ e)) h

-- of two lists in one
joined_rest : (f : Outcome → ℕ → Bool) (v : Outcome) (j : ℕ) (l : List End) (b : Bool) →
    every f (if b then l else at_end v j ∷ l) ≡ true → every f l ≡ true
joined_rest f v j l true e = e
joined_rest f v j l false e = and_right (f v j) _ e

joined_right : (f : Outcome → ℕ → Bool) (l m : List End) → every f (join l m) ≡ true → every f m ≡ true
joined_right f [] m e = e
joined_right f (bad ∷ l) m e = absurd cc
joined_right f (at_end v j ∷ l) m e = joined_right f l m (joined_rest f v j (join l m) (has v j m) e)

joined_first : (f : Outcome → ℕ → Bool) (v : Outcome) (j : ℕ) (l m : List End) (b : Bool) → b ≡ has v j m →
    every f m ≡ true → every f (if b then l else at_end v j ∷ l) ≡ true → f v j ≡ true
joined_first f v j l m true i h e = of_has f v j m (sym i) h
joined_first f v j l m false i h e = and_left _ _ e

joined_left : (f : Outcome → ℕ → Bool) (l m : List End) → every f (join l m) ≡ true → every f l ≡ true
joined_left f [] m e = refl
joined_left f (bad ∷ l) m e = absurd cc
joined_left f (at_end v j ∷ l) m e =
    let r = joined_rest f v j (join l m) (has v j m) e in
    and_both (f v j) (every f l)
    (joined_first f v j (join l m) m (has v j m) refl (joined_right f l m r) e)
    (joined_left f l m r)

-- of what follows each end
abbrev Then : (Outcome → ℕ → Bool) → (Outcome → ℕ → List End) → Outcome → ℕ → Bool
Then f h v j = every f (h v j)

gathered : (f : Outcome → ℕ → Bool) (h : Outcome → ℕ → List End) (l : List End) → every f (gather h l) ≡ true →
    every (Then f h) l ≡ true
gathered f h [] e = refl
gathered f h (bad ∷ l) e = absurd cc
gathered f h (at_end v j ∷ l) e =
    and_both (every f (h v j)) (every (Then f h) l) (joined_left f (h v j) (gather h l) e)
    (gathered f h l (joined_right f (h v j) (gather h l) e))

-- of the ends of a loop's turns
abbrev Turned : (Outcome → ℕ → Bool) → ℕ → Outcome → ℕ → Bool
Turned f n nothing j = f nothing j
Turned f n something j = f something j
Turned f n block j = f block j
Turned f n (again a b) j = j == n

settled_again : (f : Outcome → ℕ → Bool) (l : List End) (b : Bool) → every f (if b then l else bad ∷ []) ≡ true →
    (b ≡ true) × (every f l ≡ true)
settled_again f l true e = (refl, e)
settled_again f l false e = absurd cc

settled : (f : Outcome → ℕ → Bool) (n : ℕ) (l : List End) → every f (settle n l) ≡ true → every (Turned f n) l ≡ true
settled f n [] e = refl
settled f n (bad ∷ l) e = absurd cc
settled f n (at_end nothing j ∷ l) e =
    and_both (f nothing j) _ (and_left _ _ e) (settled f n l (and_right (f nothing j) _ e))
settled f n (at_end something j ∷ l) e =
    and_both (f something j) _ (and_left _ _ e) (settled f n l (and_right (f something j) _ e))
settled f n (at_end block j ∷ l) e =
    and_both (f block j) _ (and_left _ _ e) (settled f n l (and_right (f block j) _ e))
settled f n (at_end (again a b) j ∷ l) e =
    let k = settled_again f (settle n l) (j == n) e in
    and_both (j == n) _ k.0 (settled f n l k.1)

of_flags : (f : Outcome → ℕ → Bool) (h : Bool → Bool → List End) (a b : Bool) → every f (flagged h) ≡ true →
    every f (h a b) ≡ true
of_flags f h true true e = joined_left f (h true true) (h true false) (joined_left f (join (h true true) (h true false))
    (join (h false true) (h false false)) e)
of_flags f h true false e = joined_right f (h true true) (h true false) (joined_left f (join (h true true)
    (h true false)) (join (h false true) (h false false)) e)
of_flags f h false true e = joined_left f (h false true) (h false false) (joined_right f (join (h true true)
    (h true false)) (join (h false true) (h false false)) e)
of_flags f h false false e = joined_right f (h false true) (h false false) (joined_right f (join (h true true)
    (h true false)) (join (h false true) (h false false)) e)

-- the last turn
of_stop : (f : Outcome → ℕ → Bool) (n j : ℕ) (v : Outcome) → goes_on v ≡ false → Turned f n v j ≡ true → f v j ≡ true
of_stop f n j nothing h e = e
of_stop f n j something h e = e
of_stop f n j block h e = e
of_stop f n j (again a b) h e = let z : true ≡ false = h in absurd cc

-- whether an outcome is one of these
abbrev pub is_of : Outcome → List Outcome → Bool
is_of v [] = false
is_of v (w ∷ l) = same v w || is_of v l

of_one_or : (f : Outcome → ℕ → Bool) (n : ℕ) (v w : Outcome) (b : Bool) → (same v w || b) ≡ true → f w n ≡ true →
    (b ≡ true → f v n ≡ true) → f v n ≡ true
of_one_or f n v w true h e r = r refl
of_one_or f n v w false h e r =
    let c : same v w ≡ true = grind (arith, nat_tests) in
    rw (same_outcome v w c) e

of_one : (f : Outcome → ℕ → Bool) (n : ℕ) (v : Outcome) (l : List Outcome) → is_of v l ≡ true →
    every f (all_at n l) ≡ true → f v n ≡ true
of_one f n v [] h e = absurd cc
of_one f n v (w ∷ l) h e =
    of_one_or f n v w (is_of v l) h (and_left _ _ e) (λ i. of_one f n v l i (and_right (f w n) _ e))

-- by one of its outcomes, and with so many open nodes
abbrev pub as_said : Rule → ℕ → Outcome → ℕ → Bool
as_said c n v j = is_of v (outcomes c) && (j == n)

-- within how many open nodes a rule must begin
abbrev pub own : Rule → ℕ
own (knot.ItemOrMacro a b) = 0
own c = 1

-- the rules of the knot end as their table says
abbrev pub EndsAsSaid : Rule → Type 0
EndsAsSaid c = every (as_said c (own c)) (ends (script_of c) (own c)) ≡ true

abbrev pub Sound : Type 0
Sound = (c : Rule) → EndsAsSaid c

-- an end of a run
pub record Ended (b : Forest → List Forest → Type 0) (f : Outcome → ℕ → Bool) (q : Spot) (v : Outcome) : Type 0 where
  pub depth : ℕ
  pub above : Above b depth q.forest q.below
  pub so : f v depth ≡ true

-- a rule that is called: within so many of the open nodes, above the others
record Called (b : Forest → List Forest → Type 0) (f : Outcome → ℕ → Bool) (h : Outcome → ℕ → List End) (c : Rule)
    (n : ℕ) : Type 0 where
  within : ℕ
  others : ℕ
  down : (x : Forest) (fs : List Forest) → Above b n x fs → Above (Above b others) within x fs
  up : (x : Forest) (fs : List Forest) → Above (Above b others) within x fs → Above b n x fs
  so : every (as_said c within) (ends (script_of c) within) ≡ true
  on : every f (gather h (all_at n (outcomes c))) ≡ true

within_one : (b : Forest → List Forest → Type 0) (f : Outcome → ℕ → Bool) (h : Outcome → ℕ → List End) (c : Rule)
    (n : ℕ) →
    every (as_said c 1) (ends (script_of c) 1) ≡ true → every f (gather h (all_at (suc n) (outcomes c))) ≡ true →
    Called b f h c (suc n)
within_one b f h c n s e = record {
  within = 1;
  others = n;
  down = one_more b n;
  up = one_less b n;
  so = s;
  on = e;
}

called : Sound → (b : Forest → List Forest → Type 0) (f : Outcome → ℕ → Bool) (h : Outcome → ℕ → List End)
    (c : Rule) (n : ℕ) →
    every f (gather h (rule_ends c n)) ≡ true → Called b f h c n
called x b f h (knot.ItemOrMacro i j) n e = record {
  within = 0;
  others = n;
  down = λ y fs k. k;
  up = λ y fs k. k;
  so = x (knot.ItemOrMacro i j);
  on = e;
}
called x b f h c zero e = absurd cc
called x b f h c (suc n) e = within_one b f h c n (x c) e

pub keeps : Sound → {s : Script Rule} {p q : Spot} {v : Outcome} → Runs script_of s p q v →
    (b : Forest → List Forest → Type 0) → Grows b → (f : Outcome → ℕ → Bool) (n : ℕ) → every f (ends s n) ≡ true →
    Above b n p.forest p.below → Ended b f q v
keeps x gives b g f n e k = record { depth = n; above = k; so = and_left _ _ e }
keeps x (passes {s = y} {t = z} h r) b g f n e k = keeps x r b g f n (joined_left f (ends y n) (ends z n) e) k
keeps x (fails {s = y} {t = z} h r) b g f n e k = keeps x r b g f n (joined_right f (ends y n) (ends z n) e) k
keeps x (ends_so {s = y} {t = z} h r) b g f n e k = keeps x r b g f n (joined_left f (ends y n) (ends z n) e) k
keeps x (ends_else {s = y} {t = z} h r) b g f n e k = keeps x r b g f n (joined_right f (ends y n) (ends z n) e) k
keeps x {p = p} (takes {k = c} h r) b g f n e k =
    keeps x r b g f n e (above_grows b g n p.forest (leaf none c (width c)) p.below k)
keeps x {p = p} (takes_any h r) b g f n e k =
    keeps x r b g f n e (above_grows b g n p.forest (leaf none (next_kind p.rest) 1) p.below k)
keeps x {p = p} (bears {k = c} h r) b g f n e k =
    keeps x r b g f n e (above_grows b g n p.forest (leaf none c 1) p.below k)
keeps x {p = p} (reports {bytes = bytes} r) b g f n e k =
    keeps x r b g f n e (above_grows b g n p.forest (message none bytes) p.below k)
keeps x {p = p} (reports_next {bytes = bytes} r) b g f n e k =
    keeps x r b g f n e (above_grows b g n p.forest (message none (with_kind bytes (next_kind p.rest))) p.below k)
keeps x {p = p} (skips {bytes = bytes} r) b g f n e k =
    keeps x r b g f n e (above_grows b g n p.forest (node none ERROR (skipped p.rest bytes)) p.below k)
keeps x (starts r) b g f n e k = keeps x r b g f (suc n) e k
keeps x (precedes r) b g f zero e k = absurd cc
keeps x {p = p} (precedes r) b g f (suc n) e k =
    keeps x r b g f (suc (suc n)) e (other b n p.forest (but_last p.forest) p.below k)
keeps x (finishes r) b g f zero e k = absurd cc
keeps x {p = p} (finishes {k = c} r) b g f (suc n) e k =
    keeps x r b g f n e (closed b g n p.forest (node none c p.forest) p.below k)
keeps x (extends r) b g f zero e k = absurd cc
keeps x {p = p} (extends r) b g f (suc n) e k =
    keeps x r b g f n e (closed b g n p.forest (node none (last_kind p.forest)
    (but_last p.forest ⧺ last_children p.forest)) p.below k)
keeps x (abandons r) b g f zero e k = absurd cc
keeps x {p = p} (abandons r) b g f (suc n) e k = keeps x r b g f n e (closed b g n p.forest p.forest p.below k)
keeps x (splits_dotted h j r) b g f zero e k = absurd cc
keeps x {p = p} (splits_dotted {s = y} {t = z} h j r) b g f (suc n) e k =
    keeps x r b g f n (joined_left f (ends y n) (ends z n) e)
    (closed b g n p.forest (node none FIELD_EXPR (split_children p.forest true)) p.below k)
keeps x (splits_whole h j r) b g f zero e k = absurd cc
keeps x {p = p} (splits_whole {s = y} {t = z} h j r) b g f (suc n) e k =
    keeps x r b g f n (joined_right f (ends y n) (ends z n) e)
    (closed b g n p.forest (node none FIELD_EXPR (split_children p.forest false)) p.below k)
keeps x (follows {s = s} {n = h} {w = w} r z) b g f n e k =
    let on : Outcome → ℕ → List End = λ v j. ends (h v) j in
    let y = keeps x r b g (Then f on) n (gathered f on (ends s n) e) k in
    keeps x z b g f y.depth y.so y.above
keeps x {p = p} (obeys {c = c} {n = h} {r = t} {w = w} r z) b g f n e k =
    let on : Outcome → ℕ → List End = λ v j. ends (h v) j in
    let i = called x b f on c n e in
    let y = keeps x r (Above b i.others) (above_grows b g i.others) (as_said c i.within) i.within i.so
    (i.down p.forest p.below k) in
    let d : y.depth ≡ i.within = same_number _ _ (and_right (is_of w (outcomes c)) _ y.so) in
    keeps x z b g f n (of_one (Then f on) n w (outcomes c) (and_left _ _ y.so)
    (gathered f on (all_at n (outcomes c)) i.on))
    (i.up t.forest t.below (subst (λ (j : ℕ). Above (Above b i.others) j t.forest t.below) d y.above))
keeps x (turns {h = h} {a = i} {b = j} {r = u} r z) b g f n e k =
    let on : Bool → Bool → List End = λ c d. ends (h c d) n in
    let y = keeps x r b g (Turned f n) n (of_flags (Turned f n) on i j (settled f n (flagged on) e)) k in
    keeps x z b g f n e (subst (λ (m : ℕ). Above b m u.forest u.below) (same_number y.depth n y.so) y.above)
keeps x {v = v} (stops {h = h} {a = i} {b = j} r o) b g f n e k =
    let on : Bool → Bool → List End = λ c d. ends (h c d) n in
    let y = keeps x r b g (Turned f n) n (of_flags (Turned f n) on i j (settled f n (flagged on) e)) k in
    record { depth = y.depth; above = y.above; so = of_stop f n y.depth v o y.so }
