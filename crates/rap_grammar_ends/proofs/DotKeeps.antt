-- A run of a script ends at the levels where the script fits, so what it leaves has no node at the top that ends in
-- a dot.
use Rattle.std.proofs.Common.{◌≡◌, ℕ, Bool, true, false, ◌&&◌, not, List, [], ◌∷◌, drop, refl, sym, ◌∙◌, subst}
use Rattle.rap_base.specs.NodeKind.{FIELD_EXPR}
use Rattle.rap_base.specs.TokenKind.{ERROR}
use Rattle.rap_events.proofs.Truth.{and_left, and_right, and_both}
use Rattle.rap_events.specs.Forest.{Forest, none, node, leaf, message, split, ◌⧺◌, ends_in_dot}
use Rattle.rap_events.specs.Record.{Record}
use Rattle.rap_events.specs.State.{but_last, last_children, skipped}
use Rattle.rap_grammar_scripts.specs.Knot.{script_of}
use Rattle.rap_grammar_scripts.specs.declared.rule.Rule.{Rule}
use Rattle.rap_grammar_scripts.specs.Script.{Script, Outcome, Spot, Runs, gives, passes, fails, ends_so, ends_else, takes, takes_any, bears, reports, reports_next, skips, starts, precedes, finishes, extends, abandons, splits_dotted, splits_whole, follows, obeys, turns, stops, newest, last_tree}
use Rattle.rap_grammar_scripts.specs.Test.{holds}
use Rattle.rap_grammar_ends.specs.Dots.{dots_inside}
use Rattle.rap_grammar_ends.proofs.Endings.{of_stop}
use Rattle.rap_grammar_ends.proofs.DotEnds.{Level, inside, ranged, free, within, Levels, levels, same_lower, as_good, added, lowered, raised, before_last, extended, merged, Said, never, at_level, said, called}
use Rattle.rap_grammar_ends.proofs.DotFits.{Next, Implies, Fits, always, at_range, both, but, fits_give, fits_settled, fits_test, fits_ends_with, fits_token, fits_any, fits_bear, fits_report, fits_report_next, fits_skip, fits_start, fits_precede, fits_finish, fits_extend, fits_abandon, fits_split, fits_after, fits_rule, fits_loop, range_implies, same_lower_is, within_itself}

-- no float that ends in a dot stands at the top level itself
abbrev pub plain : Forest → Bool
plain none = true
plain (node before kind children) = plain before
plain (leaf before kind width) = plain before
plain (message before bytes) = plain before
plain (split before dot) = plain before && not dot

abbrev pub Plain : Forest → Type 0
Plain f = plain f ≡ true

abbrev pub Inside : Forest → Type 0
Inside f = dots_inside f ≡ true

plain_end : (f : Forest) → Plain f → ends_in_dot f ≡ false
plain_end none h = refl
plain_end (node b k x) h = refl
plain_end (leaf b k w) h = refl
plain_end (message b m) h = refl
plain_end (split b true) h = let z : false ≡ true = and_right (plain b) false h in absurd cc
plain_end (split b false) h = refl

plain_joined : (f x : Forest) → Plain f → Plain x → Plain (f ⧺ x)
plain_joined f none h i = h
plain_joined f (node b k c) h i = plain_joined f b h i
plain_joined f (leaf b k w) h i = plain_joined f b h i
plain_joined f (message b m) h i = plain_joined f b h i
plain_joined f (split b d) h i =
    and_both (plain (f ⧺ b)) (not d) (plain_joined f b h (and_left (plain b) (not d) i)) (and_right (plain b) (not d) i)

inside_joined : (f x : Forest) → Inside f → Inside x → Inside (f ⧺ x)
inside_joined f none h i = h
inside_joined f (node b k c) h i =
    and_both (dots_inside (f ⧺ b)) (not (ends_in_dot c))
    (inside_joined f b h (and_left (dots_inside b) (not (ends_in_dot c)) i))
    (and_right (dots_inside b) (not (ends_in_dot c)) i)
inside_joined f (leaf b k w) h i = inside_joined f b h i
inside_joined f (message b m) h i = inside_joined f b h i
inside_joined f (split b d) h i =
    and_both (dots_inside (f ⧺ b)) (not d) (inside_joined f b h (and_left (dots_inside b) (not d) i))
    (and_right (dots_inside b) (not d) i)

inside_plain : (f : Forest) → Inside f → Plain f
inside_plain none h = refl
inside_plain (node b k c) h = inside_plain b (and_left (dots_inside b) (not (ends_in_dot c)) h)
inside_plain (leaf b k w) h = inside_plain b h
inside_plain (message b m) h = inside_plain b h
inside_plain (split b d) h =
    and_both (plain b) (not d) (inside_plain b (and_left (dots_inside b) (not d) h))
    (and_right (dots_inside b) (not d) h)

plain_before : (f : Forest) → Plain f → Plain (but_last f)
unfolding but_last
plain_before none h = refl
plain_before (node b k c) h = h
plain_before (leaf b k w) h = h
plain_before (message b m) h = h
plain_before (split b d) h = and_left (plain b) (not d) h

inside_before : (f : Forest) → Inside f → Inside (but_last f)
unfolding but_last
inside_before none h = refl
inside_before (node b k c) h = and_left (dots_inside b) (not (ends_in_dot c)) h
inside_before (leaf b k w) h = h
inside_before (message b m) h = h
inside_before (split b d) h = and_left (dots_inside b) (not d) h

plain_last : (f : Forest) → Plain f → Plain (last_tree f)
plain_last none h = refl
plain_last (node b k c) h = refl
plain_last (leaf b k w) h = refl
plain_last (message b m) h = refl
plain_last (split b d) h = and_right (plain b) (not d) h

turned : (b : Bool) → not b ≡ true → b ≡ false
turned true h = absurd cc
turned false h = refl

not_dotted : (b : Bool) → b ≡ false → not b ≡ true
not_dotted true h = absurd cc
not_dotted false h = refl

-- what becomes of the last tree's children, with what stands before it
end_joined : (b c : Forest) → Plain b → ends_in_dot c ≡ false → ends_in_dot (b ⧺ c) ≡ false
end_joined b none h i = plain_end b h
end_joined b (node x k c) h i = refl
end_joined b (leaf x k w) h i = refl
end_joined b (message x m) h i = refl
end_joined b (split x d) h i = i

extended_end : (f : Forest) → Inside f → ends_in_dot (but_last f ⧺ last_children f) ≡ false
unfolding but_last last_children
extended_end none h = refl
extended_end (node b k c) h =
    end_joined b c (inside_plain b (and_left (dots_inside b) (not (ends_in_dot c)) h))
    (turned (ends_in_dot c) (and_right (dots_inside b) (not (ends_in_dot c)) h))
extended_end (leaf b k w) h = plain_end b (inside_plain b h)
extended_end (message b m) h = plain_end b (inside_plain b h)
extended_end (split b d) h = plain_end b (inside_plain b (and_left (dots_inside b) (not d) h))

skipped_end : (rs : List Record) (bytes : List ℕ) → ends_in_dot (skipped rs bytes) ≡ false
skipped_end [] bytes = refl
skipped_end (r ∷ rs) bytes = refl

-- What holds of a forest stays true where something that ends in no dot is added or the last tree is taken away.
pub record Good (g : Forest → Type 0) : Type 0 where
  pub flat : (f : Forest) → g f → Plain f
  pub on_node : (f : Forest) (k : ℕ) (c : Forest) → g f → ends_in_dot c ≡ false → g (node f k c)
  pub on_leaf : (f : Forest) (k w : ℕ) → g f → g (leaf f k w)
  pub on_message : (f : Forest) (bytes : List ℕ) → g f → g (message f bytes)
  pub on_before : (f : Forest) → g f → g (but_last f)
  pub on_joined : (f x : Forest) → g f → Inside x → g (f ⧺ x)

pub good_inside : Good Inside
good_inside = record {
  flat = inside_plain;
  on_node = λ f k c h i. and_both (dots_inside f) (not (ends_in_dot c)) h (not_dotted (ends_in_dot c) i);
  on_leaf = λ f k w h. h;
  on_message = λ f bytes h. h;
  on_before = inside_before;
  on_joined = inside_joined;
}

good_plain : Good Plain
good_plain = record {
  flat = λ f h. h;
  on_node = λ f k c h i. h;
  on_leaf = λ f k w h. h;
  on_message = λ f bytes h. h;
  on_before = plain_before;
  on_joined = λ f x h i. plain_joined f x h (inside_plain x i);
}

-- Nodes are open above one whose forest this holds of; of the newest of them, no node that ends in a dot stands in it.
abbrev pub own : (Forest → Type 0) → List Bool → Forest → Type 0
own g [] = g
own g (c ∷ ls) = Inside

own_good : (g : Forest → Type 0) → Good g → (ls : List Bool) → Good (own g ls)
own_good g o [] = o
own_good g o (c ∷ ls) = good_inside

-- all but the last tree is so, and with it where these are not the next tokens
pub record Ranged (g : Forest → Type 0) (n : Next) (rest : List Record) (f : Forest) : Type 0 where
  pub before : g (but_last f)
  pub flat : Plain f
  pub settled : n rest ≡ false → g f

abbrev pub At : (Forest → Type 0) → Next → Level → List Record → Forest → Type 0
At g n inside rest f = g f
At g n ranged rest f = Ranged g n rest f
At g n free rest f = Plain f

-- the same of an older node
abbrev pub Low : (Forest → Type 0) → Bool → Forest → Type 0
Low g true f = g f
Low g false f = Plain f

abbrev pub Lower : (Forest → Type 0) → (List Forest → Type 0) → List Bool → List Forest → Type 0
Lower g b [] fs = b fs
Lower g b (c ∷ ls) [] = ⊥
Lower g b (c ∷ ls) (f ∷ fs) = Low (own g ls) c f × Lower g b ls fs

-- the open nodes of a spot
pub record Stand (g : Forest → Type 0) (b : List Forest → Type 0) (n : Next) (l : Level) (ls : List Bool) (p : Spot) :
    Type 0 where
  pub top : At (own g ls) n l p.rest p.forest
  pub older : Lower g b ls p.below

-- an end of a run
pub record Ended (g : Forest → Type 0) (b : List Forest → Type 0) (f : Outcome → Levels → Bool) (q : Spot)
    (v : Outcome) : Type 0 where
  pub level : Level
  pub lower : List Bool
  pub stand : Stand g b at_range level lower q
  pub so : f v (levels level lower) ≡ true

at_plain : (g : Forest → Type 0) → Good g → (n : Next) (l : Level) (rest : List Record) (f : Forest) →
    At g n l rest f → Plain f
at_plain g o n inside rest f a = o.flat f a
at_plain g o n ranged rest f a = a.flat
at_plain g o n free rest f a = a

low_plain : (g : Forest → Type 0) → Good g → (c : Bool) (f : Forest) → Low g c f → Plain f
low_plain g o true f a = o.flat f a
low_plain g o false f a = a

not_next : (a b : Bool) → (a ≡ true → b ≡ true) → b ≡ false → a ≡ false
not_next true b i h = let z : true ≡ false = sym (i refl) ∙ h in absurd cc
not_next false b i h = refl

widened : (g : Forest → Type 0) → Good g → (n m : Next) → Implies n m → (l k : Level) (rest : List Record)
    (f : Forest) → within l k ≡ true → At g n l rest f → At g m k rest f
widened g o n m i inside inside rest f w a = a
widened g o n m i inside ranged rest f w a =
    record { before = o.on_before f a; flat = o.flat f a; settled = λ h. a }
widened g o n m i inside free rest f w a = o.flat f a
widened g o n m i ranged inside rest f w a = absurd cc
widened g o n m i ranged ranged rest f w a =
    record { before = a.before; flat = a.flat; settled = λ h. a.settled (not_next (n rest) (m rest) (i rest) h) }
widened g o n m i ranged free rest f w a = a.flat
widened g o n m i free inside rest f w a = absurd cc
widened g o n m i free ranged rest f w a = absurd cc
widened g o n m i free free rest f w a = a

-- something more behind it
grown : (g : Forest → Type 0) (n m : Next) (l : Level) (rest on : List Record) (f h : Forest) → (g f → g h) →
    (Plain f → Plain h) → At g n l rest f → At g m (added l) on h
grown g n m inside rest on f h to flat a = to a
grown g n m ranged rest on f h to flat a = flat a.flat
grown g n m free rest on f h to flat a = flat a

raised_at : (g : Forest → Type 0) (m : Next) (c : Bool) (on : List Record) (f h : Forest) → (g f → g h) →
    (Plain f → Plain h) → Low g c f → At g m (raised c) on h
raised_at g m true on f h to flat a = to a
raised_at g m false on f h to flat a = flat a

lowered_at : (g : Forest → Type 0) (n : Next) (l : Level) (rest : List Record) (f : Forest) → At g n l rest f →
    Low g (lowered l) f
lowered_at g n inside rest f a = a
lowered_at g n ranged rest f a = a.flat
lowered_at g n free rest f a = a

before_at : (g : Forest → Type 0) → Good g → (n : Next) (l : Level) (rest : List Record) (f : Forest) →
    At g n l rest f → Low g (before_last l) (but_last f)
before_at g o n inside rest f a = o.on_before f a
before_at g o n ranged rest f a = a.before
before_at g o n free rest f a = plain_before f a

-- the newest of the older nodes
older_one : (g : Forest → Type 0) (b : List Forest → Type 0) (c : Bool) (ls : List Bool) (fs : List Forest) →
    Lower g b (c ∷ ls) fs → Low (own g ls) c (newest fs) × Lower g b ls (drop 1 fs)
older_one g b c ls [] k = absurd k
older_one g b c ls (f ∷ fs) k = k

extended_at : (g : Forest → Type 0) → Good g → (n : Next) (l : Level) (c : Bool) (rest : List Record) (f h : Forest)
    (k : ℕ) → At Inside n l rest f → Low g c h →
    At g n (extended l c) rest (node h k (but_last f ⧺ last_children f))
unfolding but_last
extended_at g o n inside c rest f h k a d =
    raised_at g n c rest h (node h k (but_last f ⧺ last_children f)) (λ i. o.on_node h k _ i (extended_end f a))
    (λ i. i) d
extended_at g o n ranged true rest f h k a d = record {
  before = d;
  flat = o.flat h d;
  settled = λ e. o.on_node h k _ d (extended_end f (a.settled e));
}
extended_at g o n ranged false rest f h k a d = d
extended_at g o n free c rest f h k a d = low_plain g o c h d

merged_at : (g : Forest → Type 0) → Good g → (n m : Next) (l : Level) (c : Bool) (rest : List Record) (f h : Forest) →
    At Inside n l rest f → Low g c h → At g m (merged l c) rest (h ⧺ f)
merged_at g o n m inside true rest f h a d = o.on_joined h f d a
merged_at g o n m inside false rest f h a d = plain_joined h f d (inside_plain f a)
merged_at g o n m ranged c rest f h a d = plain_joined h f (low_plain g o c h d) a.flat
merged_at g o n m free c rest f h a d = plain_joined h f (low_plain g o c h d) a

-- fewer next tokens are left
narrowed : (g : Forest → Type 0) (n m : Next) (l : Level) (rest : List Record) (f : Forest) →
    (m rest ≡ false → n rest ≡ false) → At g n l rest f → At g m l rest f
narrowed g n m inside rest f w a = a
narrowed g n m ranged rest f w a =
    record { before = a.before; flat = a.flat; settled = λ e. a.settled (w e) }
narrowed g n m free rest f w a = a

passing : (a b : Bool) → b ≡ true → a && b ≡ false → a ≡ false
passing true b h e = let z : true ≡ false = sym h ∙ e in absurd cc
passing false b h e = refl

failing : (a b : Bool) → b ≡ false → a && not b ≡ false → a ≡ false
failing true true h e = absurd cc
failing true false h e = absurd cc
failing false b h e = refl

dotted_at : (g : Forest → Type 0) → Good g → (rest : List Record) (f h : Forest) → g h →
    Ranged g always rest (node h FIELD_EXPR (split f true))
unfolding but_last
dotted_at g o rest f h d = record {
  before = d;
  flat = o.flat h d;
  settled = λ e. let z : true ≡ false = e in absurd cc;
}

-- what holds of the forest that a called rule begins with, and what is known after it
abbrev Base : Level → (Forest → Type 0) → Forest → Type 0
Base inside g = g
Base ranged g = Plain
Base free g = Plain

base_good : (l : Level) (g : Forest → Type 0) → Good g → Good (Base l g)
base_good inside g o = o
base_good ranged g o = good_plain
base_good free g o = good_plain

base_at : (g : Forest → Type 0) (n : Next) (l : Level) (rest : List Record) (f : Forest) → At g n l rest f → Base l g f
base_at g n inside rest f a = a
base_at g n ranged rest f a = a.flat
base_at g n free rest f a = a

back_at : (g : Forest → Type 0) → Good g → (l m k : Level) (rest : List Record) (f : Forest) → within m k ≡ true →
    At (Base l g) at_range m rest f → At g at_range (called l k) rest f
back_at g o inside m k rest f w a = widened g o at_range at_range range_implies m k rest f w a
back_at g o ranged m k rest f w a = at_plain Plain good_plain at_range m rest f a
back_at g o free m k rest f w a = at_plain Plain good_plain at_range m rest f a

-- by one of its outcomes, at the level that is said of it
abbrev pub within_said : Level → Said → Bool
within_said m never = false
within_said m (at_level k) = within m k

abbrev pub as_said : Rule → Outcome → Levels → Bool
as_said c v (levels m []) = within_said m (said v c)
as_said c v (levels m (d ∷ ms)) = false

record CallStart (c : Rule) (v : Outcome) (m : Level) (ms : List Bool) : Type 0 where
  level : Level
  is : said v c ≡ at_level level
  near : within m level ≡ true
  alone : ms ≡ []

start_at : (c : Rule) (v : Outcome) (m : Level) (s : Said) → said v c ≡ s → within_said m s ≡ true → CallStart c v m []
start_at c v m never i h = absurd cc
start_at c v m (at_level k) i h = record { level = k; is = i; near = h; alone = refl }

call_start : (c : Rule) (v : Outcome) (m : Level) (ms : List Bool) → as_said c v (levels m ms) ≡ true → CallStart c v m ms
call_start c v m [] h = start_at c v m (said v c) refl h
call_start c v m (d ∷ ms) h = absurd cc

-- The rules of the knot end as their table says.
abbrev pub Sound : Type 0
Sound = (c : Rule) → Fits at_range (script_of c) inside [] (as_said c)

pub keeps : Sound → {s : Script Rule} {p q : Spot} {v : Outcome} → Runs script_of s p q v →
    (g : Forest → Type 0) → Good g → (b : List Forest → Type 0) {n : Next} {l : Level} {ls : List Bool}
    {f : Outcome → Levels → Bool} → Fits n s l ls f → Stand g b n l ls p → Ended g b f q v
keeps x {p = p} gives g o b (fits_give {g = n} {l = l} {ls = ls} i e) k = record {
  level = l;
  lower = ls;
  stand = record {
    top = widened (own g ls) (own_good g o ls) n at_range i l l p.rest p.forest (within_itself l) k.top;
    older = k.older;
  };
  so = e;
}
keeps x {p = p} gives g o b (fits_settled {ls = ls} i e) k = record {
  level = inside;
  lower = ls;
  stand = record { top = k.top.settled (i p.rest); older = k.older };
  so = e;
}
keeps x {p = p} (passes {h = t} h r) g o b (fits_test {g = n} {l = l} {ls = ls} y z) k =
    keeps x r g o b y (record {
      top = narrowed (own g ls) n (both n (holds t)) l p.rest p.forest
          (passing (n p.rest) (holds t p.rest) h) k.top;
      older = k.older;
    })
keeps x {p = p} (fails {h = t} h r) g o b (fits_test {g = n} {l = l} {ls = ls} y z) k =
    keeps x r g o b z (record {
      top = narrowed (own g ls) n (but n (holds t)) l p.rest p.forest
          (failing (n p.rest) (holds t p.rest) h) k.top;
      older = k.older;
    })
keeps x (ends_so h r) g o b (fits_ends_with y z) k = keeps x r g o b y k
keeps x (ends_else h r) g o b (fits_ends_with y z) k = keeps x r g o b z k
keeps x {p = p} (takes h r) g o b (fits_token {g = n} {l = l} {ls = ls} y) k =
    keeps x r g o b y (record {
      top = grown (own g ls) n at_range l p.rest _ p.forest _ ((own_good g o ls).on_leaf p.forest _ _) (λ i. i) k.top;
      older = k.older;
    })
keeps x {p = p} (takes_any h r) g o b (fits_any {g = n} {l = l} {ls = ls} y) k =
    keeps x r g o b y (record {
      top = grown (own g ls) n at_range l p.rest _ p.forest _ ((own_good g o ls).on_leaf p.forest _ _) (λ i. i) k.top;
      older = k.older;
    })
keeps x {p = p} (bears h r) g o b (fits_bear {g = n} {l = l} {ls = ls} y) k =
    keeps x r g o b y (record {
      top = grown (own g ls) n at_range l p.rest _ p.forest _ ((own_good g o ls).on_leaf p.forest _ _) (λ i. i) k.top;
      older = k.older;
    })
keeps x {p = p} (reports r) g o b (fits_report {g = n} {l = l} {ls = ls} y) k =
    keeps x r g o b y (record {
      top = grown (own g ls) n at_range l p.rest _ p.forest _ ((own_good g o ls).on_message p.forest _) (λ i. i) k.top;
      older = k.older;
    })
keeps x {p = p} (reports_next r) g o b (fits_report_next {g = n} {l = l} {ls = ls} y) k =
    keeps x r g o b y (record {
      top = grown (own g ls) n at_range l p.rest _ p.forest _ ((own_good g o ls).on_message p.forest _) (λ i. i) k.top;
      older = k.older;
    })
keeps x {p = p} (skips {bytes = bytes} r) g o b (fits_skip {g = n} {l = l} {ls = ls} y) k =
    keeps x r g o b y (record {
      top = grown (own g ls) n at_range l p.rest _ p.forest (node p.forest ERROR (skipped p.rest bytes))
          (λ i. (own_good g o ls).on_node p.forest ERROR (skipped p.rest bytes) i (skipped_end p.rest bytes))
          (λ i. i) k.top;
      older = k.older;
    })
keeps x {p = p} (starts r) g o b (fits_start {g = n} {l = l} {ls = ls} y) k =
    keeps x r g o b y (record {
      top = refl;
      older = (lowered_at (own g ls) n l p.rest p.forest k.top, k.older);
    })
keeps x {p = p} (precedes r) g o b (fits_precede {g = n} {l = l} {ls = ls} y) k =
    keeps x r g o b y (record {
      top = plain_last p.forest (at_plain (own g ls) (own_good g o ls) n l p.rest p.forest k.top);
      older = (before_at (own g ls) (own_good g o ls) n l p.rest p.forest k.top, k.older);
    })
keeps x {p = p} (finishes {k = i} r) g o b (fits_finish {g = n} {l = l} {c = c} {ls = ls} y) k =
    let d = older_one g b c ls p.below k.older in
    let e = plain_end p.forest (at_plain Inside good_inside n l p.rest p.forest k.top) in
    keeps x r g o b y (record {
      top = raised_at (own g ls) at_range c p.rest (newest p.below) (node (newest p.below) i p.forest)
          (λ j. (own_good g o ls).on_node (newest p.below) i p.forest j e) (λ j. j) d.0;
      older = d.1;
    })
keeps x {p = p} (extends r) g o b (fits_extend {g = n} {l = l} {c = c} {ls = ls} y) k =
    let d = older_one g b c ls p.below k.older in
    keeps x r g o b y (record {
      top = extended_at (own g ls) (own_good g o ls) n l c p.rest p.forest (newest p.below) _ k.top d.0;
      older = d.1;
    })
keeps x {p = p} (abandons r) g o b (fits_abandon {g = n} {l = l} {c = c} {ls = ls} y) k =
    let d = older_one g b c ls p.below k.older in
    keeps x r g o b y (record {
      top = merged_at (own g ls) (own_good g o ls) n at_range l c p.rest p.forest (newest p.below) k.top d.0;
      older = d.1;
    })
keeps x {p = p} (splits_dotted h j r) g o b (fits_split {ls = ls} y z) k =
    let d = older_one g b true ls p.below k.older in
    keeps x r g o b y (record {
      top = dotted_at (own g ls) (own_good g o ls) (drop 1 p.rest) p.forest (newest p.below) d.0;
      older = d.1;
    })
keeps x {p = p} (splits_whole h j r) g o b (fits_split {ls = ls} y z) k =
    let d = older_one g b true ls p.below k.older in
    keeps x r g o b z (record {
      top =
          (own_good g o ls).on_node (newest p.below) FIELD_EXPR (node none FIELD_EXPR (split p.forest false)) d.0
          refl;
      older = d.1;
    })
keeps x (follows {w = w} r z) g o b (fits_after y t) k =
    let a = keeps x r g o b y k in
    keeps x z g o b (t w a.level a.lower a.so) a.stand
keeps x {p = p} (obeys {c = c} {r = u} {w = w} r z) g o b (fits_rule {g = n} {l = l} {ls = ls} t) k =
    let y = keeps x r (Base l (own g ls)) (base_good l (own g ls) (own_good g o ls)) (Lower g b ls) (x c) (record {
      top = base_at (own g ls) n l p.rest p.forest k.top;
      older = k.older;
    }) in
    let a = call_start c w y.level y.lower y.so in
    let m =
    subst (λ (ms : List Bool). Stand (Base l (own g ls)) (Lower g b ls) at_range y.level ms u) a.alone y.stand in
    keeps x z g o b (t w a.level a.is) (record {
      top = back_at (own g ls) (own_good g o ls) l y.level a.level u.rest u.forest a.near m.top;
      older = m.older;
    })
keeps x {p = p} (turns {a = c} {b = d} {r = u} r z) g o b (fits_loop {g = n} {l = l} {m = m} {ls = ls} i w t) k =
    let y = keeps x r g o b (t c d) (record {
      top = widened (own g ls) (own_good g o ls) n at_range i l m p.rest p.forest w k.top;
      older = k.older;
    }) in
    let same = same_lower_is y.lower ls (and_right (within y.level m) (same_lower y.lower ls) y.so) in
    let e = subst (λ (ms : List Bool). Stand g b at_range y.level ms u) same y.stand in
    keeps x z g o b (fits_loop range_implies (within_itself m) t) (record {
      top = widened (own g ls) (own_good g o ls) at_range at_range range_implies y.level m u.rest u.forest
          (and_left (within y.level m) (same_lower y.lower ls) y.so) e.top;
      older = e.older;
    })
keeps x {p = p} {v = v} (stops {a = c} {b = d} r h) g o b
    (fits_loop {g = n} {l = l} {m = m} {ls = ls} {f = f} i w t) k =
    let y = keeps x r g o b (t c d) (record {
      top = widened (own g ls) (own_good g o ls) n at_range i l m p.rest p.forest w k.top;
      older = k.older;
    }) in
    record {
      level = y.level;
      lower = y.lower;
      stand = y.stand;
      so = of_stop (as_good m ls) f (levels y.level y.lower) v h y.so;
    }

-- nothing is left at the top
abbrev pub leaves_inside : Outcome → Levels → Bool
leaves_inside v (levels inside []) = true
leaves_inside v (levels inside (c ∷ ls)) = false
leaves_inside v (levels ranged ls) = false
leaves_inside v (levels free ls) = false

left_inside : (v : Outcome) (l : Level) (ls : List Bool) (rest : List Record) (f : Forest) →
    leaves_inside v (levels l ls) ≡ true → At (own Inside ls) at_range l rest f → Inside f
left_inside v inside [] rest f h a = a
left_inside v inside (c ∷ ls) rest f h a = a
left_inside v ranged ls rest f h a = absurd cc
left_inside v free ls rest f h a = absurd cc

pub kept_inside : Sound → {s : Script Rule} {p q : Spot} {v : Outcome} → Runs script_of s p q v →
    Fits at_range s inside [] leaves_inside → Inside p.forest → Inside q.forest
kept_inside x {q = q} {v = v} r t h =
    let y = keeps x r Inside good_inside (λ fs. Unit {0}) t (record { top = h; older = tt }) in
    left_inside v y.level y.lower q.rest q.forest y.so y.stand.top
