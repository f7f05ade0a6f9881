-- What the words for tokens, nodes and rules do along the first piece of a row.
use Rattle.std.proofs.Common.{◌≡◌, ◌≢◌, ℕ, Bool, true, false, not, ◌&&◌, ◌||◌, ◌==◌, Option, List, [], ◌∷◌, ◌++◌, drop, refl, sym, ◌∙◌, subst, ap, append_assoc, arith}
use Rattle.std.proofs.lemmas.Bool.Decides.{nat_tests}
use Rattle.rap_base.specs.TokenKind.{EOF, IDENT}
use Rattle.rap_events.proofs.Truth.{and_left, and_right}
use Rattle.rap_events.specs.Composite.{parts, is_at, is_first, begins_with, width, width_of}
use Rattle.rap_events.specs.Cover.{first_may_bear}
use Rattle.rap_events.specs.Forest.{Forest, none, node, leaf, ◌⧺◌}
use Rattle.rap_events.specs.Record.{Record, next_kind}
use Rattle.rap_events.specs.State.{but_last, last_children}
use Rattle.rap_grammar_scripts.specs.Knot.{script_of}
use Rattle.rap_grammar_scripts.specs.Script.{Script, Outcome, nothing, something, block, again, Spot, Runs, finishes, extends, abandons, precedes, finish, extend, abandon, precede, last_tree, last_kind}
use Rattle.rap_grammar_scripts.specs.Test.{kind_so}
use Rattle.rap_grammar_scripts.specs.declared.rule.Rule.{Rule}
use Rattle.rap_grammar_table.specs.Category.{Category}
use Rattle.rap_grammar_table.proofs.Built.{Built, base, empty, over, tree, is_own, joined, At, with_row, with_own, after_category, after_piece}
use Rattle.rap_grammar_table.proofs.Good.{Good, good_token, good_word, good_operator, good_category, IsNode, IsUnbraced, Made, made_piece, Reads, ByRows}
use Rattle.rap_grammar_table.specs.Known.{Answer, sure, never, unclear, Place, agrees, among, within, Sees, this_way, anything}
use Rattle.rap_grammar_table.proofs.Evaluate.{is_kind, evaluate_all}
use Rattle.rap_grammar_table.proofs.Look.{look_piece}
use Rattle.rap_grammar_table.proofs.Narrow.{Fact, left_by, AreSo}
use Rattle.rap_grammar_table.proofs.Refusal.{Word, obeys, stopped, Verdict, accepted}
use Rattle.rap_grammar_table.proofs.Hints.{Table}
use Rattle.rap_grammar_table.specs.Table.{Piece, tok, word, comp, cat, Items, piece, Touching, last_part, next_part}
use Rattle.rap_grammar_table.proofs.Ways.{expose, front, no_parts, is_sure, has_kind, is_token, is_some, is_bearer, every_outcome, some_outcome, read_piece, read_rule, finish_own, extend_own, abandon_own, precede_own, has_outcome, same_outcome, same_flag}
use Rattle.rap_grammar_table.proofs.Exposes.{exposed_at}
use Rattle.rap_grammar_table.proofs.Known.{agrees_all, nothing_known, by_or, every_so, same_number}
use Rattle.rap_grammar_table.proofs.LookLaws.{piece_seen, same_self}
use Rattle.rap_grammar_table.proofs.NarrowLaws.{left_sees}
use Rattle.rap_grammar_table.proofs.Values.{tree_of, value, values, spot_at, AreNodes, Stands, Comes, before, drop_first, drop_more, same_spot, joined-value, none-⧺, nodes_with, node_at}
use Rattle.rap_grammar_table.proofs.Verdict.{both_left, both_right, provided_is, provided_so}

pub record Front (t : Table) (l : List Record) (p : Piece) (is : Items) (x : Forest) (xs us : List Forest)
    (ks : List Record) (y : Forest) : Type 0 where
  pub own : List Record
  pub rest : List Record
  pub tree_is : Forest
  pub trees : List Forest
  pub tokens : ks ≡ own ++ rest
  pub all : us ≡ tree_is ∷ trees
  pub good : Good t p own tree_is (rest ++ l)
  pub made : Made t l is (x ⧺ tree_is) xs trees rest y

pub front_inv : {t : Table} {l : List Record} {p : Piece} {is : Items} {x y : Forest} {xs us : List Forest}
    {ks : List Record} → Made t l (piece p is) x xs us ks y → Front t l p is x xs us ks y
front_inv (made_piece {u = u} {us = us} {ks = ks} {js = js} g m) =
    record { own = ks; rest = js; tree_is = u; trees = us; tokens = refl; all = refl; good = g; made = m }

-- a piece that is taken
pub record Taking (t : Table) (l : List Record) (e : List Forest) (y f : Forest) (b : List Forest) (g : Piece → Bool)
    (k : At → Verdict) (s : At) (ks : List Record) : Type 0 where
  pub taken : Piece
  pub own : List Record
  pub rest : List Record
  pub tree_is : Forest
  pub place : At
  pub accepted_it : g taken ≡ true
  pub so : k place ≡ accepted
  pub good : Good t taken own tree_is (rest ++ l)
  pub stands : Stands t l e y place rest
  pub tokens : ks ≡ own ++ rest
  pub facts : AreSo s.facts (own ++ (rest ++ l))
  pub forest : value f e place.own ≡ value f e s.own ⧺ tree_is
  pub below : place.owns ≡ s.owns

took : (t : Table) (l : List Record) (e : List Forest) (y f : Forest) (b : List Forest) (w : Word) (g : Piece → Bool)
    (k : At → Verdict) (s : At) (ks : List Record) (left : List Forest) → AreNodes e s.nodes →
    AreSo s.facts (ks ++ l) → drop s.count e ≡ left → (is : Items) (x : Built) (xs : List Built) →
    Made t l is (value none e x) (values none e [] xs) left ks y →
    front w g is (with_row s is x xs) k ≡ accepted → Taking t l e y f b g k s ks
took t l e y f b w g k s ks left ns fs h (piece p is) x xs m o =
    let v = front_inv m in
    let d = h ∙ v.all in
    let same_tree = drop_first s.count e v.tree_is v.trees d in
    let place = after_piece (with_row s (piece p is) x xs) is false in
    record {
      taken = p;
      own = v.own;
      rest = v.rest;
      tree_is = v.tree_is;
      place = place;
      accepted_it = provided_is (g p) (stopped w (piece p is)) (λ u. k place) o;
      so = provided_so (g p) (stopped w (piece p is)) (λ u. k place) o;
      good = v.good;
      stands =
          record {
            left = v.trees;
            left_is = drop_more s.count e v.tree_is v.trees d;
            made = rw same_tree v.made;
            nodes = ns;
            facts = tt;
          };
      tokens = v.tokens;
      facts =
          subst (λ (js : List Record). AreSo s.facts js)
          (ap (λ (js : List Record). js ++ l) v.tokens ∙ append_assoc v.own v.rest l) fs;
      forest = rw same_tree refl;
      below = refl;
    }
took t l e y f b w g k s ks left ns fs h is x xs m o = absurd cc

pub taking : (t : Table) (c : List (List Place)) (l : List Record) (e : List Forest) (y f : Forest) (b : List Forest) →
    Sees c l → (w : Word) (g : Piece → Bool) (k : At → Verdict) (s : At) (ks : List Record) → Stands t l e y s ks →
    expose t c s (λ q. front w g q.items q k) ≡ accepted → Taking t l e y f b g k s ks
taking t c l e y f b i w g k s ks st o =
    let x = exposed_at t c l e y i s ks (λ is x xs. front w g is (with_row s is x xs) k) st o in
    took t l e y f b w g k s ks st.left st.nodes st.facts st.left_is x.items x.row x.rows x.made x.so

-- what the words for tokens ask
sure_so : (a : Answer) (x : Bool) → is_sure a ≡ true → agrees a x ≡ true → x ≡ true
sure_so sure x h i = i
sure_so never x h i = absurd cc
sure_so unclear x h i = absurd cc

kind_known : (fs : List Fact) (k : ℕ) (g : List (List Place)) (r : Record) (l : List Record) → Sees g (r ∷ l) →
    AreSo fs (r ∷ l) → has_kind fs k g ≡ true → (r.kind == k) ≡ true
kind_known fs k g r l s a h =
    sure_so (evaluate_all (kind_so 0 (is_kind k)) (left_by fs g)) (r.kind == k) h
    (agrees_all (kind_so 0 (is_kind k)) (left_by fs g) (r ∷ l) (left_sees fs g (r ∷ l) a s))

token_kind : (t : Table) (fs : List Fact) (k : ℕ) (kinds : List ℕ) (words : Option (List ℕ)) (r : Record)
    (l : List Record) → among kinds r.kind ≡ true → within words r.contextual ≡ true → AreSo fs (r ∷ l) →
    has_kind fs k (look_piece t (tok kinds words) anything) ≡ true → (r.kind == k) ≡ true
token_kind t fs k kinds words r l m w a h =
    kind_known fs k (look_piece t (tok kinds words) anything) r l
    (piece_seen t anything (good_token m w) (this_way (nothing_known l))) a h

pub record TokenAt (kind : ℕ) (ks : List Record) (u : Forest) (l : List Record) : Type 0 where
  pub here : is_at kind (ks ++ l) ≡ true
  pub past : drop (width kind) (ks ++ l) ≡ l
  pub leaf_is : u ≡ leaf none kind (width kind)

single_at : (ps : List ℕ) (kind : ℕ) (r : Record) (l : List Record) → no_parts ps ≡ true → (r.kind == kind) ≡ true →
    is_first ps kind (r ∷ l) ≡ true
single_at [] kind r l n h = h
single_at (j ∷ js) kind r l n h = absurd cc

single_past : (ps : List ℕ) (r : Record) (l : List Record) → no_parts ps ≡ true → drop (width_of ps) (r ∷ l) ≡ l
single_past [] r l n = refl
single_past (j ∷ js) r l n = absurd cc

single_leaf : (ps : List ℕ) (j kind : ℕ) → no_parts ps ≡ true → j ≡ kind →
    ◌≡◌ {A = Forest} (leaf none j 1) (leaf none kind (width_of ps))
single_leaf [] j kind n h = rw h refl
single_leaf (i ∷ is) j kind n h = absurd cc

touching_here : (kind : ℕ) {ps : List ℕ} {os : List Record} (l : List Record) → Touching ps os →
    begins_with ps (os ++ l) ≡ true
touching_here kind l (last_part {k = k} {r = r} e) = rw e (same_self k)
touching_here kind l (next_part {k = k} {r = r} e i x) = rw (e, same_self k, i) (touching_here kind l x)

touching_first : (kind : ℕ) {ps : List ℕ} {os : List Record} (l : List Record) → Touching ps os →
    is_first ps kind (os ++ l) ≡ true
touching_first kind l (last_part {r = r} e) = touching_here kind l (last_part {r = r} e)
touching_first kind l (next_part {r = r} e i x) = touching_here kind l (next_part {r = r} e i x)

touching_past : {ps : List ℕ} {os : List Record} (l : List Record) → Touching ps os →
    drop (width_of ps) (os ++ l) ≡ l
touching_past l (last_part e) = refl
touching_past l (next_part e i (last_part j)) = refl
touching_past l (next_part e i (next_part {r = r} j k x)) = touching_past l (next_part {r = r} j k x)

pub token_at : (t : Table) (fs : List Fact) (kind : ℕ) {p : Piece} {ks l : List Record} {u : Forest} →
    Good t p ks u l → AreSo fs (ks ++ l) → is_token t fs kind p ≡ true → TokenAt kind ks u l
token_at t fs kind (good_token {kinds = kinds} {words = words} {r = r} {l = l} m w) a h =
    let n = and_left (no_parts (parts kind)) _ h in
    let e = token_kind t fs kind kinds words r l m w a (and_right (no_parts (parts kind)) _ h) in
    record {
      here = single_at (parts kind) kind r l n e;
      past = single_past (parts kind) r l n;
      leaf_is = single_leaf (parts kind) r.kind kind n (same_number r.kind kind e);
    }
token_at t fs kind (good_word e i) a h = absurd cc
token_at t fs kind (good_operator {k = k} {rs = rs} {l = l} x) a h =
    let x' = subst (λ (j : ℕ). Touching (parts j) rs) (same_number k kind h) x in
    record {
      here = touching_first kind l x';
      past = touching_past l x';
      leaf_is = ap (λ (j : ℕ). leaf none j (width j)) (same_number k kind h);
    }
token_at t fs kind (good_category x n p o y) a h = absurd cc

pub record AnyAt (ks : List Record) (u : Forest) (l : List Record) : Type 0 where
  pub some : next_kind (ks ++ l) ≢ EOF
  pub past : drop 1 (ks ++ l) ≡ l
  pub leaf_is : u ≡ leaf none (next_kind (ks ++ l)) 1

no_end : (k : ℕ) → not (k == EOF) ≡ true → k ≢ EOF
no_end k h = λ e. absurd (grind (arith, nat_tests))

pub any_at : {t : Table} {p : Piece} {ks l : List Record} {u : Forest} → Good t p ks u l → is_some p ≡ true →
    AnyAt ks u l
any_at (good_token {kinds = kinds} {r = r} m w) h =
    record { some = no_end r.kind (every_so (λ k. not (k == EOF)) kinds r.kind h m); past = refl; leaf_is = refl }
any_at (good_word e i) h = absurd cc
any_at (good_operator x) h = absurd cc
any_at (good_category x n p o y) h = absurd cc

pub record BornAt (kind : ℕ) (ks : List Record) (u : Forest) (l : List Record) : Type 0 where
  pub here : first_may_bear (ks ++ l) kind ≡ true
  pub past : drop 1 (ks ++ l) ≡ l
  pub leaf_is : u ≡ leaf none kind 1

pub born_at : (t : Table) (fs : List Fact) (kind : ℕ) {p : Piece} {ks l : List Record} {u : Forest} →
    Good t p ks u l → AreSo fs (ks ++ l) → is_bearer t fs kind p ≡ true → BornAt kind ks u l
born_at t fs kind (good_token {kinds = kinds} {words = words} {r = r} {l = l} m w) a h =
    let e = token_kind t fs kind kinds words r l m w a h in
    record { here = rw e refl; past = refl; leaf_is = ap (λ (j : ℕ). leaf none j 1) (same_number r.kind kind e) }
born_at t fs kind (good_word {k = k} {r = r} e i) a h =
    let j = same_number k kind h in
    record {
      here = born (r.kind == kind) (r.kind == IDENT) (r.contextual == kind) _ (rw e refl) (rw (i, j) (same_self kind));
      past = refl;
      leaf_is = ap (λ (j : ℕ). leaf none j 1) j;
    }
  where
    born : (a b c d : Bool) → b ≡ true → c ≡ true → (a || ((b && c) || d)) ≡ true
    born true b c d h i = refl
    born false b c d h i = rw (h, i) refl
born_at t fs kind (good_operator x) a h = absurd cc
born_at t fs kind (good_category x n p o y) a h = absurd cc

-- outcomes
pub same_flags : (a b : Bool) → same_flag a b ≡ true → a ≡ b
same_flags true true h = refl
same_flags true false h = absurd cc
same_flags false true h = absurd cc
same_flags false false h = refl

same_as : (v w : Outcome) → same_outcome v w ≡ true → v ≡ w
same_as nothing nothing h = refl
same_as something something h = refl
same_as block block h = refl
same_as (again a b) (again c d) h =
    rw (same_flags a c (and_left _ _ h), same_flags b d (and_right (same_flag a c) _ h)) refl
same_as v w h = absurd cc

pub of_every : (k : Outcome → Verdict) (vs : List Outcome) (v : Outcome) → every_outcome k vs ≡ accepted →
    has_outcome vs v ≡ true → k v ≡ accepted
of_every k [] v h i = absurd cc
of_every k (w ∷ vs) v h i =
    by_or (same_outcome w v) (has_outcome vs v) i
    (λ j. subst (λ (x : Outcome). k x ≡ accepted) (same_as w v j) (both_left (k w) _ h))
    (λ j. of_every k vs v (both_right (k w) _ h) j)

-- a rule that reads the first piece
pub record Reading (t : Table) (l : List Record) (e : List Forest) (y f : Forest) (b : List Forest) (r : Rule)
    (k : Outcome → At → Verdict) (s : At) (ks : List Record) : Type 0 where
  pub outcome : Outcome
  pub place : At
  pub rest : List Record
  pub so : k outcome place ≡ accepted
  pub stands : Stands t l e y place rest
  pub run : Runs script_of (script_of r) (spot_at f b e s (ks ++ l)) (spot_at f b e place (rest ++ l)) outcome

pub record GoodCategory (t : Table) (c : Category) (ks : List Record) (u : Forest) (l : List Record) : Type 0 where
  pub node : t.is_node c ≡ true → IsNode u
  pub unbraced : t.unbraced c ≡ true → IsUnbraced u
  pub rows : t.by_rows c ≡ true → ByRows t c ks u l
  pub reads : (r : Rule) (f : Forest) (b : List Forest) → some_outcome (t.reads r c) ≡ true → Reads t r c ks u l f b

pub of_category : {t : Table} {c : Category} {ks l : List Record} {u : Forest} → Good t (cat c) ks u l → GoodCategory t c ks u l
of_category (good_category a n p o z) = record { node = n; unbraced = p; rows = o; reads = z }

read_category : (t : Table) (l : List Record) (e : List Forest) (y f : Forest) (b : List Forest) (r : Rule)
    (k : Outcome → At → Verdict) (s : At) {ks : List Record} {left : List Forest} → AreNodes e s.nodes →
    drop s.count e ≡ left → (p : Piece) (is : Items) (x : Built) (xs : List Built) →
    Front t l p is (value none e x) (values none e [] xs) left ks y →
    read_piece t r p is (with_row s (piece p is) x xs) k ≡ accepted → Reading t l e y f b r k s ks
read_category t l e y f b r k s ns h (tok kinds words) is x xs v w = absurd cc
read_category t l e y f b r k s ns h (word j) is x xs v w = absurd cc
read_category t l e y f b r k s ns h (comp j) is x xs v w = absurd cc
read_category t l e y f b r k s {ks = ks} ns h (cat c) is x xs v w =
    let d = h ∙ v.all in
    let same_tree = drop_first s.count e v.tree_is v.trees d in
    let place = after_category (with_row s (piece (cat c) is) x xs) is (t.is_node c) (t.unbraced c) in
    let good = of_category v.good in
    let all : Unit {0} → Verdict = λ u. every_outcome (λ o. k o place) (t.reads r c) in
    let some = provided_is (some_outcome (t.reads r c)) (stopped (obeys r) (piece (cat c) is)) all w in
    let g = good.reads r (value f e s.own) (values f e b s.owns) some in
    record {
      outcome = g.outcome;
      place = place;
      rest = v.rest;
      so =
          of_every (λ o. k o place) (t.reads r c) g.outcome
          (provided_so (some_outcome (t.reads r c)) (stopped (obeys r) (piece (cat c) is)) all w) g.among_them;
      stands =
          record {
            left = v.trees;
            left_is = drop_more s.count e v.tree_is v.trees d;
            made = rw same_tree v.made;
            nodes =
                nodes_with e (t.is_node c) (t.unbraced c) s.count s.nodes
                (λ i. subst (λ (u : Forest). IsNode u) (sym same_tree) (good.node i))
                (λ i. subst (λ (u : Forest). IsUnbraced u) (sym same_tree) (good.unbraced i)) ns;
            facts = tt;
          };
      run = rw (v.tokens, append_assoc v.own v.rest l, same_tree) g.run;
    }

read_front : (t : Table) (l : List Record) (e : List Forest) (y f : Forest) (b : List Forest) (r : Rule)
    (k : Outcome → At → Verdict) (s : At) (ks : List Record) (left : List Forest) → AreNodes e s.nodes →
    drop s.count e ≡ left → (is : Items) (x : Built) (xs : List Built) →
    Made t l is (value none e x) (values none e [] xs) left ks y →
    read_rule t r is (with_row s is x xs) k ≡ accepted → Reading t l e y f b r k s ks
read_front t l e y f b r k s ks left ns h (piece p is) x xs m w =
    read_category t l e y f b r k s ns h p is x xs (front_inv m) w
read_front t l e y f b r k s ks left ns h is x xs m w = absurd cc

pub reading : (t : Table) (c : List (List Place)) (l : List Record) (e : List Forest) (y f : Forest) (b : List Forest) →
    Sees c l → (r : Rule) (k : Outcome → At → Verdict) (s : At) (ks : List Record) → Stands t l e y s ks →
    expose t c s (λ q. read_rule t r q.items q k) ≡ accepted → Reading t l e y f b r k s ks
reading t c l e y f b i r k s ks st w =
    let x = exposed_at t c l e y i s ks (λ is x xs. read_rule t r is (with_row s is x xs) k) st w in
    read_front t l e y f b r k s ks st.left st.nodes st.left_is x.items x.row x.rows x.made x.so

-- what a token leaves
pub took_token : (t : Table) (l : List Record) (e : List Forest) (y f : Forest) (b : List Forest) (g : Piece → Bool)
    (k : At → Verdict) (s : At) (ks : List Record) (x : Taking t l e y f b g k s ks) (kind w : ℕ) →
    drop w (x.own ++ (x.rest ++ l)) ≡ x.rest ++ l → x.tree_is ≡ leaf none kind w →
    ◌≡◌ {A = Spot} (spot_at f b e x.place (x.rest ++ l))
    (record { rest = drop w (x.own ++ (x.rest ++ l)); forest = leaf (value f e s.own) kind w; below = values f e b s.owns })
took_token t l e y f b g k s ks x kind w h i =
    same_spot (x.rest ++ l) (drop w (x.own ++ (x.rest ++ l))) (value f e x.place.own) (leaf (value f e s.own) kind w)
    (values f e b x.place.owns) (values f e b s.owns)
    (sym h) (x.forest ∙ ap (λ (u : Forest). value f e s.own ⧺ u) i) (ap (λ (o : List Built). values f e b o) x.below)

-- the words that end a node
abbrev OwnOn : Table → List Record → List Forest → Forest → Forest → List Forest → (Outcome → At → Verdict) →
    Script Rule → At → List Record → (At → Verdict) → Type 0
OwnOn t l e y f b k a s rs go =
    (o : Built) (os : List Built) → go (with_own s o os) ≡ accepted →
    Comes t l e y f b k a (spot_at f b e (with_own s o os) rs)

pub finishes_own : (t : Table) (l : List Record) (e : List Forest) (y f : Forest) (b : List Forest) (a : Script Rule)
    (kind : ℕ) (s : At) (k : Outcome → At → Verdict) (go : At → Verdict) (rs : List Record) (own : Built)
    (owns : List Built) → OwnOn t l e y f b k a s rs go →
    finish_own kind (with_own s own owns) go owns ≡ accepted →
    Comes t l e y f b k (finish kind a) (record { rest = rs; forest = value f e own; below = values f e b owns })
finishes_own t l e y f b a kind s k go rs own [] sound w = absurd cc
finishes_own t l e y f b a kind s k go rs own (o ∷ os) sound w =
    before (λ z v r. finishes r) (sound (over o kind own) os w)

pub abandons_own : (t : Table) (l : List Record) (e : List Forest) (y f : Forest) (b : List Forest) (a : Script Rule)
    (s : At) (k : Outcome → At → Verdict) (go : At → Verdict) (rs : List Record) (own : Built) (owns : List Built) →
    OwnOn t l e y f b k a s rs go → abandon_own (with_own s own owns) go owns ≡ accepted →
    Comes t l e y f b k (abandon a) (record { rest = rs; forest = value f e own; below = values f e b owns })
abandons_own t l e y f b a s k go rs own [] sound w = absurd cc
abandons_own t l e y f b a s k go rs own (o ∷ os) sound w =
    before
    (λ z v r. abandons (subst (λ (x : Forest). Runs script_of a (record { rest = rs; forest = x; below = values f e b os }) z v)
    (joined-value f e o own (provided_is (is_own own) _ _ w)) r))
    (sound (joined o own) os (provided_so (is_own own) _ _ w))

-- a node that begins around a tree that is one node
record Preceded (v u : Forest) : Type 0 where
  last : none ⧺ u ≡ last_tree (v ⧺ u)
  before : v ≡ but_last (v ⧺ u)

preceded_node : (v u : Forest) → IsNode u → Preceded v u
unfolding but_last
preceded_node v u n = rw n.node_is (record { last = refl; before = refl })

pub precedes_own : (t : Table) (l : List Record) (e : List Forest) (y f : Forest) (b : List Forest) (a : Script Rule)
    (s : At) (k : Outcome → At → Verdict) (go : At → Verdict) (rs : List Record) (own : Built) (owns : List Built) →
    AreNodes e s.nodes → OwnOn t l e y f b k a s rs go → precede_own (with_own s own owns) go own ≡ accepted →
    Comes t l e y f b k (precede a) (record { rest = rs; forest = value f e own; below = values f e b owns })
unfolding but_last
precedes_own t l e y f b a s k go rs base owns ns sound w = absurd cc
precedes_own t l e y f b a s k go rs empty owns ns sound w = absurd cc
precedes_own t l e y f b a s k go rs (over c kind d) owns ns sound w =
    before (λ z v r. precedes r) (sound (over empty kind d) (c ∷ owns) w)
precedes_own t l e y f b a s k go rs (tree c n) owns ns sound w =
    let p = preceded_node (value f e c) (tree_of e n) (node_at e s.nodes n ns (provided_is (among s.nodes.0 n) _ _ w)) in
    before
    (λ z v r. precedes (subst (λ (q : Spot). Runs script_of a q z v)
    (same_spot rs rs (none ⧺ tree_of e n) (last_tree (value f e c ⧺ tree_of e n))
    (value f e c ∷ values f e b owns) (but_last (value f e c ⧺ tree_of e n) ∷ values f e b owns) refl p.last
    (ap (λ (x : Forest). x ∷ values f e b owns) p.before)) r))
    (sound (tree empty n) (c ∷ owns) (provided_so (among s.nodes.0 n) _ _ w))

-- a node that begins where the newest open one does
extended_node : (v u : Forest) → IsNode u →
    node v (last_kind (none ⧺ u)) (but_last (none ⧺ u) ⧺ last_children (none ⧺ u)) ≡ v ⧺ u
unfolding but_last last_children
extended_node v u n = rw n.node_is (ap (λ (c : Forest). node v n.kind c) (none-⧺ n.children))

pub extends_own : (t : Table) (l : List Record) (e : List Forest) (y f : Forest) (b : List Forest) (a : Script Rule)
    (s : At) (k : Outcome → At → Verdict) (go : At → Verdict) (rs : List Record) (own : Built) (owns : List Built) →
    AreNodes e s.nodes → OwnOn t l e y f b k a s rs go → extend_own (with_own s own owns) go owns ≡ accepted →
    Comes t l e y f b k (extend a) (record { rest = rs; forest = value f e own; below = values f e b owns })
unfolding but_last last_children
extends_own t l e y f b a s k go rs own [] ns sound w = absurd cc
extends_own t l e y f b a s k go rs base (o ∷ os) ns sound w = absurd cc
extends_own t l e y f b a s k go rs empty (o ∷ os) ns sound w = absurd cc
extends_own t l e y f b a s k go rs (over c kind d) (o ∷ os) ns sound w =
    before
    (λ z v r. extends (subst
    (λ (x : Forest). Runs script_of a (record { rest = rs; forest = node (value f e o) kind x; below = values f e b os }) z v)
    (joined-value f e c d (provided_is (is_own d) _ _ w)) r))
    (sound (over o kind (joined c d)) os (provided_so (is_own d) _ _ w))
extends_own t l e y f b a s k go rs (tree empty n) (o ∷ os) ns sound w =
    before
    (λ z v r. extends (subst
    (λ (x : Forest). Runs script_of a (record { rest = rs; forest = x; below = values f e b os }) z v)
    (sym (extended_node (value f e o) (tree_of e n) (node_at e s.nodes n ns (provided_is (among s.nodes.0 n) _ _ w)))) r))
    (sound (tree o n) os (provided_so (among s.nodes.0 n) _ _ w))
extends_own t l e y f b a s k go rs (tree base n) (o ∷ os) ns sound w = absurd cc
extends_own t l e y f b a s k go rs (tree (over c kind d) n) (o ∷ os) ns sound w = absurd cc
extends_own t l e y f b a s k go rs (tree (tree c m) n) (o ∷ os) ns sound w = absurd cc
