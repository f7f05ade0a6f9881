-- Steps of a walk, by the parts of the row.
use Rattle.std.proofs.Common.{◌≡◌, ℕ, true, List, [], ◌∷◌, ◌++◌, drop, reverse, Option, Some, None, sym, ap, ◌∙◌, subst, append_assoc}
use Rattle.rap_events.specs.Record.{Record}
use Rattle.rap_grammar_rows.proofs.Steps.{ended_good, begin_good, close_good, piece_good, first_good, second_good, group_good, repeat_good, guard_good, fold_good}
use Rattle.rap_grammar_rows.specs.Claims.{Segment, Good, plug, context, opened, joined, closed, ends_in_node, point, From, Leads, IsRefused, IsPiece, IsTurns, IsFold, row_point}
use Rattle.rap_grammar_rows.specs.Guards.{guards, guard_at}
use Rattle.rap_grammar_rows.specs.Meaning.{at_place}
use Rattle.rap_grammar_rows.specs.declared.shape.Frame.{Frame}
use Rattle.rap_grammar_rows.specs.declared.shape.Frame.TheVariants as frame
use Rattle.rap_grammar_rows.specs.declared.shape.Shape.{Shape}
use Rattle.rap_grammar_rows.specs.declared.shape.Shape.TheVariants.{Empty, Any}
use Rattle.rap_grammar_table.specs.Table.{Piece, Items, nil, begin, close, piece, choice, repeat, group, folds, unless}

-- one segment behind another
pub behind : (tokens : List Record) (a b c : ℕ) (js ks : List Record) → Segment tokens a b js → Segment tokens b c ks →
    Segment tokens a c (js ++ ks)
behind tokens a b c js ks e f =
    e ∙ (ap (λ (l : List Record). js ++ l) f ∙ sym (append_assoc js ks (drop c tokens)))

-- the same rest of a row by another name
renamed : (is js : Items) (k : Option Items) (s : Shape) (ss : List Shape) (ks : List Record) (o : Shape) → is ≡ js →
    Good (plug js k) s ss ks o → Good (plug is k) s ss ks o
renamed is js k s ss ks o e g = subst (λ (w : Items). Good (plug w k) s ss ks o) (sym e) g

pub start_leads : (tokens : List Record) (end p n : ℕ) (s : Shape) (fs gs : List Frame) (at : ℕ) →
    at_place p ≡ begin (at_place n) → reverse gs ≡ frame.Opened s ∷ reverse fs →
    Leads tokens end (point p s fs at) (point n Empty gs at)
start_leads tokens end p n s fs gs at e r o f =
    let g : Good (plug (at_place n) (context (reverse fs))) Empty (s ∷ opened (reverse fs)) f.part o =
    subst (λ (hs : List Frame). Good (plug (at_place n) (context hs)) Empty (opened hs) f.part o) r f.good in
    record {
      part = f.part;
      is_part = f.is_part;
      good =
          renamed (at_place p) (begin (at_place n)) (context (reverse fs)) s (opened (reverse fs)) f.part o e
          (begin_good (context (reverse fs)) (at_place n) s (opened (reverse fs)) f.part o g);
    }

pub close_leads : (tokens : List Record) (end p n k : ℕ) (s z : Shape) (fs gs : List Frame) (at : ℕ) →
    at_place p ≡ close k (at_place n) → reverse fs ≡ frame.Opened z ∷ reverse gs →
    Leads tokens end (point p s fs at) (point n (closed z) gs at)
close_leads tokens end p n k s z fs gs at e r o f =
    let g : Good (plug (at_place p) (context (reverse gs))) s (z ∷ opened (reverse gs)) f.part o =
    renamed (at_place p) (close k (at_place n)) (context (reverse gs)) s (z ∷ opened (reverse gs)) f.part o e
    (close_good (context (reverse gs)) k (at_place n) s z (opened (reverse gs)) f.part o f.good) in
    record {
      part = f.part;
      is_part = f.is_part;
      good = subst (λ (hs : List Frame). Good (plug (at_place p) (context hs)) s (opened hs) f.part o) (sym r) g;
    }

pub piece_leads : (tokens : List Record) (end p n : ℕ) (pc : Piece) (s t : Shape) (fs : List Frame) (at to : ℕ) →
    at_place p ≡ piece pc (at_place n) → IsPiece tokens pc at to t →
    Leads tokens end (point p s fs at) (point n (joined s t) fs to)
piece_leads tokens end p n pc s t fs at to e i o f =
    record {
      part = i.part ++ f.part;
      is_part = behind tokens at to end i.part f.part i.is_part f.is_part;
      good =
          renamed (at_place p) (piece pc (at_place n)) (context (reverse fs)) s (opened (reverse fs)) (i.part ++ f.part) o
          e
          (piece_good (context (reverse fs)) pc (at_place n) s t (opened (reverse fs)) i.part f.part i.tree o i.derives
          i.fits f.good);
    }

pub first_leads : (tokens : List Record) (end p a b n : ℕ) (s : Shape) (fs gs : List Frame) (at : ℕ) →
    at_place p ≡ choice (at_place a) (at_place b) (at_place n) → reverse gs ≡ frame.Then n ∷ reverse fs →
    Leads tokens end (point p s fs at) (point a s gs at)
first_leads tokens end p a b n s fs gs at e r o f =
    let k : Option Items = context (reverse fs) in
    let g : Good (plug (at_place a) (Some (plug (at_place n) k))) s (opened (reverse fs)) f.part o =
    subst (λ (hs : List Frame). Good (plug (at_place a) (context hs)) s (opened hs) f.part o) r f.good in
    record {
      part = f.part;
      is_part = f.is_part;
      good =
          renamed (at_place p) (choice (at_place a) (at_place b) (at_place n)) k s (opened (reverse fs)) f.part o e
          (first_good k (at_place a) (at_place b) (at_place n) s (opened (reverse fs)) f.part o g);
    }

pub second_leads : (tokens : List Record) (end p a b n : ℕ) (s : Shape) (fs gs : List Frame) (at : ℕ) →
    at_place p ≡ choice (at_place a) (at_place b) (at_place n) → reverse gs ≡ frame.Then n ∷ reverse fs →
    Leads tokens end (point p s fs at) (point b s gs at)
second_leads tokens end p a b n s fs gs at e r o f =
    let k : Option Items = context (reverse fs) in
    let g : Good (plug (at_place b) (Some (plug (at_place n) k))) s (opened (reverse fs)) f.part o =
    subst (λ (hs : List Frame). Good (plug (at_place b) (context hs)) s (opened hs) f.part o) r f.good in
    record {
      part = f.part;
      is_part = f.is_part;
      good =
          renamed (at_place p) (choice (at_place a) (at_place b) (at_place n)) k s (opened (reverse fs)) f.part o e
          (second_good k (at_place a) (at_place b) (at_place n) s (opened (reverse fs)) f.part o g);
    }

pub then_leads : (tokens : List Record) (end p n : ℕ) (s : Shape) (fs gs : List Frame) (at : ℕ) →
    at_place p ≡ nil → reverse fs ≡ frame.Then n ∷ reverse gs → Leads tokens end (point p s fs at) (point n s gs at)
then_leads tokens end p n s fs gs at e r o f =
    let g : Good (plug (at_place p) (Some (plug (at_place n) (context (reverse gs))))) s (opened (reverse gs)) f.part o =
    renamed (at_place p) nil (Some (plug (at_place n) (context (reverse gs)))) s (opened (reverse gs)) f.part o e
    f.good in
    record {
      part = f.part;
      is_part = f.is_part;
      good = subst (λ (hs : List Frame). Good (plug (at_place p) (context hs)) s (opened hs) f.part o) (sym r) g;
    }

pub done_from : (tokens : List Record) (p : ℕ) (s : Shape) (fs : List Frame) (at end : ℕ) → at_place p ≡ nil →
    reverse fs ≡ [] → at ≡ end → From tokens end s (point p s fs at)
done_from tokens p s fs at end e r i =
    let g : Good (plug (at_place p) None) s [] [] s = renamed (at_place p) nil None s [] [] s e (ended_good s) in
    record {
      part = [];
      is_part = ap (λ (n : ℕ). drop n tokens) i;
      good = subst (λ (hs : List Frame). Good (plug (at_place p) (context hs)) s (opened hs) [] s) (sym r) g;
    }

pub group_leads : (tokens : List Record) (end p a n : ℕ) (s t : Shape) (fs : List Frame) (at to : ℕ) →
    at_place p ≡ group (at_place a) (at_place n) → From tokens to t (row_point a at) →
    Leads tokens end (point p s fs at) (point n (joined s t) fs to)
group_leads tokens end p a n s t fs at to e i o f =
    record {
      part = i.part ++ f.part;
      is_part = behind tokens at to end i.part f.part i.is_part f.is_part;
      good =
          renamed (at_place p) (group (at_place a) (at_place n)) (context (reverse fs)) s (opened (reverse fs))
          (i.part ++ f.part) o e
          (group_good (context (reverse fs)) (at_place a) (at_place n) s t (opened (reverse fs)) i.part f.part o i.good
          f.good);
    }

pub repeat_leads : (tokens : List Record) (end p a z n : ℕ) (s : Shape) (fs : List Frame) (at to : ℕ) →
    at_place p ≡ repeat (at_place a) (at_place z) (at_place n) → IsTurns tokens a z at to →
    Leads tokens end (point p s fs at) (point n Any fs to)
repeat_leads tokens end p a z n s fs at to e i o f =
    record {
      part = i.part ++ f.part;
      is_part = behind tokens at to end i.part f.part i.is_part f.is_part;
      good =
          renamed (at_place p) (repeat (at_place a) (at_place z) (at_place n)) (context (reverse fs)) s
          (opened (reverse fs)) (i.part ++ f.part) o e
          (repeat_good (context (reverse fs)) (at_place a) (at_place z) (at_place n) s (opened (reverse fs)) i.part f.part
          i.tree o i.derives f.good);
    }

pub fold_leads : (tokens : List Record) (end p a n k : ℕ) (s : Shape) (fs : List Frame) (at to : ℕ) →
    at_place p ≡ folds k (at_place a) (at_place n) → ends_in_node s ≡ true → IsFold tokens a k at to →
    Leads tokens end (point p s fs at) (point n s fs to)
fold_leads tokens end p a n k s fs at to e h i o f =
    record {
      part = i.part ++ f.part;
      is_part = behind tokens at to end i.part f.part i.is_part f.is_part;
      good =
          renamed (at_place p) (folds k (at_place a) (at_place n)) (context (reverse fs)) s (opened (reverse fs))
          (i.part ++ f.part) o e
          (fold_good (context (reverse fs)) k (at_place a) (at_place n) s (opened (reverse fs)) i.part f.part o h
          i.folded f.good);
    }

pub guard_leads : (tokens : List Record) (end p g n : ℕ) (s : Shape) (fs : List Frame) (at : ℕ) →
    at_place p ≡ unless (guard_at g guards).0 (guard_at g guards).1 (at_place n) → IsRefused g tokens at end →
    Leads tokens end (point p s fs at) (point n s fs at)
guard_leads tokens end p g n s fs at e h o f =
    record {
      part = f.part;
      is_part = f.is_part;
      good =
          renamed (at_place p) (unless (guard_at g guards).0 (guard_at g guards).1 (at_place n)) (context (reverse fs)) s
          (opened (reverse fs)) f.part o e
          (guard_good (context (reverse fs)) (guard_at g guards).0 (guard_at g guards).1 (at_place n) s
          (opened (reverse fs)) f.part o (h f.part f.is_part) f.good);
    }
