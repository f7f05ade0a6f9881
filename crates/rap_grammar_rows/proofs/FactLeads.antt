-- Steps of a walk by a fact, and where the walk then is.
use Rattle.std.proofs.Common.{◌≡◌, ℕ, true, List, sym, subst}
use Rattle.rap_events.specs.Record.{Record}
use Rattle.rap_grammar_rows.proofs.Leads.{piece_leads, group_leads, repeat_leads, fold_leads}
use Rattle.rap_grammar_rows.specs.Claims.{Holds, HoldsFrom, IsPiece, IsTurns, IsFold, From, Leads, Point, point, row_point, joined, ends_in_node}
use Rattle.rap_grammar_rows.specs.Decode.{category_of}
use Rattle.rap_grammar_rows.specs.Meaning.{at_place}
use Rattle.rap_grammar_rows.specs.declared.fact.Fact.{Fact}
use Rattle.rap_grammar_rows.specs.declared.fact.Goal.{Goal}
use Rattle.rap_grammar_rows.specs.declared.fact.Goal.TheVariants as goal
use Rattle.rap_grammar_rows.specs.declared.shape.Frame.{Frame}
use Rattle.rap_grammar_rows.specs.declared.shape.Shape.{Shape}
use Rattle.rap_grammar_rows.specs.declared.shape.Shape.TheVariants.{Any}
use Rattle.rap_grammar_table.specs.Table.{cat, piece, group, repeat, folds}

-- the same point by other names
pub went : (tokens : List Record) (end : ℕ) (q : Point) (n m : ℕ) (s t : Shape) (fs gs : List Frame) (a b : ℕ) →
    Leads tokens end q (point n s fs a) → m ≡ n → t ≡ s → gs ≡ fs → b ≡ a → Leads tokens end q (point m t gs b)
went tokens end q n m s t fs gs a b l e f g h =
    subst (λ (k : ℕ). Leads tokens end q (point k t gs b)) (sym e)
    (subst (λ (k : Shape). Leads tokens end q (point n k gs b)) (sym f)
    (subst (λ (k : List Frame). Leads tokens end q (point n s k b)) (sym g)
    (subst (λ (k : ℕ). Leads tokens end q (point n s fs k)) (sym h) l)))

-- what a fact says of its goal
pub said : (tokens : List Record) (fact : Fact) (g : Goal) (a : ℕ) → Holds tokens fact → fact.goal ≡ g → fact.start ≡ a →
    HoldsFrom tokens g a fact.end
said tokens fact g a h e f =
    subst (λ (k : ℕ). HoldsFrom tokens g k fact.end) f
    (subst (λ (k : Goal). HoldsFrom tokens k fact.start fact.end) e h)

pub by_category : (tokens : List Record) (end p n number category : ℕ) (s t : Shape) (fs : List Frame) (at : ℕ)
    (fact : Fact) → at_place p ≡ piece (cat (category_of number)) (at_place n) → Holds tokens fact →
    fact.goal ≡ goal.Category category t → category ≡ number → fact.start ≡ at →
    Leads tokens end (point p s fs at) (point n (joined s t) fs fact.end)
by_category tokens end p n number category s t fs at fact e h g i f =
    let m : IsPiece tokens (cat (category_of category)) at fact.end t = said tokens fact (goal.Category category t) at h g f in
    piece_leads tokens end p n (cat (category_of number)) s t fs at fact.end e
    (subst (λ (k : ℕ). IsPiece tokens (cat (category_of k)) at fact.end t) i m)

pub by_row : (tokens : List Record) (end p n part place : ℕ) (s t : Shape) (fs : List Frame) (at : ℕ) (fact : Fact) →
    at_place p ≡ group (at_place part) (at_place n) → Holds tokens fact → fact.goal ≡ goal.Row place t →
    place ≡ part → fact.start ≡ at → Leads tokens end (point p s fs at) (point n (joined s t) fs fact.end)
by_row tokens end p n part place s t fs at fact e h g i f =
    let m : From tokens fact.end t (row_point place at) = said tokens fact (goal.Row place t) at h g f in
    group_leads tokens end p part n s t fs at fact.end e
    (subst (λ (k : ℕ). From tokens fact.end t (row_point k at)) i m)

pub by_turns : (tokens : List Record) (end p n a z turn last : ℕ) (s : Shape) (fs : List Frame) (at : ℕ)
    (fact : Fact) → at_place p ≡ repeat (at_place a) (at_place z) (at_place n) → Holds tokens fact →
    fact.goal ≡ goal.Turns turn last → turn ≡ a → last ≡ z → fact.start ≡ at →
    Leads tokens end (point p s fs at) (point n Any fs fact.end)
by_turns tokens end p n a z turn last s fs at fact e h g i j f =
    let m : IsTurns tokens turn last at fact.end = said tokens fact (goal.Turns turn last) at h g f in
    repeat_leads tokens end p a z n s fs at fact.end e
    (subst (λ (k : ℕ). IsTurns tokens a k at fact.end) j (subst (λ (k : ℕ). IsTurns tokens k last at fact.end) i m))

pub by_fold : (tokens : List Record) (end p n k a place number : ℕ) (s : Shape) (fs : List Frame) (at : ℕ)
    (fact : Fact) → at_place p ≡ folds k (at_place a) (at_place n) → Holds tokens fact →
    fact.goal ≡ goal.Fold place number → place ≡ a → number ≡ k → fact.start ≡ at → ends_in_node s ≡ true →
    Leads tokens end (point p s fs at) (point n s fs fact.end)
by_fold tokens end p n k a place number s fs at fact e h g i j f w =
    let m : IsFold tokens place number at fact.end = said tokens fact (goal.Fold place number) at h g f in
    fold_leads tokens end p a n k s fs at fact.end e w
    (subst (λ (b : ℕ). IsFold tokens a b at fact.end) j (subst (λ (b : ℕ). IsFold tokens b number at fact.end) i m))
