-- The children that fit a look, one after another.
use Rattle.std.proofs.Common.{◌≡◌, ℕ, ◌+◌, ◌<◌, true, false, cond, List, ◌∷◌, Option, Some, ap, sym, ◌∙◌, drop, get_or, length, map, None, ◌-◌, take, arith}
use Rattle.std.proofs.lemmas.List.{drop_more, length-map, take-map}
use Rattle.std.proofs.lemmas.Option.{slice_get-get_or, slice_get-map}
use Rattle.std.specs.Prelude.{option_map}
use Rattle.std.specs.List.{last_or, slice_get}
use Rattle.rap_fields.specs.Rule.{Look, fits, fitting, found, look_of, one_of}
use Rattle.rap_fields.specs.declared.rule.Step.{Step}
use Rattle.flat_tree.specs.FieldChild.{chosen, chosen_by, found_last, kind_in, those}
use Rattle.flat_tree.specs.declared.element.Element.{Element}
use Rattle.rap_fields.specs.RuleOf.{rule_of}
use Rattle.rap_fields.specs.declared.rule.Which.{Which}
use Rattle.rap_fields.specs.declared.rule.Which.TheVariants.{First, Last, All}

-- the first of some children fits, or does not
yes : (kind : ℕ → ℕ) (m : Option ℕ) (l : Look) (x : ℕ) (xs : List ℕ) → fits l m (kind x) x ≡ true →
    fitting kind m l (x ∷ xs) ≡ x ∷ fitting kind m l xs
yes kind m l x xs h = ap (λ b. cond b (x ∷ fitting kind m l xs) (fitting kind m l xs)) h

no : (kind : ℕ → ℕ) (m : Option ℕ) (l : Look) (x : ℕ) (xs : List ℕ) → fits l m (kind x) x ≡ false →
    fitting kind m l (x ∷ xs) ≡ fitting kind m l xs
no kind m l x xs h = ap (λ b. cond b (x ∷ fitting kind m l xs) (fitting kind m l xs)) h

pub later : (kind : ℕ → ℕ) (m : Option ℕ) (l : Look) (x : ℕ) (xs rest : List ℕ) → xs ≡ x ∷ rest →
    fits l m (kind x) x ≡ false → fitting kind m l xs ≡ fitting kind m l rest
later kind m l x xs rest e h = ap (fitting kind m l) e ∙ no kind m l x rest h

pub first_here : (kind : ℕ → ℕ) (m : Option ℕ) (l : Look) (x : ℕ) (xs rest : List ℕ) → xs ≡ x ∷ rest →
    fits l m (kind x) x ≡ true → slice_get (fitting kind m l xs) 0 ≡ Some x
first_here kind m l x xs rest e h = ap (λ ys. slice_get ys 0) (ap (fitting kind m l) e ∙ yes kind m l x rest h)

pub last_here : (kind : ℕ → ℕ) (m : Option ℕ) (l : Look) (x : ℕ) (xs rest : List ℕ) (o : Option ℕ) → xs ≡ x ∷ rest →
    fits l m (kind x) x ≡ true → last_or o (fitting kind m l xs) ≡ last_or (Some x) (fitting kind m l rest)
last_here kind m l x xs rest o e h = ap (last_or o) (ap (fitting kind m l) e ∙ yes kind m l x rest h)

-- a step of a rule is taken
pub step_taken : (kind : ℕ → ℕ) (m seen : Option ℕ) (steps : List Step) (i : ℕ) (none : Step) (xs : List ℕ) →
    i < length steps →
    seen ≡ one_of (get_or steps i none).which (fitting kind m (look_of (get_or steps i none)) xs) →
    found kind seen (map look_of (drop (i + 1) steps)) xs ≡ found kind m (map look_of (drop i steps)) xs
step_taken kind m seen steps i none xs l e =
    ap (λ o. found kind o (map look_of (drop (i + 1) steps)) xs) e
    ∙ sym (ap (λ (ss : List Step). found kind m (map look_of ss) xs) (drop_more steps i none l))

-- what a rule finds, by its last step and those before it
pub last_step : (kind : ℕ → ℕ) (steps : List Step) (none : Step) (xs : List ℕ) → 0 < length steps →
    found_last kind (map look_of steps) xs
    ≡ chosen (get_or steps (length steps - 1) none).which
    (fitting kind (found kind None (map look_of (take (length steps - 1) steps)) xs)
    (look_of (get_or steps (length steps - 1) none)) xs)
last_step kind steps none xs some =
    let long : length (map look_of steps) ≡ length steps = length-map steps look_of in
    let at : slice_get (map look_of steps) (length steps - 1) ≡ Some (look_of (get_or steps (length steps - 1) none)) =
    slice_get-map look_of steps (length steps - 1)
    ∙ ap (λ (o : Option Step). option_map look_of o) (slice_get-get_or steps (length steps - 1) none (omega arith)) in
    let front : take (length steps - 1) (map look_of steps) ≡ map look_of (take (length steps - 1) steps) =
    take-map look_of (length steps - 1) steps in
    ap (λ n. chosen_by kind (found kind None (take (n - 1) (map look_of steps)) xs) (slice_get (map look_of steps) (n - 1)) xs) long
    ∙ ap (λ o. chosen_by kind (found kind None (take (length steps - 1) (map look_of steps)) xs) o xs) at
    ∙ ap (λ (ls : List Look). chosen_by kind (found kind None ls xs) (Some (look_of (get_or steps (length steps - 1) none))) xs) front

-- what is chosen, where the one is the first or the last, and where all are
pub all_chosen : (w : Which) (xs : List ℕ) → w ≡ All → xs ≡ chosen w xs
all_chosen w xs e = sym (ap (λ v. chosen v xs) e)

pub first_chosen : (w : Which) (xs : List ℕ) → w ≡ First → those (one_of w xs) ≡ chosen w xs
first_chosen w xs e = ap (λ v. those (one_of v xs)) e ∙ sym (ap (λ v. chosen v xs) e)

pub last_chosen : (w : Which) (xs : List ℕ) → w ≡ Last → those (one_of w xs) ≡ chosen w xs
last_chosen w xs e = ap (λ v. those (one_of v xs)) e ∙ sym (ap (λ v. chosen v xs) e)

rule_is : (es items : List Element) (i kind field : ℕ) (rule : List Step) → es ≡ items → kind ≡ kind_in es i →
    map look_of rule ≡ rule_of kind field → map look_of rule ≡ rule_of (kind_in items i) field
rule_is es items i kind field rule e k r =
    r ∙ ap (λ n. rule_of n field) (k ∙ ap (λ (ys : List Element). kind_in ys i) e)

-- the children of a field by what is known of them, of one that has several, and of one that has one
pub found_all : (es items : List Element) (i kind field : ℕ) (rule : List Step) (none : Step) (mark : Option ℕ)
    (children xs result : List ℕ) → 0 < length rule → es ≡ items → children ≡ xs →
    mark ≡ found (kind_in items) None (map look_of (take (length rule - 1) rule)) xs →
    (get_or rule (length rule - 1) none).which ≡ All → kind ≡ kind_in es i → map look_of rule ≡ rule_of kind field →
    result ≡ fitting (kind_in es) mark (look_of (get_or rule (length rule - 1) none)) children →
    result ≡ found_last (kind_in items) (rule_of (kind_in items i) field) xs
found_all es items i kind field rule none mark children xs result some e f m w k r is =
    let l : Look = look_of (get_or rule (length rule - 1) none) in
    is
    ∙ ap (λ (ys : List Element). fitting (kind_in ys) mark l children) e
    ∙ ap (fitting (kind_in items) mark l) f
    ∙ ap (λ o. fitting (kind_in items) o l xs) m
    ∙ all_chosen (get_or rule (length rule - 1) none).which _ w
    ∙ sym (last_step (kind_in items) rule none xs some)
    ∙ ap (λ (ls : List Look). found_last (kind_in items) ls xs) (rule_is es items i kind field rule e k r)

pub found_one : (es items : List Element) (i kind field : ℕ) (rule : List Step) (none : Step) (mark one : Option ℕ)
    (xs result : List ℕ) → 0 < length rule → es ≡ items →
    mark ≡ found (kind_in items) None (map look_of (take (length rule - 1) rule)) xs →
    ((ys : List ℕ) → those (one_of (get_or rule (length rule - 1) none).which ys)
    ≡ chosen (get_or rule (length rule - 1) none).which ys) →
    kind ≡ kind_in es i → map look_of rule ≡ rule_of kind field →
    one ≡ one_of (get_or rule (length rule - 1) none).which
    (fitting (kind_in items) mark (look_of (get_or rule (length rule - 1) none)) xs) →
    result ≡ those one →
    result ≡ found_last (kind_in items) (rule_of (kind_in items i) field) xs
found_one es items i kind field rule none mark one xs result some e m w k r o is =
    let s : Step = get_or rule (length rule - 1) none in
    is
    ∙ ap those o
    ∙ ap (λ n. those (one_of s.which (fitting (kind_in items) n (look_of s) xs))) m
    ∙ w _
    ∙ sym (last_step (kind_in items) rule none xs some)
    ∙ ap (λ (ls : List Look). found_last (kind_in items) ls xs) (rule_is es items i kind field rule e k r)
