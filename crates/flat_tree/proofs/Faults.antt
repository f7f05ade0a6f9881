-- What is wrong in a node of a tree over a text, and where it stands.
use Rattle.std.proofs.Common.{◌≡◌, ◌==◌, ◌&&◌, ◌||◌, not, ℕ, ◌+◌, ◌≤◌, Bool, true, false, nat_lt, List, [], ◌∷◌, ◌++◌, refl, ap, sym, ◌∙◌, append_assoc, length, length-append, arith, map}
use Rattle.std.specs.List.{list_all}
use Rattle.std.proofs.lemmas.Bool.Decides.{nat_tests}
use Rattle.std.proofs.lemmas.List.Folds.{list_all-append}
use Rattle.rap_base.specs.TokenKind.{ERROR}
use Rattle.rap_base.specs.TokenTests.{is_trivia}
use Rattle.rap_events.proofs.Truth.{and_both, and_left, and_right}
use Rattle.rap_grammar_table.specs.Shapes.{Child, node_child}
use Rattle.rap_lexed.specs.StrForest.{StrForest, str_none, str_node, str_leaf, str_message, str_flat, str_joined}
use Rattle.rap_lexed.specs.StrStep.{StrStepValue, str_enter, str_exit, str_token, str_error}
use Rattle.rap_ranged.specs.Ranged.{end_from}
use Rattle.rap_ranged.specs.Reports.{ReportValue, reports_of, reports_of_step}
use Rattle.rap_ranged.specs.Seats.{AreSeated}
use Rattle.rap_text_nodes.specs.TextNodes.{ends_badly, is_whole_text, leaf_if, text_children}
use Rattle.flat_tree.specs.NodeShapes.{message_bytes}

-- its children without messages
abbrev pub quiet_children : StrForest → List Child
quiet_children str_none = []
quiet_children (str_node before kind children) = quiet_children before ++ node_child kind ∷ []
quiet_children (str_leaf before kind text) = quiet_children before ++ leaf_if (is_trivia kind) kind
quiet_children (str_message before bytes pos) = quiet_children before

-- each message in it is about such a byte
abbrev pub each_message : (ℕ → Bool) → StrForest → Bool
each_message p str_none = true
each_message p (str_node before kind children) = each_message p before && each_message p children
each_message p (str_leaf before kind text) = each_message p before
each_message p (str_message before bytes pos) = each_message p before && p pos

reports-++ : (xs ys : List StrStepValue) → reports_of (xs ++ ys) ≡ reports_of xs ++ reports_of ys
reports-++ [] ys = refl
reports-++ (x ∷ xs) ys =
    ap (λ l. reports_of_step x ++ l) (reports-++ xs ys) ∙ sym (append_assoc (reports_of_step x) (reports_of xs) (reports_of ys))

bytes-++ : (xs ys : List ReportValue) → map (λ (r : ReportValue). r.at) (xs ++ ys)
    ≡ map (λ (r : ReportValue). r.at) xs ++ map (λ (r : ReportValue). r.at) ys
bytes-++ [] ys = refl
bytes-++ (x ∷ xs) ys = ap (λ l. x.at ∷ l) (bytes-++ xs ys)

abbrev each_report : (ℕ → Bool) → List StrStepValue → Bool
each_report p ss = list_all p (map (λ (r : ReportValue). r.at) (reports_of ss))

each_report-++ : (p : ℕ → Bool) (xs ys : List StrStepValue) → each_report p (xs ++ ys) ≡ (each_report p xs && each_report p ys)
each_report-++ p xs ys =
    ap (λ l. list_all p (map (λ (r : ReportValue). r.at) l)) (reports-++ xs ys)
    ∙ (ap (λ l. list_all p l) (bytes-++ (reports_of xs) (reports_of ys))
    ∙ list_all-append p (map (λ (r : ReportValue). r.at) (reports_of xs)) (map (λ (r : ReportValue). r.at) (reports_of ys)))

each_front : (p : ℕ → Bool) (xs ys : List StrStepValue) → each_report p (xs ++ ys) ≡ true → each_report p xs ≡ true
each_front p xs ys h = and_left (each_report p xs) (each_report p ys) (sym (each_report-++ p xs ys) ∙ h)

each_back : (p : ℕ → Bool) (xs ys : List StrStepValue) → each_report p (xs ++ ys) ≡ true → each_report p ys ≡ true
each_back p xs ys h = and_right (each_report p xs) (each_report p ys) (sym (each_report-++ p xs ys) ∙ h)

steps_so : (p : ℕ → Bool) (f : StrForest) → each_report p (str_flat f) ≡ true → each_message p f ≡ true
steps_so p str_none h = refl
steps_so p (str_node before kind children) h =
    let rest = str_enter kind ∷ (str_flat children ++ str_exit ∷ []) in
    and_both (each_message p before) (each_message p children)
    (steps_so p before (each_front p (str_flat before) rest h))
    (steps_so p children (each_front p (str_flat children) (str_exit ∷ []) (each_back p (str_flat before) rest h)))
steps_so p (str_leaf before kind text) h = steps_so p before (each_front p (str_flat before) (str_token kind text ∷ []) h)
steps_so p (str_message before bytes pos) h =
    and_both (each_message p before) (p pos) (steps_so p before (each_front p (str_flat before) (str_error bytes pos ∷ []) h))
    (and_left (p pos) true (each_back p (str_flat before) (str_error bytes pos ∷ []) h))

pub messages_so : (p : ℕ → Bool) (f : StrForest) → list_all p (message_bytes f) ≡ true → each_message p f ≡ true
messages_so p f h = steps_so p f h

-- Bytes between the ends of a node right in it.
abbrev pub within : ℕ → StrForest → ℕ → Bool
within at str_none p = false
within at (str_node before kind children) p =
    within at before p || (nat_lt (end_from at before) p && nat_lt p (end_from (end_from at before) children))
within at (str_leaf before kind text) p = within at before p
within at (str_message before bytes pos) p = within at before p

pub not_below : (a b : ℕ) → b ≤ a → nat_lt a b ≡ false
not_below a b h = grind (arith, nat_tests, h)

no_end : (t u v : Bool) → t ≡ false → v ≡ false → (t || (u && v)) ≡ false
no_end true u v h i = absurd cc
no_end false true v h i = i
no_end false false v h i = refl

no_start : (t u v : Bool) → u ≡ false → (t || (u && v)) ≡ t
no_start true u v i = refl
no_start false true v i = absurd cc
no_start false false v i = refl

pub ends_both : (at : ℕ) (xs ys : List ℕ) → (at + length xs) + length ys ≡ at + length (xs ++ ys)
ends_both at xs ys = omega (arith, length-append xs ys)

-- where a forest ends, or behind it, is no such byte
past : (f : StrForest) (at p : ℕ) → end_from at f ≤ p → within at f p ≡ false
past str_none at p h = refl
past (str_node before kind children) at p h =
    let end = ends_both at (str_joined before) (str_joined children) in
    no_end (within at before p) (nat_lt (end_from at before) p) (nat_lt p (end_from (end_from at before) children))
    (past before at p (omega (arith, h, end)))
    (not_below p (end_from (end_from at before) children) (omega (arith, h, end)))
past (str_leaf before kind text) at p h =
    past before at p (omega (arith, h, length-append (str_joined before) text))
past (str_message before bytes pos) at p h = past before at p h

-- no message is right in it, nor last in a node right in it
abbrev ends_in_message : StrForest → Bool
ends_in_message str_none = false
ends_in_message (str_node before kind children) = false
ends_in_message (str_leaf before kind text) = false
ends_in_message (str_message before bytes pos) = true

abbrev pub is_calm : StrForest → Bool
is_calm str_none = true
is_calm (str_node before kind children) = is_calm before && not (ends_in_message children)
is_calm (str_leaf before kind text) = is_calm before
is_calm (str_message before bytes pos) = false

-- a message where none may be
no_message : {A : Type 0} (p : ℕ → Bool) (pos end : ℕ) → pos ≡ end → p end ≡ false → p pos ≡ true → A
no_message p pos end e h i = absurd (let z : false ≡ true = sym h ∙ (ap (λ (n : ℕ). p n) (sym e) ∙ i) in cc)

last_calm : (p : ℕ → Bool) (children : StrForest) (start : ℕ) → p (end_from start children) ≡ false
    → AreSeated start children → each_message p children ≡ true → not (ends_in_message children) ≡ true
last_calm p str_none start h s m = refl
last_calm p (str_node before kind children) start h s m = refl
last_calm p (str_leaf before kind text) start h s m = refl
last_calm p (str_message before bytes pos) start h s m =
    no_message p pos (end_from start before) s.1 h (and_right (each_message p before) _ m)

-- All messages are about such bytes, or bytes outside: so none is right in it.
pub calm_so : (f : StrForest) (at : ℕ) (p : ℕ → Bool)
    → ((n : ℕ) → at ≤ n → n ≤ end_from at f → p n ≡ within at f n)
    → AreSeated at f → each_message p f ≡ true → is_calm f ≡ true
calm_so str_none at p agree s m = refl
calm_so (str_node before kind children) at p agree s m =
    let end = ends_both at (str_joined before) (str_joined children) in
    let start = end_from at before in
    and_both (is_calm before) (not (ends_in_message children))
    (calm_so before at p
    (λ n low high.
    agree n low (omega (arith, high, end))
    ∙ no_start (within at before n) (nat_lt start n) (nat_lt n (end_from start children)) (not_below start n high))
    s.0 (and_left (each_message p before) _ m))
    (last_calm p children start
    (agree (end_from start children) (omega (arith, end)) (omega (arith, end))
    ∙ past (str_node before kind children) at (end_from start children) (omega (arith, end)))
    s.1 (and_right (each_message p before) _ m))
calm_so (str_leaf before kind text) at p agree s m =
    calm_so before at p (λ n low high. agree n low (omega (arith, high, length-append (str_joined before) text))) s m
calm_so (str_message before bytes pos) at p agree s m =
    no_message p pos (end_from at before) s.1
    (agree (end_from at before) (omega arith) (omega arith) ∙ past before at (end_from at before) (omega arith))
    (and_right (each_message p before) _ m)

-- no ERROR is right in it, nor last in a node right in it
abbrev pub is_error : StrForest → Bool
is_error str_none = false
is_error (str_node before kind children) = kind == ERROR
is_error (str_leaf before kind text) = false
is_error (str_message before bytes pos) = false

abbrev pub has_no_error : StrForest → Bool
has_no_error str_none = true
has_no_error (str_node before kind children) = has_no_error before && (not (kind == ERROR) && not (is_error children))
has_no_error (str_leaf before kind text) = has_no_error before
has_no_error (str_message before bytes pos) = has_no_error before

ends_well : (f : StrForest) → not (ends_in_message f) ≡ true → not (is_error f) ≡ true → not (ends_badly f) ≡ true
ends_well str_none h i = refl
ends_well (str_node before kind children) h i = i
ends_well (str_leaf before kind text) h i = refl
ends_well (str_message before bytes pos) h i = absurd cc

pub whole_so : (f : StrForest) → is_calm f ≡ true → has_no_error f ≡ true → is_whole_text f ≡ true
whole_so str_none h i = refl
whole_so (str_node before kind children) h i =
    let e = and_right (has_no_error before) _ i in
    and_both (is_whole_text before) (not (kind == ERROR) && not (ends_badly children))
    (whole_so before (and_left (is_calm before) _ h) (and_left (has_no_error before) _ i))
    (and_both (not (kind == ERROR)) (not (ends_badly children)) (and_left (not (kind == ERROR)) _ e)
    (ends_well children (and_right (is_calm before) _ h) (and_right (not (kind == ERROR)) _ e)))
whole_so (str_leaf before kind text) h i = whole_so before h i
whole_so (str_message before bytes pos) h i = absurd cc

pub quiet_so : (f : StrForest) → is_calm f ≡ true → quiet_children f ≡ text_children f
quiet_so str_none h = refl
quiet_so (str_node before kind children) h =
    ap (λ l. l ++ node_child kind ∷ []) (quiet_so before (and_left (is_calm before) _ h))
quiet_so (str_leaf before kind text) h = ap (λ l. l ++ leaf_if (is_trivia kind) kind) (quiet_so before h)
quiet_so (str_message before bytes pos) h = absurd cc
