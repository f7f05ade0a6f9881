-- What is left to print of a tree.
use Rattle.std.proofs.Common.{◌≡◌, ℕ, ◌+◌, ◌*◌, ◌<◌, List, [], ◌∷◌, ◌++◌, refl, ap, sym, subst, ◌∙◌, append_assoc, append-nil, length, length-append, map, Option, Some, None, string_bytes, true, arith}
use Rattle.std.specs.Borrow.{Bor}
use Rattle.std.specs.declared.ops.Range.{Range}
use Rattle.rap_base.specs.declared.edition.Edition.{Edition}
use Rattle.rap_events.specs.Forest.{Forest}
use Rattle.rap_lexed.specs.LexedStr.{Lexed, Token, Message, start_of}
use Rattle.rap_lexed.specs.StrForest.{str_flat}
use Rattle.rap_lexed.specs.StrStep.{StrStepValue, str_enter, str_exit, str_token, str_error}
use Rattle.rap_lexed.specs.Trivia.{with_trivia}
use Rattle.ra_ap_parser.specs.declared.entry_point.TopEntryPoint.{TopEntryPoint}
use Rattle.rast_common.specs.Message.{message_line}
use Rattle.rast_print.specs.Printed.{reported_line, reported, lexer_reported}
use Rattle.rast_print.specs.Shown.{all_reported}
use Rattle.rast.specs.Ran.{ArePrinted}
use Rattle.rast_print.specs.declared.printer.Printer.{Printer}
use Rattle.rast.specs.Pending.{pending, child_lines, ArePlaced, AllPlaced, pending_size, message_lines}
use Rattle.rast.specs.RangedLines.{ranged_lines, node_line, leaf_line}
use Rattle.syntax_tree.specs.Children.{with_child, with_children, children_of}
use Rattle.syntax_tree.specs.Leaves.{RangedLeaf, leaf_of_byte}
use Rattle.syntax_tree.specs.Places.{HavePlaces}
use Rattle.syntax_tree.specs.RangedForest.{RangedForest, RangedNode, ranged_none, forest_size, alone}
use Rattle.syntax_tree.specs.RangedMessages.{RangedMessage, ranged_message, ranged_at}
use Rattle.syntax_tree.specs.TextTree.{IsTextTree}
use Rattle.syntax_tree.specs.Reports.{ReportValue, reports_of_step, reports_of, lexer_reports, all_reports}
use Rattle.syntax_tree.specs.declared.node.Child.{Child}
use Rattle.syntax_tree.specs.declared.node.Child.TheVariants.{Node as a_node, Leaf as a_leaf}

child_after : (text : List ℕ) (depth : ℕ) (f : RangedForest) (c : Child) → ranged_lines text depth (with_child f c) ≡ ranged_lines text depth f ++ child_lines text depth c
child_after text depth f (a_node n) = refl
child_after text depth f (a_leaf kind range) = refl

lines-children : (text : List ℕ) (depth : ℕ) (cs : List Child) (f : RangedForest) → ranged_lines text depth (with_children f cs) ≡ ranged_lines text depth f ++ ranged_lines text depth (children_of cs)
lines-children text depth [] f = sym (append-nil (ranged_lines text depth f))
lines-children text depth (c ∷ cs) f =
    lines-children text depth cs (with_child f c)
    ∙ (ap (λ l. l ++ ranged_lines text depth (children_of cs)) (child_after text depth f c)
    ∙ (append_assoc (ranged_lines text depth f) (child_lines text depth c) (ranged_lines text depth (children_of cs))
    ∙ ap (λ l. ranged_lines text depth f ++ l) (sym (lines-children text depth cs (with_child ranged_none c)))))

-- the lines of a list are those of its first child and those of the others
pub lines-first : (text : List ℕ) (depth : ℕ) (c : Child) (cs : List Child) → ranged_lines text depth (children_of (c ∷ cs)) ≡ child_lines text depth c ++ ranged_lines text depth (children_of cs)
lines-first text depth c cs = lines-children text depth cs (with_child ranged_none c)

size-children : (cs : List Child) (f : RangedForest) → forest_size (with_children f cs) ≡ forest_size f + forest_size (children_of cs)
size-children [] f = omega arith
size-children (a_node n ∷ cs) f = omega (arith, size-children cs (with_child f (a_node n)), size-children cs (with_child ranged_none (a_node n)))
size-children (a_leaf kind range ∷ cs) f = omega (arith, size-children cs (with_child f (a_leaf kind range)), size-children cs (with_child ranged_none (a_leaf kind range)))

pub size-first : (c : Child) (cs : List Child) → forest_size (children_of (c ∷ cs)) ≡ forest_size (with_child ranged_none c) + forest_size (children_of cs)
size-first c cs = size-children cs (with_child ranged_none c)

places-front : (text : List ℕ) (cs : List Child) (f : RangedForest) → HavePlaces text (with_children f cs) → HavePlaces text f
places-front text [] f h = h
places-front text (a_node n ∷ cs) f h = (places-front text cs (with_child f (a_node n)) h).0
places-front text (a_leaf kind range ∷ cs) f h = (places-front text cs (with_child f (a_leaf kind range)) h).0

pub are_placed : (text : List ℕ) (cs : List Child) (f : RangedForest) → HavePlaces text (with_children f cs) → ArePlaced text cs
are_placed text [] f h = tt
are_placed text (a_node n ∷ cs) f h =
    let here = places-front text cs (with_child f (a_node n)) h in
    ((tt, here.1, here.2), are_placed text cs (with_child f (a_node n)) h)
are_placed text (a_leaf kind range ∷ cs) f h =
    let here = places-front text cs (with_child f (a_leaf kind range)) h in
    ((tt, here.1), are_placed text cs (with_child f (a_leaf kind range)) h)

-- one list more, inside the others
pub pending-snoc : (text : List ℕ) (depth : ℕ) (fs : List (Bor (List Child))) (f : Bor (List Child)) → pending text depth (fs ++ f ∷ []) ≡ ranged_lines text (depth + length fs) (children_of f.now) ++ pending text depth fs
pending-snoc text depth [] f =
    let e : depth ≡ depth + 0 = omega arith in
    ap (λ d. ranged_lines text d (children_of f.now)) e ∙ sym (append-nil (ranged_lines text (depth + 0) (children_of f.now)))
pending-snoc text depth (g ∷ gs) f =
    let e : (depth + 1) + length gs ≡ depth + length (g ∷ gs) = omega arith in
    ap (λ l. l ++ ranged_lines text depth (children_of g.now)) (pending-snoc text (depth + 1) gs f ∙ ap (λ d. ranged_lines text d (children_of f.now) ++ pending text (depth + 1) gs) e)
    ∙ append_assoc (ranged_lines text (depth + length (g ∷ gs)) (children_of f.now)) (pending text (depth + 1) gs) (ranged_lines text depth (children_of g.now))

pub size-snoc : (fs : List (Bor (List Child))) (f : Bor (List Child)) → pending_size (fs ++ f ∷ []) ≡ pending_size fs + (1 + 2 * forest_size (children_of f.now))
size-snoc [] f = omega arith
size-snoc (g ∷ gs) f = omega (arith, size-snoc gs f)

pub placed-snoc : (text : List ℕ) (fs : List (Bor (List Child))) (f : Bor (List Child)) → AllPlaced text fs → ArePlaced text f.now → AllPlaced text (fs ++ f ∷ [])
placed-snoc text [] f h p = (p, tt)
placed-snoc text (g ∷ gs) f h p = (h.0, placed-snoc text gs f h.1 p)

pub placed-last : (text : List ℕ) (fs : List (Bor (List Child))) (f : Bor (List Child)) → AllPlaced text (fs ++ f ∷ []) → AllPlaced text fs × ArePlaced text f.now
placed-last text [] f h = (tt, h.0)
placed-last text (g ∷ gs) f h = let rest = placed-last text gs f h.1 in ((h.0, rest.0), rest.1)

-- a leaf's line is written
pub leaf-step : (text : List ℕ) (depth : ℕ) (c : Child) (kind : ℕ) (range : Range ℕ) (old new : List ℕ) (fs : List (Bor (List Child)))
    → c ≡ a_leaf kind range → new ≡ old ++ leaf_line text depth kind range.start range.end
    → new ++ pending text 1 fs ≡ old ++ (child_lines text depth c ++ pending text 1 fs)
leaf-step text depth c kind range old new fs is e =
    ap (λ l. l ++ pending text 1 fs) e
    ∙ (append_assoc old (leaf_line text depth kind range.start range.end) (pending text 1 fs)
    ∙ ap (λ d. old ++ (child_lines text depth d ++ pending text 1 fs)) (sym is))

-- a node's line is written, and its children are left
pub node-step : (text : List ℕ) (depth : ℕ) (c : Child) (n : RangedNode) (old new : List ℕ) (fs gs : List (Bor (List Child))) (f : Bor (List Child))
    → c ≡ a_node n → new ≡ old ++ node_line depth n.kind n.start n.end → gs ≡ fs ++ f ∷ [] → children_of f.now ≡ n.children → depth ≡ length fs
    → new ++ pending text 1 gs ≡ old ++ (child_lines text depth c ++ pending text 1 fs)
node-step text depth c n old new fs gs f is e more same deep =
    let nl : List ℕ = node_line depth n.kind n.start n.end in
    let inner : List ℕ = ranged_lines text (depth + 1) n.children in
    let d : 1 + length fs ≡ depth + 1 = omega (arith, deep) in
    let left : pending text 1 gs ≡ inner ++ pending text 1 fs =
    ap (λ l. pending text 1 l) more ∙ pending-snoc text 1 fs f
    ∙ ap (λ k. ranged_lines text k (children_of f.now) ++ pending text 1 fs) d
    ∙ ap (λ g. ranged_lines text (depth + 1) g ++ pending text 1 fs) same in
    ap (λ l. l ++ pending text 1 gs) e
    ∙ ap (λ l. (old ++ nl) ++ l) left
    ∙ append_assoc old nl (inner ++ pending text 1 fs)
    ∙ ap (λ l. old ++ l) (sym (append_assoc nl inner (pending text 1 fs)))
    ∙ ap (λ k. old ++ (child_lines text depth k ++ pending text 1 fs)) (sym is)

-- the innermost list is at its end
pub end-step : (text : List ℕ) (fs opens : List (Bor (List Child))) (list : Bor (List Child)) → opens ≡ fs ++ list ∷ [] → list.now ≡ []
    → pending text 1 fs ≡ pending text 1 opens
end-step text fs opens list e none =
    sym (ap (λ l. pending text 1 l) e ∙ pending-snoc text 1 fs list ∙ ap (λ cs. ranged_lines text (1 + length fs) (children_of cs) ++ pending text 1 fs) none)

-- the first child of the innermost list is written
pub first-step : (text : List ℕ) (fs opens gs hs : List (Bor (List Child))) (list later : Bor (List Child)) (c : Child) (old new : List ℕ)
    → opens ≡ fs ++ list ∷ [] → list.now ≡ c ∷ later.now → gs ≡ fs ++ later ∷ []
    → new ++ pending text 1 hs ≡ old ++ (child_lines text (length gs) c ++ pending text 1 gs)
    → new ++ pending text 1 hs ≡ old ++ pending text 1 opens
first-step text fs opens gs hs list later c old new e is more h =
    let deep : length gs ≡ 1 + length fs = ap length more ∙ omega (arith, length-append fs (later ∷ [])) in
    let rest : List ℕ = ranged_lines text (1 + length fs) (children_of later.now) in
    let left : pending text 1 gs ≡ rest ++ pending text 1 fs = ap (λ l. pending text 1 l) more ∙ pending-snoc text 1 fs later in
    let all : pending text 1 opens ≡ (child_lines text (1 + length fs) c ++ rest) ++ pending text 1 fs =
    ap (λ l. pending text 1 l) e ∙ pending-snoc text 1 fs list
    ∙ ap (λ cs. ranged_lines text (1 + length fs) (children_of cs) ++ pending text 1 fs) is
    ∙ ap (λ l. l ++ pending text 1 fs) (lines-first text (1 + length fs) c later.now) in
    h ∙ ap (λ d. old ++ (child_lines text d c ++ pending text 1 gs)) deep
    ∙ ap (λ l. old ++ (child_lines text (1 + length fs) c ++ l)) left
    ∙ ap (λ l. old ++ l) (sym (append_assoc (child_lines text (1 + length fs) c) rest (pending text 1 fs)))
    ∙ ap (λ l. old ++ l) (sym all)

-- and there is less to write
pub first-size : (fs opens gs hs : List (Bor (List Child))) (list later : Bor (List Child)) (c : Child)
    → opens ≡ fs ++ list ∷ [] → list.now ≡ c ∷ later.now → gs ≡ fs ++ later ∷ []
    → pending_size hs < pending_size gs + 2 * forest_size (with_child ranged_none c) → pending_size hs < pending_size opens
first-size fs opens gs hs list later c e is more h =
    let left : pending_size gs ≡ pending_size fs + (1 + 2 * forest_size (children_of later.now)) = ap pending_size more ∙ size-snoc fs later in
    let all : pending_size opens ≡ pending_size fs + (1 + 2 * forest_size (children_of list.now)) = ap pending_size e ∙ size-snoc fs list in
    let both : forest_size (children_of list.now) ≡ forest_size (with_child ranged_none c) + forest_size (children_of later.now) = ap (λ cs. forest_size (children_of cs)) is ∙ size-first c later.now in
    omega (arith, left, all, both, h)

pub end-size : (fs opens : List (Bor (List Child))) (list : Bor (List Child)) → opens ≡ fs ++ list ∷ [] → pending_size fs < pending_size opens
end-size fs opens list e = let all : pending_size opens ≡ pending_size fs + (1 + 2 * forest_size (children_of list.now)) = ap pending_size e ∙ size-snoc fs list in omega (arith, all)

-- the children of a node, as a list
pub children_placed : (text : List ℕ) (cs : List Child) (f : RangedForest) → children_of cs ≡ f → HavePlaces text f → ArePlaced text cs
children_placed text cs f e h = let P : RangedForest → Type 0 = λ g. HavePlaces text g in are_placed text cs ranged_none (subst P (sym e) h)

-- the lines of messages without their places
abbrev pub bare_lines : List ReportValue → List ℕ
bare_lines [] = []
bare_lines (m ∷ ms) = message_line m.at m.text ++ bare_lines ms

line-at : (m : ReportValue) (leaf : Option RangedLeaf) → message_line (ranged_at m leaf).at (ranged_at m leaf).text ≡ message_line m.at m.text
line-at m None = refl
line-at m (Some leaf) = refl

message_lines-bare : (f : RangedForest) (ms : List ReportValue) → message_lines (map (ranged_message f) ms) ≡ bare_lines ms
message_lines-bare f [] = refl
message_lines-bare f (m ∷ ms) = ap (λ l. l ++ message_lines (map (ranged_message f) ms)) (line-at m (leaf_of_byte m.at f)) ∙ ap (λ l. message_line m.at m.text ++ l) (message_lines-bare f ms)

-- the lines of the messages are those of the steps and of the lexer
bare_lines-append : (xs ys : List ReportValue) → bare_lines (xs ++ ys) ≡ bare_lines xs ++ bare_lines ys
bare_lines-append [] ys = refl
bare_lines-append (m ∷ ms) ys = ap (λ l. message_line m.at m.text ++ l) (bare_lines-append ms ys) ∙ sym (append_assoc (message_line m.at m.text) (bare_lines ms) (bare_lines ys))

bare_lines-step : (s : StrStepValue) → bare_lines (reports_of_step s) ≡ reported_line s
bare_lines-step (str_enter kind) = refl
bare_lines-step str_exit = refl
bare_lines-step (str_token kind text) = refl
bare_lines-step (str_error bytes pos) = append-nil (message_line pos bytes)

bare_lines-steps : (ss : List StrStepValue) → bare_lines (reports_of ss) ≡ reported ss
bare_lines-steps [] = refl
bare_lines-steps (s ∷ ss) =
    bare_lines-append (reports_of_step s) (reports_of ss) ∙ (ap (λ l. l ++ bare_lines (reports_of ss)) (bare_lines-step s) ∙ ap (λ l. reported_line s ++ l) (bare_lines-steps ss))

bare_lines-lexer : (ts : List Token) (ms : List Message) → bare_lines (lexer_reports ts ms) ≡ lexer_reported ts ms
bare_lines-lexer ts [] = refl
bare_lines-lexer ts (m ∷ ms) = ap (λ l. message_line (start_of ts m.token) m.text ++ l) (bare_lines-lexer ts ms)

pub bare_lines-all : (lexed : Lexed) (forest : Forest) → bare_lines (all_reports lexed (str_flat (with_trivia lexed.tokens forest))) ≡ all_reported lexed forest
bare_lines-all lexed forest =
    let steps : List StrStepValue = str_flat (with_trivia lexed.tokens forest) in
    bare_lines-append (reports_of steps) (lexer_reports lexed.tokens lexed.errors)
    ∙ (ap (λ l. l ++ bare_lines (lexer_reports lexed.tokens lexed.errors)) (bare_lines-steps steps)
    ∙ ap (λ l. reported steps ++ l) (bare_lines-lexer lexed.tokens lexed.errors))

-- what is printed of a text's tree
pub ranges_whole : (text : List ℕ) (edition : Edition) (entry : TopEntryPoint) (root : RangedNode) (messages : List RangedMessage) (p : Printer)
    → IsTextTree text edition entry root messages → p.tree ≡ ranged_lines text 0 (alone root) → string_bytes p.messages ≡ message_lines messages
    → ArePrinted true text edition entry p
ranges_whole text edition entry root messages p t lines said = record {
  lexed = t.lexed;
  forest = t.forest;
  parsed = t.parsed;
  tree = lines ∙ ap (λ f. ranged_lines text 0 f) t.ranged;
  messages = said ∙ (ap message_lines t.reports ∙ (message_lines-bare root.children (all_reports t.lexed (str_flat (with_trivia t.lexed.tokens t.forest))) ∙ bare_lines-all t.lexed t.forest));
}
