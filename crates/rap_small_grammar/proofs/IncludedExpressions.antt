-- Expressions of the core grammar are in the table.
use Rattle.std.proofs.Common.{◌≡◌, ◌≢◌, ◌≤◌, ℕ, suc, Bool, true, false, not, ◌&&◌, ◌||◌, ◌==◌, List, [], ◌∷◌, ◌++◌, Some, map, refl, sym, subst, ◌∙◌, arith}
use Rattle.std.proofs.lemmas.Bool.{eqb-true, eq-eqb}
use Rattle.std.proofs.lemmas.Bool.Decides.{nat_tests}
use Rattle.rap_base.specs.NodeKind.{BIN_EXPR}
use Rattle.rap_events.specs.Composite.{width}
use Rattle.rap_events.specs.Forest.{Forest, none, node, leaf, ◌⧺◌}
use Rattle.rap_events.proofs.Truth.{and_left, and_right}
use Rattle.rap_events.specs.OperatorTable.{powers}
use Rattle.rap_events.specs.Power.{power, power_in}
use Rattle.rap_events.specs.Record.{Record}
use Rattle.rap_small_grammar.specs.Derives.{starts_with_block}
use Rattle.rap_small_grammar.proofs.IncludedOperands.{UnarySo}
use Rattle.rap_small_grammar.proofs.IncludedOperators.{Written, stood, is_used}
use Rattle.rap_small_grammar.proofs.IncludedRows.{Headed, FoldsTo, nothing_behind, behind_it, said_so, whole, Row, Folded, none_yet, one_more, rolled, done, closes, makes, puts_last}
use Rattle.rap_small_grammar.proofs.IncludedTurns.{all_levels, among_tighter, comes_from, comes_last, from_of, in_closed, level, operator_of, powers_of, turn_items}
use Rattle.rap_small_grammar.proofs.Operators.{by_truth}
use Rattle.rap_small_grammar.proofs.Begins.{Single}
use Rattle.rap_grammar_table.specs.Rows.{grammar}
use Rattle.rap_grammar_table.specs.Category.{Category, Assigned, Closed, Condition, Expr, Operand, StmtOperand}
use Rattle.rap_grammar_table.specs.Known.{among}
use Rattle.rap_grammar_table.specs.Operators.{all_turns, assign_turns, behind, cast_turns, closed_turns, levels, range_turn, tighter}
use Rattle.rap_grammar_table.proofs.OperatorHints.{is_angled}
use Rattle.rap_grammar_table.specs.Notation.{◌⊳◌}
use Rattle.rap_grammar_table.specs.Table.{Items, nil, piece, cat, close, folds, HasWay, first_turn, other_turn, row_at}
use Rattle.rap_grammar_table.specs.Tops.{Makes}

-- the powers of operators between operands, of both sorts
least_power : (angle : Bool) (q : ℕ) → among (powers_of angle) q ≡ true → 3 ≤ q
least_power false q m = grind (arith, nat_tests)
least_power true q m = grind (arith, nat_tests)

most_power : (angle : Bool) (q : ℕ) → among (powers_of angle) q ≡ true → q ≤ 11
most_power false q m = grind (arith, nat_tests)
most_power true q m = grind (arith, nat_tests)

among_levels : (angle : Bool) (q : ℕ) → among (powers_of angle) q ≡ true → among (map behind levels) q ≡ true
among_levels angle q m = all_levels q (least_power angle q m) (most_power angle q m)

-- One of the powers of operators between operands, of which each has a row.
pub record IsBinary (op : ℕ) : Type 0 where
  pub least : 3 ≤ power op
  pub most : power op ≤ 11

-- Operators behind an operand, the last of them first, to these tokens and tree; the number is the last power, or 12.
pub data Operated (forbid : Bool) (x : Forest) : List Record → Forest → ℕ → Type 0 where
  operand : Operated forbid x [] x 12
  operated : {op m : ℕ} {ks os js : List Record} {u v : Forest} → Operated forbid x ks u m → power op ≤ m →
      IsBinary op → Written op os js → Makes (Closed forbid (level (power op))) js v →
      Operated forbid x (ks ++ (os ++ js)) (node none BIN_EXPR (leaf u op (width op) ⧺ v)) (power op)

-- all turns of operators of at least this power are among these
pub record HasTurns (forbid : Bool) (p : ℕ) (ws : Items) : Type 0 where
  pub turn : (angle : Bool) (q : ℕ) → p ≤ q → among (powers_of angle) q ≡ true →
      HasWay ws (from_of angle q) (turn_items forbid angle q) q

-- each operator that is used is an assignment, or has one of those powers
abbrev is_listed : ℕ → Bool
is_listed op = not (is_used (power op)) || ((power op == 1) || among (powers_of (is_angled op)) (power op))

abbrev all_listed : List (ℕ × ℕ) → Bool
all_listed [] = true
all_listed (row ∷ rows) = is_listed row.0 && all_listed rows

listed_in : (rows : List (ℕ × ℕ)) (op : ℕ) → all_listed rows ≡ true → 1 ≤ power_in rows op → is_listed op ≡ true
listed_in [] op e h = absurd (omega arith)
listed_in (row ∷ rows) op e h =
    by_truth (row.0 == op) (λ i. rw (← (eqb-true row.0 op i)) (and_left _ _ e))
    (λ i. listed_in rows op (and_right (is_listed row.0) _ e) (rw i at h))

binary_used : (p : ℕ) → 3 ≤ p → p ≤ 11 → is_used p ≡ true
binary_used p lo hi = grind (arith, nat_tests)

no_assignment : (p : ℕ) → 3 ≤ p → (p == 1) ≡ false
no_assignment p lo = grind (arith, nat_tests)

left_out : (a b d : Bool) → a ≡ true → b ≡ false → (not a || (b || d)) ≡ true → d ≡ true
left_out true false d h i e = e
left_out true true d h i e = absurd cc
left_out false b d h i e = absurd cc

listed_power : (op : ℕ) → IsBinary op → among (powers_of (is_angled op)) (power op) ≡ true
listed_power op b =
    left_out (is_used (power op)) (power op == 1) _ (binary_used (power op) b.least b.most)
    (no_assignment (power op) b.least) (listed_in powers op refl (omega (arith, b.least)))

-- the number is a power of an operator, or 12
record Bounds (m : ℕ) : Type 0 where
  least : 3 ≤ m
  most : m ≤ 12

bounds : {f : Bool} {x u : Forest} {ks : List Record} {m : ℕ} → Operated f x ks u m → Bounds m
bounds operand = record { least = omega arith; most = omega arith }
bounds (operated {op = op} o l b w d) =
    record { least = omega (arith, b.least); most = omega (arith, b.most) }

binary_row : (f : Bool) {op : ℕ} {os js : List Record} {u v : Forest} → IsBinary op → Written op os js →
    Makes (Closed f (level (power op))) js v →
    Row (turn_items f (is_angled op) (power op)) u (none ∷ []) (os ++ js) (node none BIN_EXPR (leaf u op (width op) ⧺ v))
binary_row f {op = op} b w d =
    (stood op (omega (arith, b.least)) (binary_used (power op) b.least b.most)).row w (puts_last d (closes done))

to_turns : {f : Bool} {p : ℕ} {ws : Items} {x u : Forest} {ks : List Record} {m : ℕ} → HasTurns f p ws →
    Operated f x ks u m → p ≤ m → Folded ws 12 x ks u m
to_turns h operand l = none_yet
to_turns {f = f} {p = p} h (operated {op = op} {m = m} o n b w d) l =
    let k = bounds o in
    one_more (to_turns h o (omega (arith, n, l))) (h.turn (is_angled op) (power op) l (listed_power op b))
    (comes_from (is_angled op) (power op) m b.least b.most n k.most) (binary_row f b w d)

-- An operand of this category with operators of at least a power behind it.
pub record OperatedTo (forbid : Bool) (p : ℕ) (t x : Forest) (ks : List Record) : Type 0 where
  pub number : ℕ
  pub above : p ≤ number
  pub more : Operated forbid x ks t number

abbrev pub OperandsSo : Bool → Category → ℕ → List Record → Forest → Type 0
OperandsSo forbid category p ks t = Headed category (OperatedTo forbid p t) ks

pub record BinarySo (p : ℕ) (ks : List Record) (t : Forest) : Type 0 where
  pub free : OperandsSo false (Operand false) p ks t
  pub forbidden : OperandsSo true (Operand true) p ks t
  pub stmt : starts_with_block ks ≡ false → OperandsSo false StmtOperand p ks t

lone : {f : Bool} {h : Category} {kind : ℕ} {ks : List Record} {children : Forest} → Makes h ks (node none kind children) →
    OperandsSo f h 12 ks (node none kind children)
lone d = nothing_behind d (record { number = 12; above = omega arith; more = operand })

lone_so : {ks : List Record} (kind : ℕ) (children : Forest) → UnarySo ks (node none kind children) →
    BinarySo 12 ks (node none kind children)
lone_so kind children d = record { free = lone d.free; forbidden = lone d.forbidden; stmt = λ s. lone (d.stmt s) }

pub unary_binary : {ks : List Record} {t : Forest} → Single t → UnarySo ks t → BinarySo 12 ks t
unary_binary {ks = ks} s d =
    subst (λ (y : Forest). BinarySo 12 ks y) (sym s.is)
    (lone_so s.kind s.children (subst (λ (y : Forest). UnarySo ks y) s.is d))

looser : {f : Bool} {h : Category} {p : ℕ} {ks : List Record} {t : Forest} → OperandsSo f h (suc p) ks t → OperandsSo f h p ks t
looser d = said_so (λ x ms o. record { number = o.number; above = omega (arith, o.above); more = o.more }) d

pub tighter_binary : {p : ℕ} {ks : List Record} {t : Forest} → BinarySo (suc p) ks t → BinarySo p ks t
tighter_binary d =
    record { free = looser d.free; forbidden = looser d.forbidden; stmt = λ s. looser (d.stmt s) }

-- the right operand of an operator with this power
abbrev closed_items : Bool → ℕ → Items
closed_items forbid p = piece (cat (Operand forbid)) (folds 12 (closed_turns forbid (tighter (level p)) nil) nil)

closed_has : (f : Bool) (p : ℕ) → 3 ≤ p → p ≤ 11 → HasTurns f (suc p) (closed_turns f (tighter (level p)) nil)
closed_has f p lo hi =
    record {
      turn = λ angle q h m.
          in_closed f angle (tighter (level p)) q nil
          (among_tighter p lo hi q (omega (arith, h)) (most_power angle q m)) m;
    }

folds_so : {f : Bool} {h : Category} {p : ℕ} {ws : Items} {ks : List Record} {t : Forest} → HasTurns f p ws →
    OperandsSo f h p ks t → Headed h (FoldsTo 12 ws t) ks
folds_so w d = said_so (λ x ms o. rolled (to_turns w o.more o.above)) d

closed : {f : Bool} {p : ℕ} {ks : List Record} {t : Forest} → 3 ≤ p → p ≤ 11 →
    OperandsSo f (Operand f) (suc p) ks t → Makes (Closed f (level p)) ks t
closed {f = f} {p = p} lo hi d = makes 0 refl (whole (folds_so (closed_has f p lo hi) d))

operate : {f : Bool} {h : Category} {op : ℕ} {ks os js : List Record} {t u : Forest} → OperandsSo f h (power op) ks t →
    IsBinary op → Written op os js → Makes (Closed f (level (power op))) js u →
    OperandsSo f h (power op) (ks ++ (os ++ js)) (node none BIN_EXPR (leaf t op (width op) ⧺ u))
operate {op = op} {os = os} {js = js} d b w e =
    behind_it (os ++ js)
    (λ x ms o. record { number = power op; above = omega arith; more = operated o.more o.above b w e }) d

operate_all : {op : ℕ} {ks os js : List Record} {t u : Forest} → BinarySo (power op) ks t → IsBinary op →
    Written op os js → BinarySo (suc (power op)) js u →
    (starts_with_block (ks ++ (os ++ js)) ≡ starts_with_block ks) →
    BinarySo (power op) (ks ++ (os ++ js)) (node none BIN_EXPR (leaf t op (width op) ⧺ u))
operate_all {op = op} d b w e s =
    let free : Makes (Closed false (level (power op))) _ _ =
    closed b.least b.most e.free in
    record {
      free = operate d.free b w free;
      forbidden = operate d.forbidden b w (closed b.least b.most e.forbidden);
      stmt = λ i. operate (d.stmt (sym s ∙ i)) b w free;
    }

pub operator_binary : {p op : ℕ} {ks os js : List Record} {t u : Forest} → 3 ≤ p → p ≤ 11 → power op ≡ p →
    BinarySo p ks t → Written op os js → BinarySo (suc p) js u →
    (starts_with_block (ks ++ (os ++ js)) ≡ starts_with_block ks) →
    BinarySo p (ks ++ (os ++ js)) (node none BIN_EXPR (leaf t op (width op) ⧺ u))
operator_binary {op = op} {ks = ks} {os = os} {js = js} {t = t} {u = u} lo hi e d w r s =
    subst (λ (q : ℕ). BinarySo q (ks ++ (os ++ js)) (node none BIN_EXPR (leaf t op (width op) ⧺ u))) e
    (operate_all (subst (λ (q : ℕ). BinarySo q ks t) (sym e) d)
    (record { least = rw e lo; most = rw e hi }) w
    (subst (λ (q : ℕ). BinarySo (suc q) js u) (sym e) r) s)

-- Assignments. An operand of this category with nodes around it.
abbrev pub Expressed : Category → Items → List Record → Forest → Type 0
Expressed category ws ks t = Headed category (FoldsTo 12 ws t) ks

abbrev pub condition_turns : Items
condition_turns = (cast_turns true levels ⊳ range_turn true ⊳ assign_turns Assigned) nil

pub record ExpressionSo (ks : List Record) (t : Forest) : Type 0 where
  pub any : Makes Expr ks t
  pub condition : Makes Condition ks t
  pub assigned : Makes Assigned ks t
  pub stmt : starts_with_block ks ≡ false → Expressed StmtOperand (all_turns nil) ks t

free_turns : HasTurns false 3 (all_turns nil)
free_turns = record { turn = λ angle q h m. other_turn (in_closed false angle levels q _ (among_levels angle q m) m) }

forbidden_turns : HasTurns true 3 condition_turns
forbidden_turns = record { turn = λ angle q h m. other_turn (in_closed true angle levels q _ (among_levels angle q m) m) }

expression_of : {ks : List Record} {t : Forest} → Expressed (Operand false) (all_turns nil) ks t →
    Expressed (Operand true) condition_turns ks t →
    (starts_with_block ks ≡ false → Expressed StmtOperand (all_turns nil) ks t) → ExpressionSo ks t
expression_of d e s =
    record {
      any = makes 0 refl (whole d);
      condition = makes 1 refl (whole e);
      assigned = makes 0 refl (whole e);
      stmt = s;
    }

pub binary_expression : {ks : List Record} {t : Forest} → BinarySo 3 ks t → ExpressionSo ks t
binary_expression d =
    expression_of (folds_so free_turns d.free) (folds_so forbidden_turns d.forbidden)
    (λ s. folds_so free_turns (d.stmt s))

abbrev assign_items : Bool → Category → Items
assign_items angle category = operator_of angle 1 (piece (cat category) (close BIN_EXPR nil))

behind_casts : (f : Bool) (r : Items) {a : Items} {is : List ℕ} {m : ℕ} → HasWay r is a m → HasWay (cast_turns f levels r) is a m
behind_casts f r h =
    other_turn (other_turn (other_turn (other_turn (other_turn (other_turn (other_turn (other_turn
    (other_turn (other_turn (other_turn (other_turn (other_turn (other_turn (other_turn (other_turn
    (other_turn (other_turn (other_turn (other_turn (other_turn (other_turn (other_turn h))))))))))))))))))))))

free_assign : (angle : Bool) → HasWay (all_turns nil) (from_of angle 1) (assign_items angle Expr) 0
free_assign false = behind_casts false _ (other_turn (other_turn (other_turn first_turn)))
free_assign true = behind_casts false _ (other_turn (other_turn (other_turn (other_turn first_turn))))

forbidden_assign : (angle : Bool) → HasWay condition_turns (from_of angle 1) (assign_items angle Assigned) 0
forbidden_assign false = behind_casts true _ (other_turn first_turn)
forbidden_assign true = behind_casts true _ (other_turn (other_turn first_turn))

assign_row : {h : Category} {op : ℕ} {os js : List Record} {u v : Forest} → power op ≡ 1 → Written op os js → Makes h js v →
    Row (assign_items (is_angled op) h) u (none ∷ []) (os ++ js) (node none BIN_EXPR (leaf u op (width op) ⧺ v))
assign_row {h = h} {op = op} {os = os} {js = js} {u = u} {v = v} e w d =
    subst
    (λ (q : ℕ). Row (operator_of (is_angled op) q (piece (cat h) (close BIN_EXPR nil))) u (none ∷ []) (os ++ js)
    (node none BIN_EXPR (leaf u op (width op) ⧺ v))) e
    ((stood op (omega (arith, e)) (rw e refl)).row w (puts_last d (closes done)))

assign : {f : Bool} {h goal : Category} {op : ℕ} {ws : Items} {ks os js : List Record} {t u : Forest} → HasTurns f 3 ws →
    ((angle : Bool) → HasWay ws (from_of angle 1) (assign_items angle goal) 0) → OperandsSo f h 3 ks t →
    power op ≡ 1 → Written op os js → Makes goal js u →
    Expressed h ws (ks ++ (os ++ js)) (node none BIN_EXPR (leaf t op (width op) ⧺ u))
assign {op = op} {os = os} {js = js} w a d e i m =
    behind_it (os ++ js)
    (λ x ms o.
    let k = bounds o.more in
    rolled (one_more (to_turns w o.more o.above) (a (is_angled op))
    (comes_last (is_angled op) o.number k.least k.most) (assign_row e i m))) d

pub assign_expression : {op : ℕ} {ks os js : List Record} {t u : Forest} → power op ≡ 1 → BinarySo 3 ks t →
    Written op os js → ExpressionSo js u → (starts_with_block (ks ++ (os ++ js)) ≡ starts_with_block ks) →
    ExpressionSo (ks ++ (os ++ js)) (node none BIN_EXPR (leaf t op (width op) ⧺ u))
assign_expression e d w r s =
    expression_of (assign free_turns free_assign d.free e w r.any)
    (assign forbidden_turns forbidden_assign d.forbidden e w r.assigned)
    (λ i. assign free_turns free_assign (d.stmt (sym s ∙ i)) e w r.any)
