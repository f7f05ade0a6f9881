-- What begins with items and tokens that begin none is read as that, whatever follows.
use Rattle.std.proofs.Common.{◌≡◌, ℕ, List, [], ◌∷◌, ◌++◌, Bool, true, false, refl, ap, sym, ◌∙◌, subst, ◌==◌, append_assoc}
use Rattle.rap_base.specs.TokenKind.{EOF, IDENT, AT, COMMA, INT_NUMBER, R_CURLY, POUND, EXTERN_KW, USE_KW, MOD_KW, TYPE_KW, PUB_KW, OUTER_DOC_COMMENT, STRUCT_KW, FN_KW, SELF_KW, CONST_KW, SUPER_KW, ENUM_KW, MACRO_KW, CRATE_KW, STATIC_KW, DEFAULT_KW, TRAIT_KW, COLON, IMPL_KW, ASYNC_KW, L_CURLY, GEN_KW, LET_KW, UNSAFE_KW, SAFE_KW, AUTO_KW}
use Rattle.rap_events.specs.Record.{Record, next_kind}
use Rattle.rap_events.specs.Forest.{Forest, ◌⧺◌}
use Rattle.rap_grammar_ends.specs.Mixed.{IsStray, stray_tree, Mixed, no_more, an_item, a_stray, IsFront, whole, before}
use Rattle.rap_grammar_scripts.proofs.Forests.{⧺-assoc}
use Rattle.rap_grammar_scripts.proofs.OneEnd.{one_end}
use Rattle.rap_events.proofs.Truth.{and_false}
use Rattle.rap_grammar_scripts.specs.Script.{Outcome, nothing, something, block, again, Spot, Runs, Script, follows, fails, obeys, loop, gives, turns, starts, stops, goes_on, abandons, skips}
use Rattle.rap_grammar_ends.proofs.Differ.{differ, differ_back}
use Rattle.rap_grammar_ends.proofs.Ways.{Leads, Goes, no_attributes, no_pub_way}
use Rattle.rap_grammar_ends.proofs.Adds.{items_add}
use Rattle.rap_grammar_scripts.specs.Modules.{items}
use Rattle.rap_grammar_scripts.specs.Items.{item_or_macro, opt_item_without_modifiers, opt_item, marked_item, opt_modified_item, opt_item_with_modifiers, macro_or_error, opt_extern_block, missing_item, refuse}
use Rattle.rap_grammar_scripts.specs.First.{one_of}
use Rattle.rap_grammar_scripts.specs.Knot.{script_of}
use Rattle.rap_grammar_scripts.specs.Modifiers.{modifiers, opt_impl_restriction, qualifiers, safety, opt_abi, auto_or_default, opt_default, modifier, modifier_as}
use Rattle.rap_grammar_scripts.specs.declared.rule.Rule.{Rule}

abbrev is_stray : ℕ → Bool
is_stray k = one_of (AT ∷ COMMA ∷ INT_NUMBER ∷ []) k

-- a stray is no token of another kind
not_so : {r : Record} → IsStray r → (k : ℕ) → is_stray k ≡ false → (r.kind == k) ≡ false
not_so {r = r} h k e = differ is_stray r.kind k h.among e

so_not : {r : Record} → IsStray r → (k : ℕ) → is_stray k ≡ false → (k == r.kind) ≡ false
so_not {r = r} h k e = differ_back is_stray r.kind k h.among e

-- no item begins with it
no_stray_item : {b : List Forest} {r : Record} {rs : List Record} {f : Forest} → IsStray r →
    Goes nothing opt_item_without_modifiers b (r ∷ rs) f (r ∷ rs) f
unfolding opt_item_without_modifiers
no_stray_item h =
    fails (not_so h EXTERN_KW refl) (fails (not_so h USE_KW refl) (fails (not_so h MOD_KW refl) (fails
    (not_so h TYPE_KW refl)
    (fails (not_so h STRUCT_KW refl) (fails (not_so h ENUM_KW refl) (fails (not_so h MACRO_KW refl) (fails
    (not_so h CONST_KW refl)
    (fails (not_so h STATIC_KW refl) (fails (not_so h IDENT refl) gives)))))))))

no_stray_modifiers : (ext : Bool) {b : List Forest} {r : Record} {rs : List Record} {f : Forest} → IsStray r →
    Goes (again false false) (modifiers ext) b (r ∷ rs) f (r ∷ rs) f
unfolding modifiers opt_impl_restriction qualifiers safety opt_abi auto_or_default opt_default modifier modifier_as
no_stray_modifiers ext h =
    let i = not_so h IDENT refl in
    let d = not_so h DEFAULT_KW refl in
    follows (fails (rw (not_so h IMPL_KW refl) refl) gives)
    (follows (follows (fails (rw (not_so h CONST_KW refl) refl) gives) (follows (fails (rw
    (not_so h ASYNC_KW refl) refl) gives) (follows (fails (rw (not_so h GEN_KW refl) refl) gives) gives)))
    (follows (follows (fails (rw (not_so h UNSAFE_KW refl) refl) gives) (follows (fails (rw
    (not_so h SAFE_KW refl, i, and_false ext) refl) gives) gives))
    (follows (fails (not_so h EXTERN_KW refl) gives)
    (follows (follows (fails (rw (not_so h AUTO_KW refl, i) refl) gives)
    (follows (fails (rw (d, i) refl) (fails (rw (d, i) refl) (fails (rw (d, i) refl) gives))) gives))
    gives))))

no_item_of_stray : (ext : Bool) {b : List Forest} {r : Record} {rs : List Record} {f : Forest} → IsStray r →
    Goes nothing (opt_item ext) b (r ∷ rs) f (r ∷ rs) f
unfolding opt_item opt_modified_item opt_item_with_modifiers opt_extern_block refuse
no_item_of_stray ext h =
    follows (no_pub_way false (not_so h PUB_KW refl)) (follows (no_stray_item h) (follows (no_stray_modifiers ext h)
    (follows (fails (not_so h FN_KW refl) (fails (not_so h CONST_KW refl) (fails (not_so h STATIC_KW refl) (fails
    (not_so h TRAIT_KW refl)
    (fails (not_so h IMPL_KW refl) (fails (not_so h TYPE_KW refl) (fails (not_so h L_CURLY refl) gives))))))) gives)))

-- it is taken into an `ERROR`
stray_way : {b : List Forest} {r : Record} {l : List Record} {f : Forest} → IsStray r →
    Leads (item_or_macro false true) b (r ∷ l) f l (f ⧺ stray_tree r)
unfolding item_or_macro marked_item macro_or_error missing_item
stray_way h =
    starts (follows (no_attributes (rw (so_not h POUND refl, so_not h OUTER_DOC_COMMENT refl) refl))
    (follows (no_item_of_stray true h)
    (fails (rw (
      so_not h IDENT refl,
      so_not h SELF_KW refl,
      so_not h SUPER_KW refl,
      so_not h CRATE_KW refl,
      not_so h
          COLON refl,
    ) refl)
    (abandons (fails (not_so h L_CURLY refl) (fails (rw (not_so h R_CURLY refl) refl)
    (fails (rw (so_not h EOF refl, so_not h R_CURLY refl) refl) (fails (not_so h LET_KW refl) (skips gives)))))))))

-- a run of items goes on after a first one
flag_of : Outcome → Bool
flag_of nothing = false
flag_of something = false
flag_of block = false
flag_of (again a b) = a

other_flag_of : Outcome → Bool
other_flag_of nothing = false
other_flag_of something = false
other_flag_of block = false
other_flag_of (again a b) = b

behind_turn : {h : Bool → Bool → Script Rule} {p m q : Spot} {v : Outcome} →
    Runs script_of (h false false) p m (again false false) → Runs script_of (loop h false false) p q v →
    Runs script_of (loop h false false) m q v
unfolding flag_of other_flag_of
behind_turn {h = h} {m = m} {q = q} {v = v} x (turns {r = r} y z) =
    let s = one_end y x in
    let w = subst (λ (o : Outcome). Runs script_of (loop h (flag_of o) (other_flag_of o)) r q v) s.outcome z in
    subst (λ (o : Spot). Runs script_of (loop h false false) o q v) s.spot w
behind_turn x (stops y e) =
    let s = one_end y x in
    let g : true ≡ false = sym (ap goes_on s.outcome) ∙ e in
    absurd cc

behind_item : {b : List Forest} {rs l : List Record} {f g : Forest} {q : Spot} {v : Outcome} →
    Leads (item_or_macro false true) b rs f l g → (next_kind rs == EOF) ≡ false → (next_kind rs == R_CURLY) ≡ false →
    Runs script_of (items false) (record { rest = rs; forest = f; below = b }) q v →
    Runs script_of (items false) (record { rest = l; forest = g; below = b }) q v
unfolding items script_of
behind_item x e c r = behind_turn (fails e (fails (rw c refl) (obeys x gives))) r

-- What is known of items, in a list before what may come next: one item leads on to what comes then.
pub record AreItems (IsItem : List Record → Forest → Type 0) (Next : List Record → Type 0) : Type 0 where
  pub none_next : Next []
  pub stray_next : {r : Record} (l : List Record) → IsStray r → Next (r ∷ l)
  pub item_next : {ks : List Record} {t : Forest} → IsItem ks t → (l : List Record) → Next l → Next (ks ++ l)
  pub way : {ks : List Record} {t : Forest} → IsItem ks t → (b : List Forest) (f : Forest) (l : List Record) → Next l →
      Leads (item_or_macro false true) b (ks ++ l) f l (f ⧺ t)
  pub no_end : {ks : List Record} {t : Forest} → IsItem ks t → (l : List Record) → Next l →
      (next_kind (ks ++ l) == EOF) ≡ false
  pub no_brace : {ks : List Record} {t : Forest} → IsItem ks t → (l : List Record) → Next l →
      (next_kind (ks ++ l) == R_CURLY) ≡ false

abbrev Items : Type 1
Items = List Record → Forest → Type 0

abbrev Nexts : Type 1
Nexts = List Record → Type 0

pub mixed_next : {P : Items} {N : Nexts} → AreItems P N → {ks : List Record} {t : Forest} → Mixed P ks t →
    (l : List Record) → N l → N (ks ++ l)
mixed_next o no_more l n = n
mixed_next o (an_item {js = js} d m) l n = rw append_assoc (o.item_next d (js ++ l) (mixed_next o m l n))
mixed_next o (a_stray {js = js} h m) l n = o.stray_next (js ++ l) h

-- a run goes on after all that is mixed
behind_mixed : {P : Items} {N : Nexts} → AreItems P N → {ks : List Record} {t : Forest} → Mixed P ks t →
    (b : List Forest) (f : Forest) (l : List Record) {q : Spot} {v : Outcome} → N l →
    Runs script_of (items false) (record { rest = ks ++ l; forest = f; below = b }) q v →
    Runs script_of (items false) (record { rest = l; forest = f ⧺ t; below = b }) q v
behind_mixed o no_more b f l s r = r
behind_mixed o (an_item {ks = ks} {js = js} {t = t} {u = u} d m) b f l s r =
    let i = mixed_next o m l s in
    rw (sym (⧺-assoc f t u)) (behind_mixed o m b (f ⧺ t) l s
    (behind_item (o.way d b f (js ++ l) i) (o.no_end d (js ++ l) i) (o.no_brace d (js ++ l) i) (rw append_assoc at r)))
behind_mixed o (a_stray {r = z} {u = u} h m) b f l s r =
    rw (sym (⧺-assoc f (stray_tree z) u)) (behind_mixed o m b (f ⧺ stray_tree z) l s (behind_item (stray_way h)
    (not_so h EOF refl) (not_so h R_CURLY refl) r))

-- so what is made begins with their trees, behind what was there before
pub items_begin : {P : Items} {N : Nexts} → AreItems P N → {ks rest : List Record} {t : Forest} →
    IsFront P ks rest t → (b : List Forest) (f : Forest) {q : Spot} {v : Outcome} →
    Runs script_of (items false) (record { rest = ks ++ rest; forest = f; below = b }) q v →
    (x : Forest) × (q.forest ≡ (f ⧺ t) ⧺ x)
items_begin o (whole m) b f r = items_add false (behind_mixed o m b f [] o.none_next r)
items_begin o (before {rest = rest} {r = z} {t = t} m h) b f r =
    let i = behind_mixed o m b f (z ∷ rest) (o.stray_next rest h) (rw append_assoc at r) in
    let k = items_add false (behind_item (stray_way h) (not_so h EOF refl) (not_so h R_CURLY refl) i) in
    (k.0, k.1 ∙ ap (λ (x : Forest). x ⧺ k.0) (⧺-assoc f t (stray_tree z)))
