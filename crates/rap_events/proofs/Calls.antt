-- What each call does to the state, and that it keeps what holds of every parser.
use Rattle.std.proofs.Common.{◌≡◌, ℕ, ◌+◌, ◌≤◌, List, [], ◌∷◌, ◌++◌, length, Some, Bool, true, false, refl, sym, ap, ◌∙◌, append_assoc, append-nil, drop, length-drop, length-append, cond, arith, subst, map}
use Rattle.std.specs.Prelude.{String, string_bytes}
use Rattle.std.specs.declared.alloc.Global.{Global}
use Rattle.std.proofs.lemmas.List.{drop-drop, length-map, map-append}
use mathlib.Core.Logic.{∥∥₁_map}
use Rattle.rap_base.specs.NodeKind.{BIN_EXPR, TOKEN_TREE}
use Rattle.rap_events.specs.Record.{Record}
use Rattle.rap_events.specs.Forest.{Forest, none, node, leaf, message, split, ◌⧺◌}
use Rattle.rap_events.specs.Cover.{Leaf, of_tokens, leaf_width, leaves, stand, stands, widths}
use Rattle.rap_events.specs.History.{Call, reported_by, history}
use Rattle.rap_events.specs.History as call
use Rattle.rap_events.specs.Machine.{Stack, floor, push, top, stack_leaves, all_leaves, Config, close, merge, wrap, stretch, run, initial, all_splits_placed}
use Rattle.rap_events.specs.State.{view, but_last, last_children, Opened, IsLast, Completed, Abandoned, Preceded, Extended, Bumped, Reported}
use Rattle.rap_events.specs.Fit.{Fit, AllFitIn, StackFit, AllFit, is_plain}
use Rattle.rap_events.specs.declared.event.Event.{Event}
use Rattle.rap_events.specs.declared.event.Event.TheVariants as event
use Rattle.rap_events.specs.declared.parser.CompletedMarker.{CompletedMarker}
use Rattle.rap_events.proofs.Splits.{placed, all_placed, start_placed, point_placed, placed-close, placed-merge, placed-wrap, placed-stretch}
use Rattle.rap_events.proofs.Truth.{and_left, and_right, and_both}
use Rattle.rap_events.proofs.MachineLemmas.{run-push, Rooted, rooted, count_of, leaves-⧺}
use Rattle.rap_events.proofs.HistoryLemmas.{Shows, history-push, history-report, reported_by-push, reported_by-append}

-- the calls, on states
pub opened : (input rest : List Record) (xs : List Call) (n : ℕ) → n ≡ length xs →
    Opened (view input rest (run initial xs)) (view input rest (run initial (xs ++ call.start ∷ []))) n
opened input rest xs n e = rw (run-push initial xs call.start) (record {
  recorded = record { input = refl; rest = refl; left = refl; count = refl; messages = refl };
  marker = ap Some (count_of xs ∙ sym e);
  numbered = refl;
  forest = refl;
  below = refl;
})

pub reported : (input rest : List Record) (xs : List Call) (m : List ℕ) →
    Reported (view input rest (run initial xs)) (view input rest (run initial (xs ++ call.error m ∷ []))) m
reported input rest xs m = rw (run-push initial xs (call.error m)) (record { input = refl; rest = refl; left = refl; count = refl; messages = refl; marker = refl; forest = refl; below = refl })

pub drop-plus : (rs : List Record) (n m : ℕ) → drop (n + m) rs ≡ drop m (drop n rs)
drop-plus rs n m = sym (drop-drop m n rs)

pub bumped : (input : List Record) (pos : ℕ) (xs : List Call) (k w : ℕ) → w ≤ length (drop pos input) →
    Bumped (view input (drop pos input) (run initial xs)) (view input (drop (pos + w) input) (run initial (xs ++ call.token k w ∷ []))) k w
bumped input pos xs k w h = rw (run-push initial xs (call.token k w)) (record {
  input = refl;
  rest = drop-plus input pos w;
  left = omega (arith, length-drop pos input, length-drop (pos + w) input);
  count = refl;
  messages = refl;
  marker = refl;
  forest = refl;
  below = refl;
})

completed-at : (input rest : List Record) (k : ℕ) (c : Config) (s : Stack) (n : ℕ) (cm : CompletedMarker) → s ≡ c.below → Rooted s c.marker → c.marker ≡ Some n → cm.end.value ≡ c.count + 1 → cm.kind.value ≡ k →
    Completed (view input rest c) (view input rest (close k c s)) k × IsLast (view input rest (close k c s)) cm k
unfolding but_last last_children
completed-at input rest k c floor n cm e h m d i = absurd cc
completed-at input rest k c (push r m' b) n cm e h m d i = (
  record { recorded = record { input = refl; rest = refl; left = refl; count = refl; messages = refl }; below = sym e; forest = refl; children = refl },
  record { kind = i; end = d; closed = refl; forest = refl },
)

pub completed : (input rest : List Record) (xs : List Call) (k : ℕ) (n : ℕ) (cm : CompletedMarker) → (run initial xs).marker ≡ Some n → cm.end.value ≡ length xs + 1 → cm.kind.value ≡ k →
    Completed (view input rest (run initial xs)) (view input rest (run initial (xs ++ call.finish k ∷ []))) k
    × IsLast (view input rest (run initial (xs ++ call.finish k ∷ []))) cm k
completed input rest xs k n cm m d i =
    rw (run-push initial xs (call.finish k)) (completed-at input rest k (run initial xs) (run initial xs).below n cm refl (rooted xs) m (omega (arith, d, count_of xs)) i)

abandoned-at : (input rest : List Record) (c : Config) (s : Stack) (n : ℕ) → s ≡ c.below → Rooted s c.marker → c.marker ≡ Some n → Abandoned (view input rest c) (view input rest (merge c s))
unfolding top
abandoned-at input rest c floor n e h m = absurd cc
abandoned-at input rest c (push r m' b) n e h m =
    let t : top c.below ≡ b = ap top (sym e) in
    record { recorded = record { input = refl; rest = refl; left = refl; count = refl; messages = refl }; below = rw t (sym e); forest = rw t refl }

pub abandoned : (input rest : List Record) (xs : List Call) (n : ℕ) → (run initial xs).marker ≡ Some n →
    Abandoned (view input rest (run initial xs)) (view input rest (run initial (xs ++ call.abandon ∷ [])))
abandoned input rest xs n m = rw (run-push initial xs call.abandon) (abandoned-at input rest (run initial xs) (run initial xs).below n refl (rooted xs) m)

preceded-at : (input rest : List Record) (c : Config) (b : Bool) (x : Forest) (n : ℕ) (k : ℕ) → b ≡ true → x ≡ node (but_last x) k (last_children x) → x ≡ c.forest → n ≡ c.count →
    Preceded (view input rest c) (view input rest (wrap c b x)) n k
unfolding but_last last_children
preceded-at input rest c b none n k t e g h = absurd cc
preceded-at input rest c b (leaf x l w) n k t e g h = absurd cc
preceded-at input rest c b (message x l) n k t e g h = absurd cc
preceded-at input rest c b (split x l) n k t e g h = absurd cc
preceded-at input rest c false (node x l z) n k t e g h = absurd cc
preceded-at input rest c true (node x l z) n k t e g h =
    let l-is : l ≡ k = cc in
    let c-is : last_children c.forest ≡ z = ap last_children (sym g) in
    let b-is : but_last c.forest ≡ x = ap but_last (sym g) in
    record { recorded = record { input = refl; rest = refl; left = refl; count = refl; messages = refl }; marker = ap Some (sym h); numbered = refl; forest = cc; below = cc }

pub preceded : (input rest : List Record) (xs : List Call) (cm : CompletedMarker) (k : ℕ) (n : ℕ) → n ≡ length xs → IsLast (view input rest (run initial xs)) cm k →
    Preceded (view input rest (run initial xs)) (view input rest (run initial (xs ++ call.precede ∷ []))) n k
preceded input rest xs cm k n e h =
    rw (run-push initial xs call.precede) (preceded-at input rest (run initial xs) (run initial xs).closed (run initial xs).forest n k h.closed h.forest refl (e ∙ sym (count_of xs)))

extended-at : (input rest : List Record) (c : Config) (x : Forest) (s : Stack) (n : ℕ) (cm : CompletedMarker) (k : ℕ) → x ≡ node (but_last x) k (last_children x) → x ≡ c.forest → s ≡ c.below → Rooted s c.marker → c.marker ≡ Some n → c.closed ≡ true → cm.end.value ≡ c.count + 1 → cm.kind.value ≡ k →
    Extended (view input rest c) (view input rest (stretch c x s)) k × IsLast (view input rest (stretch c x s)) cm k
unfolding but_last last_children
extended-at input rest c x floor n cm k e g p h m t d i = absurd cc
extended-at input rest c none (push r m' b) n cm k e g p h m t d i = absurd cc
extended-at input rest c (leaf z l w) (push r m' b) n cm k e g p h m t d i = absurd cc
extended-at input rest c (message z y) (push r m' b) n cm k e g p h m t d i = absurd cc
extended-at input rest c (split z y) (push r m' b) n cm k e g p h m t d i = absurd cc
extended-at input rest c (node z l w) (push r m' b) n cm k e g p h m t d i =
    let l-is : l ≡ k = cc in
    let c-is : last_children c.forest ≡ w = ap last_children (sym g) in
    let b-is : but_last c.forest ≡ z = ap but_last (sym g) in (
      record { recorded = record { input = refl; rest = refl; left = refl; count = refl; messages = refl }; forest = cc; below = sym p },
      record { kind = i; end = d; closed = t; forest = cc },
    )

pub extended : (input rest : List Record) (xs : List Call) (old new : CompletedMarker) (k : ℕ) (n : ℕ) → IsLast (view input rest (run initial xs)) old k → (run initial xs).marker ≡ Some n → new.end.value ≡ length xs + 1 → new.kind.value ≡ k →
    Extended (view input rest (run initial xs)) (view input rest (run initial (xs ++ call.extend ∷ []))) k
    × IsLast (view input rest (run initial (xs ++ call.extend ∷ []))) new k
extended input rest xs old new k n h m d i =
    rw (run-push initial xs call.extend) (extended-at input rest (run initial xs) (run initial xs).forest (run initial xs).below n new k h.forest refl refl (rooted xs) m h.closed (omega (arith, d, count_of xs)) i)

-- what holds of every parser: its calls fitted, its leaves stand at the first tokens, and the nodes of an output without messages are fit
pub record Kept (c : Config) (input : List Record) (pos : ℕ) : Type 0 where
  pub sound : c.sound ≡ true
  pub covers : stand (all_leaves c) input ≡ true
  pub place : widths (all_leaves c) ≡ pos
  pub splits : all_splits_placed c ≡ true
  pub fit : c.messages ≡ 0 → ∥ AllFit c ∥₁

pub kept-start : (xs : List Call) (input : List Record) (pos : ℕ) → Kept (run initial xs) input pos → Kept (run initial (xs ++ call.start ∷ [])) input pos
kept-start xs input pos h =
    let e : all_leaves (run initial (xs ++ call.start ∷ [])) ≡ all_leaves (run initial xs) = rw (run-push initial xs call.start) (append-nil (all_leaves (run initial xs))) in
    record {
      sound = rw (run-push initial xs call.start) h.sound;
      covers = rw e h.covers;
      place = rw e h.place;
      splits = rw (run-push initial xs call.start) (start_placed (run initial xs) h.splits);
      fit = rw (run-push initial xs call.start) (λ z. ∥∥₁_map (h.fit z) (λ a. (a, tt)));
    }

pub kept-error : (xs : List Call) (input : List Record) (pos : ℕ) (m : List ℕ) → Kept (run initial xs) input pos → Kept (run initial (xs ++ call.error m ∷ [])) input pos
kept-error xs input pos m h = rw (run-push initial xs (call.error m)) (record {
  sound = h.sound;
  covers = h.covers;
  place = h.place;
  splits = point_placed (run initial xs) h.splits;
  fit = λ z. absurd (omega arith);
})

-- one leaf more
pub stand-push : (ls : List Leaf) (l : Leaf) (rs : List Record) → stand ls rs ≡ true → stands l (drop (widths ls) rs) ≡ true → stand (ls ++ l ∷ []) rs ≡ true
stand-push [] l rs h s = and_both (stands l rs) true s refl
stand-push (x ∷ ls) l rs h s =
    let first : stands x rs ≡ true = and_left (stands x rs) (stand ls (drop (leaf_width x) rs)) h in
    let others : stand ls (drop (leaf_width x) rs) ≡ true = and_right (stands x rs) (stand ls (drop (leaf_width x) rs)) h in
    let t : stands l (drop (widths ls) (drop (leaf_width x) rs)) ≡ true = rw (← drop-plus rs (leaf_width x) (widths ls)) s in
    and_both (stands x rs) (stand (ls ++ l ∷ []) (drop (leaf_width x) rs)) first (stand-push ls l (drop (leaf_width x) rs) others t)

pub widths-append : (ls ms : List Leaf) → widths (ls ++ ms) ≡ widths ls + widths ms
widths-append [] ms = omega arith
widths-append (l ∷ ls) ms = omega (arith, widths-append ls ms)

pub kept-token : (xs : List Call) (input : List Record) (pos : ℕ) (k w : ℕ) → stands (of_tokens k w) (drop pos input) ≡ true → Kept (run initial xs) input pos → Kept (run initial (xs ++ call.token k w ∷ [])) input (pos + w)
kept-token xs input pos k w s h =
    let c = run initial xs in
    let l : Leaf = of_tokens k w in
    let e : all_leaves (run initial (xs ++ call.token k w ∷ [])) ≡ all_leaves c ++ l ∷ [] = rw (run-push initial xs (call.token k w)) (sym (append_assoc (stack_leaves c.below) (leaves c.forest) (l ∷ []))) in
    record {
      sound = rw (run-push initial xs (call.token k w)) h.sound;
      covers = rw e (stand-push (all_leaves c) l input h.covers (rw h.place s));
      place = rw e (omega (arith, widths-append (all_leaves c) (l ∷ []), h.place));
      splits = rw (run-push initial xs (call.token k w)) (point_placed c h.splits);
      fit = rw (run-push initial xs (call.token k w)) h.fit;
    }

kept-close : (k : ℕ) (c : Config) (s : Stack) (n : ℕ) → s ≡ c.below → Rooted s c.marker → c.marker ≡ Some n →
    ((close k c s).sound ≡ c.sound) × (all_leaves (close k c s) ≡ all_leaves c) × ((close k c s).messages ≡ c.messages)
kept-close k c floor n e h m = absurd cc
kept-close k c (push r m' b) n e h m = (refl, rw (← e) (sym (append_assoc (stack_leaves r) (leaves b) (leaves c.forest))), refl)

fit-close : (k : ℕ) (c : Config) (s : Stack) → s ≡ c.below → AllFit c → Fit k c.forest → AllFit (close k c s)
fit-close k c floor e a f = (tt, a.1)
fit-close k c (push r m' b) e a f = let d : StackFit (push r m' b) = subst StackFit (sym e) a.0 in (d.0, (d.1, a.1, f))

pub kept-finish : (xs : List Call) (input : List Record) (pos : ℕ) (k : ℕ) (n : ℕ) → (run initial xs).marker ≡ Some n → ((run initial xs).messages ≡ 0 → Fit k (run initial xs).forest) →
    Kept (run initial xs) input pos → Kept (run initial (xs ++ call.finish k ∷ [])) input pos
kept-finish xs input pos k n m f h =
    let c = run initial xs in
    let w = kept-close k c c.below n refl (rooted xs) m in
    rw (run-push initial xs (call.finish k)) (record {
      sound = w.0 ∙ h.sound;
      covers = rw w.1 h.covers;
      place = rw w.1 h.place;
      splits = all_placed _ (placed-close k c c.below refl (placed c h.splits));
      fit = λ z. let y = sym w.2 ∙ z in ∥∥₁_map (h.fit y) (λ a. fit-close k c c.below refl a (f y));
    })

kept-merge : (c : Config) (s : Stack) (n : ℕ) → s ≡ c.below → Rooted s c.marker → c.marker ≡ Some n →
    ((merge c s).sound ≡ c.sound) × (all_leaves (merge c s) ≡ all_leaves c) × ((merge c s).messages ≡ c.messages)
kept-merge c floor n e h m = absurd cc
kept-merge c (push r m' b) n e h m = (refl, rw (← e, leaves-⧺ b c.forest) (sym (append_assoc (stack_leaves r) (leaves b) (leaves c.forest))), refl)

fit-⧺ : (f g : Forest) → AllFitIn f → AllFitIn g → AllFitIn (f ⧺ g)
fit-⧺ f none a b = a
fit-⧺ f (node b k x) a d = (fit-⧺ f b a d.0, d.1, d.2)
fit-⧺ f (leaf b k w) a d = fit-⧺ f b a d
fit-⧺ f (message b m) a d = fit-⧺ f b a d
fit-⧺ f (split b e) a d = fit-⧺ f b a d

fit-merge : (c : Config) (s : Stack) → s ≡ c.below → AllFit c → AllFit (merge c s)
fit-merge c floor e a = (tt, a.1)
fit-merge c (push r m' b) e a = let d : StackFit (push r m' b) = subst StackFit (sym e) a.0 in (d.0, fit-⧺ b c.forest d.1 a.1)

pub kept-abandon : (xs : List Call) (input : List Record) (pos : ℕ) (n : ℕ) → (run initial xs).marker ≡ Some n → Kept (run initial xs) input pos → Kept (run initial (xs ++ call.abandon ∷ [])) input pos
kept-abandon xs input pos n m h =
    let c = run initial xs in
    let w = kept-merge c c.below n refl (rooted xs) m in
    rw (run-push initial xs call.abandon) (record {
      sound = w.0 ∙ h.sound;
      covers = rw w.1 h.covers;
      place = rw w.1 h.place;
      splits = all_placed _ (placed-merge c c.below refl (placed c h.splits));
      fit = λ z. ∥∥₁_map (h.fit (sym w.2 ∙ z)) (fit-merge c c.below refl);
    })

kept-wrap : (c : Config) (b : Bool) (x : Forest) (k : ℕ) → b ≡ true → x ≡ node (but_last x) k (last_children x) → x ≡ c.forest →
    ((wrap c b x).sound ≡ c.sound) × (all_leaves (wrap c b x) ≡ all_leaves c) × ((wrap c b x).messages ≡ c.messages)
kept-wrap c b none k t e g = absurd cc
kept-wrap c b (leaf x l w) k t e g = absurd cc
kept-wrap c b (message x l) k t e g = absurd cc
kept-wrap c b (split x l) k t e g = absurd cc
kept-wrap c false (node x l z) k t e g = absurd cc
kept-wrap c true (node x l z) k t e g = (refl, rw (← g) (append_assoc (stack_leaves c.below) (leaves x) (leaves z)), refl)

fit-wrap : (c : Config) (b : Bool) (x : Forest) → x ≡ c.forest → AllFit c → AllFit (wrap c b x)
fit-wrap c b none e a = a
fit-wrap c b (leaf x l w) e a = a
fit-wrap c b (message x l) e a = a
fit-wrap c b (split x l) e a = a
fit-wrap c false (node x l z) e a = a
fit-wrap c true (node x l z) e a = let d : AllFitIn (node x l z) = subst AllFitIn (sym e) a.1 in ((a.0, d.0), (tt, d.1, d.2))

pub kept-precede : (xs : List Call) (input rest : List Record) (pos : ℕ) (cm : CompletedMarker) (k : ℕ) → IsLast (view input rest (run initial xs)) cm k → Kept (run initial xs) input pos → Kept (run initial (xs ++ call.precede ∷ [])) input pos
kept-precede xs input rest pos cm k l h =
    let c = run initial xs in
    let w = kept-wrap c c.closed c.forest k l.closed l.forest refl in
    rw (run-push initial xs call.precede) (record {
      sound = w.0 ∙ h.sound;
      covers = rw w.1 h.covers;
      place = rw w.1 h.place;
      splits = all_placed _ (placed-wrap c c.closed c.forest refl (placed c h.splits));
      fit = λ z. ∥∥₁_map (h.fit (sym w.2 ∙ z)) (fit-wrap c c.closed c.forest refl);
    })

kept-stretch : (c : Config) (x : Forest) (s : Stack) (n : ℕ) (k : ℕ) → x ≡ node (but_last x) k (last_children x) → x ≡ c.forest → s ≡ c.below → Rooted s c.marker → c.marker ≡ Some n → c.closed ≡ true →
    ((stretch c x s).sound ≡ c.sound) × (all_leaves (stretch c x s) ≡ all_leaves c) × ((stretch c x s).messages ≡ c.messages)
kept-stretch c x floor n k e g p h m t = absurd cc
kept-stretch c none (push r m' b) n k e g p h m t = absurd cc
kept-stretch c (leaf z l w) (push r m' b) n k e g p h m t = absurd cc
kept-stretch c (message z y) (push r m' b) n k e g p h m t = absurd cc
kept-stretch c (split z y) (push r m' b) n k e g p h m t = absurd cc
kept-stretch c (node z l w) (push r m' b) n k e g p h m t =
    (rw t refl, rw (← g, ← p, leaves-⧺ z w) (sym (append_assoc (stack_leaves r) (leaves b) (leaves z ++ leaves w))), refl)

pub fit_of_plain : (k : ℕ) (x : Forest) → is_plain k ≡ true → Fit k x
fit_of_plain k x h = record {
  operation = λ e. absurd (let g : is_plain BIN_EXPR ≡ true = sym (ap is_plain e) ∙ h in cc);
  tree = λ e. absurd (let g : is_plain TOKEN_TREE ≡ true = sym (ap is_plain e) ∙ h in cc);
}

fit-stretch : (c : Config) (x : Forest) (s : Stack) (k : ℕ) → is_plain k ≡ true → x ≡ node (but_last x) k (last_children x) → x ≡ c.forest → s ≡ c.below → AllFit c → AllFit (stretch c x s)
unfolding but_last last_children
fit-stretch c x floor k p g e q a = a
fit-stretch c none (push r m' b) k p g e q a = a
fit-stretch c (leaf z l w) (push r m' b) k p g e q a = a
fit-stretch c (message z y) (push r m' b) k p g e q a = a
fit-stretch c (split z y) (push r m' b) k p g e q a = a
fit-stretch c (node z l w) (push r m' b) k p g e q a =
    let d : StackFit (push r m' b) = subst StackFit (sym q) a.0 in
    let o : AllFitIn (node z l w) = subst AllFitIn (sym e) a.1 in
    let i : l ≡ k = cc in
    (d.0, (d.1, fit-⧺ z w o.0 o.1, fit_of_plain l (z ⧺ w) (ap is_plain i ∙ p)))

pub kept-extend : (xs : List Call) (input rest : List Record) (pos : ℕ) (cm : CompletedMarker) (k : ℕ) (n : ℕ) → IsLast (view input rest (run initial xs)) cm k → (run initial xs).marker ≡ Some n → is_plain k ≡ true →
    Kept (run initial xs) input pos → Kept (run initial (xs ++ call.extend ∷ [])) input pos
kept-extend xs input rest pos cm k n l m f h =
    let c = run initial xs in
    let w = kept-stretch c c.forest c.below n k l.forest refl refl (rooted xs) m l.closed in
    rw (run-push initial xs call.extend) (record {
      sound = w.0 ∙ h.sound;
      covers = rw w.1 h.covers;
      place = rw w.1 h.place;
      splits = all_placed _ (placed-stretch c c.forest c.below refl refl (placed c h.splits));
      fit = λ z. ∥∥₁_map (h.fit (sym w.2 ∙ z)) (fit-stretch c c.forest c.below k f l.forest refl refl);
    })

-- the same of events and messages, each message being that of one event
pub record Held (es : List Event) (ms : List (List ℕ)) (n : ℕ) (input : List Record) (pos : ℕ) : Type 0 where
  pub reported : reported_by es ≡ n
  pub kept : Kept (run initial (history es ms)) input pos

pub held-push : (es : List Event) (ms : List (List ℕ)) (n : ℕ) (input : List Record) (pos pos' : ℕ) (e : Event) (x : Call) → Shows e x →
    Held es ms n input pos → Kept (run initial (history es ms ++ x ∷ [])) input pos' → Held (es ++ e ∷ []) ms n input pos'
held-push es ms n input pos pos' e x s h k = record { reported = reported_by-push es e x s ∙ h.reported; kept = rw (history-push es ms e x s) k }

-- after a push that may be refused
pub held_either : (b : Bool) (old new es : List Event) (ms : List (List ℕ)) (n : ℕ) (input : List Record) (pos : ℕ) → es ≡ cond b new old →
    Held old ms n input pos → Held new ms n input pos → Held es ms n input pos
held_either true old new es ms n input pos e h k = rw e k
held_either false old new es ms n input pos e h k = rw e h

pub reported_history : (es : List Event) (texts : List (String Global)) (text : String Global) (number : ℕ) → reported_by es ≡ length texts →
    history (es ++ event.Error number ∷ []) (map string_bytes (texts ++ text ∷ [])) ≡ history es (map string_bytes texts) ++ call.error (string_bytes text) ∷ []
reported_history es texts text number h =
    let ms : List (List ℕ) = map string_bytes texts in
    rw (map-append string_bytes texts (text ∷ [])) (history-report es ms (string_bytes text) number (h ∙ sym (length-map texts string_bytes)))

-- one message more
pub held_reported : (es : List Event) (texts : List (String Global)) (text : String Global) (number : ℕ) (input : List Record) (pos : ℕ) →
    Held es (map string_bytes texts) (length texts) input pos →
    Held (es ++ event.Error number ∷ []) (map string_bytes (texts ++ text ∷ [])) (length (texts ++ text ∷ [])) input pos
held_reported es texts text number input pos h =
    let m : List ℕ = string_bytes text in
    record {
      reported = omega (arith, length-append texts (text ∷ []), reported_by-append es (event.Error number ∷ []), h.reported);
      kept = rw (reported_history es texts text number h.reported) (kept-error (history es (map string_bytes texts)) input pos m h.kept);
    }
