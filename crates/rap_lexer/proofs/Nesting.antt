-- How the depth of a block comment goes along its body.
use Rattle.std.proofs.Common.{◌≡◌, ℕ, zero, suc, List, [], ◌∷◌, ◌⊎◌, inl, inr, get_or, ◌<◌, ◌+◌, ◌-◌, refl, ap, sym, ◌∙◌, subst, arith, add-one, not, ◌||◌, ◌==◌, true, false, if◌then◌else◌}
use Rattle.std.proofs.lemmas.Bool.{eqb-false}
use Rattle.rap_lexer.specs.Comment.{Body, IsText}
use Rattle.rap_lexer.specs.Comment.Body.{empty, comment, text}
use Rattle.rap_lexer.specs.Class.{is_in}
use Rattle.rap_lexer.specs.Run.{after_run}
use Rattle.rap_lexer.specs.declared.lexer.run.Class.TheVariants.{InBlock}

-- the text closes so many comments, and `rest` follows
abbrev pub Nested : ℕ → List ℕ → List ℕ → Type 0
Nested zero cs rest = cs ≡ rest
Nested (suc d) cs rest = (mid : List ℕ) × (Body cs (42 ∷ 47 ∷ mid)) × Nested d mid rest

abbrev pub Opens : List ℕ → List ℕ → Type 0
Opens xs ys = (cs : List ℕ) × (mid : List ℕ) × (xs ≡ 47 ∷ 42 ∷ cs) × Body cs (42 ∷ 47 ∷ mid) × Body mid ys

abbrev pub Texts : List ℕ → List ℕ → Type 0
Texts xs ys = (c : ℕ) × (cs : List ℕ) × (xs ≡ c ∷ cs) × IsText (c ∷ cs) × Body cs ys

pub cases : {xs ys : List ℕ} → Body xs ys → (xs ≡ ys) ⊎ (Opens xs ys ⊎ Texts xs ys)
cases (empty rest) = inl refl
cases (comment cs mid rest p q) = inr (inl (cs, mid, refl, p, q))
cases (text c cs rest n p) = inr (inr (c, cs, refl, n, p))

head : List ℕ → ℕ
head xs = get_or xs 0 0

pub at_open : (xs cs ys : List ℕ) → xs ≡ 47 ∷ 42 ∷ cs → (xs ≡ 42 ∷ 47 ∷ ys) ⊎ (Opens xs (42 ∷ 47 ∷ ys) ⊎ Texts xs (42 ∷ 47 ∷ ys)) → (mid : List ℕ) × Body cs (42 ∷ 47 ∷ mid) × Body mid (42 ∷ 47 ∷ ys)
at_open xs cs ys e (inl h) = absurd (omega (arith, ap (λ l. get_or l 0 0) (sym e ∙ h)))
at_open xs cs ys e (inr (inl (ds, mid, f, p, q))) =
    let g : ds ≡ cs = cc in (mid, subst (λ (l : List ℕ). Body l (42 ∷ 47 ∷ mid)) g p, q)
at_open xs cs ys e (inr (inr (c, ds, f, n, p))) =
    absurd (n.0 cs (sym f ∙ e))

pub at_close : (xs cs ys : List ℕ) → xs ≡ 42 ∷ 47 ∷ cs → (xs ≡ 42 ∷ 47 ∷ ys) ⊎ (Opens xs (42 ∷ 47 ∷ ys) ⊎ Texts xs (42 ∷ 47 ∷ ys)) → cs ≡ ys
at_close xs cs ys e (inl h) = cc
at_close xs cs ys e (inr (inl (ds, mid, f, p, q))) = absurd (omega (arith, ap (λ l. get_or l 0 0) (sym e ∙ f)))
at_close xs cs ys e (inr (inr (c, ds, f, n, p))) =
    absurd (n.1 cs (sym f ∙ e))

pub at_text : (xs : List ℕ) (b : ℕ) (cs ys : List ℕ) → xs ≡ b ∷ cs → IsText (b ∷ cs) → (xs ≡ 42 ∷ 47 ∷ ys) ⊎ (Opens xs (42 ∷ 47 ∷ ys) ⊎ Texts xs (42 ∷ 47 ∷ ys)) → Body cs (42 ∷ 47 ∷ ys)
at_text xs b cs ys e m (inl h) =
    absurd (m.1 ys (sym e ∙ h))
at_text xs b cs ys e m (inr (inl (ds, mid, f, p, q))) =
    absurd (m.0 ds (sym e ∙ f))
at_text xs b cs ys e m (inr (inr (c, ds, f, n, p))) =
    let g : ds ≡ cs = cc in subst (λ (l : List ℕ). Body l (42 ∷ 47 ∷ ys)) g p

at_end : (xs ys : List ℕ) → xs ≡ [] → (xs ≡ 42 ∷ 47 ∷ ys) ⊎ (Opens xs (42 ∷ 47 ∷ ys) ⊎ Texts xs (42 ∷ 47 ∷ ys)) → ⊥
at_end xs ys e (inl h) = cc
at_end xs ys e (inr (inl (ds, mid, f, p, q))) = cc
at_end xs ys e (inr (inr (c, ds, f, n, p))) = cc

-- what is left closes as many comments as are open exactly where the start closes one
pub record Keeps (depth : ℕ) (start cur : List ℕ) : Type 0 where
  pub forth : (rest : List ℕ) → Nested depth cur rest → Nested 1 start rest
  pub back : (rest : List ℕ) → Nested 1 start rest → Nested depth cur rest

pub keeps_start : (start : List ℕ) → Keeps 1 start start
keeps_start start = record { forth = λ rest n. n; back = λ rest n. n }

pub keeps_open : (d : ℕ) (start cur cs : List ℕ) → Keeps d start cur → 0 < d → cur ≡ 47 ∷ 42 ∷ cs → Keeps (d + 1) start cs
keeps_open zero start cur cs k h e = absurd (omega arith)
keeps_open (suc d) start cur cs k h e =
    let joined = λ (mid low : List ℕ) (p : Body cs (42 ∷ 47 ∷ mid)) (q : Body mid (42 ∷ 47 ∷ low)). subst (λ (l : List ℕ). Body l (42 ∷ 47 ∷ low)) (sym e) (comment cs mid (42 ∷ 47 ∷ low) p q) in
    let r : Keeps (suc (suc d)) start cs = record {
      forth = λ rest n. k.forth rest (n.2.0, joined n.0 n.2.0 n.1 n.2.1, n.2.2);
      back = λ rest n. let m = k.back rest n in let o = at_open cur cs m.0 e (cases m.1) in (o.0, o.1, (m.0, o.2, m.2));
    } in
    rw add-one r

pub keeps_close : (d : ℕ) (start cur cs : List ℕ) → Keeps d start cur → 0 < d → cur ≡ 42 ∷ 47 ∷ cs → Keeps (d - 1) start cs
keeps_close zero start cur cs k h e = absurd (omega arith)
keeps_close (suc d) start cur cs k h e =
    let r : Keeps d start cs = record {
      forth = λ rest n. k.forth rest (cs, subst (λ (l : List ℕ). Body l (42 ∷ 47 ∷ cs)) (sym e) (empty (42 ∷ 47 ∷ cs)), n);
      back = λ rest n. let m = k.back rest n in subst (λ (l : List ℕ). Nested d l rest) (sym (at_close cur cs m.0 e (cases m.1))) m.2;
    } in
    let f : suc d - 1 ≡ d = omega arith in
    rw f r

pub keeps_text : (d : ℕ) (start cur : List ℕ) (c : ℕ) (cs : List ℕ) → Keeps d start cur → 0 < d → cur ≡ c ∷ cs → IsText (c ∷ cs) → Keeps d start cs
keeps_text zero start cur c cs k h e m = absurd (omega arith)
keeps_text (suc d) start cur c cs k h e m = record {
  forth = λ rest n. k.forth rest (n.0, subst (λ (l : List ℕ). Body l (42 ∷ 47 ∷ n.0)) (sym e) (text c cs (42 ∷ 47 ∷ n.0) m n.1), n.2);
  back = λ rest n. let o = k.back rest n in (o.0, at_text cur c cs o.0 e m (cases o.1), o.2);
}

-- the partner is found
pub found : (d : ℕ) (start cur : List ℕ) → Keeps d start cur → d ≡ 0 → Body start (42 ∷ 47 ∷ cur)
found d start cur k e =
    let n = k.forth cur (subst (λ (z : ℕ). Nested z cur cur) (sym e) refl) in
    subst (λ (l : List ℕ). Body start (42 ∷ 47 ∷ l)) n.2 n.1

-- there is no partner
pub missing : (d : ℕ) (start cur : List ℕ) → Keeps d start cur → 0 < d → cur ≡ [] → (rest : List ℕ) → ¬ Body start (42 ∷ 47 ∷ rest)
missing zero start cur k h e rest b = absurd (omega arith)
missing (suc d) start cur k h e rest b =
    let n = k.back rest (rest, b, refl) in at_end cur n.0 e (cases n.1)

-- what is neither a slash nor a star is passed over
pub keeps_past : (d : ℕ) (start cur : List ℕ) → Keeps d start cur → 0 < d → Keeps d start (after_run (is_in InBlock) cur)
keeps_past d start [] k h = k
keeps_past d start (c ∷ cs) k h =
    (elim (c == 47) as (λ z. (c == 47) ≡ z → Keeps d start (if not (z || (c == 42)) then after_run (is_in InBlock) cs else (c ∷ cs))) [
      | true ↦ λ a. k
      | false ↦ λ a. (elim (c == 42) as (λ z. (c == 42) ≡ z → Keeps d start (if not z then after_run (is_in InBlock) cs else (c ∷ cs))) [
        | true ↦ λ b. k
        | false ↦ λ b. keeps_past d start cs (keeps_text d start (c ∷ cs) c cs k h refl (λ rest e. eqb-false c 47 a (ap (λ l. get_or l 0 0) e), λ rest e. eqb-false c 42 b (ap (λ l. get_or l 0 0) e))) h
      ]) refl
    ]) refl
