-- Texts that are the same up to an offset.
use Rattle.std.proofs.Common.{◌≡◌, ℕ, zero, suc, ◌+◌, ◌<◌, ◌≤◌, ◌⊎◌, Bool, cond, not, ◌&&◌, ◌||◌, ◌==◌, List, [], ◌∷◌, ◌++◌, length, take, drop, get_or, refl, sym, ap, ap₂, ◌∙◌, subst, inl, inr, length-append, arith}
use Rattle.std.proofs.lemmas.List.{get_or-take, length-take, length-take-le, take-append-le, take-take}
use Rattle.rast_document.specs.Indexed.{AgreeTo, IsStart}
use Rattle.rast_document.specs.Lines.{ends_line, line_start, line_starts, starts_to}
use Rattle.rast_document.proofs.LineLemmas.{starts_at, starts_bound, starts_first, starts_some, whole_keep}

bytes_agree : (s t : List ℕ) (same i : ℕ) → AgreeTo s t same → i < same → get_or s i 0 ≡ get_or t i 0
bytes_agree s t same i is less =
    sym (get_or-take same s i 0 less) ∙ (ap (λ (xs : List ℕ). get_or xs i 0) is.bytes ∙ get_or-take same t i 0 less)

starts_agree : (s t : List ℕ) (n : ℕ) → ((i : ℕ) → i ≤ n → get_or s i 0 ≡ get_or t i 0) → starts_to s n ≡ starts_to t n
starts_agree s t zero same = refl
starts_agree s t (suc n) same =
    let next : get_or s (n + 1) 0 ≡ get_or t (n + 1) 0 = same (n + 1) (omega arith) in
    let ended : ends_line s n ≡ ends_line t n =
    ap₂ (λ (x y : ℕ). x == 10 || (x == 13 && not (y == 10))) (same n (omega arith)) next in
    ap₂ (λ (b : Bool) (xs : List ℕ). cond b (xs ++ (n + 1) ∷ []) xs) ended (starts_agree s t n (λ i h. same i (omega arith)))

-- a line that begins before the offset begins there in both
kept_start : (s t : List ℕ) (same k : ℕ) → AgreeTo s t same → k < length (line_starts s) → line_start s k < same → IsStart t k (line_start s k)
kept_start s t same k is some before =
    let lists = starts_agree s t (line_start s k) (λ i h. bytes_agree s t same i is (omega arith)) in
    let long = starts_at s k some in
    let there = whole_keep s (line_start s k) k (starts_bound s (length s) k some) (omega (arith, long)) in
    let within : same ≤ length t = omega (arith, ap length is.bytes, length-take-le same s is.within, length-take same t) in
    let kept = whole_keep t (line_start s k) k (omega arith) (omega (arith, long, ap length lists)) in
    record { some = kept.0; here = there.1 ∙ (ap (λ (xs : List ℕ). get_or xs k 0) lists ∙ sym kept.1) }

pub kept_line : (s t : List ℕ) (same k start : ℕ) → AgreeTo s t same → k < length (line_starts s) → start ≡ line_start s k →
    (k ≡ 0) ⊎ (line_start s k < same) → IsStart t k start
kept_line s t same k start is some here before =
    elim before [
      | inl first ↦
          let begin : start ≡ 0 = here ∙ (ap (line_start s) first ∙ starts_first s (length s)) in
          subst (λ (j : ℕ). IsStart t j start) (sym first) (record { some = starts_some t (length t); here = begin ∙ sym (starts_first t (length t)) })
      | inr less ↦ subst (λ (n : ℕ). IsStart t k n) (sym here) (kept_start s t same k is some less)
    ]

-- up to where a range is replaced a text stays
less_agree : (s t : List ℕ) (same m : ℕ) → take same s ≡ take same t → m ≤ same → take m s ≡ take m t
less_agree s t same m is less = sym (take-take m same s less) ∙ (ap (take m) is ∙ take-take m same t less)

front_stays : (t new by : List ℕ) (from to : ℕ) → from ≤ length t → new ≡ take from t ++ by ++ drop to t → take from t ≡ take from new
front_stays t new by from to within made =
    let long = length-take-le from t within in
    sym (ap (take from) made
    ∙ (take-append-le from (take from t ++ by) (drop to t) (omega (arith, long, length-append (take from t) by))
    ∙ (take-append-le from (take from t) by (omega (arith, long)) ∙ take-take from from t (omega arith))))

pub agree_after : (s t new by : List ℕ) (same from to m : ℕ) → AgreeTo s t same → from ≤ length t → new ≡ take from t ++ by ++ drop to t →
    m ≤ from → m ≤ same → AgreeTo s new m
agree_after s t new by same from to m is within made first second = record {
  within = omega (arith, is.within);
  bytes = less_agree s t same m is.bytes second ∙ less_agree t new from m (front_stays t new by from to within made) first;
}

pub agree_first : (s new by : List ℕ) (from to : ℕ) → from ≤ length s → new ≡ take from s ++ by ++ drop to s → AgreeTo s new from
agree_first s new by from to within made = record { within = within; bytes = front_stays s new by from to within made }
