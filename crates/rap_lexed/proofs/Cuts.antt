-- A text cut at starts: its tokens joined are the text, and each stands between its start and the next one.
use Rattle.std.proofs.Common.{◌≡◌, ℕ, zero, suc, List, [], ◌∷◌, ◌++◌, ◌+◌, ◌-◌, ◌<◌, ◌≤◌, length, map, take, drop, get_or, slice_index, slice_range, IsUtf8, refl, ap, sym, ◌∙◌, arith, length-take, length-drop, add-one}
use Rattle.std.proofs.Math.Seq.{take-add}
use Rattle.std.proofs.lemmas.List.{take_all, get_or-drop, length-take-le}
use Rattle.std.proofs.lemmas.List.Elements.{All-from_get_or}
use Rattle.std.proofs.lemmas.Str.{IsUtf8-between}
use Rattle.rap_lexed.proofs.Tokens.{joined-take_more}
use Rattle.rap_lexed.specs.LexedStr.{Token, joined, start_of, token_at, AreTokens, AreStarts, cut}

pub length-cut : (text ks ss : List ℕ) → length (cut text ks ss) ≡ length ks
length-cut text [] ss = refl
length-cut text (k ∷ ks) ss = ap suc (length-cut text ks (drop 1 ss))

kinds-cut : (text ks ss : List ℕ) → map (λ (t : Token). t.kind) (cut text ks ss) ≡ ks
kinds-cut text [] ss = refl
kinds-cut text (k ∷ ks) ss = ap (λ l. k ∷ l) (kinds-cut text ks (drop 1 ss))

-- the piece between the i-th start and the next
abbrev pub piece : List ℕ → List ℕ → List ℕ → ℕ → Token
piece text ks ss i = record { kind = slice_index ks i; text = slice_range text (slice_index ss i) (slice_index ss (i + 1)) }

pub token_at-cut : (text ks ss : List ℕ) (i : ℕ) → i < length ks → token_at (cut text ks ss) i ≡ piece text ks ss i
token_at-cut text [] ss i h = absurd (omega arith)
token_at-cut text (k ∷ ks) ss zero h = refl
token_at-cut text (k ∷ ks) ss (suc i) h =
    let here : get_or (drop 1 ss) i 0 ≡ get_or ss (suc i) 0 = get_or-drop 1 ss i 0 ∙ ap (λ n. get_or ss n 0) (omega arith) in
    let next : get_or (drop 1 ss) (i + 1) 0 ≡ get_or ss (suc i + 1) 0 = get_or-drop 1 ss (i + 1) 0 ∙ ap (λ n. get_or ss n 0) (omega arith) in
    let rest : token_at (cut text ks (drop 1 ss)) i ≡ piece text ks (drop 1 ss) i = token_at-cut text ks (drop 1 ss) i (omega arith) in
    rw (here, next) at rest

module _ (text ks ss : List ℕ) (s : AreStarts text (length ks) ss) where
  -- a start is within the text
  pub start_within : (i : ℕ) → i ≤ length ks → slice_index ss i ≤ length text
  start_within i h = (s.borders i h).0

  pub rises : (i : ℕ) → i < length ks → slice_index ss i < slice_index ss (i + 1)
  rises i h = s.rising i (i + 1) (omega arith) (omega arith)

  pub joined-take-cut : (i : ℕ) → i ≤ length ks → joined (take i (cut text ks ss)) ≡ take (slice_index ss i) text
  joined-take-cut zero h = rw s.begin refl
  joined-take-cut (suc i) h =
      let more = joined-take_more (cut text ks ss) i (omega (arith, length-cut text ks ss)) in
      let before = joined-take-cut i (omega arith) in
      let last : (token_at (cut text ks ss) i).text ≡ slice_range text (slice_index ss i) (slice_index ss (i + 1)) = ap (λ t. t.text) (token_at-cut text ks ss i (omega arith)) in
      let low = slice_index ss i in
      let high = slice_index ss (i + 1) in
      let sum : low + (high - low) ≡ high = omega (arith, rises i (omega arith)) in
      let both : take high text ≡ take low text ++ take (high - low) (drop low text) = ap (λ n. take n text) (sym sum) ∙ take-add low (high - low) text in
      let whole : joined (take (i + 1) (cut text ks ss)) ≡ take (slice_index ss (i + 1)) text = more ∙ (ap (λ l. l ++ (token_at (cut text ks ss) i).text) before ∙ (ap (λ l. take low text ++ l) last ∙ sym both)) in
      rw add-one at whole

  pub start_of-cut : (i : ℕ) → i ≤ length ks → start_of (cut text ks ss) i ≡ slice_index ss i
  start_of-cut i h = ap length (joined-take-cut i h) ∙ length-take-le (slice_index ss i) text (start_within i h)

  pub joined-cut : joined (cut text ks ss) ≡ text
  joined-cut =
      let all : take (length ks) (cut text ks ss) ≡ cut text ks ss = take_all (length ks) (cut text ks ss) (omega (arith, length-cut text ks ss)) in
      sym (ap joined all) ∙ (joined-take-cut (length ks) (omega arith) ∙ (ap (λ n. take n text) s.finish ∙ take_all (length text) text (omega arith)))

  text_at : (i : ℕ) → i < length (cut text ks ss) → (token_at (cut text ks ss) i).text ≡ slice_range text (slice_index ss i) (slice_index ss (i + 1))
  text_at i h = ap (λ t. t.text) (token_at-cut text ks ss i (omega (arith, length-cut text ks ss)))

  full_at : (i : ℕ) → i < length (cut text ks ss) → 0 < length (token_at (cut text ks ss) i).text
  full_at i h =
      let inside : i < length ks = omega (arith, length-cut text ks ss) in
      let low = slice_index ss i in
      let high = slice_index ss (i + 1) in
      rw (text_at i h, length-take, length-drop) (omega (arith, rises i inside, start_within (i + 1) (omega arith)))

  utf8_at : (i : ℕ) → i < length (cut text ks ss) → IsUtf8 (token_at (cut text ks ss) i).text
  utf8_at i h =
      let inside : i < length ks = omega (arith, length-cut text ks ss) in
      rw (text_at i h) (IsUtf8-between text (slice_index ss i) (slice_index ss (i + 1)) s.utf8 (omega (arith, rises i inside)) (s.borders i (omega arith)) (s.borders (i + 1) (omega arith)))

  pub tokens-cut : AreTokens (cut text ks ss)
  tokens-cut = record {
    full = All-from_get_or (λ (t : Token). 0 < length t.text) (cut text ks ss) _ full_at;
    utf8 = All-from_get_or (λ (t : Token). IsUtf8 t.text) (cut text ks ss) _ utf8_at;
    small = rw joined-cut s.small;
  }

-- the same of the tokens that a caller sees
module _ (text ks ss : List ℕ) (s : AreStarts text (length ks) ss) (ts : List Token) (seen : cut text ks ss ≡ ts) where
  pub count : length ts ≡ length ks
  count = sym (ap length seen) ∙ length-cut text ks ss

  pub kinds : ks ≡ map (λ (t : Token). t.kind) ts
  kinds = sym (kinds-cut text ks ss) ∙ ap (map (λ (t : Token). t.kind)) seen

  pub whole : joined ts ≡ text
  whole = sym (ap joined seen) ∙ joined-cut text ks ss s

  pub start : (i : ℕ) → i ≤ length ks → start_of ts i ≡ slice_index ss i
  start i h = sym (ap (λ l. start_of l i) seen) ∙ start_of-cut text ks ss s i h

  pub token : (i : ℕ) → i < length ks → token_at ts i ≡ piece text ks ss i
  token i h = sym (ap (λ l. token_at l i) seen) ∙ token_at-cut text ks ss i h

  pub range : (i j : ℕ) → i ≤ length ks → j ≤ length ks → slice_range (joined ts) (start_of ts i) (start_of ts j) ≡ slice_range text (slice_index ss i) (slice_index ss j)
  range i j h k = rw (whole, start i h, start j k) refl

  pub sound : AreTokens ts
  sound = rw (← seen) (tokens-cut text ks ss s)
