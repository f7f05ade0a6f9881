-- lines that begin with dashes
use Rattle.std.proofs.Common.{◌≡◌, ℕ, suc, eqb, List, [], ◌∷◌, ◌++◌, ◌+◌, ◌-◌, ◌<◌, ◌≤◌, ◌⊎◌, inl, inr, length, take, drop, get_or, Some, None, position, ap, sym, ◌∙◌, arith}
use Rattle.std.specs.List.{prefix_len}
use Rattle.std.proofs.lemmas.List.{append_assoc, length-append, length-replicate, replicate-append-replicate, length-drop, get_or_at, get_or-drop, get_or-replicate, drop_more, drop_at, take-append-drop, length-take-le, take_rest}
use Rattle.std.proofs.lemmas.List.Prefix.{front_reads}
use Rattle.rap_frontmatter.specs.Script.{HasFence, IsFirstFence, IsLongestFence, NoLineFeed, dashes}
use Rattle.rap_frontmatter.proofs.ScriptLines.{FirstFeed, first_feed, no_feed, StartsWithDashes, starts_with_dashes, lt_or_le}

-- ---- one fence

pub fence_feed : (n : ℕ) (text : List ℕ) (p : ℕ) → HasFence n text p → get_or text (p - 1) 0 ≡ 10
fence_feed n text p f =
    ap (λ l. get_or l (p - 1) 0) f.split ∙ get_or_at f.prefix 10 (dashes n ++ f.rest) 0 (p - 1) (omega (arith, f.size))

pub fence_inside : (n : ℕ) (text : List ℕ) (p : ℕ) → HasFence n text p → (0 < p) × (p + n ≤ length text)
fence_inside n text p f =
    let a : length text ≡ length f.prefix + suc (length (dashes n ++ f.rest)) = ap length f.split ∙ length-append f.prefix (10 ∷ (dashes n ++ f.rest)) in
    let b : length (dashes n ++ f.rest) ≡ n + length f.rest = length-append (dashes n) f.rest ∙ ap (λ m. m + length f.rest) (length-replicate {A = ℕ} n 45) in
    (omega (arith, f.size), omega (arith, a, b, f.size))

pub fence_rest : (n : ℕ) (text : List ℕ) (p : ℕ) → (f : HasFence n text p) → drop p text ≡ dashes n ++ f.rest
fence_rest n text p f =
    let whole : text ≡ (f.prefix ++ 10 ∷ []) ++ (dashes n ++ f.rest) = f.split ∙ sym (append_assoc f.prefix (10 ∷ []) (dashes n ++ f.rest)) in
    ap (λ l. drop p l) whole ∙ drop_at (f.prefix ++ 10 ∷ []) (dashes n ++ f.rest) p (omega (arith, length-append f.prefix (10 ∷ []), f.size))

-- a fence stands where a line feed does, and dashes after it
pub fence_from : (n : ℕ) (text : List ℕ) (k : ℕ) (rest : List ℕ) → k < length text → get_or text k 0 ≡ 10 → drop (k + 1) text ≡ dashes n ++ rest → HasFence n text (k + 1)
fence_from n text k rest inside is e =
    record {
      prefix = take k text;
      rest = rest;
      split = sym (take-append-drop k text) ∙ ap (λ l. take k text ++ l) (drop_more text k 0 inside ∙ (ap (λ x. x ∷ drop (k + 1) text) is ∙ ap (λ l. 10 ∷ l) e));
      size = omega (arith, length-take-le k text (omega arith));
    }

-- no more dashes stand there than the text begins with
dashes_le : (text rest : List ℕ) (m n : ℕ) → StartsWithDashes text n → text ≡ dashes m ++ rest → (n < m) ⊎ (m ≤ n) → m ≤ n
dashes_le text rest m n d e (inr h) = h
dashes_le text rest m n d e (inl h) =
    let long : n < length text = omega (arith, ap length e, length-append (dashes m) rest, length-replicate {A = ℕ} m 45) in
    let is : get_or text n 0 ≡ 45 = front_reads 0 text (dashes m) rest e n (omega (arith, length-replicate {A = ℕ} m 45)) ∙ get_or-replicate m n 45 0 h in
    absurd (d.no_more (drop (n + 1) text) (drop_more text n 0 long ∙ ap (λ x. x ∷ drop (n + 1) text) is))

-- ---- the search

-- the search has passed `at` bytes: the most dashes below `n` that begin a line there are `most`, first at `place`
pub record Searched (n : ℕ) (text : List ℕ) (at place most : ℕ) : Type 0 where
  pub inside : at ≤ length text
  pub less : most < n
  pub longest : (j p : ℕ) → HasFence j text p → p ≤ at → j ≤ most
  pub fence : 0 < most → HasFence most text place
  pub first : (p : ℕ) → 0 < most → HasFence most text p → p ≤ at → place ≤ p
  pub passed : 0 < most → place ≤ at

-- what is read past a place is read in the text
read_past : (text : List ℕ) (at p x : ℕ) → at ≤ p → get_or text p 0 ≡ x → get_or (drop at text) (p - at) 0 ≡ x
read_past text at p x low e =
    get_or-drop at text (p - at) 0 ∙ (ap (λ k. get_or text k 0) (omega arith) ∙ e)

module _ (text : List ℕ) (at skip len : ℕ) (inside : at ≤ length text) (f : FirstFeed (drop at text) skip) (d : StartsWithDashes (drop (at + skip + 1) text) len) where
  at_feed : at + skip < length text
  at_feed = omega (arith, f.inside, length-drop at text)

  is_feed : get_or text (at + skip) 0 ≡ 10
  is_feed = sym (get_or-drop at text skip 0) ∙ f.is

  pub passed_inside : at + skip + 1 + len ≤ length text
  passed_inside = omega (arith, d.inside, length-drop (at + skip + 1) text, at_feed)

  -- so many dashes begin the line, and fewer too
  fence_of : (n : ℕ) → n ≤ len → HasFence n text (at + skip + 1)
  fence_of n l =
      let cut : dashes len ≡ dashes n ++ dashes (len - n) = ap (λ m. dashes m) (omega arith) ∙ sym (replicate-append-replicate {A = ℕ} n (len - n) 45) in
      let rest = drop len (drop (at + skip + 1) text) in
      fence_from n text (at + skip) (dashes (len - n) ++ rest) at_feed is_feed (d.split ∙ (ap (λ l. l ++ rest) cut ∙ append_assoc (dashes n) (dashes (len - n)) rest))

  before_feed : (p : ℕ) → at < p → p - 1 < at + skip → get_or text (p - 1) 0 ≡ 10 → ⊥
  before_feed p low high e = f.none (p - 1 - at) (omega arith) (read_past text at (p - 1) 10 (omega arith) e)

  among_dashes : (p : ℕ) → at + skip < p - 1 → p ≤ at + skip + 1 + len → get_or text (p - 1) 0 ≡ 10 → ⊥
  among_dashes p low high e =
      let i = p - 1 - (at + skip + 1) in
      let is : get_or (drop (at + skip + 1) text) i 0 ≡ 10 = read_past text (at + skip + 1) (p - 1) 10 (omega arith) e in
      let dash : get_or (drop (at + skip + 1) text) i 0 ≡ 45 = front_reads 0 _ (dashes len) _ d.split i (omega (arith, length-replicate {A = ℕ} len 45)) ∙ get_or-replicate len i 45 0 (omega arith) in
      omega (arith, is, dash)

  at_place : (j p : ℕ) → HasFence j text p → p ≡ at + skip + 1 → j ≤ len
  at_place j p h e =
      dashes_le (drop (at + skip + 1) text) h.rest j len d (ap (λ k. drop k text) (sym e) ∙ fence_rest j text p h) (lt_or_le len j)

  abbrev Step : ℕ → ℕ → Type 0
  Step j p = (p ≤ at) ⊎ ((p ≡ at + skip + 1) × (j ≤ len))

  -- a fence that the search passes now stands at its new place, or it was passed before
  pub step : (j p : ℕ) → HasFence j text p → p ≤ at + skip + 1 + len → Step j p
  step j p h high =
      let e = fence_feed j text p h in
      elim (lt_or_le at p) as (λ _. Step j p) [
        | inr old ↦ inl old
        | inl low ↦ elim (lt_or_le (p - 1) (at + skip)) as (λ _. Step j p) [
          | inl before ↦ absurd (before_feed p low before e)
          | inr there ↦ elim (lt_or_le (at + skip) (p - 1)) as (λ _. Step j p) [
            | inl past ↦ absurd (among_dashes p past high e)
            | inr here ↦ let is : p ≡ at + skip + 1 = omega arith in inr (is, at_place j p h is)
          ]
        ]
      ]

module _ (n : ℕ) (text : List ℕ) (at place most skip len : ℕ) (s : Searched n text at place most) (f : FirstFeed (drop at text) skip) (d : StartsWithDashes (drop (at + skip + 1) text) len) where
  pub found_full : n ≤ len → IsFirstFence n text (at + skip + 1)
  found_full enough =
      record {
        fence = fence_of text at skip len s.inside f d n enough;
        first = λ p h. elim (lt_or_le p (at + skip + 1)) as (λ _. at + skip + 1 ≤ p) [
          | inr l ↦ l
          | inl l ↦ elim (step text at skip len s.inside f d n p h (omega arith)) as (λ _. at + skip + 1 ≤ p) [
            | inl old ↦ absurd (omega (arith, s.longest n p h old, s.less))
            | inr here ↦ omega (arith, here.0)
          ]
        ];
      }

  pub passes_longer : len < n → most < len → Searched n text (at + skip + 1 + len) (at + skip + 1) len
  passes_longer less larger =
      record {
        inside = passed_inside text at skip len s.inside f d;
        less = less;
        longest = λ j p h low. elim (step text at skip len s.inside f d j p h low) [ inl old ↦ omega (arith, s.longest j p h old) | inr here ↦ here.1 ];
        fence = λ _. fence_of text at skip len s.inside f d len (omega arith);
        first = λ p _ h low. elim (step text at skip len s.inside f d len p h low) [ inl old ↦ absurd (omega (arith, s.longest len p h old)) | inr here ↦ omega (arith, here.0) ];
        passed = λ _. omega arith;
      }

  pub passes_other : len < n → len ≤ most → Searched n text (at + skip + 1 + len) place most
  passes_other less fewer =
      record {
        inside = passed_inside text at skip len s.inside f d;
        less = s.less;
        longest = λ j p h low. elim (step text at skip len s.inside f d j p h low) [ inl old ↦ s.longest j p h old | inr here ↦ omega (arith, here.1) ];
        fence = s.fence;
        first = λ p some h low. elim (step text at skip len s.inside f d most p h low) [ inl old ↦ s.first p some h old | inr here ↦ omega (arith, here.0, s.passed some) ];
        passed = λ some. omega (arith, s.passed some);
      }

module _ (n : ℕ) (text : List ℕ) (at place most : ℕ) (s : Searched n text at place most) (none : NoLineFeed (drop at text)) where
  all_passed : (j p : ℕ) → HasFence j text p → p ≤ at
  all_passed j p h =
      elim (lt_or_le at p) as (λ _. p ≤ at) [
        | inr old ↦ old
        | inl low ↦ absurd (none (p - 1 - at) 0 (omega (arith, length-drop at text, fence_inside j text p h)) (read_past text at (p - 1) 10 (omega arith) (fence_feed j text p h)))
      ]

  pub found_none : most ≡ 0 → (p : ℕ) → ¬ HasFence 1 text p
  found_none e p h = omega (arith, s.longest 1 p h (all_passed 1 p h))

  pub found_longest : 0 < most → IsLongestFence most text place
  found_longest some =
      record {
        fence = record { fence = s.fence some; first = λ p h. s.first p some h (all_passed most p h) };
        longest = λ j p h. s.longest j p h (all_passed j p h);
      }

-- ---- what is found in `&text[at..]`

module _ (text : List ℕ) (at : ℕ) where
  pub feed_past : (skip : ℕ) → Some skip ≡ position (λ b. eqb b 10) (take (length text - at) (drop at text)) → FirstFeed (drop at text) skip
  feed_past skip e = first_feed (drop at text) skip (sym (e ∙ ap (λ l. position (λ (b : ℕ). eqb b 10) l) (take_rest text at)))

  pub no_feed_past : None ≡ position (λ b. eqb b 10) (take (length text - at) (drop at text)) → NoLineFeed (drop at text)
  no_feed_past e = no_feed (drop at text) (sym (e ∙ ap (λ l. position (λ (b : ℕ). eqb b 10) l) (take_rest text at)))

  pub dashes_past : (n : ℕ) → n ≡ prefix_len (λ b. eqb b 45) (take (length text - at) (drop at text)) → StartsWithDashes (drop at text) n
  dashes_past n e = starts_with_dashes (drop at text) n (e ∙ ap (λ l. prefix_len (λ (b : ℕ). eqb b 45) l) (take_rest text at))

-- `&bytes[at..]`, in the words of the text
pub tail_cut : (text bytes : List ℕ) (at place : ℕ) → bytes ≡ text → at ≡ place → take (length bytes - at) (drop at bytes) ≡ drop place text
tail_cut text bytes at place e f = take_rest bytes at ∙ (ap (λ l. drop at l) e ∙ ap (λ k. drop k text) f)
