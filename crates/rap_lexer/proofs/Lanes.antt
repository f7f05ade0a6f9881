-- Tests of sixteen bytes at a time.
use Rattle.std.proofs.Common.{◌≡◌, ℕ, zero, suc, ◌+◌, ◌-◌, ◌*◌, ◌%◌, ◌^◌, ◌<◌, ◌≤◌, List, [], ◌∷◌, Bool, true, false, not, ◌&&◌, ◌||◌, ◌==◌, nat_lt, cond, leb, eqb, length, get_or, drop, length-drop, map, replicate, bit_and, bit_or, refl, sym, ap, ◌∙◌, arith}
use Rattle.std.specs.Bool.{beq}
use Rattle.std.specs.Char.{is_ascii_alphanumeric}
use Rattle.std.specs.Simd.Lanes.{zip2, mask_l, top, chunk, Each1}
use Rattle.std.proofs.lemmas.Bool.{eqb-true, eqb-false, ltb-true, ltb-false}
use Rattle.std.proofs.lemmas.Simd.{zip2_of_maps, splat_is_map, map-map, mask_l-mod, bit_mask_l, length-chunk, get_or-chunk, none_from_empty_mask}
use Rattle.std.proofs.Math.ListN.{get_or-map}
use Rattle.std.proofs.lemmas.List.{length-map, get_or_default, get_or_past, get_or-drop, drop-drop}
use Rattle.rap_lexer.specs.Class.{is_in, is_ascii_in}
use Rattle.rap_lexer.specs.declared.lexer.run.Class.TheVariants.{White, InString, IdentContinue}
use Rattle.std.specs.Int.{bit_at}
use Rattle.rap_lexer.specs.Run.{run_of}
use Rattle.rap_lexer.proofs.AsciiClasses.{continues}
use Rattle.rap_lexer.proofs.Runs.{run_length, run_past}

-- a test that holds below a number, one number after the other
all_under : (ℕ → Bool) → ℕ → Bool
all_under p zero = true
all_under p (suc n) = p n && all_under p n

both : (x y : Bool) → (x && y) ≡ true → (x ≡ true) × (y ≡ true)
both true y e = (refl, e)
both false y e = cc

under : (p : ℕ → Bool) (n : ℕ) → all_under p n ≡ true → (x : ℕ) → x < n → p x ≡ true
unfolding all_under
under p zero e x l = absurd (omega arith)
under p (suc n) e x l =
    (elim (eqb x n) as (λ z. eqb x n ≡ z → p x ≡ true) [
      | true ↦ λ h. ap p (eqb-true x n h) ∙ (both (p n) (all_under p n) e).0
      | false ↦ λ h. under p n (both (p n) (all_under p n) e).1 x (omega (arith, eqb-false x n h))
    ]) refl

same : (a b : Bool) → beq a b ≡ true → a ≡ b
same true true e = refl
same true false e = cc
same false true e = cc
same false false e = refl

-- lanes that pass the same test
same_lanes : (f g : ℕ → Bool) (v : List ℕ) → ((x : ℕ) → x < 256 → f x ≡ g x) → Each1 (λ x. x < 256) v → map f v ≡ map g v
same_lanes f g [] h e = refl
same_lanes f g (x ∷ v) h e = (λ i. h x e.0 i ∷ same_lanes f g v h e.1 i)

abbrev sub : ℕ → ℕ → ℕ
sub a b = (a + (2 ^ 8 - b)) % 2 ^ 8

abbrev at_least : ℕ → ℕ → ℕ
at_least a b = cond (leb a b) 255 0

abbrev apart : ℕ → ℕ → ℕ
apart a b = cond (not (eqb a b)) 255 0

abbrev white_lane : ℕ → ℕ
white_lane x = bit_and (at_least 5 (sub x 9)) (apart x 32)

white_test : (x : ℕ) → x < 256 → top 7 (white_lane x) ≡ not (is_ascii_in White x)
unfolding all_under
white_test x l = same _ _ (under (λ x. beq (top 7 (white_lane x)) (not (is_ascii_in White x))) 256 refl x l)

itself : (v : List ℕ) → v ≡ map (λ x. x) v
itself [] = refl
itself (x ∷ v) = ap (λ l. x ∷ l) (itself v)

-- the mask of lanes that were computed one by one
masked : (g : ℕ → ℕ) (p : ℕ → Bool) (v lanes : List ℕ) → length v ≡ 16 → Each1 (λ x. x < 256) v → ((x : ℕ) → x < 256 → top 7 (g x) ≡ p x) → lanes ≡ map g v → mask_l (map (top 7) lanes) % 2 ^ 64 ≡ mask_l (map p v)
masked g p v lanes long fits h e =
    ap (λ l. mask_l (map (top 7) l) % 2 ^ 64) e
    ∙ (ap (λ l. mask_l l % 2 ^ 64) (map-map (top 7) g v ∙ same_lanes (λ x. top 7 (g x)) p v h fits)
    ∙ mask_l-mod (map p v) 64 (omega (arith, length-map v p, long)))

pub white_lanes : (v : List ℕ) → length v ≡ 16 → Each1 (λ x. x < 256) v
    → mask_l (map (top 7) (zip2 bit_and (zip2 at_least (replicate 16 5) (zip2 sub v (replicate 16 9))) (zip2 apart v (replicate 16 32)))) % 2 ^ 64 ≡ mask_l (map (λ b. not (is_ascii_in White b)) v)
white_lanes v long fits =
    let splat = λ (y : ℕ). splat_is_map v 16 y long in
    let others = zip2_of_maps at_least (λ _. 5) (λ x. sub x 9) v (splat 5) (zip2_of_maps sub (λ x. x) (λ _. 9) v (itself v) (splat 9)) in
    let spaces = zip2_of_maps apart (λ x. x) (λ _. 32) v (itself v) (splat 32) in
    masked white_lane _ v _ long fits white_test (zip2_of_maps bit_and (λ x. at_least 5 (sub x 9)) (λ x. apart x 32) v others spaces)

space_test : (x : ℕ) → x < 256 → top 7 (apart x 32) ≡ not (x == 32)
unfolding all_under
space_test x l = same _ _ (under (λ x. beq (top 7 (apart x 32)) (not (x == 32))) 256 refl x l)

pub space_lanes : (v : List ℕ) → length v ≡ 16 → Each1 (λ x. x < 256) v → mask_l (map (top 7) (zip2 apart v (replicate 16 32))) % 2 ^ 64 ≡ mask_l (map (λ b. not (b == 32)) v)
space_lanes v long fits = masked (λ x. apart x 32) _ v _ long fits space_test (zip2_of_maps apart (λ x. x) (λ _. 32) v (itself v) (splat_is_map v 16 32 long))

no_bit : (x : Bool) (m : ℕ) → cond {A = ℕ} x 1 0 + 2 * m ≡ 0 → (x ≡ false) × (m ≡ 0)
no_bit true m h = absurd (omega (arith, h))
no_bit false m h = (refl, omega (arith, h))

is_so : (x : Bool) → not x ≡ false → x ≡ true
is_so true h = refl
is_so false h = cc

-- where all bytes are spaces none is anything but white space
pub spaces_white : (v : List ℕ) → mask_l (map (λ b. not (b == 32)) v) ≡ 0 → mask_l (map (λ b. not (is_ascii_in White b)) v) ≡ 0
spaces_white [] h = refl
spaces_white (b ∷ v) h =
    let parts = no_bit (not (b == 32)) (mask_l (map (λ x. not (x == 32)) v)) h in
    let is : b ≡ 32 = eqb-true b 32 (is_so (b == 32) parts.0) in
    let bit : cond {A = ℕ} (not (is_ascii_in White b)) 1 0 ≡ 0 = ap (λ x. cond {A = ℕ} (not (is_ascii_in White x)) 1 0) is in
    omega (arith, bit, spaces_white v parts.1)

abbrev word_lane : ℕ → ℕ
word_lane x = bit_and (bit_and (bit_and (at_least 26 (sub x 97)) (at_least 26 (sub x 65))) (at_least 10 (sub x 48))) (apart x 95)

word_test : (x : ℕ) → x < 256 → top 7 (word_lane x) ≡ not (is_ascii_in IdentContinue x)
unfolding all_under
word_test x l = same _ _ (under (λ x. beq (top 7 (word_lane x)) (not ((x == 95) || is_ascii_alphanumeric x))) 256 refl x l) ∙ ap not (continues x)

pub word_lanes : (v : List ℕ) → length v ≡ 16 → Each1 (λ x. x < 256) v
    → mask_l (map (top 7) (zip2 bit_and (zip2 bit_and (zip2 bit_and (zip2 at_least (replicate 16 26) (zip2 sub v (replicate 16 97))) (zip2 at_least (replicate 16 26) (zip2 sub v (replicate 16 65)))) (zip2 at_least (replicate 16 10) (zip2 sub v (replicate 16 48)))) (zip2 apart v (replicate 16 95)))) % 2 ^ 64 ≡ mask_l (map (λ b. not (is_ascii_in IdentContinue b)) v)
word_lanes v long fits =
    let splat = λ (y : ℕ). splat_is_map v 16 y long in
    let past = λ (n low : ℕ). zip2_of_maps at_least (λ _. n) (λ x. sub x low) v (splat n) (zip2_of_maps sub (λ x. x) (λ _. low) v (itself v) (splat low)) in
    let lines = zip2_of_maps apart (λ x. x) (λ _. 95) v (itself v) (splat 95) in
    let letters = zip2_of_maps bit_and (λ x. at_least 26 (sub x 97)) (λ x. at_least 26 (sub x 65)) v (past 26 97) (past 26 65) in
    let signs = zip2_of_maps bit_and (λ x. bit_and (at_least 26 (sub x 97)) (at_least 26 (sub x 65))) (λ x. at_least 10 (sub x 48)) v letters (past 10 48) in
    masked word_lane _ v _ long fits word_test (zip2_of_maps bit_and (λ x. bit_and (bit_and (at_least 26 (sub x 97)) (at_least 26 (sub x 65))) (at_least 10 (sub x 48))) (λ x. apart x 95) v signs lines)

abbrev alike : ℕ → ℕ → ℕ
alike a b = cond (eqb a b) 255 0

abbrev string_lane : ℕ → ℕ
string_lane x = bit_or (alike x 34) (alike x 92)

string_test : (x : ℕ) → x < 256 → top 7 (string_lane x) ≡ not (is_in InString x)
unfolding all_under
string_test x l = same _ _ (under (λ x. beq (top 7 (string_lane x)) (not (is_in InString x))) 256 refl x l)

pub string_lanes : (v : List ℕ) → length v ≡ 16 → Each1 (λ x. x < 256) v
    → mask_l (map (top 7) (zip2 bit_or (zip2 alike v (replicate 16 34)) (zip2 alike v (replicate 16 92)))) % 2 ^ 64 ≡ mask_l (map (λ b. not (is_in InString b)) v)
string_lanes v long fits =
    let splat = λ (y : ℕ). splat_is_map v 16 y long in
    let quotes = zip2_of_maps alike (λ x. x) (λ _. 34) v (itself v) (splat 34) in
    let backslashes = zip2_of_maps alike (λ x. x) (λ _. 92) v (itself v) (splat 92) in
    masked string_lane _ v _ long fits string_test (zip2_of_maps bit_or (λ x. alike x 34) (λ x. alike x 92) v quotes backslashes)

is_one : (b : Bool) → cond {A = ℕ} b 1 0 ≡ 1 → b ≡ true
is_one true e = refl
is_one false e = absurd (omega (arith, e))

is_none : (b : Bool) → cond {A = ℕ} b 1 0 ≡ 0 → b ≡ false
is_none true e = absurd (omega (arith, e))
is_none false e = refl

turned : (b c : Bool) → not b ≡ c → b ≡ not c
turned true true e = cc
turned true false e = refl
turned false true e = refl
turned false false e = cc

module _ (q : ℕ → Bool) (bs : List ℕ) (n m : ℕ) (room : n + 16 ≤ length bs) (mask : m ≡ mask_l (map (λ b. not (q b)) (chunk n 16 bs))) where
  abbrev p : ℕ → Bool
  p b = not (q b)

  abbrev tests : List Bool
  tests = map p (chunk n 16 bs)

  long : length tests ≡ 16
  long = length-map (chunk n 16 bs) p ∙ length-chunk n 16 bs room

  bit : (k : ℕ) → bit_at m k ≡ cond (get_or tests k false) 1 0
  bit k = ap (λ x. bit_at x k) mask ∙ bit_mask_l tests k

  lane : (k : ℕ) → k < 16 → get_or tests k false ≡ not (q (get_or (drop n bs) k 0))
  lane k l =
      get_or_default tests k false (p 0) (omega (arith, long))
      ∙ (get_or-map p (chunk n 16 bs) k 0 ∙ ap p (get_or-chunk n 16 bs k 0 l ∙ sym (get_or-drop n bs k 0)))

  -- the lowest bit that is set stands where the run ends
  pub lane_hit : (r : ℕ) → bit_at m r ≡ 1 → ((k : ℕ) → k < r → bit_at m k ≡ 0) → r ≡ length (run_of q (drop n bs))
  lane_hit r set below =
      let there : get_or tests r false ≡ true = is_one (get_or tests r false) (sym (bit r) ∙ set) in
      let inside : r < 16 =
      (elim (nat_lt r 16) as (λ z. nat_lt r 16 ≡ z → r < 16) [
        | true ↦ λ h. ltb-true r 16 h
        | false ↦ λ h. let past : get_or tests r false ≡ false = get_or_past tests r false (omega (arith, long, ltb-false r 16 h)) in cc
      ]) refl in
      run_length q (drop n bs) r (omega (arith, length-drop n bs))
      (λ k l. turned (q (get_or (drop n bs) k 0)) false (sym (lane k (omega arith)) ∙ is_none (get_or tests k false) (sym (bit k) ∙ below k l)))
      (λ l. turned (q (get_or (drop n bs) r 0)) true (sym (lane r inside) ∙ there))

  -- where no bit is set the run goes on past the lanes
  pub lane_miss : m ≡ 0 → 16 + length (run_of q (drop (n + 16) bs)) ≡ length (run_of q (drop n bs))
  lane_miss none =
      let all = λ (k : ℕ) (l : k < 16). turned (q (get_or (drop n bs) k 0)) false (ap p (get_or-drop n bs k 0) ∙ none_from_empty_mask p bs n 16 0 room (sym mask ∙ none) (n + k) (omega arith) (omega arith)) in
      ap (λ l. 16 + length (run_of q l)) (sym (drop-drop 16 n bs)) ∙ run_past q (drop n bs) 16 (omega (arith, length-drop n bs)) all
