-- The result of a packer's writes.
use Rattle.std.proofs.Common.{◌≡◌, ℕ, suc, ◌+◌, ◌^◌, ◌≤◌, ◌<◌, List, [], ◌∷◌, ◌++◌, length, refl, ap, sym, subst, ◌∙◌, inl, inr, arith, length-append, zero-add}
use Rattle.std.proofs.lemmas.Bool.{cases_lt, cond-true, cond-false, lt-ltb, le-ltb}
use Rattle.std.specs.Prelude.{slice_set, nat_lt}
use Rattle.rap_lexed.specs.StrSink.{Takes}
use Rattle.rap_lexed.specs.StrStep.{StrStepValue}
use Rattle.rap_c.specs.Filling.{write_at}
use Rattle.rap_c.specs.Item.{counted}
use Rattle.rap_c.specs.Packing.{Packing, packed, packed_all}
use Rattle.rap_c.specs.Packs.{packing_of, Fits, IsPackStart, IsSamePack, PutsWord, Packs, PacksStep, PacksAll}
use Rattle.rap_c.specs.TreeWords.{AreWordsGiven}
use Rattle.rap_c.specs.Words.{word_of, as_word, token_words, words_of, bytes_of, all_words, all_bytes}
use Rattle.rap_c.specs.declared.answer.RapAnswer.{RapAnswer}
use Rattle.rap_c.specs.declared.packer.Packer.{Packer}
use Rattle.rap_c.proofs.Written.{write_at-nothing, write_at-past, write_at-length, write_at-set, write_at-twice}

-- a place above 2^64 - 1 is after the end of the room
write_counted : (b : List ℕ) (n : ℕ) (vs : List ℕ) → length b < 2 ^ 64 → write_at b (counted n) vs ≡ write_at b n vs
write_counted b n vs short = elim (cases_lt n (2 ^ 64)) [
  | inl low ↦
      let same : counted n ≡ n = omega (arith, low) in
      ap (λ k. write_at b k vs) same
  | inr high ↦
      let past : length b ≤ n = omega (arith, short, high) in
      let c_past : length b ≤ counted n = omega (arith, short, high) in
      write_at-past b (counted n) vs c_past ∙ sym (write_at-past b n vs past)
]

write_more : (b : List ℕ) (c : ℕ) (us vs : List ℕ) → length b < 2 ^ 64 → write_at (write_at b c us) (counted (c + length us)) vs ≡ write_at b c (us ++ vs)
write_more b c us vs short =
    let longer : length (write_at b c us) < 2 ^ 64 = omega (arith, short, write_at-length b c us) in
    write_counted (write_at b c us) (c + length us) vs longer ∙ write_at-twice b c (c + length us) us vs refl

count_more : (c m n : ℕ) → counted (counted (c + m) + n) ≡ counted (c + (m + n))
count_more c m n = omega arith

-- these numbers are below 2^64
pub record FitsIn (p : Packing) : Type 0 where
  pub words : length p.words < 2 ^ 64
  pub messages : length p.messages < 2 ^ 64
  pub count : p.count < 2 ^ 64
  pub said : p.said < 2 ^ 64

pub fits_in : (p : Packer) → Fits p → FitsIn (packing_of p)
fits_in p h = record { words = h.words; messages = h.messages; count = h.count; said = h.said }

fits_still : (p : Packing) (ws bs : List ℕ) → FitsIn p → FitsIn (packed p ws bs)
fits_still p ws bs h = record {
  words = omega (arith, h.words, write_at-length p.words p.count ws);
  messages = omega (arith, h.messages, write_at-length p.messages p.said bs);
  count = omega arith;
  said = omega arith;
}

abbrev make : List ℕ → List ℕ → ℕ → ℕ → Packing
make words messages count said = record { words = words; messages = messages; count = count; said = said }

same_packing : (a a' b b' : List ℕ) (c c' d d' : ℕ) → a ≡ a' → b ≡ b' → c ≡ c' → d ≡ d' → make a b c d ≡ make a' b' c' d'
same_packing a a' b b' c c' d d' p q r s =
    ap (λ v. make v b c d) p ∙ (ap (λ v. make a' v c d) q ∙ (ap (λ v. make a' b' v d) r ∙ ap (λ v. make a' b' c' v) s))

-- some, and others after them
packed_twice : (p : Packing) (us bs vs cs : List ℕ) → FitsIn p → packed (packed p us bs) vs cs ≡ packed p (us ++ vs) (bs ++ cs)
packed_twice p us bs vs cs h = same_packing _ _ _ _ _ _ _ _
    (write_more p.words p.count us vs h.words)
    (write_more p.messages p.said bs cs h.messages)
    (count_more p.count (length us) (length vs) ∙ ap (λ n. counted (p.count + n)) (sym (length-append us vs)))
    (count_more p.said (length bs) (length cs) ∙ ap (λ n. counted (p.said + n)) (sym (length-append bs cs)))

packed_none : (p : Packing) → FitsIn p → p ≡ packed p [] []
packed_none p h = same_packing _ _ _ _ _ _ _ _
    (sym (write_at-nothing p.words p.count)) (sym (write_at-nothing p.messages p.said)) (omega (arith, h.count)) (omega (arith, h.said))

pub pack_refl : (p : Packer) → IsSamePack p p
pack_refl p = record { words = refl; messages = refl }

pub pack_trans : (f g h : Packer) → IsSamePack f g → IsSamePack g h → IsSamePack f h
pack_trans f g h a b = record { words = b.words ∙ a.words; messages = b.messages ∙ a.messages }

-- words and bytes of messages, and others after them
pub pack_then : (us bs vs cs : List ℕ) (f g h : Packer) → Fits f → Packs us bs f g → Packs vs cs g h → Packs (us ++ vs) (bs ++ cs) f h
pack_then us bs vs cs f g h fits a b = record {
  is = b.is ∙ (ap (λ p. packed p vs cs) a.is ∙ packed_twice (packing_of f) us bs vs cs (fits_in f fits));
  same = pack_trans f g h a.same b.same;
}

pub pack_one : (w : ℕ) (f g : Packer) → PutsWord w f g → Packs (w ∷ []) [] f g
pack_one w f g h = record {
  is = same_packing _ _ _ _ _ _ _ _
      (h.words ∙ (sym (write_at-nothing (slice_set f.words.now f.count w) (suc f.count)) ∙ write_at-set f.words.now f.count w []))
      (h.messages ∙ sym (write_at-nothing f.messages.now f.said))
      h.count
      (h.said ∙ omega (arith, h.fits.said));
  same = h.same;
}

pub pack_two : (v w : ℕ) (f g h : Packer) → PutsWord v f g → PutsWord w g h → Packs (v ∷ w ∷ []) [] f h
pack_two v w f g h a b = pack_then (v ∷ []) [] (w ∷ []) [] f g h a.fits (pack_one v f g a) (pack_one w g h b)

pub pack_three : (u v w : ℕ) (f g h i : Packer) → PutsWord u f g → PutsWord v g h → PutsWord w h i → Packs (u ∷ v ∷ w ∷ []) [] f i
pack_three u v w f g h i a b c = pack_then (u ∷ []) [] (v ∷ w ∷ []) [] f g i a.fits (pack_one u f g a) (pack_two v w g h i b c)

-- a message after its words
pub pack_message : (u v w : ℕ) (bytes : List ℕ) (f g h i j : Packer) → PutsWord u f g → PutsWord v g h → PutsWord w h i
    → j.words.now ≡ i.words.now → j.messages.now ≡ write_at i.messages.now f.said bytes → j.count ≡ i.count → j.said ≡ counted (f.said + length bytes)
    → IsSamePack i j → Packs (u ∷ v ∷ w ∷ []) bytes f j
pack_message u v w bytes f g h i j a b c words messages count said same =
    let said_is : i.said ≡ f.said = c.said ∙ (b.said ∙ a.said) in
    let last : Packs [] bytes i j = record {
      is = same_packing _ _ _ _ _ _ _ _
          (words ∙ sym (write_at-nothing i.words.now i.count))
          (messages ∙ ap (λ n. write_at i.messages.now n bytes) (sym said_is))
          (count ∙ omega (arith, c.count))
          (said ∙ ap (λ n. counted (n + length bytes)) (sym said_is));
      same = same;
    } in
    pack_then (u ∷ v ∷ w ∷ []) [] [] bytes f i j a.fits (pack_three u v w f g h i a b c) last

-- a token of n bytes
pub short_token : (kind bytes : ℕ) (f g : Packer) → bytes < 8191 → PutsWord (word_of 2 bytes kind) f g → Packs (token_words kind bytes) [] f g
short_token kind bytes f g low h =
    subst (λ l. Packs l [] f g) (sym (cond-true (nat_lt bytes 8191) (word_of 2 bytes kind ∷ []) (word_of 2 8191 kind ∷ as_word bytes ∷ []) (lt-ltb bytes 8191 low))) (pack_one (word_of 2 bytes kind) f g h)

pub long_token : (kind bytes : ℕ) (f g h : Packer) → 8191 ≤ bytes → PutsWord (word_of 2 8191 kind) f g → PutsWord (as_word bytes) g h → Packs (token_words kind bytes) [] f h
long_token kind bytes f g h high a b =
    subst (λ l. Packs l [] f h) (sym (cond-false (nat_lt bytes 8191) (word_of 2 bytes kind ∷ []) (word_of 2 8191 kind ∷ as_word bytes ∷ []) (le-ltb bytes 8191 high))) (pack_two (word_of 2 8191 kind) (as_word bytes) f g h a b)

-- the steps of a tree, taken one after another
pub pack_along : (steps : List StrStepValue) (f g : Packer) → Takes PacksStep f steps g → PacksAll steps f g
pack_along [] f g h = record { is = ap packing_of (sym h); same = subst (λ i. IsSamePack f i) h (pack_refl f) }
pack_along (x ∷ xs) f g h =
    let rest : PacksAll xs h.0 g = pack_along xs h.0 g h.2 in
    record {
      is = rest.is ∙ ap (λ p. packed_all p xs) h.1.is;
      same = pack_trans f h.0 g h.1.same rest.same;
    }

packed_append : (p : Packing) (xs ys : List StrStepValue) → packed_all p (xs ++ ys) ≡ packed_all (packed_all p xs) ys
packed_append p [] ys = refl
packed_append p (x ∷ xs) ys = packed_append (packed p (words_of x) (bytes_of x)) xs ys

-- steps, and others after them
pub pack_others : (xs ys : List StrStepValue) (f g h : Packer) → PacksAll xs f g → PacksAll ys g h → PacksAll (xs ++ ys) f h
pack_others xs ys f g h a b = record {
  is = b.is ∙ (ap (λ p. packed_all p ys) a.is ∙ sym (packed_append (packing_of f) xs ys));
  same = pack_trans f g h a.same b.same;
}

-- steps one after another are all their words at once
packed_once : (xs : List StrStepValue) (p : Packing) → FitsIn p → packed_all p xs ≡ packed p (all_words xs) (all_bytes xs)
packed_once [] p h = packed_none p h
packed_once (x ∷ xs) p h =
    packed_once xs (packed p (words_of x) (bytes_of x)) (fits_still p (words_of x) (bytes_of x) h)
    ∙ packed_twice p (words_of x) (bytes_of x) (all_words xs) (all_bytes xs) h

pub packed_is : (xs : List StrStepValue) (f g : Packer) → Fits f → PacksAll xs f g → packing_of g ≡ packed (packing_of f) (all_words xs) (all_bytes xs)
packed_is xs f g fits h = h.is ∙ packed_once xs (packing_of f) (fits_in f fits)

-- all that was added is in the caller's room when the call returns
pub words_given : (xs ys : List StrStepValue) (words words_after messages messages_after : List ℕ) (f g h : Packer) (answer : RapAnswer)
    → IsPackStart words messages f → PacksAll xs f g → PacksAll ys g h → words_after ≡ h.words.now → messages_after ≡ h.messages.now
    → answer ≡ record { status = 0; steps = h.count; message_bytes = h.said; used = g.count } → AreWordsGiven xs ys words words_after messages messages_after answer
words_given xs ys words words_after messages messages_after f g h answer start a b e d is =
    let begin : Packing = make words messages 0 0 in
    let some : packing_of g ≡ packed begin (all_words xs) (all_bytes xs) =
    packed_is xs f g start.fits a ∙ ap (λ p. packed p (all_words xs) (all_bytes xs)) start.is in
    let all : packing_of h ≡ packed begin (all_words (xs ++ ys)) (all_bytes (xs ++ ys)) =
    packed_is (xs ++ ys) f h start.fits (pack_others xs ys f g h a b) ∙ ap (λ p. packed p (all_words (xs ++ ys)) (all_bytes (xs ++ ys))) start.is in
    record {
      words_are = e ∙ ap (λ (p : Packing). p.words) all;
      messages_are = d ∙ ap (λ (p : Packing). p.messages) all;
      status = ap (λ (r : RapAnswer). r.status) is;
      count = ap (λ (r : RapAnswer). r.steps) is ∙ (ap (λ (p : Packing). p.count) all ∙ ap counted (zero-add (length (all_words (xs ++ ys)))));
      bytes = ap (λ (r : RapAnswer). r.message_bytes) is ∙ (ap (λ (p : Packing). p.said) all ∙ ap counted (zero-add (length (all_bytes (xs ++ ys)))));
      used = ap (λ (r : RapAnswer). r.used) is ∙ (ap (λ (p : Packing). p.count) some ∙ ap counted (zero-add (length (all_words xs))));
    }
