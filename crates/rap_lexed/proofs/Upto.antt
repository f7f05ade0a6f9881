-- A prefix of the text is cut into tokens.
use Rattle.std.proofs.Common.{◌≡◌, ◌≢◌, ℕ, Bool, nat_lt, slice_range, append-nil, List, [], ◌∷◌, ◌++◌, ◌<◌, ◌≤◌, ◌+◌, ◌^◌, length, drop, slice_index, IsUtf8, IsCharBoundary, refl, ap, sym, subst, zero, suc, ◌∙◌, arith, ◌⊎◌, inl, inr, length-append}
use Rattle.std.proofs.lemmas.Grind.{common_steps}
use Rattle.std.proofs.lemmas.Str.{IsCharBoundary-start}
use Rattle.std.proofs.Math.ListN.{get_or-append}
use Rattle.std.proofs.lemmas.List.{get_or_at}
use Rattle.std.proofs.lemmas.List.Elements.{All-nil, All-push}
use Rattle.std.proofs.lemmas.List.Prefix.{front_from_reads}
use Rattle.std.specs.Prelude.{All, Option, Some, None, option_to_list, unwrap_or}
use Rattle.rap_base.specs.TokenKind.{EOF, SHEBANG, FRONTMATTER}
use Rattle.rap_base.specs.TokenTests.{IsTokenKind}
use Rattle.rap_base.specs.declared.edition.Edition.{Edition}
use Rattle.rap_lexed.specs.About.{about}
use Rattle.rap_lexed.specs.Header.{pieces, header_kinds, IsHeader, AreEnds}
use Rattle.rap_lexed.specs.LexedStr.{Token, Message, AreStarts, AreInOrder, IsFirst, IsLexing, token_at, start_of, cut, messages_of}
use Rattle.rap_lexed.proofs.Messages.{messages_of-append, messages_of-about, messages_of-other, messages_of-past, ordered_more}
use Rattle.rap_lexed.proofs.OpenStrings.{since_open, since_open_after, after_open, follows}
use Rattle.rap_lexed.proofs.Cuts.{piece, joined-cut, length-cut, token_at-cut, start_of-cut}

-- the pieces of the script source and the tokens so far have these kinds, starts and messages, and what follows them
-- begins at `offset`
pub record Upto (edition : Edition) (text : List ℕ) (header : List Token) (kinds starts : List ℕ) (errors : List Message) (since offset : ℕ) : Type 0 where
  pub within : offset ≤ length text
  pub few : length kinds ≤ offset
  pub long : length starts ≡ length kinds + 1
  pub begin : slice_index starts 0 ≡ 0
  pub finish : slice_index starts (length kinds) ≡ offset
  pub rising : (i j : ℕ) → i < j → j ≤ length kinds → slice_index starts i < slice_index starts j
  pub borders : (i : ℕ) → i ≤ length kinds → IsCharBoundary text (slice_index starts i)
  pub since_is : since ≡ since_open (piece text kinds starts) (length kinds)
  pub fits : length header ≤ length kinds
  pub stand : (i : ℕ) → i < length header → piece text kinds starts i ≡ token_at header i
  pub silent : (i : ℕ) → i < length header → messages_of errors i ≡ []
  pub each : (i : ℕ) → length header ≤ i → i < length kinds → IsFirst edition (after_open (piece text kinds starts) i) (drop (slice_index starts i) text) (piece text kinds starts i) (drop (slice_index starts (i + 1)) text) (messages_of errors i)
  pub ordered : AreInOrder (length kinds) errors

-- the same with parts that are equal
move : (edition : Edition) (b b' : Bool) (x x' : List ℕ) (t t' : Token) (y y' : List ℕ) (m m' : List (List ℕ)) → b ≡ b' → x ≡ x' → t ≡ t' → y ≡ y' → m ≡ m' → IsFirst edition b' x' t' y' m' → IsFirst edition b x t y m
move edition b b' x x' t t' y y' m m' e f g h k first = rw (e, f, g, h, k) first

after_same : (n n' : ℕ) (t t' : Token) → n ≡ n' → t ≡ t' → since_open_after n t.kind t.text ≡ since_open_after n' t'.kind t'.text
after_same n n' t t' e f = rw (e, f) refl

-- the count depends on the tokens before alone
pub since_same : (f g : ℕ → Token) (i : ℕ) → ((j : ℕ) → j < i → f j ≡ g j) → since_open f i ≡ since_open g i
since_same f g zero h = refl
since_same f g (suc i) h =
    let before : since_open f i ≡ since_open g i = since_same f g i (λ j k. h j (omega arith)) in
    let here : f i ≡ g i = h i (omega arith) in
    rw (before, here) refl

old : (xs : List ℕ) (x i : ℕ) → i < length xs → slice_index (xs ++ x ∷ []) i ≡ slice_index xs i
old xs x i h = grind (arith, common_steps)

new : (xs : List ℕ) (x i : ℕ) → i ≡ length xs → slice_index (xs ++ x ∷ []) i ≡ x
new xs x i h = grind (arith, common_steps)

len : (xs : List ℕ) (x : ℕ) → length (xs ++ x ∷ []) ≡ length xs + 1
len xs x = length-append xs (x ∷ [])

pub last_or : (i n : ℕ) → i ≤ n → (i < n) ⊎ (i ≡ n)
last_or zero zero h = inr refl
last_or zero (suc n) h = inl (omega arith)
last_or (suc i) zero h = absurd (omega arith)
last_or (suc i) (suc n) h = elim (last_or i n (omega arith)) as (λ _. (suc i < suc n) ⊎ (suc i ≡ suc n)) [ inl l ↦ inl (omega arith) | inr e ↦ inr (ap suc e) ]

pub begun : (edition : Edition) (text : List ℕ) → IsUtf8 text → Upto edition text [] [] (0 ∷ []) [] 5 0
begun edition text u = record {
  within = omega arith;
  few = omega arith;
  long = refl;
  begin = refl;
  finish = refl;
  rising = λ i j h k. absurd (omega arith);
  borders = λ i h. let z : i ≡ 0 = omega arith in subst (λ (x : ℕ). IsCharBoundary text (slice_index (0 ∷ []) x)) (sym z) (IsCharBoundary-start text u);
  since_is = refl;
  fits = omega arith;
  stand = λ i h. absurd (omega arith);
  silent = λ i h. absurd (omega arith);
  each = λ i m h. absurd (omega arith);
  ordered = tt;
}

module _ (edition : Edition) (text : List ℕ) (header : List Token) (ks ss : List ℕ) (errors : List Message) (since offset k end : ℕ) (u : Upto edition text header ks ss errors since offset) (positive : offset < end) (there : IsCharBoundary text end) where
  was : (i : ℕ) → i ≤ length ks → slice_index (ss ++ end ∷ []) i ≡ slice_index ss i
  was i h = old ss end i (omega (arith, u.long))

  is : (i : ℕ) → i ≡ length ks + 1 → slice_index (ss ++ end ∷ []) i ≡ end
  is i h = new ss end i (omega (arith, u.long))

  last : (i : ℕ) → i ≤ length ks → slice_index ss i ≤ offset
  last i h = elim (last_or i (length ks) h) as (λ _. slice_index ss i ≤ offset) [ inl l ↦ omega (arith, u.rising i (length ks) l (omega arith), u.finish) | inr e ↦ omega (arith, ap (λ x. slice_index ss x) e, u.finish) ]

  climbs : (i j : ℕ) → i < j → j ≤ length (ks ++ k ∷ []) → slice_index (ss ++ end ∷ []) i < slice_index (ss ++ end ∷ []) j
  climbs i j h m =
      let l : j ≤ length ks + 1 = omega (arith, len ks k) in
      elim (last_or j (length ks + 1) l) as (λ _. slice_index (ss ++ end ∷ []) i < slice_index (ss ++ end ∷ []) j) [
        | inl b ↦ omega (arith, was i (omega arith), was j (omega arith), u.rising i j h (omega arith))
        | inr e ↦ omega (arith, was i (omega arith), is j e, last i (omega arith))
      ]

  bounds : (i : ℕ) → i ≤ length (ks ++ k ∷ []) → IsCharBoundary text (slice_index (ss ++ end ∷ []) i)
  bounds i m =
      let l : i ≤ length ks + 1 = omega (arith, len ks k) in
      elim (last_or i (length ks + 1) l) as (λ _. IsCharBoundary text (slice_index (ss ++ end ∷ []) i)) [
        | inl b ↦ subst (λ (x : ℕ). IsCharBoundary text x) (sym (was i (omega arith))) (u.borders i (omega arith))
        | inr e ↦ subst (λ (x : ℕ). IsCharBoundary text x) (sym (is i e)) there
      ]

  pub same_piece : (i : ℕ) → i < length ks → piece text (ks ++ k ∷ []) (ss ++ end ∷ []) i ≡ piece text ks ss i
  same_piece i h = let x = was i (omega arith) in let y = was (i + 1) (omega arith) in let z = old ks k i h in rw (x, y, z) refl

  same_since : (i : ℕ) → i ≤ length ks → since_open (piece text (ks ++ k ∷ []) (ss ++ end ∷ [])) i ≡ since_open (piece text ks ss) i
  same_since i h = since_same _ _ i (λ j m. same_piece j (omega arith))

  pub new_piece : piece text (ks ++ k ∷ []) (ss ++ end ∷ []) (length ks) ≡ record { kind = k; text = slice_range text offset end }
  new_piece =
      let x : slice_index (ss ++ end ∷ []) (length ks) ≡ offset = was (length ks) (omega arith) ∙ u.finish in
      let y = is (length ks + 1) refl in
      let z = new ks k (length ks) refl in
      rw (x, y, z) refl

  abbrev At : (i : ℕ) → List Message → Type 0
  At i ms = IsFirst edition (after_open (piece text (ks ++ k ∷ []) (ss ++ end ∷ [])) i) (drop (slice_index (ss ++ end ∷ []) i) text) (piece text (ks ++ k ∷ []) (ss ++ end ∷ []) i) (drop (slice_index (ss ++ end ∷ []) (i + 1)) text) (messages_of ms i)

  sinces : since_open_after since k (slice_range text offset end) ≡ since_open (piece text (ks ++ k ∷ []) (ss ++ end ∷ [])) (length (ks ++ k ∷ []))
  sinces =
      let s : since_open (piece text (ks ++ k ∷ []) (ss ++ end ∷ [])) (length ks) ≡ since = same_since (length ks) (omega arith) ∙ sym u.since_is in
      let more : length (ks ++ k ∷ []) ≡ suc (length ks) = omega (arith, len ks k) in
      sym (ap (λ z. since_open (piece text (ks ++ k ∷ []) (ss ++ end ∷ [])) z) more ∙ after_same _ _ _ _ s new_piece)

  module _ (texts : List (List ℕ)) (t : IsFirst edition (nat_lt since 5) (drop offset text) (record { kind = k; text = slice_range text offset end }) (drop end text) texts) where
    earlier : (i : ℕ) → length header ≤ i → i < length ks → At i (errors ++ about (length ks) texts)
    earlier i f h =
        let d : length ks ≢ i = λ e. absurd (omega arith) in
        let m : messages_of (errors ++ about (length ks) texts) i ≡ messages_of errors i = messages_of-append errors (about (length ks) texts) i ∙ (ap (λ l. messages_of errors i ++ l) (messages_of-other (length ks) i texts d) ∙ append-nil (messages_of errors i)) in
        let x = was i (omega arith) in
        let y = was (i + 1) (omega arith) in
        let p = same_piece i h in
        let s = same_since i (omega arith) in
        move edition _ _ _ _ _ _ _ _ _ _ (ap (λ z. nat_lt z 5) s) (ap (λ z. drop z text) x) p (ap (λ z. drop z text) y) m (u.each i f h)

    latest : At (length ks) (errors ++ about (length ks) texts)
    latest =
        let m : messages_of (errors ++ about (length ks) texts) (length ks) ≡ texts = messages_of-append errors (about (length ks) texts) (length ks) ∙ (ap (λ l. l ++ messages_of (about (length ks) texts) (length ks)) (messages_of-past (length ks) (length ks) errors u.ordered (omega arith)) ∙ messages_of-about (length ks) texts) in
        let x : slice_index (ss ++ end ∷ []) (length ks) ≡ offset = was (length ks) (omega arith) ∙ u.finish in
        let y = is (length ks + 1) refl in
        let s : since_open (piece text (ks ++ k ∷ []) (ss ++ end ∷ [])) (length ks) ≡ since = same_since (length ks) (omega arith) ∙ sym u.since_is in
        move edition _ _ _ _ _ _ _ _ _ _ (ap (λ z. nat_lt z 5) s) (ap (λ z. drop z text) x) new_piece (ap (λ z. drop z text) y) m t

    eachs : (i : ℕ) → length header ≤ i → i < length (ks ++ k ∷ []) → At i (errors ++ about (length ks) texts)
    eachs i f m =
        let l : i ≤ length ks = omega (arith, len ks k) in
        elim (last_or i (length ks) l) as (λ _. At i (errors ++ about (length ks) texts)) [
          | inl b ↦ earlier i f b
          | inr e ↦ subst (λ (j : ℕ). At j (errors ++ about (length ks) texts)) (sym e) latest
        ]

    silents : (i : ℕ) → i < length header → messages_of (errors ++ about (length ks) texts) i ≡ []
    silents i h =
        let d : length ks ≢ i = λ e. absurd (omega (arith, u.fits)) in
        messages_of-append errors (about (length ks) texts) i ∙ (ap (λ l. messages_of errors i ++ l) (messages_of-other (length ks) i texts d) ∙ (append-nil (messages_of errors i) ∙ u.silent i h))

    pub more : Upto edition text header (ks ++ k ∷ []) (ss ++ end ∷ []) (errors ++ about (length ks) texts) (since_open_after since k (slice_range text offset end)) end
    more = record {
      within = there.0;
      few = omega (arith, len ks k, u.few);
      long = omega (arith, len ks k, len ss end, u.long);
      begin = was 0 (omega arith) ∙ u.begin;
      finish = is (length (ks ++ k ∷ [])) (len ks k);
      rising = climbs;
      borders = bounds;
      since_is = sinces;
      fits = omega (arith, len ks k, u.fits);
      stand = λ i h. same_piece i (omega (arith, u.fits)) ∙ u.stand i h;
      silent = silents;
      each = eachs;
      ordered = rw (len ks k) (ordered_more (length ks) errors texts u.ordered);
    }

  -- one more piece of the script source, before the first token
  module _ (all : length header ≡ length ks) (none : errors ≡ []) (same : since_open_after since k (slice_range text offset end) ≡ since) where
    abbrev new_header : List Token
    new_header = header ++ record { kind = k; text = slice_range text offset end } ∷ []

    header_size : length new_header ≡ length header + 1
    header_size = length-append header (record { kind = k; text = slice_range text offset end } ∷ [])

    headers : (i : ℕ) → i < length new_header → piece text (ks ++ k ∷ []) (ss ++ end ∷ []) i ≡ token_at new_header i
    headers i m =
        let l : i ≤ length ks = omega (arith, header_size) in
        elim (last_or i (length ks) l) as (λ _. piece text (ks ++ k ∷ []) (ss ++ end ∷ []) i ≡ token_at new_header i) [
          | inl b ↦ same_piece i b ∙ (u.stand i (omega arith) ∙ sym (get_or-append header _ _ i (omega arith)))
          | inr e ↦ ap (λ j. piece text (ks ++ k ∷ []) (ss ++ end ∷ []) j) e ∙ (new_piece ∙ sym (get_or_at header _ [] _ i (omega arith)))
        ]

    pub more_header : Upto edition text (header ++ record { kind = k; text = slice_range text offset end } ∷ []) (ks ++ k ∷ []) (ss ++ end ∷ []) errors since end
    more_header = record {
      within = there.0;
      few = omega (arith, len ks k, u.few);
      long = omega (arith, len ks k, len ss end, u.long);
      begin = was 0 (omega arith) ∙ u.begin;
      finish = is (length (ks ++ k ∷ [])) (len ks k);
      rising = climbs;
      borders = bounds;
      since_is = sym same ∙ sinces;
      fits = omega (arith, len ks k, header_size);
      stand = headers;
      silent = λ i h. rw none refl;
      each = λ i f h. absurd (omega (arith, len ks k, header_size));
      ordered = rw none tt;
    }

-- all pieces of the script source
all_pieces : (edition : Edition) (text : List ℕ) (shebang frontmatter : Option ℕ) → IsUtf8 text → AreEnds text shebang frontmatter → Upto edition text (pieces text shebang frontmatter) (header_kinds shebang frontmatter) (0 ∷ (option_to_list shebang ++ option_to_list frontmatter)) [] 5 (unwrap_or frontmatter (unwrap_or shebang 0))
all_pieces edition text None None u e = begun edition text u
all_pieces edition text (Some a) None u e = more_header edition text [] [] (0 ∷ []) [] 5 0 SHEBANG a (begun edition text u) e.first.0 e.first.1 refl refl refl
all_pieces edition text None (Some b) u e = more_header edition text [] [] (0 ∷ []) [] 5 0 FRONTMATTER b (begun edition text u) e.second.0 e.second.1 refl refl refl
all_pieces edition text (Some a) (Some b) u e =
    let one = more_header edition text [] [] (0 ∷ []) [] 5 0 SHEBANG a (begun edition text u) e.first.0 e.first.1 refl refl refl in
    more_header edition text _ _ _ [] 5 a FRONTMATTER b one e.second.0 e.second.1 refl refl refl

-- the same at what has them
pub header_begun : (edition : Edition) (text : List ℕ) (shebang frontmatter : Option ℕ) (ks ss : List ℕ) (errors : List Message) (offset : ℕ) → IsUtf8 text → AreEnds text shebang frontmatter → ks ≡ header_kinds shebang frontmatter → ss ≡ 0 ∷ (option_to_list shebang ++ option_to_list frontmatter) → errors ≡ [] → offset ≡ unwrap_or frontmatter (unwrap_or shebang 0) → Upto edition text (pieces text shebang frontmatter) ks ss errors 5 offset
header_begun edition text shebang frontmatter ks ss errors offset u ends e f g h = rw (e, f, g, h) (all_pieces edition text shebang frontmatter u ends)

-- a piece's kind is a token's
shebang_token : IsTokenKind SHEBANG
shebang_token = record { token = refl; some = λ e. cc e }

frontmatter_token : IsTokenKind FRONTMATTER
frontmatter_token = record { token = refl; some = λ e. cc e }

pub header_tokens : (shebang frontmatter : Option ℕ) → All IsTokenKind (header_kinds shebang frontmatter)
header_tokens None None = All-nil IsTokenKind
header_tokens (Some a) None = All-push IsTokenKind [] SHEBANG (All-nil IsTokenKind) shebang_token
header_tokens None (Some b) = All-push IsTokenKind [] FRONTMATTER (All-nil IsTokenKind) frontmatter_token
header_tokens (Some a) (Some b) = All-push IsTokenKind (SHEBANG ∷ []) FRONTMATTER (All-push IsTokenKind [] SHEBANG (All-nil IsTokenKind) shebang_token) frontmatter_token

module _ (edition : Edition) (text : List ℕ) (header : List Token) (ks ss : List ℕ) (errors : List Message) (since offset : ℕ) (u : Upto edition text header ks ss errors since offset) (small : length text < 2 ^ 32) (utf8 : IsUtf8 text) (done : length text ≤ offset) where
  pub starts : AreStarts text (length ks) ss
  starts = record {
    small = small;
    utf8 = utf8;
    long = u.long;
    begin = u.begin;
    finish = omega (arith, u.finish, u.within);
    rising = u.rising;
    borders = u.borders;
  }

  first_at : (i : ℕ) → length header ≤ i → i < length (cut text ks ss) → IsFirst edition (after_open (token_at (cut text ks ss)) i) (drop (start_of (cut text ks ss) i) text) (token_at (cut text ks ss) i) (drop (start_of (cut text ks ss) (i + 1)) text) (messages_of errors i)
  first_at i f h =
      let inside : i < length ks = omega (arith, length-cut text ks ss) in
      let s : since_open (token_at (cut text ks ss)) i ≡ since_open (piece text ks ss) i = since_same _ _ i (λ j m. token_at-cut text ks ss j (omega arith)) in
      move edition _ _ _ _ _ _ _ _ _ _ (ap (λ z. nat_lt z 5) s) (ap (λ z. drop z text) (start_of-cut text ks ss starts i (omega arith))) (token_at-cut text ks ss i inside) (ap (λ z. drop z text) (start_of-cut text ks ss starts (i + 1) (omega arith))) refl (u.each i f inside)

  header_at : (i : ℕ) → i < length header → token_at (cut text ks ss) i ≡ token_at header i
  header_at i h = token_at-cut text ks ss i (omega (arith, u.fits)) ∙ u.stand i h

  pub lexing : IsHeader edition text header → IsLexing text edition (record { tokens = cut text ks ss; errors = errors })
  lexing is_header = record {
    whole = joined-cut text ks ss starts;
    borders = λ i h. let l : i ≤ length ks = omega (arith, length-cut text ks ss) in subst (λ (x : ℕ). IsCharBoundary text x) (sym (start_of-cut text ks ss starts i l)) (u.borders i l);
    header = header;
    is_header = is_header;
    rest = drop (length header) (cut text ks ss);
    parts = front_from_reads (record { kind = EOF; text = [] }) (cut text ks ss) header (omega (arith, u.fits, length-cut text ks ss)) header_at;
    silent = u.silent;
    each = λ i l h. (after_open (token_at (cut text ks ss)) i, follows (cut text ks ss) i, first_at i l h);
    ordered = rw (length-cut text ks ss) u.ordered;
  }
