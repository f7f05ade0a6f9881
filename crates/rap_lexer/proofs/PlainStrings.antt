-- Plain strings by their bytes.
use Rattle.std.proofs.Common.{◌≡◌, ◌≢◌, ◌<◌, ◌≤◌, ◌+◌, ◌-◌, ℕ, zero, suc, Bool, true, false, ◌&&◌, ◌||◌, ◌==◌, not, List, [], ◌∷◌, ◌++◌, Option, Some, None, Ok, if◌then◌else◌, length, take, drop, get_or, get_or-drop, length-drop, chars, encode_utf8_all, IsUtf8, IsAscii, refl, ap, sym, ◌∙◌, subst, inl, inr, arith, append-nil, length-append}
use Rattle.std.specs.Prelude.{is_some}
use Rattle.std.proofs.lemmas.Bool.{cases_lt, or_parts, true≢false, eqb-true, eqb-false, ne_eqb}
use Rattle.std.proofs.lemmas.Bool.Decides.{eqb_tells}
use Rattle.std.proofs.lemmas.List.{append_assoc, drop-drop, nil_from_length, take_rest}
use Rattle.std.proofs.lemmas.Str.{chars-append, chars-IsAscii, chars-nil, encodes-chars, length-le-encodes, IsUtf8-append, IsUtf8-take, IsUtf8-from_ascii, IsCharBoundary-after_ascii}
use Rattle.std.proofs.lemmas.Str.Ascii.{IsAscii-nil, IsAscii-cons}
use Rattle.std.proofs.Math.Seq.{drop-append_seam, take-append_seam}
use Rattle.std.specs.Str.{byte}
use Rattle.rap_base.specs.TokenKind.{STRING}
use Rattle.rap_base.specs.declared.edition.Edition.{Edition}
use Rattle.rap_lexer.specs.Class.{is_in}
use Rattle.rap_lexer.specs.Common.{next_fits}
use Rattle.rap_lexer.specs.Escape.{simple_escape, StringReports}
use Rattle.rap_lexer.specs.Escape.Character.{plain, escaped}
use Rattle.rap_lexer.specs.Escape.Escape.{simple}
use Rattle.rap_lexer.specs.Escape.StringReports.{end, next}
use Rattle.rap_lexer.specs.First.{First}
use Rattle.rap_lexer.specs.Lexeme.{literal}
use Rattle.rap_lexer.specs.Plain.{begins_suffix}
use Rattle.rap_lexer.specs.PlainLiteral.{is_simple, is_plain_string, ends_plainly, IsPlainLiteral}
use Rattle.rap_lexer.specs.Quoted.{IsLiteral, StringRun}
use Rattle.rap_lexer.specs.Run.{next_is, next_in, tail, run_of, after_run, after_suffix}
use Rattle.rap_lexer.specs.declared.escape.Mode.TheVariants.{Str}
use Rattle.rap_lexer.specs.declared.lexer.lexeme.Lexeme.{Lexeme}
use Rattle.rap_lexer.specs.declared.lexer.run.Class.TheVariants.{White, InString, IdentStart, Digit}
use Rattle.rap_lexer.proofs.AsciiClasses.{starts}
use Rattle.rap_lexer.proofs.AsciiRuns.{after_head, utf8_rest}
use Rattle.rap_lexer.proofs.CommonTokens.{chars_head, without}
use Rattle.rap_lexer.proofs.Leads.{Leads, leads_start}
use Rattle.rap_lexer.proofs.PlainNumbers.{no_suffix}
use Rattle.rap_lexer.proofs.Runs.{run_of-after_run, after_drop}
use Rattle.rap_lexer.proofs.Strings.{at_quote, past_escape, past_other, past_text}
use Rattle.rap_lexer.proofs.TextRuns.{after_encodes, utf8_after, chars_after, border}

-- ---- Text without a backslash

abbrev text_in : ℕ → Bool
text_in = is_in InString

ends_text : (c : ℕ) → text_in c ≡ false → c < 128
ends_text c h = grind (arith, h)

no_backslash : (c : ℕ) → text_in c ≡ true → c ≢ 92
no_backslash c h e = true≢false (sym h ∙ ap text_in e)

quiet_run : (cs : List ℕ) → after_run text_in cs ≡ [] → (ys : List ℕ) → StringReports Str ys [] → StringReports Str (cs ++ ys) []
quiet_run [] e ys h = h
quiet_run (c ∷ cs) e ys h =
    (elim (text_in c) as (λ z. text_in c ≡ z → (if z then after_run text_in cs else (c ∷ cs)) ≡ [] → StringReports Str (c ∷ (cs ++ ys)) []) [
      | true ↦ λ f g. let n = no_backslash c f in next (c ∷ (cs ++ ys)) (Ok c) (cs ++ ys) [] (λ rest k. let l : c ≡ 92 = cc in n l) (plain c (cs ++ ys) n) (quiet_run cs g ys h)
      | false ↦ λ f g. cc
    ]) refl e

run_all : (p : ℕ → Bool) (bs : List ℕ) → after_run p (run_of p bs) ≡ []
run_all p [] = refl
run_all p (b ∷ bs) =
    (elim (p b) as (λ z. p b ≡ z → after_run p (if z then b ∷ run_of p bs else []) ≡ []) [
      | true ↦ λ h. rw h (run_all p bs)
      | false ↦ λ h. refl
    ]) refl

-- the characters of bytes that are text are text
text_chars : (xs : List ℕ) → IsUtf8 xs → after_run text_in xs ≡ [] → after_run text_in (chars xs) ≡ []
text_chars xs u h =
    let e : encode_utf8_all (after_run text_in (chars xs)) ≡ [] = sym (after_encodes text_in ends_text (chars xs)) ∙ (ap (after_run text_in) (encodes-chars xs u) ∙ h) in
    nil_from_length (after_run text_in (chars xs)) (omega (arith, length-le-encodes (after_run text_in (chars xs)), ap length e))

-- ---- Escapes of one character

pub some_of : (o : Option ℕ) → is_some o ≡ true → (v : ℕ) × (o ≡ Some v)
some_of None h = cc
some_of (Some v) h = (v, refl)

big : (c : ℕ) → 128 ≤ c → is_simple c ≡ false
big c l =
    let n : (c == byte "n") ≡ false = grind (arith, l) in
    let r : (c == byte "r") ≡ false = grind (arith, l) in
    let t : (c == byte "t") ≡ false = grind (arith, l) in
    let b : (c == byte "\\") ≡ false = grind (arith, l) in
    let q : (c == byte "'") ≡ false = grind (arith, l) in
    let d : (c == byte "\"") ≡ false = grind (arith, l) in
    let z : (c == byte "0") ≡ false = grind (arith, l) in
    rw (n, r, t, b, q, d, z) refl

pub simple_low : (c : ℕ) → is_simple c ≡ true → c < 128
simple_low c h = elim (cases_lt c 128) [
  | inl l ↦ l
  | inr l ↦ absurd (true≢false (sym h ∙ big c l))
]

quiet_escape : (c : ℕ) → is_simple c ≡ true → (ys : List ℕ) → StringReports Str ys [] → StringReports Str (92 ∷ c ∷ ys) []
quiet_escape c h ys r =
    let v = some_of (simple_escape c) h in
    next (92 ∷ c ∷ ys) (Ok v.0) ys [] (λ rest k. let l : c ≡ 10 = cc in true≢false (sym h ∙ ap is_simple l)) (escaped (c ∷ ys) (Ok v.0) ys (simple c v.0 ys v.1)) r

lead_escape : (start cs : List ℕ) (c : ℕ) → Leads StringRun start (92 ∷ c ∷ cs) → Leads StringRun start cs
lead_escape start cs c l =
    (elim ((c == 92) || (c == 34)) as (λ z. ((c == 92) || (c == 34)) ≡ z → Leads StringRun start cs) [
      | true ↦ λ h. past_escape start (92 ∷ c ∷ cs) l 92 (c ∷ cs) refl h
      | false ↦ λ h.
          let parts = or_parts (c == 92) (c == 34) h in
          let there = past_other start (92 ∷ c ∷ cs) l 92 (c ∷ cs) refl (eqb-false 92 34 refl) h in
          past_other start (c ∷ cs) there c cs refl (eqb-false c 34 parts.1) (ap (λ z. z && (next_is 92 cs || next_is 34 cs)) parts.0)
    ]) refl

-- ---- What was passed over

-- From the opening quote to this place stands text with escapes of one character.
pub record Passed (text : List ℕ) (at : ℕ) : Type 0 where
  pub body : List ℕ
  pub split : drop 1 text ≡ body ++ drop at text
  pub size : at ≡ length body + 1
  pub within : at ≤ length text
  pub utf8 : IsUtf8 body
  pub left : IsUtf8 (drop at text)
  pub leads : Leads StringRun (chars (drop 1 text)) (chars (drop at text))
  pub quiet : (ys : List ℕ) → StringReports Str ys [] → StringReports Str (chars body ++ ys) []
  pub same : ends_plainly false (drop 1 text) ≡ ends_plainly false (drop at text)

pub begun : (text : List ℕ) → IsUtf8 text → next_is (byte "\"") text ≡ true → Passed text 1
begun [] u h = cc
begun (c ∷ t) u h =
    let q : c ≡ 34 = eqb-true c 34 h in
    let left : IsUtf8 t = utf8_rest (c ∷ []) t (IsAscii-cons c [] (omega (arith, q)) IsAscii-nil) u in
    record {
      body = [];
      split = refl;
      size = omega arith;
      within = omega arith;
      utf8 = IsUtf8-from_ascii [] IsAscii-nil;
      left = left;
      leads = leads_start StringRun (chars t);
      quiet = λ ys r. rw chars-nil r;
      same = refl;
    }

module _ (text : List ℕ) (at : ℕ) (p : Passed text at) where
  -- past a piece of the body
  step : (xs rest : List ℕ) (k : ℕ) → drop at text ≡ xs ++ rest → k ≡ length xs → IsUtf8 xs → IsUtf8 rest → Leads StringRun (chars (drop 1 text)) (chars rest)
      → ((ys : List ℕ) → StringReports Str ys [] → StringReports Str (chars xs ++ ys) []) → ends_plainly false (drop at text) ≡ ends_plainly false rest → Passed text (at + k)
  step xs rest k e n ux ur leads quiet same =
      let there : drop (at + k) text ≡ rest = sym (drop-drop k at text) ∙ (ap (drop k) e ∙ (ap (λ i. drop i (xs ++ rest)) n ∙ drop-append_seam xs rest)) in
      record {
        body = p.body ++ xs;
        split = rw there (p.split ∙ (ap (λ l. p.body ++ l) e ∙ sym (append_assoc p.body xs rest)));
        size = omega (arith, p.size, n, length-append p.body xs);
        within = omega (arith, p.within, n, ap length e, length-append xs rest, length-drop at text);
        utf8 = IsUtf8-append p.body xs p.utf8 ux;
        left = rw there ur;
        leads = rw there leads;
        quiet = λ ys r. rw (chars-append p.body xs p.utf8, append_assoc (chars p.body) (chars xs) ys) (p.quiet (chars xs ++ ys) (quiet ys r));
        same = rw there (p.same ∙ same);
      }

  same_run : (bs : List ℕ) → ends_plainly false bs ≡ ends_plainly false (after_run text_in bs)
  same_run [] = refl
  same_run (b ∷ bs) =
      (elim (b == 34) as (λ z. (b == 34) ≡ z → (if z then not (next_fits begins_suffix bs) else ends_plainly (b == 92) bs) ≡ ends_plainly false (if not (z || (b == 92)) then after_run text_in bs else (b ∷ bs))) [
        | true ↦ λ q. sym (ap (λ z. if z then not (next_fits begins_suffix bs) else ends_plainly (b == 92) bs) q)
        | false ↦ λ q. (elim (b == 92) as (λ z. (b == 92) ≡ z → ends_plainly z bs ≡ ends_plainly false (if not z then after_run text_in bs else (b ∷ bs))) [
          | true ↦ λ k. sym (ap (λ z. if z then not (next_fits begins_suffix bs) else ends_plainly (b == 92) bs) q ∙ ap (λ z. ends_plainly z bs) k)
          | false ↦ λ k. same_run bs
        ]) refl
      ]) refl

  pub past_run : (n : ℕ) → n ≡ length (run_of (is_in InString) (drop at text)) → Passed text (at + n)
  past_run n e =
      let here = drop at text in
      let xs = run_of text_in here in
      let rest = after_run text_in here in
      let join = run_of-after_run text_in here in
      let whole : take (length xs) here ≡ xs = ap (take (length xs)) (sym join) ∙ take-append_seam xs rest in
      let ux : IsUtf8 xs = subst (λ l. IsUtf8 l) whole (IsUtf8-take here (length xs) p.left (border text_in ends_text here p.left)) in
      let after : chars rest ≡ after_run text_in (chars here) = ap chars (sym (after_drop text_in here)) ∙ chars_after text_in ends_text here p.left in
      step xs rest n (sym join) e ux (utf8_after text_in ends_text here p.left) (rw after (past_text (chars (drop 1 text)) (chars here) p.leads))
      (quiet_run (chars xs) (text_chars xs ux (run_all text_in here))) (same_run here)

  pub past_simple : (c : ℕ) (rest : List ℕ) → drop at text ≡ 92 ∷ c ∷ rest → is_simple c ≡ true → Passed text (at + 2)
  past_simple c rest e h =
      let xs : List ℕ = 92 ∷ c ∷ [] in
      let low : IsAscii xs = IsAscii-cons 92 (c ∷ []) (omega arith) (IsAscii-cons c [] (simple_low c h) IsAscii-nil) in
      let ux : IsUtf8 xs = IsUtf8-from_ascii xs low in
      let spelt : chars xs ≡ xs = chars-IsAscii xs low in
      let there : chars (drop at text) ≡ 92 ∷ c ∷ chars rest = ap chars e ∙ (chars-append xs rest ux ∙ ap (λ l. l ++ chars rest) spelt) in
      step xs rest 2 e refl ux (utf8_rest xs rest low (rw e at p.left)) (lead_escape (chars (drop 1 text)) (chars rest) c (rw there at p.leads))
      (λ ys r. rw spelt (quiet_escape c h ys r)) (ap (ends_plainly false) e ∙ ap (λ z. z && ends_plainly false rest) h)

-- ---- The whole string

first_quote : (edition : Edition) (c : ℕ) (cs : List ℕ) (token : Lexeme) (rest : List ℕ) → is_in White c ≡ false → is_in IdentStart c ≡ false → is_in Digit c ≡ false → (c == byte "/") ≡ false → (c == byte "'") ≡ false → (c == byte "\"") ≡ true
    → IsLiteral StringRun STRING Str cs token rest → First edition (c ∷ cs) token rest
first_quote edition c cs token rest w s d k t q h = rw (w, s, d, k, t, q) h

-- a string by the rules
pub first_literal : (edition : Edition) (cs : List ℕ) (token : Lexeme) (rest : List ℕ) → IsLiteral StringRun STRING Str cs token rest → First edition (34 ∷ cs) token rest
first_literal edition cs token rest = first_quote edition 34 cs token rest (without White 34 (omega arith) refl) (without IdentStart 34 (omega arith) (sym (starts 34))) refl refl refl refl

first_string : (edition : Edition) (cs rest : List ℕ) → StringRun cs true rest → next_in IdentStart rest ≡ false → First edition (34 ∷ cs) (literal STRING Str true) rest
first_string edition cs rest run s =
    let suffix : rest ≡ after_suffix rest = rw s refl in
    first_literal edition cs (literal STRING Str true) rest (true, rest, run, refl, suffix)

pub plain_string : (text : List ℕ) (at : ℕ) (after : List ℕ) → IsUtf8 text → next_is (byte "\"") text ≡ true → Passed text at → drop at text ≡ 34 ∷ after → next_fits begins_suffix (drop (at + 1) text) ≡ false → IsPlainLiteral text STRING Str (at + 1)
plain_string [] at after u q p e h = cc
plain_string (c ∷ t) at after u q p e h =
    let text = c ∷ t in
    let quote : c ≡ 34 = eqb-true c 34 q in
    let next : drop (at + 1) text ≡ after = sym (drop-drop 1 at text) ∙ ap (drop 1) e in
    let low : IsAscii (34 ∷ []) = IsAscii-cons 34 [] (omega arith) IsAscii-nil in
    let here : chars (drop at text) ≡ 34 ∷ chars after = ap chars e ∙ (chars-append (34 ∷ []) after (IsUtf8-from_ascii (34 ∷ []) low) ∙ ap (λ l. l ++ chars after) (chars-IsAscii (34 ∷ []) low)) in
    let ua : IsUtf8 after = utf8_rest (34 ∷ []) after low (rw e at p.left) in
    let run = at_quote (chars t) (chars (drop at text)) p.leads 34 (chars after) here refl in
    let start : next_in IdentStart (chars after) ≡ false = no_suffix after ua (rw next at h) in
    let there : at < length text = omega (arith, ap length e, length-drop at text) in
    let head : chars text ≡ 34 ∷ chars t = chars_head c t u (omega (arith, quote)) ∙ ap (λ x. x ∷ chars t) quote in
    let mark : get_or text at 0 ≡ 34 = let z : at + 0 ≡ at = omega arith in sym (get_or-drop at text 0 0 ∙ ap (λ k. get_or text k 0) z) ∙ ap (λ l. get_or l 0 0) e in
    record {
      token = λ edition. rw (head, next) (first_string edition (chars t) (chars after) run start);
      border = IsCharBoundary-after_ascii text at u there (omega (arith, mark));
      body = p.body;
      rest = after;
      split = ap (λ x. x ∷ t) quote ∙ ap (λ l. 34 ∷ l) (p.split ∙ ap (λ l. p.body ++ l) e);
      size = omega (arith, p.size);
      nothing = rw (append-nil (chars p.body)) at (p.quiet [] end);
    }

-- ---- What is no plain string

pub no_end : (text : List ℕ) (at : ℕ) → Passed text at → drop at text ≡ [] → ends_plainly false (drop 1 text) ≡ false
no_end text at p e = p.same ∙ ap (ends_plainly false) e

pub no_escape : (text : List ℕ) (at : ℕ) (rest : List ℕ) → Passed text at → drop at text ≡ 92 ∷ rest → next_fits is_simple rest ≡ false → ends_plainly false (drop 1 text) ≡ false
no_escape text at [] p e h = p.same ∙ ap (ends_plainly false) e
no_escape text at (c ∷ rest) p e h = p.same ∙ (ap (ends_plainly false) e ∙ ap (λ z. z && ends_plainly false rest) h)

pub at_end : (text : List ℕ) (at : ℕ) (after : List ℕ) → Passed text at → drop at text ≡ 34 ∷ after → ends_plainly false (drop 1 text) ≡ not (next_fits begins_suffix (drop (at + 1) text))
at_end text at after p e =
    let next : drop (at + 1) text ≡ after = sym (drop-drop 1 at text) ∙ ap (drop 1) e in
    rw next (p.same ∙ ap (ends_plainly false) e)

pub whole_test : (text : List ℕ) (r : Bool) → next_is (byte "\"") text ≡ true → ends_plainly false (drop 1 text) ≡ r → next_is (byte "\"") text && ends_plainly false (tail text) ≡ r
whole_test [] r q h = cc
whole_test (c ∷ t) r q h = rw q h

-- ---- The steps of the walk over the bytes

pub head_at : (text : List ℕ) (at : ℕ) → at < length text → drop at text ≡ get_or text at 0 ∷ drop (at + 1) text
head_at [] at l = absurd (omega (arith, l))
head_at (x ∷ xs) zero l = refl
head_at (x ∷ xs) (suc n) l = let more : suc n + 1 ≡ suc (n + 1) = omega arith in rw more (head_at xs n (omega (arith, l)))

-- past the text without a backslash
pub run_passed : (text bytes : List ℕ) (at n : ℕ) → bytes ≡ text → Passed text at → n ≡ length (run_of (is_in InString) (take (length bytes - at) (drop at bytes))) → Passed text (at + n)
run_passed text bytes at n e p r = past_run text at p n (rw e at (r ∙ ap (λ l. length (run_of (is_in InString) l)) (take_rest bytes at)))

-- what ends it, if that is no quote
pub run_ends : (text bytes : List ℕ) (at n : ℕ) → bytes ≡ text → n ≡ length (run_of (is_in InString) (take (length bytes - at) (drop at bytes))) → at + n < length text → get_or text (at + n) 0 ≢ 34 → get_or text (at + n) 0 ≡ 92
run_ends text bytes at n e r l q =
    let c = get_or text (at + n) 0 in
    let run : n ≡ length (run_of text_in (drop at text)) = rw e at (r ∙ ap (λ l. length (run_of (is_in InString) l)) (take_rest bytes at)) in
    let next : after_run text_in (drop at text) ≡ c ∷ drop (at + n + 1) text = sym (after_drop text_in (drop at text)) ∙ (ap (λ i. drop i (drop at text)) (sym run) ∙ (drop-drop n at text ∙ head_at text (at + n) l)) in
    let stops : text_in c ≡ false = after_head text_in (drop at text) c (drop (at + n + 1) text) next in
    elim (eqb_tells c 92) [
      | inl k ↦ k.1
      | inr k ↦ let goes : text_in c ≡ true = rw (ne_eqb c 34 q, k.0) refl in absurd (true≢false (sym goes ∙ stops))
    ]

module _ (text : List ℕ) (at : ℕ) (u : IsUtf8 text) (q : next_is (byte "\"") text ≡ true) (p : Passed text at) where
  pub closed : at < length text → get_or text at 0 ≡ 34 → next_fits begins_suffix (drop (at + 1) text) ≡ false → IsPlainLiteral text STRING Str (at + 1)
  closed l m h = plain_string text at (drop (at + 1) text) u q p (head_at text at l ∙ ap (λ x. x ∷ drop (at + 1) text) m) h

  pub closed_is : (r : Bool) → at < length text → get_or text at 0 ≡ 34 → next_fits begins_suffix (drop (at + 1) text) ≡ r → is_plain_string text ≡ not r
  closed_is r l m h = whole_test text (not r) q (at_end text at (drop (at + 1) text) p (head_at text at l ∙ ap (λ x. x ∷ drop (at + 1) text) m) ∙ ap not h)

  pub runs_out : length text ≤ at → is_plain_string text ≡ false
  runs_out l = whole_test text false q (no_end text at p (nil_from_length (drop at text) (omega (arith, length-drop at text, l))))

  pub foreign : at < length text → get_or text at 0 ≡ 92 → next_fits is_simple (drop (at + 1) text) ≡ false → is_plain_string text ≡ false
  foreign l m h = whole_test text false q (no_escape text at (drop (at + 1) text) p (head_at text at l ∙ ap (λ x. x ∷ drop (at + 1) text) m) h)

  pub simply : at + 1 < length text → get_or text at 0 ≡ 92 → is_simple (get_or text (at + 1) 0) ≡ true → Passed text (at + 2)
  simply l m h = past_simple text at p (get_or text (at + 1) 0) (drop (at + 1 + 1) text) (head_at text at (omega (arith, l)) ∙ (ap (λ x. x ∷ drop (at + 1) text) m ∙ ap (λ x. 92 ∷ x) (head_at text (at + 1) l))) h
