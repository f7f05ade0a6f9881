-- A text has one lexing.
use Rattle.std.proofs.Common.{◌≡◌, ◌≢◌, ℕ, zero, suc, ◌<◌, ◌≤◌, ◌+◌, ◌⊎◌, Bool, List, [], ◌∷◌, ◌++◌, Option, Some, None, MatchOption, length, length-append, drop, chars, Ok, map, IsUtf8, refl, ap, sym, ◌∙◌, subst, inl, inr, arith, eq-eqb, ne_eqb}
use Rattle.std.specs.Prelude.{◌↔◌, IsTrue, ⊤}
use Rattle.std.specs.List.{AllByRecursion}
use Rattle.std.proofs.lemmas.List.{append_cancel_right, append_cancel_left, drop_all, drop_more, drop_at}
use Rattle.std.proofs.lemmas.Bool.{cases_eq, cases_order, cases_lt}
use Rattle.std.proofs.lemmas.Str.{chars-nil, encodes-chars, IsUtf8-drop}
use Rattle.std.specs.Prelude.{encode_utf8_all}
use Rattle.rap_base.specs.declared.edition.Edition.{Edition}
use Rattle.rap_lexer.proofs.EscapeWalks.{reported_is}
use Rattle.rap_lexer.proofs.OneToken.{one_token}
use Rattle.rap_lexer.specs.Escape.{message}
use Rattle.rap_lexer.specs.EscapeWalk.{faults}
use Rattle.rap_lexer.specs.First.{First}
use Rattle.rap_lexer.specs.Lexeme.{with_remark}
use Rattle.rap_lexer.specs.declared.escape.Mode.{Mode}
use Rattle.rap_lexer.specs.declared.lexer.lexeme.Lexeme.{Lexeme}
use Rattle.rap_lexer.specs.declared.lexer.lexeme.Remark.{Remark}
use Rattle.rap_frontmatter.proofs.ScriptAnswers.{only_script}
use Rattle.rap_frontmatter.specs.OneAnswer.{IsOnlyScript}
use Rattle.rap_frontmatter.proofs.ScriptOnce.{line_once}
use Rattle.rap_frontmatter.specs.Script.{Script, IsScript, HasLine}
use Rattle.rap_lexed.proofs.Bodies.{body_once}
use Rattle.rap_lexed.proofs.Messages.{messages_of-past}
use Rattle.rap_lexed.proofs.OpenStrings.{same_note}
use Rattle.rap_lexed.proofs.Tokens.{joined-append, joined-from_start}
use Rattle.rap_lexed.specs.Header.{Leads, IsShebangLine, IsHeader, is_passed, pieces, script_pieces}
use Rattle.rap_lexed.specs.Header.Leads.{nothing, token, past}
use Rattle.rap_lexed.specs.LexedStr.{Token, Message, Lexed, IsLexing, IsFirst, AreInOrder, FollowsOpen, joined, start_of, token_at, messages_of}
use Rattle.rap_lexed.specs.OneLexing.{IsOnlyLexing}
use Rattle.rap_lexed.specs.Reported.{ReportsOf, ReportsFaults, IsBody, checked_mode}

-- ---- What stands before the first token

leads_once : {edition : Edition} {cs : List ℕ} {a b : Option ℕ} → Leads edition cs a → Leads edition cs b → a ≡ b
leads_once nothing nothing = refl
leads_once nothing (token _ rest t f p) = absurd f
leads_once nothing (past _ rest t kind f p l) = absurd f
leads_once (token _ rest t f p) nothing = absurd f
leads_once {edition} (token cs rest t f p) (token _ rest' t' f' p') = ap (λ (x : Lexeme). let o : Option ℕ = Some x.kind in o) (one_token edition cs t t' rest rest' f f').0
leads_once {edition} (token cs rest t f p) (past _ rest' t' kind f' p' l') =
    let e = (one_token edition cs t t' rest rest' f f').0 in
    let q = sym p ∙ (ap (λ (x : Lexeme). is_passed x.kind) e ∙ p') in
    cc
leads_once (past _ rest t kind f p l) nothing = absurd f
leads_once {edition} (past cs rest t kind f p l) (token _ rest' t' f' p') =
    let e = (one_token edition cs t t' rest rest' f f').0 in
    let q = sym p ∙ (ap (λ (x : Lexeme). is_passed x.kind) e ∙ p') in
    cc
leads_once {edition} (past cs rest t kind f p l) (past _ rest' t' kind' f' p' l') =
    let e = (one_token edition cs t t' rest rest' f f').1 in
    leads_once l (subst (λ (r : List ℕ). Leads edition r kind') (sym e) l')

same_after : (text a b : List ℕ) → text ≡ 35 ∷ 33 ∷ a → text ≡ 35 ∷ 33 ∷ b → a ≡ b
same_after text a b e f = let g : 35 ∷ 33 ∷ a ≡ 35 ∷ 33 ∷ b = sym e ∙ f in cc

leads_same : (edition : Edition) (text a b : List ℕ) (k k' : Option ℕ) → text ≡ 35 ∷ 33 ∷ a → text ≡ 35 ∷ 33 ∷ b → Leads edition (chars a) k → Leads edition (chars b) k' → k ≡ k'
leads_same edition text a b k k' e f l l' = leads_once l (subst (λ (x : List ℕ). Leads edition (chars x) k') (sym (same_after text a b e f)) l')

line_size : (text : List ℕ) (len len' next next' : ℕ) → HasLine text len next → HasLine text len' next' → len ≡ len'
line_size text len len' next next' h k =
    let s = line_once text h.line k.line h.end k.end h.rest k.rest h.first k.first in
    h.size ∙ (ap length s.line_is ∙ sym k.size)

shebang_once : (edition : Edition) (text : List ℕ) (a b : Option ℕ) → IsShebangLine edition text a → IsShebangLine edition text b → a ≡ b
shebang_once edition text None None h k = refl
shebang_once edition text None (Some n) (inl h) k = absurd (h k.after k.begins)
shebang_once edition text None (Some n) (inr h) k = absurd (k.no_bracket (leads_same edition text _ _ _ _ k.begins h.begins k.leads h.leads))
shebang_once edition text (Some n) None h (inl k) = absurd (k h.after h.begins)
shebang_once edition text (Some n) None h (inr k) = absurd (h.no_bracket (leads_same edition text _ _ _ _ h.begins k.begins h.leads k.leads))
shebang_once edition text (Some n) (Some m) h k = ap (λ (x : ℕ). Some x) (line_size text n m h.next k.next h.line k.line)

the_script : (text : List ℕ) (s : Script) → IsScript text s → IsOnlyScript text s
the_script text s h = only_script text (Ok s) h

header_once : (edition : Edition) (text : List ℕ) (a b : List Token) → IsHeader edition text a → IsHeader edition text b → a ≡ b
header_once edition text a b (inl h) (inl k) = h.is ∙ (ap script_pieces (sym ((the_script text h.script h.accepted).0 k.script k.accepted)) ∙ sym k.is)
header_once edition text a b (inl h) (inr k) = absurd ((the_script text h.script h.accepted).1 k.refusal k.refused)
header_once edition text a b (inr h) (inl k) = absurd ((the_script text k.script k.accepted).1 h.refusal h.refused)
header_once edition text a b (inr h) (inr k) = h.is ∙ (ap (λ o. pieces text o None) (shebang_once edition text h.shebang k.shebang h.line k.line) ∙ sym k.is)

-- ---- The tokens

-- Each of the tokens is the first of what they join to, and what follows it is text.
abbrev Run : Edition → List Token → Type 0
Run edition [] = ⊤
Run edition (t ∷ ts) =
    ((remark : Remark) × First edition (chars (joined (t ∷ ts))) (with_remark t.kind remark) (chars (joined ts))) × IsUtf8 (joined ts) × Run edition ts

same_text : (a b : List ℕ) → IsUtf8 a → IsUtf8 b → chars a ≡ chars b → a ≡ b
same_text a b u v e = sym (encodes-chars a u) ∙ (ap encode_utf8_all e ∙ encodes-chars b v)

no_first : (edition : Edition) (t : Token) (ts : List Token) → joined (t ∷ ts) ≡ [] → Run edition (t ∷ ts) → ⊥
no_first edition t ts e r = rw (e, chars-nil) at r.0.1

same_token : (t u : Token) → t.kind ≡ u.kind → t.text ≡ u.text → t ≡ u
same_token t u e f = rw (e, f) refl

run_once : (edition : Edition) (ts us : List Token) → joined ts ≡ joined us → Run edition ts → Run edition us → ts ≡ us
run_once edition [] [] e r s = refl
run_once edition [] (u ∷ us) e r s = absurd (no_first edition u us (sym e) s)
run_once edition (t ∷ ts) [] e r s = absurd (no_first edition t ts e r)
run_once edition (t ∷ ts) (u ∷ us) e r s =
    let f : First edition (chars (joined (t ∷ ts))) (with_remark u.kind s.0.0) (chars (joined us)) = subst (λ (l : List ℕ). First edition (chars l) (with_remark u.kind s.0.0) (chars (joined us))) (sym e) s.0.1 in
    let one = one_token edition (chars (joined (t ∷ ts))) (with_remark t.kind r.0.0) (with_remark u.kind s.0.0) (chars (joined ts)) (chars (joined us)) r.0.1 f in
    let rest : joined ts ≡ joined us = same_text (joined ts) (joined us) r.1 s.1 one.1 in
    let text : t.text ≡ u.text = append_cancel_right t.text u.text (joined us) (ap (λ l. t.text ++ l) (sym rest) ∙ e) in
    let token : t ≡ u = same_token t u (ap (λ (x : Lexeme). x.kind) one.0) text in
    let tokens : ts ≡ us = run_once edition ts us rest r.2 s.2 in
    rw (token, tokens) refl

-- the i-th token is the first of what remains, and what follows it is text
abbrev IsNext : Edition → List Token → ℕ → Type 0
IsNext edition ts i =
    ((remark : Remark) × First edition (chars (joined (drop i ts))) (with_remark (token_at ts i).kind remark) (chars (joined (drop (i + 1) ts)))) × IsUtf8 (joined (drop (i + 1) ts))

to_run : (edition : Edition) (ts : List Token) (n left : ℕ) → n + left ≡ length ts → ((i : ℕ) → n ≤ i → i < length ts → IsNext edition ts i) → Run edition (drop n ts)
to_run edition ts n zero e h = rw (drop_all n ts (omega (arith, e))) tt
to_run edition ts n (suc left) e h =
    let here : n < length ts = omega (arith, e) in
    let next = h n (omega arith) here in
    let split : drop n ts ≡ token_at ts n ∷ drop (n + 1) ts = drop_more ts n _ here in
    let first : First edition (chars (joined (token_at ts n ∷ drop (n + 1) ts))) (with_remark (token_at ts n).kind next.0.0) (chars (joined (drop (n + 1) ts))) = rw split at next.0.1 in
    rw split ((next.0.0, first), next.1, to_run edition ts (n + 1) left (omega (arith, e)) (λ i l m. h i (omega arith) m))

module _ (text : List ℕ) (edition : Edition) (utf8 : IsUtf8 text) (lexed : Lexed) (h : IsLexing text edition lexed) where
  remains : (i : ℕ) → drop (start_of lexed.tokens i) text ≡ joined (drop i lexed.tokens)
  remains i = ap (λ l. drop (start_of lexed.tokens i) l) (sym h.whole) ∙ joined-from_start lexed.tokens i

  next : (i : ℕ) → length h.header ≤ i → i < length lexed.tokens → IsNext edition lexed.tokens i
  next i l m =
      let f = (h.each i l m).2 in
      ((f.0, rw (remains i, remains (i + 1)) at f.1), rw (← remains (i + 1)) (IsUtf8-drop text (start_of lexed.tokens (i + 1)) utf8 (h.borders (i + 1) (omega arith))))

  split : joined h.header ++ joined h.rest ≡ text
  split = sym (ap joined h.parts ∙ joined-append h.header h.rest) ∙ h.whole

  count : length h.header + length h.rest ≡ length lexed.tokens
  count = sym (ap length h.parts ∙ length-append h.header h.rest)

  rest_run : Run edition h.rest
  rest_run =
      let rest : drop (length h.header) lexed.tokens ≡ h.rest = ap (λ l. drop (length h.header) l) h.parts ∙ drop_at h.header h.rest (length h.header) refl in
      subst (λ (ts : List Token). Run edition ts) rest (to_run edition lexed.tokens (length h.header) (length h.rest) count next)

-- ---- The messages

reports_once : (note : Bool) (text : List ℕ) (remark : Remark) (ms ns : List (List ℕ)) → ReportsOf note text remark ms → ReportsOf note text remark ns → ms ≡ ns
reports_once note text remark ms ns h k = by_mode (checked_mode remark) _ h k
  where
    by_mode : (o : Option Mode) (x : List (List ℕ)) → MatchOption o (ms ≡ x) (λ mode. (body : List ℕ) × IsBody mode text body × ReportsFaults mode body ms) → MatchOption o (ns ≡ x) (λ mode. (body : List ℕ) × IsBody mode text body × ReportsFaults mode body ns) → ms ≡ ns
    by_mode None x h k = h ∙ sym k
    by_mode (Some mode) x h k =
        let body : h.0 ≡ k.0 = body_once mode text h.0 k.0 h.1 k.1 in
        let same : h.2.0 ≡ k.2.0 = reported_is mode (chars h.0) h.2.0 h.2.1 ∙ (ap (λ b. faults mode (chars b)) body ∙ sym (reported_is mode (chars k.0) k.2.0 k.2.1)) in
        h.2.2 ∙ (ap (λ l. map (λ fault. message fault mode) l) same ∙ sym k.2.2)

first_once : (edition : Edition) (note : Bool) (text : List ℕ) (t : Token) (rest : List ℕ) (ms ns : List (List ℕ)) → IsFirst edition note text t rest ms → IsFirst edition note text t rest ns → ms ≡ ns
first_once edition note text t rest ms ns h k =
    let one = one_token edition (chars text) (with_remark t.kind h.0) (with_remark t.kind k.0) (chars rest) (chars rest) h.1 k.1 in
    let remark : h.0 ≡ k.0 = ap (λ (x : Lexeme). x.remark) one.0 in
    reports_once note t.text h.0 ms ns h.2 (subst (λ (r : Remark). ReportsOf note t.text r ns) (sym remark) k.2)

-- what is reported about the i-th token
abbrev IsAt : Edition → List ℕ → List Token → ℕ → List (List ℕ) → Type 0
IsAt edition text ts i ms =
    (note : Bool) × (IsTrue note ↔ FollowsOpen ts i) × IsFirst edition note (drop (start_of ts i) text) (token_at ts i) (drop (start_of ts (i + 1)) text) ms

at_once : (edition : Edition) (text : List ℕ) (ts : List Token) (i : ℕ) (ms ns : List (List ℕ)) → IsAt edition text ts i ms → IsAt edition text ts i ns → ms ≡ ns
at_once edition text ts i ms ns h k =
    let note : h.0 ≡ k.0 = same_note h.0 k.0 (FollowsOpen ts i) h.1 k.1 in
    first_once edition k.0 _ _ _ ms ns (subst (λ (b : Bool). IsFirst edition b (drop (start_of ts i) text) (token_at ts i) (drop (start_of ts (i + 1)) text) ms) note h.2) k.2

-- messages about later tokens alone
none_before : (ms : List Message) (i n : ℕ) → i < n → AllByRecursion (λ (later : Message). n ≤ later.token) ms → messages_of ms i ≡ []
none_before [] i n l h = refl
none_before (m ∷ ms) i n l h =
    let d : m.token ≢ i = λ e. absurd (omega (arith, h.0)) in
    rw (ne_eqb m.token i d) (none_before ms i n l h.1)

-- a message is about a token that the other list has none about
not_before : (most : ℕ) (x y : Message) (xs ys : List Message) → AreInOrder most (y ∷ ys) → x.token < y.token → messages_of (x ∷ xs) x.token ≡ messages_of (y ∷ ys) x.token → ⊥
not_before most x y xs ys o l e =
    let none : messages_of (y ∷ ys) x.token ≡ [] = none_before (y ∷ ys) x.token y.token l (omega arith, o.1) in
    let some : messages_of (x ∷ xs) x.token ≡ x.text ∷ messages_of xs x.token = rw (eq-eqb x.token x.token refl) refl in
    let z : x.text ∷ messages_of xs x.token ≡ [] = sym some ∙ (e ∙ none) in
    cc

same_message : (x y : Message) → x.token ≡ y.token → x.text ≡ y.text → x ≡ y
same_message x y e f = rw (e, f) refl

errors_once : (most : ℕ) (xs ys : List Message) → AreInOrder most xs → AreInOrder most ys → ((i : ℕ) → messages_of xs i ≡ messages_of ys i) → xs ≡ ys
errors_once most [] [] o p h = refl
errors_once most [] (y ∷ ys) o p h = let e = h y.token in let z = rw (eq-eqb y.token y.token refl) at e in cc
errors_once most (x ∷ xs) [] o p h = let e = h x.token in let z = rw (eq-eqb x.token x.token refl) at e in cc
errors_once most (x ∷ xs) (y ∷ ys) o p h = by_order (λ f. errors_once most xs ys o.2 p.2 f) (cases_order x.token y.token)
  where
    at_one : (m : Message) (ms : List Message) → messages_of (m ∷ ms) m.token ≡ m.text ∷ messages_of ms m.token
    at_one m ms = rw (eq-eqb m.token m.token refl) refl

    at_other : (m : Message) (ms : List Message) (i : ℕ) → m.token ≢ i → messages_of (m ∷ ms) i ≡ messages_of ms i
    at_other m ms i d = rw (ne_eqb m.token i d) refl

    first : x.token ≡ y.token → x.text ∷ messages_of xs x.token ≡ y.text ∷ messages_of ys x.token
    first e = sym (at_one x xs) ∙ (h x.token ∙ (ap (λ i. messages_of (y ∷ ys) i) e ∙ (at_one y ys ∙ ap (λ i. y.text ∷ messages_of ys i) (sym e))))

    later : x.token ≡ y.token → (i : ℕ) → messages_of xs i ≡ messages_of ys i
    later e i = elim (cases_eq x.token i) as (λ _. messages_of xs i ≡ messages_of ys i) [
      | inl f ↦ let both = first e in let tails : messages_of xs x.token ≡ messages_of ys x.token = cc in subst (λ (j : ℕ). messages_of xs j ≡ messages_of ys j) f tails
      | inr d ↦ sym (at_other x xs i d) ∙ (h i ∙ at_other y ys i (λ f. d (e ∙ f)))
    ]

    by_order : (((i : ℕ) → messages_of xs i ≡ messages_of ys i) → xs ≡ ys) → (x.token ≡ y.token) ⊎ ((x.token < y.token) ⊎ (y.token < x.token)) → x ∷ xs ≡ y ∷ ys
    by_order rest (inl e) =
        let both = first e in
        let text : x.text ≡ y.text = cc in
        let message : x ≡ y = same_message x y e text in
        let tails : xs ≡ ys = rest (later e) in
        rw (message, tails) refl
    by_order rest (inr (inl l)) = absurd (not_before most x y xs ys p l (h x.token))
    by_order rest (inr (inr l)) = absurd (not_before most y x ys xs o l (sym (h y.token)))

same_lexed : (a b : Lexed) → a.tokens ≡ b.tokens → a.errors ≡ b.errors → a ≡ b
same_lexed a b e f = rw (e, f) refl

pub only_lexing : (text : List ℕ) (edition : Edition) (lexed : Lexed) → IsUtf8 text → IsLexing text edition lexed → IsOnlyLexing text edition lexed
only_lexing text edition lexed utf8 h other k =
    let header : k.header ≡ h.header = header_once edition text k.header h.header k.is_header h.is_header in
    let rest_text : joined k.rest ≡ joined h.rest = append_cancel_left (joined h.header) (joined k.rest) (joined h.rest) (ap (λ l. joined l ++ joined k.rest) (sym header) ∙ (split text edition utf8 other k ∙ sym (split text edition utf8 lexed h))) in
    let rest : k.rest ≡ h.rest = run_once edition k.rest h.rest rest_text (rest_run text edition utf8 other k) (rest_run text edition utf8 lexed h) in
    let tokens : other.tokens ≡ lexed.tokens = k.parts ∙ (ap (λ l. l ++ k.rest) header ∙ (ap (λ l. h.header ++ l) rest ∙ sym h.parts)) in
    let size : length k.header ≡ length h.header = ap length header in
    let silent : (i : ℕ) → i < length h.header → messages_of other.errors i ≡ messages_of lexed.errors i = λ i l. k.silent i (omega (arith, size)) ∙ sym (h.silent i l) in
    let each : (i : ℕ) → length h.header ≤ i → i < length lexed.tokens → messages_of other.errors i ≡ messages_of lexed.errors i = λ i l m.
    let there = k.each i (omega (arith, size)) (omega (arith, ap length tokens)) in
    at_once edition text lexed.tokens i _ _ (subst (λ (ts : List Token). IsAt edition text ts i (messages_of other.errors i)) tokens there) (h.each i l m) in
    let past : (i : ℕ) → length lexed.tokens ≤ i → messages_of other.errors i ≡ messages_of lexed.errors i = λ i l. messages_of-past (length other.tokens) i other.errors k.ordered (omega (arith, ap length tokens)) ∙ sym (messages_of-past (length lexed.tokens) i lexed.errors h.ordered l) in
    let same : (i : ℕ) → messages_of other.errors i ≡ messages_of lexed.errors i = λ i. elim (cases_lt i (length h.header)) as (λ _. messages_of other.errors i ≡ messages_of lexed.errors i) [
      | inl l ↦ silent i l
      | inr l ↦ elim (cases_lt i (length lexed.tokens)) as (λ _. messages_of other.errors i ≡ messages_of lexed.errors i) [
        | inl m ↦ each i l m
        | inr m ↦ past i m
      ]
    ] in
    let errors : other.errors ≡ lexed.errors = errors_once (length lexed.tokens) other.errors lexed.errors (rw tokens at k.ordered) h.ordered same in
    same_lexed other lexed tokens errors
