-- Messages that are added.
use Rattle.std.proofs.Common.{◌≡◌, ◌≢◌, ℕ, zero, suc, ◌<◌, length, drop, get_or, get_or-drop, length-drop, true, false, ◌+◌, ◌≤◌, ◌==◌, arith, eq-eqb, ne_eqb, List, [], ◌∷◌, ◌++◌, Bool, Option, Some, None, option_to_list, MatchOption, if◌then◌else◌, map, refl, ap, sym, ◌∙◌, subst, append_assoc}
use Rattle.std.proofs.lemmas.List.{map_push, drop_more}
use Rattle.std.specs.List.Sorted.{IsNonDecreasingBy, IsPartitionPoint}
use Rattle.rap_lexer.specs.declared.escape.Mode.{Mode}
use Rattle.rap_lexer.specs.declared.lexer.lexeme.Remark.{Remark}
use Rattle.rap_lexed.specs.About.{about}
use Rattle.std.specs.List.{AllByRecursion, AllWithin}
use Rattle.rap_lexed.specs.LexedStr.{Message, AreInOrder, messages_of, error_of}
use Rattle.rap_lexed.specs.Reported.{checked_mode, has_note, prefix_note, fixed_message, ReportsFaults, ReportsOf, IsBody}

no_mode : (P : Type 0) (Q : Mode → Type 0) (o : Option Mode) → o ≡ None → P → MatchOption o P Q
no_mode P Q None e p = p
no_mode P Q (Some mode) e p = cc

-- what is reported about a token that is no literal to check
pub reports_other : (after_open : Bool) (text : List ℕ) (remark : Remark) (ms : List (List ℕ)) → checked_mode remark ≡ None → ms ≡ (if has_note after_open remark then prefix_note text ∷ [] else option_to_list (fixed_message remark)) → ReportsOf after_open text remark ms
reports_other after_open text remark ms e h = no_mode _ (λ mode. (body : List ℕ) × IsBody mode text body × ReportsFaults mode body ms) (checked_mode remark) e h

the_mode : (P : Type 0) (Q : Mode → Type 0) (o : Option Mode) (mode : Mode) → o ≡ Some mode → Q mode → MatchOption o P Q
the_mode P Q None mode e q = cc
the_mode P Q (Some other) mode e q = let f : mode ≡ other = cc in subst Q f q

-- what is reported about a literal to check
pub reports_checked : (after_open : Bool) (text : List ℕ) (remark : Remark) (mode : Mode) (body : List ℕ) (ms : List (List ℕ)) → checked_mode remark ≡ Some mode → IsBody mode text body → ReportsFaults mode body ms → ReportsOf after_open text remark ms
reports_checked after_open text remark mode body ms e b h = the_mode _ (λ mode. (body : List ℕ) × IsBody mode text body × ReportsFaults mode body ms) (checked_mode remark) mode e (body, b, h)

-- one message more
pub adds_more : {X : Type 0} (f : X → List ℕ) (token : ℕ) (start errors more : List Message) (done : List X) (x : X) → errors ≡ start ++ about token (map f done) → more ≡ errors ++ about token (f x ∷ []) → more ≡ start ++ about token (map f (done ++ x ∷ []))
adds_more f token start errors more done x e h =
    let texts : map f (done ++ x ∷ []) ≡ map f done ++ f x ∷ [] = map_push f done x in
    let all : about token (map f (done ++ x ∷ [])) ≡ about token (map f done) ++ about token (f x ∷ []) = ap (λ l. about token l) texts ∙ map_push (λ text. record { token = token; text = text }) (map f done) (f x) in
    h ∙ (ap (λ l. l ++ about token (f x ∷ [])) e ∙ (append_assoc start (about token (map f done)) (about token (f x ∷ [])) ∙ ap (λ l. start ++ l) (sym all)))

pub messages_of-append : (xs ys : List Message) (i : ℕ) → messages_of (xs ++ ys) i ≡ messages_of xs i ++ messages_of ys i
messages_of-append [] ys i = refl
messages_of-append (m ∷ xs) ys i =
    elim (m.token == i) as (λ b. (if b then m.text ∷ messages_of (xs ++ ys) i else messages_of (xs ++ ys) i) ≡ (if b then m.text ∷ messages_of xs i else messages_of xs i) ++ messages_of ys i) [
      | true ↦ ap (λ l. m.text ∷ l) (messages_of-append xs ys i)
      | false ↦ messages_of-append xs ys i
    ]

pub messages_of-about : (n : ℕ) (ms : List (List ℕ)) → messages_of (about n ms) n ≡ ms
messages_of-about n [] = refl
messages_of-about n (m ∷ ms) = rw (eq-eqb n n refl) (ap (λ l. m ∷ l) (messages_of-about n ms))

pub messages_of-other : (n i : ℕ) (ms : List (List ℕ)) → n ≢ i → messages_of (about n ms) i ≡ []
messages_of-other n i [] d = refl
messages_of-other n i (m ∷ ms) d = rw (ne_eqb n i d) (messages_of-other n i ms d)

-- there is no message yet about a later token
pub messages_of-past : (count i : ℕ) (ms : List Message) → AreInOrder count ms → count ≤ i → messages_of ms i ≡ []
messages_of-past count i [] o h = refl
messages_of-past count i (m ∷ ms) o h =
    let d : m.token ≢ i = λ e. absurd (omega (arith, o.0)) in
    rw (ne_eqb m.token i d) (messages_of-past count i ms o.2 h)

all_append : (P : Message → Type 0) (xs ys : List Message) → AllByRecursion P xs → AllByRecursion P ys → AllByRecursion P (xs ++ ys)
all_append P [] ys p q = q
all_append P (x ∷ xs) ys p q = (p.0, all_append P xs ys p.1 q)

all_about : (k n : ℕ) (ms : List (List ℕ)) → k ≤ n → AllByRecursion (λ (later : Message). k ≤ later.token) (about n ms)
all_about k n [] h = tt
all_about k n (m ∷ ms) h = (h, all_about k n ms h)

pub ordered_more : (count : ℕ) (xs : List Message) (ms : List (List ℕ)) → AreInOrder count xs → AreInOrder (count + 1) (xs ++ about count ms)
ordered_more count [] [] o = tt
ordered_more count [] (m ∷ ms) o = (omega arith, all_about count count ms (omega arith), ordered_more count [] ms tt)
ordered_more count (x ∷ xs) ms o = (omega (arith, o.0), all_append (λ (later : Message). x.token ≤ later.token) xs (about count ms) o.1 (all_about x.token count ms (omega (arith, o.0))), ordered_more count xs ms o.2)

texts_of-about : (token : ℕ) (texts : List (List ℕ)) → map (λ m. m.text) (about token texts) ≡ texts
texts_of-about token [] = refl
texts_of-about token (t ∷ ts) = ap (λ l. t ∷ l) (texts_of-about token ts)

-- the last message has the last text
pub last_text : (token : ℕ) (texts : List (List ℕ)) (prefix : List Message) (m : Message) → about token texts ≡ prefix ++ m ∷ [] → texts ≡ map (λ m. m.text) prefix ++ m.text ∷ []
last_text token texts prefix m e = sym (texts_of-about token texts) ∙ (ap (λ l. map (λ m. m.text) l) e ∙ map_push (λ m. m.text) prefix m)

-- ---- the first message about a token

all_at : (P : Message → Type 0) (ms : List Message) → AllByRecursion P ms → (j : ℕ) (d : Message) → j < length ms → P (get_or ms j d)
all_at P [] h j d l = absurd (omega arith)
all_at P (m ∷ ms) h zero d l = h.0
all_at P (m ∷ ms) h (suc j) d l = all_at P ms h.1 j d (omega arith)

-- no message is about an earlier token than one before it
pub ordered_rises : (count : ℕ) (ms : List Message) → AreInOrder count ms → IsNonDecreasingBy (λ (m : Message). m.token) ms
ordered_rises count [] o i j d low h = absurd (omega arith)
ordered_rises count (m ∷ ms) o zero zero d low h = omega arith
ordered_rises count (m ∷ ms) o zero (suc j) d low h = all_at (λ (later : Message). m.token ≤ later.token) ms o.1 j d (omega arith)
ordered_rises count (m ∷ ms) o (suc i) zero d low h = absurd (omega arith)
ordered_rises count (m ∷ ms) o (suc i) (suc j) d low h = ordered_rises count ms o.2 i j d (omega arith) (omega arith)

-- messages about earlier tokens are passed over
error_of-past : (ms : List Message) (i n : ℕ) → AllWithin (λ (m : Message). m.token < i) ms 0 n → error_of ms i ≡ error_of (drop n ms) i
error_of-past ms i zero h = refl
error_of-past [] i (suc n) h = refl
error_of-past (m ∷ ms) i (suc n) h =
    let here : m.token < i = h 0 m (omega arith) (omega arith) in
    let d : m.token ≢ i = λ e. absurd (omega (arith, here, e)) in
    rw (ne_eqb m.token i d) (error_of-past ms i n (λ k d low high. h (suc k) d (omega arith) (omega arith)))

error_of-none : (ms : List Message) (i : ℕ) → ((k : ℕ) (d : Message) → k < length ms → i < (get_or ms k d).token) → error_of ms i ≡ None
error_of-none [] i h = refl
error_of-none (m ∷ ms) i h =
    let here : i < m.token = h 0 m (omega arith) in
    let d : m.token ≢ i = λ e. absurd (omega (arith, here, e)) in
    rw (ne_eqb m.token i d) (error_of-none ms i (λ k d l. h (suc k) d (omega arith)))

abbrev IsPlace : List Message → ℕ → ℕ → Type 0
IsPlace ms i n = IsPartitionPoint (λ (m : Message). m.token < i) (λ (m : Message). i ≤ m.token) ms n

pub error_found : (ms : List Message) (i n : ℕ) (d : Message) → IsPlace ms i n → n < length ms → (get_or ms n d).token ≡ i → error_of ms i ≡ Some (get_or ms n d).text
error_found ms i n d h inside e = error_of-past ms i n h.0 ∙ rw (drop_more ms n d inside, eq-eqb (get_or ms n d).token i e) refl

pub error_missing : (count : ℕ) (ms : List Message) (i n : ℕ) → AreInOrder count ms → IsPlace ms i n → ((d : Message) → n < length ms → (get_or ms n d).token ≢ i) → error_of ms i ≡ None
error_missing count ms i n o h other =
    let later : (k : ℕ) (d : Message) → k < length (drop n ms) → i < (get_or (drop n ms) k d).token = λ k d l.
    let inside : n + k < length ms = omega (arith, length-drop n ms) in
    let low : i ≤ (get_or ms n d).token = h.1 n d (omega arith) (omega arith) in
    let differs : (get_or ms n d).token ≢ i = other d (omega arith) in
    let up : (get_or ms n d).token ≤ (get_or ms (n + k) d).token = ordered_rises count ms o n (n + k) d (omega arith) inside in
    rw (get_or-drop n ms k d) (omega (arith, low, differs, up))
    in
    error_of-past ms i n h.0 ∙ error_of-none (drop n ms) i later
