-- A string, a character and a raw string end at one place.
use Rattle.std.proofs.Common.{◌≡◌, ◌≢◌, ℕ, ◌+◌, ◌≤◌, Bool, true, false, List, [], ◌∷◌, ◌++◌, ◌⊎◌, inl, inr, ◌==◌, drop, replicate, MatchBool, append_assoc, length-append, refl, ap, sym, ◌∙◌, subst, arith}
use Rattle.std.proofs.lemmas.Bool.Decides.{eqb_tells}
use Rattle.std.proofs.lemmas.List.{drop_at, length-replicate}
use Rattle.std.specs.Prelude.{nat_eq}
use Rattle.std.specs.Str.{byte}
use Rattle.rap_lexer.specs.Quoted.{StringRun, CharacterRun, CharacterEnds, ClosesRaw, RawRun, takes_next, stops_at, is_one_character}
use Rattle.rap_lexer.specs.Quoted.RawRun.{closes_at, runs_on}
use Rattle.rap_lexer.specs.Run.{tail}

-- the two runs end alike
pub record SameEnd (b b' : Bool) (r r' : List ℕ) : Type 0 where
  pub closed : b ≡ b'
  pub rest : r ≡ r'

-- a run that ends at one place
abbrev pub EndsOnce : (List ℕ → Bool → List ℕ → Type 0) → Type 0
EndsOnce Run = (cs : List ℕ) (b b' : Bool) (r r' : List ℕ) → Run cs b r → Run cs b' r' → SameEnd b b' r r'

by_true : (b : Bool) (P Q : Type 0) → b ≡ true → MatchBool b P Q → P
by_true true P Q e h = h
by_true false P Q e h = cc

by_false : (b : Bool) (P Q : Type 0) → b ≡ false → MatchBool b P Q → Q
by_false true P Q e h = cc
by_false false P Q e h = h

to_true : (b : Bool) (P Q : Type 0) → b ≡ true → P → MatchBool b P Q
to_true true P Q e h = h
to_true false P Q e h = cc

to_false : (b : Bool) (P Q : Type 0) → b ≡ false → Q → MatchBool b P Q
to_false true P Q e h = cc
to_false false P Q e h = h

differs : (a b : ℕ) → a ≢ b → nat_eq a b ≡ false
differs a b n = by_case (eqb_tells a b)
  where
    by_case : ((nat_eq a b ≡ true) × (a ≡ b)) ⊎ ((nat_eq a b ≡ false) × (a ≢ b)) → nat_eq a b ≡ false
    by_case (inl e) = absurd (n e.1)
    by_case (inr e) = e.0

ended : {b b' : Bool} {r r' x : List ℕ} (c : Bool) → b ≡ c → r ≡ x → (b' ≡ c) × (r' ≡ x) → SameEnd b b' r r'
ended c e f h = record { closed = e ∙ sym h.0; rest = f ∙ sym h.1 }

-- ---- Strings

-- how a string goes on
abbrev StringStep : List ℕ → Bool → List ℕ → Type 0
StringStep [] b r = (b ≡ false) × (r ≡ [])
StringStep (c ∷ cs) b r =
    MatchBool (c == byte "\"") ((b ≡ true) × (r ≡ cs))
    (MatchBool (takes_next c cs) (StringRun (tail cs) b r) (StringRun cs b r))

no_quote : (c : ℕ) (cs : List ℕ) → takes_next c cs ≡ true → c ≢ byte "\""
no_quote c cs t e = let f : takes_next (byte "\"") cs ≡ true = subst (λ (x : ℕ). takes_next x cs ≡ true) e t in cc

string_step : {cs r : List ℕ} {b : Bool} → StringRun cs b r → StringStep cs b r
string_step StringRun.end = (refl, refl)
string_step (StringRun.quote cs) = (refl, refl)
string_step (StringRun.escaped c cs b r t h) = to_false (c == byte "\"") _ _ (differs c (byte "\"") (no_quote c cs t)) (to_true (takes_next c cs) _ _ t h)
string_step (StringRun.other c cs b r q t h) = to_false (c == byte "\"") _ _ (differs c (byte "\"") q) (to_false (takes_next c cs) _ _ t h)

string_once : {cs r : List ℕ} {b : Bool} → StringRun cs b r → (b' : Bool) (r' : List ℕ) → StringStep cs b' r' → SameEnd b b' r r'
string_once StringRun.end b' r' s = ended false refl refl s
string_once (StringRun.quote cs) b' r' s = ended true refl refl s
string_once (StringRun.escaped c cs b r t h) b' r' s =
    string_once h b' r' (string_step (by_true (takes_next c cs) _ _ t (by_false (c == byte "\"") _ _ (differs c (byte "\"") (no_quote c cs t)) s)))
string_once (StringRun.other c cs b r q t h) b' r' s =
    string_once h b' r' (string_step (by_false (takes_next c cs) _ _ t (by_false (c == byte "\"") _ _ (differs c (byte "\"") q) s)))

pub one_string : EndsOnce StringRun
one_string cs b b' r r' h h' = string_once h b' r' (string_step h')

-- ---- Characters

-- how a character goes on
abbrev CharacterStep : List ℕ → Bool → List ℕ → Type 0
CharacterStep [] b r = (b ≡ false) × (r ≡ [])
CharacterStep (c ∷ cs) b r =
    MatchBool (stops_at c cs) ((b ≡ false) × (r ≡ c ∷ cs))
    (MatchBool (c == byte "'") ((b ≡ true) × (r ≡ cs))
    (MatchBool (c == byte "\\") (CharacterRun (tail cs) b r) (CharacterRun cs b r)))

character_step : {cs r : List ℕ} {b : Bool} → CharacterRun cs b r → CharacterStep cs b r
character_step CharacterRun.end = (refl, refl)
character_step (CharacterRun.stop c cs t) = to_true (stops_at c cs) _ _ t (refl, refl)
character_step (CharacterRun.quote cs) = (refl, refl)
character_step (CharacterRun.escaped cs b r h) = h
character_step (CharacterRun.other c cs b r q k t h) =
    to_false (stops_at c cs) _ _ t (to_false (c == byte "'") _ _ (differs c (byte "'") q) (to_false (c == byte "\\") _ _ (differs c (byte "\\") k) h))

character_once : {cs r : List ℕ} {b : Bool} → CharacterRun cs b r → (b' : Bool) (r' : List ℕ) → CharacterStep cs b' r' → SameEnd b b' r r'
character_once CharacterRun.end b' r' s = ended false refl refl s
character_once (CharacterRun.stop c cs t) b' r' s = ended false refl refl (by_true (stops_at c cs) _ _ t s)
character_once (CharacterRun.quote cs) b' r' s = ended true refl refl s
character_once (CharacterRun.escaped cs b r h) b' r' s = character_once h b' r' (character_step s)
character_once (CharacterRun.other c cs b r q k t h) b' r' s =
    character_once h b' r' (character_step (by_false (c == byte "\\") _ _ (differs c (byte "\\") k) (by_false (c == byte "'") _ _ (differs c (byte "'") q) (by_false (stops_at c cs) _ _ t s))))

pub one_character : EndsOnce CharacterEnds
one_character cs b b' r r' = by_test (is_one_character cs)
  where
    by_test : (t : Bool) → MatchBool t ((b ≡ true) × (r ≡ tail (tail cs))) (CharacterRun cs b r) → MatchBool t ((b' ≡ true) × (r' ≡ tail (tail cs))) (CharacterRun cs b' r') → SameEnd b b' r r'
    by_test true h h' = ended true h.0 h.1 h'
    by_test false h h' = character_once h b' r' (character_step h')

-- ---- Raw strings

-- what follows the place
after_place : (n : ℕ) (cs : List ℕ) (place : ℕ) (rest : List ℕ) → ClosesRaw n cs place rest → drop (place + (n + 1)) cs ≡ rest
after_place n cs place rest k =
    let quote = byte "\"" ∷ replicate n (byte "#") in
    let whole : cs ≡ (k.prefix ++ quote) ++ rest = k.split ∙ sym (append_assoc k.prefix quote rest) in
    ap (λ l. drop (place + (n + 1)) l) whole ∙ drop_at (k.prefix ++ quote) rest (place + (n + 1)) (omega (arith, length-append k.prefix quote, length-replicate {A = ℕ} n (byte "#"), k.size))

pub one_raw : (n : ℕ) → EndsOnce (RawRun n)
one_raw n cs _ _ _ _ (closes_at p r k first) (closes_at q s m first') =
    let a : p ≤ q = first q s m in
    let b : q ≤ p = first' p r k in
    let e : p ≡ q = omega arith in
    record { closed = refl; rest = sym (after_place n cs p r k) ∙ (ap (λ i. drop (i + (n + 1)) cs) e ∙ after_place n cs q s m) }
one_raw n cs _ _ _ _ (closes_at p r k first) (runs_on none) = absurd (none p r k)
one_raw n cs _ _ _ _ (runs_on none) (closes_at q s m first') = absurd (none q s m)
one_raw n cs _ _ _ _ (runs_on none) (runs_on none') = record { closed = refl; rest = refl }
