-- A block comment ends at one place.
use Rattle.std.proofs.Common.{◌≡◌, ℕ, List, ◌∷◌, refl, sym, subst}
use Rattle.rap_lexer.specs.Comment.{Body, Ends}
use Rattle.rap_lexer.specs.Comment.Body.{empty, comment, text}
use Rattle.rap_lexer.proofs.Nesting.{cases, at_open, at_close, at_text}

body_once : {xs ys : List ℕ} → Body xs ys → (r r' : List ℕ) → ys ≡ 42 ∷ 47 ∷ r → Body xs (42 ∷ 47 ∷ r') → r ≡ r'
body_once (empty rest) r r' e h = at_close rest r r' e (cases h)
body_once (comment cs mid rest p q) r r' e h =
    let o = at_open (47 ∷ 42 ∷ cs) cs r' refl (cases h) in
    let m : mid ≡ o.0 = body_once p mid o.0 refl o.1 in
    body_once q r r' e (subst (λ (x : List ℕ). Body x (42 ∷ 47 ∷ r')) (sym m) o.2)
body_once (text c cs rest n p) r r' e h = body_once p r r' e (at_text (c ∷ cs) c cs r' refl n (cases h))

pub one_body : (cs r r' : List ℕ) → Ends cs r → Ends cs r' → r ≡ r'
one_body cs r r' h h' = body_once h r r' refl h'
