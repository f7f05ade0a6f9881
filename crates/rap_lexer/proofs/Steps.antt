-- One step of `chars`, on the list of the characters that are left.
use Rattle.std.proofs.Common.{◌≡◌, ℕ, List, [], ◌∷◌, ◌++◌, length, Option, Some, None, MatchOption, encode_utf8, IsUtf8, ap, ◌∙◌}
use Rattle.std.specs.Str.{chars}
use Rattle.std.proofs.lemmas.Str.{chars_past_char, chars-nil}
use Rattle.std.proofs.lemmas.List.{nil_from_length}

-- the first character of the old list, if there is one, and the new list is what follows it
abbrev pub Step : List ℕ → Option ℕ → List ℕ → Type 0
Step old r new = MatchOption r ((old ≡ []) × (new ≡ [])) (λ c. old ≡ c ∷ new)

pub step : {S : Type 0} (rest : S → List ℕ) (s t : S) (r : Option ℕ) → IsUtf8 (rest s) → MatchOption r ((length (rest s) ≡ 0) × (t ≡ s)) (λ c. rest s ≡ encode_utf8 c ++ rest t) → Step (chars (rest s)) r (chars (rest t))
step rest s t None u h =
    let e : chars (rest s) ≡ [] = ap chars (nil_from_length (rest s) h.0) ∙ chars-nil in
    (e, ap (λ x. chars (rest x)) h.1 ∙ e)
step rest s t (Some c) u h = chars_past_char (rest s) (rest t) c u h
