-- What was written in parts.
use Rattle.std.proofs.Common.{◌≡◌, ℕ, Option, None, Some, List, ◌++◌, ap, ◌∙◌, subst, append_assoc, codes, string_bytes}
use Rattle.std.specs.Io.KnownBytes.{Appends}
use Rattle.rast_page.specs.Page.{data_of}
use Rattle.rast_page.specs.declared.run.Page.{Page}

pub appended_both : (a b c : Option (List ℕ)) (x y : List ℕ) → Appends a b x → Appends b c y → Appends a c (x ++ y)
appended_both None b c x y h k = tt
appended_both (Some p) None c x y h k = absurd h
appended_both (Some p) (Some q) None x y h k = absurd k
appended_both (Some p) (Some q) (Some r) x y h k = k ∙ (ap (λ l. l ++ y) h ∙ append_assoc p x y)

-- the texts between the fixed parts of the data, each the page's, and the data that they make
pub data_appended : (page : Page) (a b c d e : Option (List ℕ)) (name steps messages : List ℕ)
    → name ≡ string_bytes page.name → steps ≡ string_bytes page.rows.steps → messages ≡ string_bytes page.rows.messages
    → Appends a b (codes "{\"file\":" ++ name) → Appends b c (codes ",\"steps\":[0" ++ steps)
    → Appends c d (codes "],\"messages\":[0" ++ messages) → Appends d e (codes "]}")
    → Appends a e (data_of page)
data_appended page a b c d e name steps messages n s m first second third last =
    let P : List ℕ → Type 0 = λ t. Appends a b (codes "{\"file\":" ++ t) in
    let Q : List ℕ → Type 0 = λ t. Appends b c (codes ",\"steps\":[0" ++ t) in
    let R : List ℕ → Type 0 = λ t. Appends c d (codes "],\"messages\":[0" ++ t) in
    appended_both a b e _ _ (subst P n first)
    (appended_both b c e _ _ (subst Q s second)
    (appended_both c d e _ _ (subst R m third) last))
