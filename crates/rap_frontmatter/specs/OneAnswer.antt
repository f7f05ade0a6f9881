-- A text is accepted or refused, and in one way.
use Rattle.std.specs.Prelude.{◌≡◌, List, ℕ}
use Rattle.rap_frontmatter.specs.Script.{Script, IsScript}
use Rattle.rap_frontmatter.specs.Refusal.{Refusal, IsRefused}
use Rattle.rap_frontmatter.specs.declared.frontmatter.error.ScriptFault.{ScriptFault}
use Rattle.rap_frontmatter.specs.declared.frontmatter.error.ScriptFault.TheVariants.{Refused, NoMemory}

-- The text has no other spans, and nothing refuses it.
abbrev pub IsOnlyScript : List ℕ → Script → Type 0
IsOnlyScript text s = ((other : Script) → IsScript text other → other ≡ s) × ((e : Refusal) → ¬ IsRefused text e)

-- The text is not accepted, and nothing else is reported about it.
abbrev pub IsOnlyFault : List ℕ → ScriptFault → Type 0
IsOnlyFault text (Refused e) =
    ((s : Script) → ¬ IsScript text s) × ((other : Refusal) → IsRefused text other → other ≡ e)
IsOnlyFault text NoMemory = (s : Script) → ¬ IsScript text s
