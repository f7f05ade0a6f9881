-- Where the parts of a script source stand, as the walk over its text finds them.
use Rattle.std.specs.Prelude.{◌≡◌, ℕ, ◌+◌, ◌<◌, List, length, drop, Option, unwrap_or}
use Rattle.std.specs.List.{AllPass}
use Rattle.rap_frontmatter.specs.Script.{Fence, Opening, Closing, Ending, HasFence, IsFirstFence, IsLongestFence, NoLineFeed, is_horizontal}
use Rattle.rap_frontmatter.specs.declared.frontmatter.open.Opening.{Opening as Found}
use Rattle.rap_frontmatter.specs.declared.frontmatter.close.Closing.{Closing as Close}
use Rattle.rap_frontmatter.specs.declared.frontmatter.close.FoundFence.{FoundFence}
use Rattle.rap_frontmatter.specs.declared.frontmatter.close.FoundFence.TheVariants.{Full, Shorter, Missing}
use Rattle.rap_frontmatter.specs.declared.frontmatter.close.FoundClose.{FoundClose}
use Rattle.rap_frontmatter.specs.declared.frontmatter.close.FoundClose.TheVariants.{At, TooShort, NoFence, NoLine}

-- the dashes at the beginning, past the blank lines, begin at `start`
pub record HasDashes (text : List ℕ) (start n : ℕ) : Type 0 where
  pub fence : Fence text
  pub start_is : start ≡ unwrap_or fence.blank 0
  pub size : n ≡ fence.n

-- the same, past the shebang
pub record HasOpening (text : List ℕ) (shebang : Option ℕ) (start n : ℕ) : Type 0 where
  pub opening : Opening text
  pub shebang_is : shebang ≡ opening.shebang
  pub start_is : start ≡ unwrap_or opening.shebang 0 + unwrap_or opening.fence.blank 0
  pub size : n ≡ opening.fence.n

-- It says where `n` dashes first begin a line past the first one, or else where the most do.
abbrev pub IsFoundFence : ℕ → List ℕ → FoundFence → Type 0
IsFoundFence n text (Full place) = IsFirstFence n text place
IsFoundFence n text (Shorter place len) = (0 < len) × (len < n) × IsLongestFence len text place
IsFoundFence n text Missing = (place : ℕ) → ¬ HasFence 1 text place

-- after the opening, the info's line is `line` long, the frontmatter begins at `matter`, and the close at `close`
pub record HasClosing (n : ℕ) (text : List ℕ) (line matter close : ℕ) : Type 0 where
  pub closing : Closing n text
  pub line_is : line ≡ length closing.line
  pub matter_is : matter ≡ line + length closing.end
  pub close_is : close ≡ matter + length closing.matter

-- It says where the frontmatter closes, or why it does not.
abbrev pub IsFoundClose : ℕ → List ℕ → FoundClose → Type 0
IsFoundClose n text (At c) = HasClosing n text c.line c.matter c.close
IsFoundClose n text (TooShort place len) = (0 < len) × (len < n) × IsLongestFence len text place
IsFoundClose n text NoFence = (place : ℕ) → ¬ HasFence 1 text place
IsFoundClose n text NoLine = NoLineFeed text

-- no dash follows the blank lines
pub record HasNoDashes (text : List ℕ) : Type 0 where
  pub fence : Fence text
  pub none : fence.n ≡ 0

-- after the close, only spaces and tabs end the line, and the content begins at `content`
pub record HasEnding (text : List ℕ) (content : ℕ) : Type 0 where
  pub ending : Ending text
  pub blank : AllPass is_horizontal ending.tail
  pub content_is : content ≡ length ending.tail + length ending.end

-- ---- The same at the places that the walk keeps

-- where the opening dashes end
abbrev pub opened : Found → ℕ
opened o = o.dashes.start + o.dashes.len

-- where the closing dashes end
abbrev pub closed : Found → Close → ℕ
closed o c = opened o + c.close + o.dashes.len

abbrev pub Opens : List ℕ → Found → Type 0
Opens text o = HasOpening text o.shebang o.dashes.start o.dashes.len

abbrev pub Closes : List ℕ → Found → Close → Type 0
Closes text o c = HasClosing o.dashes.len (drop (opened o) text) c.line c.matter c.close

abbrev pub Ends : List ℕ → Found → Close → ℕ → Type 0
Ends text o c line = HasEnding (drop (closed o c) text) line
