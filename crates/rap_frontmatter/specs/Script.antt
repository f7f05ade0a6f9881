-- Script source: a shebang and a frontmatter may stand before the Rust code of a file. A text is a list of bytes.
use Rattle.std.specs.Prelude.{◌≡◌, ◌≢◌, ℕ, ◌+◌, ◌<◌, ◌≤◌, ◌⊎◌, Bool, ◌||◌, ◌==◌, List, [], ◌∷◌, ◌++◌, length, replicate, slice_range, All, false, Option, Some, None, MatchOption, IfSome, IsCharBoundary, unwrap_or, chars, encode_utf8_all}
use Rattle.std.specs.Char.{is_whitespace}
use Rattle.std.specs.Option.{option_map}
use Rattle.std.specs.List.{AllPass}
use Rattle.std.specs.declared.ops.Range.{Range}
use Rattle.rap_base.specs.Char.{is_rust_whitespace}

-- ---- Parts of a text

abbrev pub dashes : ℕ → List ℕ
dashes n = replicate n 45

-- no dash stands first
abbrev pub NoDash : List ℕ → Type 0
NoDash text = (rest : List ℕ) → text ≢ 45 ∷ rest

abbrev pub NoLineFeed : List ℕ → Type 0
NoLineFeed text = All (λ b. b ≢ 10) text

-- What ends a line: a line feed, with the carriage return before it, or the text's end. `rest` follows.
pub data IsLineEnd : List ℕ → List ℕ → List ℕ → Type 0 where
  with_return : (line rest : List ℕ) → IsLineEnd line (13 ∷ 10 ∷ []) rest
  feed : (line rest : List ℕ) → ((prefix : List ℕ) → line ≢ prefix ++ 13 ∷ []) → IsLineEnd line (10 ∷ []) rest
  text_end : (line : List ℕ) → IsLineEnd line [] []

-- the text is its first line, what ends the line, and a rest
pub record FirstLine (text line end rest : List ℕ) : Type 0 where
  pub whole : text ≡ line ++ (end ++ rest)
  pub one : NoLineFeed line
  pub ends : IsLineEnd line end rest

-- the text is its first `n` bytes, none of them for `None`, and a rest
pub record Splits (text : List ℕ) (n : Option ℕ) (rest : List ℕ) : Type 0 where
  pub prefix : List ℕ
  pub whole : text ≡ prefix ++ rest
  pub size : length prefix ≡ unwrap_or n 0

abbrev pub span : ℕ → ℕ → Range ℕ
span at len = record { start = at; end = at + len }

abbrev pub up_to : ℕ → Range ℕ
up_to end = record { start = 0; end = end }

-- the span, where what it was counted from stands at `by`
abbrev pub moved : ℕ → Range ℕ → Range ℕ
moved by r = record { start = by + r.start; end = by + r.end }

-- ---- Shebang and blank lines

-- The text begins with `#!`, and what follows does not, past white space, begin with `[`.
pub record HasShebang (text : List ℕ) : Type 0 where
  pub rest : List ℕ
  pub begins : text ≡ 35 ∷ 33 ∷ rest
  pub no_attribute : (white more : List ℕ) → chars rest ≡ white ++ 91 ∷ more → ¬ AllPass is_whitespace white

-- the first line takes `len` bytes, and what follows its end begins at `next`
pub record HasLine (text : List ℕ) (len next : ℕ) : Type 0 where
  pub line : List ℕ
  pub end : List ℕ
  pub rest : List ℕ
  pub first : FirstLine text line end rest
  pub size : len ≡ length line
  pub after : next ≡ length line + length end

-- where the shebang ends, if there is one: with its line
abbrev pub EndsShebang : List ℕ → Option ℕ → Type 0
EndsShebang text end = MatchOption end (¬ HasShebang text) (λ n. HasShebang text × (len : ℕ) × HasLine text len n)

-- the first `n` bytes are white space and end with a line feed
pub record HasBlankLines (text : List ℕ) (n : ℕ) : Type 0 where
  pub white : List ℕ
  pub rest : List ℕ
  pub split : chars text ≡ white ++ 10 ∷ rest
  pub blank : AllPass is_rust_whitespace white
  pub size : n ≡ length (encode_utf8_all white) + 1

-- where the longest such prefix ends, if there is one
abbrev pub EndsBlankLines : List ℕ → Option ℕ → Type 0
EndsBlankLines text end =
    MatchOption end ((n : ℕ) → ¬ HasBlankLines text n)
    (λ n. HasBlankLines text n × ((m : ℕ) → HasBlankLines text m → m ≤ n))

-- Blank lines or none, and then `n` dashes that no dash follows.
pub record Fence (text : List ℕ) : Type 0 where
  pub blank : Option ℕ
  pub n : ℕ
  pub after : List ℕ
  pub ends : EndsBlankLines text blank
  pub splits : Splits text blank (dashes n ++ after)
  pub no_more : NoDash after

-- ---- Frontmatter

-- The text is a shebang or nothing, and a rest, which blank lines or nothing begin, and dashes or nothing.
pub record Opening (text : List ℕ) : Type 0 where
  pub shebang : Option ℕ
  pub below : List ℕ
  pub ends : EndsShebang text shebang
  pub splits : Splits text shebang below
  pub fence : Fence below

-- `n` dashes stand at the place, a line feed before them
pub record HasFence (n : ℕ) (text : List ℕ) (place : ℕ) : Type 0 where
  pub prefix : List ℕ
  pub rest : List ℕ
  pub split : text ≡ prefix ++ 10 ∷ (dashes n ++ rest)
  pub size : place ≡ length prefix + 1

-- and at no place before
pub record IsFirstFence (n : ℕ) (text : List ℕ) (place : ℕ) : Type 0 where
  pub fence : HasFence n text place
  pub first : (p : ℕ) → HasFence n text p → place ≤ p

-- `most` dashes follow a line feed, at the place first, and no line feed is followed by more
pub record IsLongestFence (most : ℕ) (text : List ℕ) (place : ℕ) : Type 0 where
  pub fence : IsFirstFence most text place
  pub longest : (n p : ℕ) → HasFence n text p → n ≤ most

-- What follows the opening dashes is the info's line, the frontmatter, `n` dashes and a rest. No line feed before
-- those, the info's among them, is followed by `n` dashes.
pub record Closing (n : ℕ) (text : List ℕ) : Type 0 where
  pub line : List ℕ
  pub end : List ℕ
  pub matter : List ℕ
  pub rest : List ℕ
  pub info_line : FirstLine text line end (matter ++ (dashes n ++ rest))
  pub fence : IsFirstFence n text (length line + length end + length matter)

-- What follows the close: the rest of its line, the line's end, and the content.
pub record Ending (text : List ℕ) : Type 0 where
  pub tail : List ℕ
  pub end : List ℕ
  pub content : List ℕ
  pub line : FirstLine text tail end content

-- a space or a tab
abbrev pub is_horizontal : ℕ → Bool
is_horizontal b = (b == 32) || (b == 9)

-- where the line's word stands: all of it but spaces and tabs at its ends
pub record HasWord (line : List ℕ) (at : Range ℕ) : Type 0 where
  pub left : List ℕ
  pub word : List ℕ
  pub right : List ℕ
  pub whole : line ≡ left ++ (word ++ right)
  pub left_blank : AllPass is_horizontal left
  pub right_blank : AllPass is_horizontal right
  pub some : 0 < length word
  pub first : (b : ℕ) (rest : List ℕ) → word ≡ b ∷ rest → is_horizontal b ≡ false
  pub last : (prefix : List ℕ) (b : ℕ) → word ≡ prefix ++ b ∷ [] → is_horizontal b ≡ false
  pub is : at ≡ span (length left) (length word)

-- where it stands, if there is one
abbrev pub FindsWord : List ℕ → Option (Range ℕ) → Type 0
FindsWord line at = MatchOption at (AllPass is_horizontal line) (HasWord line)

-- the text and the spans of its parts
pub record Script : Type 0 where
  pub text : List ℕ
  pub shebang : Option (Range ℕ)
  pub opening : Option (Range ℕ)
  pub info : Option (Range ℕ)
  pub frontmatter : Option (Range ℕ)
  pub close : Option (Range ℕ)
  pub content : Range ℕ

module _ {text : List ℕ} (o : Opening text) where
  abbrev pub open_at : ℕ
  open_at = unwrap_or o.shebang 0 + unwrap_or o.fence.blank 0

  abbrev pub open_end : ℕ
  open_end = open_at + o.fence.n

  module _ (c : Closing o.fence.n o.fence.after) where
    abbrev pub matter_at : ℕ
    matter_at = open_end + length c.line + length c.end

    abbrev pub close_at : ℕ
    close_at = matter_at + length c.matter

    abbrev pub close_end : ℕ
    close_end = close_at + o.fence.n

    abbrev pub content_at : Ending c.rest → ℕ
    content_at e = close_end + length e.tail + length e.end

-- Accepted without a frontmatter: what follows the shebang is the content.
pub record IsPlain (text : List ℕ) (s : Script) : Type 0 where
  pub opening : Opening text
  pub none : opening.fence.n ≡ 0
  pub is : s ≡ record {
    text = text;
    shebang = option_map up_to opening.shebang;
    opening = None;
    info = None;
    frontmatter = None;
    close = None;
    content = record { start = unwrap_or opening.shebang 0; end = length text };
  }

-- Accepted with one: a shebang or nothing, blank lines or nothing, at least three dashes, the info's line, the
-- frontmatter, as many dashes, spaces and tabs up to the line's end, and the content, which opens no second one.
pub record IsFenced (text : List ℕ) (s : Script) : Type 0 where
  pub opening : Opening text
  pub enough : 3 ≤ opening.fence.n
  pub closing : Closing opening.fence.n opening.fence.after
  pub info : Option (Range ℕ)
  pub finds_info : FindsWord closing.line info
  pub ending : Ending closing.rest
  pub blank : AllPass is_horizontal ending.tail
  pub second : Fence ending.content
  pub no_second : second.n ≡ 0
  pub is : s ≡ record {
    text = text;
    shebang = option_map up_to opening.shebang;
    opening = Some (span (open_at opening) opening.fence.n);
    info = option_map (moved (open_end opening)) info;
    frontmatter = Some (span (matter_at opening closing) (length closing.matter));
    close = Some (span (close_at opening closing) opening.fence.n);
    content = record { start = content_at opening closing ending; end = length text };
  }

-- the text is accepted, with these spans
abbrev pub IsScript : List ℕ → Script → Type 0
IsScript text s = IsPlain text s ⊎ IsFenced text s

-- the text at a range
abbrev pub slice_at : List ℕ → Range ℕ → List ℕ
slice_at text r = slice_range text r.start r.end

-- the range goes forward, and the text may be cut at both its ends
abbrev pub IsCut : List ℕ → Range ℕ → Type 0
IsCut text r = (r.start ≤ r.end) × IsCharBoundary text r.start × IsCharBoundary text r.end

-- the spans of every script source lie at borders of characters
pub record AtBorders (s : Script) : Type 0 where
  pub shebang : IfSome s.shebang (IsCut s.text)
  pub opening : IfSome s.opening (IsCut s.text)
  pub info : IfSome s.info (IsCut s.text)
  pub frontmatter : IfSome s.frontmatter (IsCut s.text)
  pub close : IfSome s.close (IsCut s.text)
  pub content : IsCut s.text s.content
