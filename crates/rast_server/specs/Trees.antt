-- The documents as the server's contracts see them, and the trees that are kept of a few of them.
use Rattle.std.specs.Prelude.{◌≡◌, ◌⊎◌, ◌+◌, ◌-◌, ◌<◌, ℕ, ℤ, Bool, false, true, not, List, [], ◌∷◌, ◌++◌, All, Option, Some, String, Vec, drop, filter, if◌then◌else◌, length, slice_index_or, string_bytes, take}
use Rattle.std.specs.List.{Contains, remove}
use Rattle.std.specs.Option.{ForSome}
use Rattle.std.specs.BTreeMap.{BTreeMap, get_by_text}
use Rattle.std.specs.Str.{bytes_eq}
use Rattle.std.specs.declared.alloc.Global.{Global}
use Rattle.rap_base.specs.declared.edition.Edition.TheVariants.{Edition2024}
use Rattle.flat_tree.specs.declared.element.Element.{Element}
use Rattle.rast_answers.specs.Listings.{AreElementsOf}
use Rattle.rast_document.specs.Changes.{AllChange}
use Rattle.rast_document.specs.declared.change.Change.{Change}
use Rattle.rast_server.specs.declared.server.Opened.{Opened}
use Rattle.rast_server.specs.declared.trees.Kept.{Kept}

-- the open documents by their uris
abbrev pub Map : Type 0
Map = BTreeMap (String Global) Opened

-- under this uri stands what is given, and every other document is as before
abbrev pub PutsIn : List ℕ → Option Opened → Map → Map → Type 0
PutsIn uri opened old new = (other : List ℕ) → get_by_text new other ≡ (if bytes_eq uri other then opened else get_by_text old other)

-- the document under this uri has the version, and the text that the changes make of its old one
pub record ChangesText (uri : List ℕ) (version : ℤ) (changes : List Change) (old new : Map) : Type 0 where
  pub before : Opened
  pub after : Opened
  pub was : get_by_text old uri ≡ Some before
  pub version_is : after.version ≡ version
  pub encoding : after.document.encoding ≡ before.document.encoding
  pub text : AllChange before.document.encoding (string_bytes before.document.text) changes (string_bytes after.document.text)
  pub puts : PutsIn uri (Some after) old new

-- the changes make no text of that of the document under this uri
pub record HasNoText (uri : List ℕ) (changes : List Change) (m : Map) : Type 0 where
  pub before : Opened
  pub was : get_by_text m uri ≡ Some before
  pub none : (text : List ℕ) → ¬ AllChange before.document.encoding (string_bytes before.document.text) changes text

-- these, if there are any, are the nodes and leaves of the tree of a text
abbrev pub AreKeptOf : List ℕ → Option (Vec Element Global) → Type 0
AreKeptOf text tree = ForSome tree (λ elements. AreElementsOf text Edition2024 elements.items)

-- a tree is that of the document under its uri, if one is open there
abbrev pub IsTree : Map → Kept → Type 0
IsTree m tree = ForSome (get_by_text m (string_bytes tree.uri)) (λ opened. AreElementsOf (string_bytes opened.document.text) Edition2024 tree.elements.items)

abbrev pub AreTrees : Map → List Kept → Type 0
AreTrees m trees = All (IsTree m) trees

-- whether a tree is kept under this uri
abbrev pub is_under : List ℕ → Kept → Bool
is_under uri tree = bytes_eq (string_bytes tree.uri) uri

-- no tree is
abbrev pub HasNone : List ℕ → List Kept → Type 0
HasNone uri trees = All (λ t. is_under uri t ≡ false) trees

-- a tree is one of these, and is kept under this uri
abbrev pub IsTreeOf : List ℕ → Kept → List Kept → Type 0
IsTreeOf uri tree trees = Contains trees tree × (is_under uri tree ≡ true)

-- at this place stands a tree that is kept under this uri
abbrev pub IsPlaceOf : List ℕ → ℕ → List Kept → Type 0
IsPlaceOf uri place trees = (place < length trees) × ((d : Kept) → is_under uri (slice_index_or trees place d) ≡ true)

-- those that are kept under other uris
abbrev pub others : List ℕ → List Kept → List Kept
others uri trees = filter (λ t. not (is_under uri t)) trees

-- the last of them, up to so many
abbrev pub last : ℕ → List Kept → List Kept
last n trees = drop (length trees - n) trees

-- a tree that is kept under this uri moves behind the others
pub record Moves (uri : List ℕ) (old new : List Kept) : Type 0 where
  pub place : ℕ
  pub tree : Kept
  pub within : place < length old
  pub stood : slice_index_or old place tree ≡ tree
  pub own : is_under uri tree ≡ true
  pub moved : new ≡ remove old place ++ tree ∷ []

-- the tree under this uri is the last; if there is none, only the last three are left
abbrev pub Prepares : List ℕ → List Kept → List Kept → Type 0
Prepares uri old new = Moves uri old new ⊎ (HasNone uri old × (new ≡ last 3 old))

-- a tree of these nodes and leaves comes behind the last three that are kept under other uris
pub record Keeps (uri : List ℕ) (elements : List Element) (old new : List Kept) : Type 0 where
  pub tree : Kept
  pub under : string_bytes tree.uri ≡ uri
  pub elements_are : tree.elements.items ≡ elements
  pub kept : new ≡ last 3 (others uri old) ++ tree ∷ []
