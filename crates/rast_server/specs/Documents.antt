-- What notifications do to the documents that the editor has open.
use Rattle.std.specs.Prelude.{◌≡◌, ◌⊎◌, ℕ, List, Option, Some, None, IsSome, codes, if◌then◌else◌, map, option_and_then, string_bytes}
use Rattle.std.specs.BTreeMap.{get_by_text}
use Rattle.std.specs.Str.{bytes_eq}
use Rattle.serde_json.specs.Data.{Data}
use Rattle.serde_json.specs.Find.{as_str, pointer}
use Rattle.rast_document.specs.Changes.{AllChange}
use Rattle.rast_document.specs.declared.change.Change.{Change}
use Rattle.rast_messages.specs.Params.{changes_in, said, uri_in, version_in}
use Rattle.rast_messages.specs.declared.reply.Code.TheVariants.{InternalError, InvalidParams}
use Rattle.rast_messages.specs.declared.reply.Fault.{Fault}
use Rattle.rast_server.specs.declared.server.Opened.{Opened}
use Rattle.rast_server.specs.declared.server.Server.{Server}

-- the document with this uri, if it is open
abbrev pub document_at : Server → List ℕ → Option Opened
document_at s uri = get_by_text s.documents uri

-- under this uri stands what is given, and every other document is as before
abbrev pub Puts : List ℕ → Option Opened → Server → Server → Type 0
Puts uri opened old new = (other : List ℕ) → document_at new other ≡ (if bytes_eq uri other then opened else document_at old other)

-- all documents are as before
abbrev pub KeepsDocuments : Server → Server → Type 0
KeepsDocuments old new = new.documents.entries ≡ old.documents.entries

-- the text that `didOpen` brings
abbrev pub opened_text : Data → Option (List ℕ)
opened_text params = option_and_then as_str (pointer (codes "/textDocument/text") params)

-- `didOpen`: under the uri is a document with the version, the text and the server's encoding
pub record Opens (params : Data) (old new : Server) : Type 0 where
  pub uri : List ℕ
  pub opened : Opened
  pub uri_is : uri_in params ≡ Some uri
  pub version_is : version_in params ≡ Some opened.version
  pub text_is : opened_text params ≡ Some (string_bytes opened.document.text)
  pub encoding : opened.document.encoding ≡ old.encoding
  pub puts : Puts uri (Some opened) old new

-- `didChange`: the document under the uri has the version, and the text that the changes make of its old one
pub record Changes (params : Data) (old new : Server) : Type 0 where
  pub uri : List ℕ
  pub changes : List Change
  pub before : Opened
  pub after : Opened
  pub uri_is : uri_in params ≡ Some uri
  pub changes_are : changes_in params ≡ Some (map said changes)
  pub was : document_at old uri ≡ Some before
  pub version_is : version_in params ≡ Some after.version
  pub encoding : after.document.encoding ≡ before.document.encoding
  pub text : AllChange before.document.encoding (string_bytes before.document.text) changes (string_bytes after.document.text)
  pub puts : Puts uri (Some after) old new

-- `didClose`: under the uri is no document any more
pub record Closes (params : Data) (old new : Server) : Type 0 where
  pub uri : List ℕ
  pub uri_is : uri_in params ≡ Some uri
  pub was : IsSome (document_at old uri)
  pub puts : Puts uri None old new

-- what a notification about a document does
abbrev pub Does : List ℕ → Data → Server → Server → Type 0
Does method params old new = ((method ≡ codes "textDocument/didOpen") × Opens params old new)
    ⊎ (((method ≡ codes "textDocument/didChange") × Changes params old new)
    ⊎ ((method ≡ codes "textDocument/didClose") × Closes params old new))

-- no document stands under the uri
pub record IsNotOpen (params : Data) (s : Server) : Type 0 where
  pub uri : List ℕ
  pub uri_is : uri_in params ≡ Some uri
  pub none : document_at s uri ≡ None

-- the changes make no text of the document's
pub record HasNoPlace (params : Data) (s : Server) : Type 0 where
  pub uri : List ℕ
  pub changes : List Change
  pub before : Opened
  pub uri_is : uri_in params ≡ Some uri
  pub changes_are : changes_in params ≡ Some (map said changes)
  pub was : document_at s uri ≡ Some before
  pub none : (text : List ℕ) → ¬ AllChange before.document.encoding (string_bytes before.document.text) changes text

-- there is no memory, which may always be
abbrev pub IsNoMemory : Fault → Type 0
IsNoMemory fault = (fault.code ≡ InternalError) × (fault.text.now ≡ codes "out of memory")

-- what the editor is told if its parameters are the cause
abbrev pub SaysWrongParams : Fault → Type 0
SaysWrongParams fault = (fault.code ≡ InvalidParams) × (fault.text.now ≡ codes "the parameters are not those of the method")

abbrev pub SaysNotOpen : Fault → Type 0
SaysNotOpen fault = (fault.code ≡ InvalidParams) × (fault.text.now ≡ codes "the document is not open")

abbrev pub SaysNoPlace : Fault → Type 0
SaysNoPlace fault = (fault.code ≡ InvalidParams) × (fault.text.now ≡ codes "the position or range is none of the document")

-- why a notification fails
abbrev pub CannotOpen : Data → Fault → Type 0
CannotOpen params fault = IsNoMemory fault
    ⊎ (SaysWrongParams fault × ((uri_in params ≡ None) ⊎ ((version_in params ≡ None) ⊎ (opened_text params ≡ None))))

abbrev pub CannotChange : Data → Server → Fault → Type 0
CannotChange params s fault = IsNoMemory fault
    ⊎ ((SaysWrongParams fault × ((uri_in params ≡ None) ⊎ ((version_in params ≡ None) ⊎ (changes_in params ≡ None))))
    ⊎ ((SaysNotOpen fault × IsNotOpen params s)
    ⊎ (SaysNoPlace fault × HasNoPlace params s)))

abbrev pub CannotClose : Data → Server → Fault → Type 0
CannotClose params s fault = IsNoMemory fault
    ⊎ ((SaysWrongParams fault × (uri_in params ≡ None))
    ⊎ (SaysNotOpen fault × IsNotOpen params s))

abbrev pub Cannot : List ℕ → Data → Server → Fault → Type 0
Cannot method params s fault = ((method ≡ codes "textDocument/didOpen") × CannotOpen params fault)
    ⊎ (((method ≡ codes "textDocument/didChange") × CannotChange params s fault)
    ⊎ ((method ≡ codes "textDocument/didClose") × CannotClose params s fault))

-- What a failure leaves: all documents as they were. But a change stays made for whose diagnostics there is no memory,
-- since the editor has made it too.
abbrev pub Leaves : List ℕ → Data → Fault → Server → Server → Type 0
Leaves method params fault old new = KeepsDocuments old new
    ⊎ (IsNoMemory fault × (method ≡ codes "textDocument/didChange") × Changes params old new)
