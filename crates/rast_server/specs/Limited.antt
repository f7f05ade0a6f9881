-- Answers about a document that may be longer than in proportion to its text and the message. Each is within the limit.
use Rattle.std.specs.Prelude.{◌≡◌, ◌≢◌, ◌⊎◌, ◌<◌, ◌≤◌, ℕ, List, Some, None, codes, length, string_bytes}
use Rattle.std.specs.BTreeMap.{get_by_text}
use Rattle.serde_json.specs.Data.{Data}
use Rattle.rap_base.specs.declared.edition.Edition.TheVariants.{Edition2024}
use Rattle.flat_tree.specs.declared.element.Element.{Element}
use Rattle.rast_answers.specs.Listings.{AreElementsOf}
use Rattle.rast_document.specs.declared.document.Document.{Document}
use Rattle.rast_document.specs.declared.position.Position.{Position}
use Rattle.rast_messages.specs.Params.{positions_in, uri_in}
use Rattle.rast_messages.specs.Replies.{string_text}
use Rattle.rast_messages.specs.declared.reply.Code.{Code}
use Rattle.rast_messages.specs.declared.reply.Code.TheVariants.{InvalidParams, InternalError, RequestFailed}
use Rattle.rast_messages.specs.declared.reply.Fault.{Fault}
use Rattle.rast_server.specs.Documents.{IsNotOpen}
use Rattle.rast_server.specs.SelectionText.{IsLongerAt, IsSelectionText}
use Rattle.rast_server.specs.SymbolLengths.{symbols_len}
use Rattle.rast_server.specs.TreeText.{tree_text}
use Rattle.rast_server.specs.Trees.{Map}
use Rattle.rast_server.specs.declared.limit.TheConstants.{LIMIT}
use Rattle.rast_server.specs.declared.server.Opened.{Opened}
use Rattle.rast_server.specs.declared.server.Server.{Server}

-- an answer about places in a document fails by these, or out of memory
abbrev pub IsOfPlaces : Code → Type 0
IsOfPlaces code = (code ≡ InvalidParams) ⊎ (code ≡ InternalError)

-- the requests that are about places
abbrev pub AsksOfPlaces : List ℕ → Type 0
AsksOfPlaces method =
    (method ≡ codes "textDocument/selectionRange") ⊎ ((method ≡ codes "textDocument/documentHighlight") ⊎ (method ≡ codes "textDocument/semanticTokens/range"))

-- an answer about an open document fails out of memory, or by the places that are asked of
abbrev pub Fails : List ℕ → Code → Type 0
Fails method code = (code ≡ InternalError) ⊎ ((code ≡ InvalidParams) × AsksOfPlaces method)

-- or since it would be longer than the limit: what the editor is told then
abbrev pub SaysTooDeep : Fault → Type 0
SaysTooDeep fault = (fault.code ≡ RequestFailed) × (fault.text.now ≡ codes "the tree is too deep to be shown")

abbrev pub SaysTooLong : Fault → Type 0
SaysTooLong fault = (fault.code ≡ RequestFailed) × (fault.text.now ≡ codes "the answer is too long")

-- the tree as a JSON string
abbrev pub shown_text : Document → List Element → List ℕ
shown_text d es = string_text (tree_text (string_bytes d.text) es)

-- what may be selected around the positions of a message
pub record AreSelections (d : Document) (es : List Element) (params : Data) (text : List ℕ) : Type 0 where
  pub places : List Position
  pub places_are : positions_in params ≡ Some places
  pub is : IsSelectionText d es places text

-- for its first positions alone that is longer than the limit
pub record AreLonger (d : Document) (es : List Element) (params : Data) : Type 0 where
  pub places : List Position
  pub places_are : positions_in params ≡ Some places
  pub is : IsLongerAt d es places

-- every other answer is no longer than in proportion to the text and the message
abbrev pub IsProportional : List ℕ → Type 0
IsProportional method =
    (method ≢ codes "rust-analyzer/viewSyntaxTree") × (method ≢ codes "textDocument/selectionRange") × (method ≢ codes "textDocument/documentSymbol")

-- what is given of a document, of whose tree these are the elements: within the limit, if it is not proportional
abbrev pub IsGiven : Document → List Element → List ℕ → Data → List ℕ → Type 0
IsGiven d es method params text =
    ((method ≡ codes "rust-analyzer/viewSyntaxTree") × (text ≡ shown_text d es) × (length text ≤ LIMIT))
    ⊎ (((method ≡ codes "textDocument/selectionRange") × AreSelections d es params text × (length text ≤ LIMIT))
    ⊎ (((method ≡ codes "textDocument/documentSymbol") × (length text ≤ LIMIT))
    ⊎ IsProportional method))

-- what is not given, since it would be longer than the limit
abbrev pub IsWithheld : Document → List Element → List ℕ → Data → Fault → Type 0
IsWithheld d es method params fault =
    ((method ≡ codes "rust-analyzer/viewSyntaxTree") × SaysTooDeep fault × (LIMIT < length (shown_text d es)))
    ⊎ (((method ≡ codes "textDocument/selectionRange") × SaysTooLong fault × AreLonger d es params)
    ⊎ ((method ≡ codes "textDocument/documentSymbol") × SaysTooLong fault × (LIMIT < symbols_len d es)))

-- this is so of the document under a uri and of the elements of its tree
pub record IsParsedAt (m : Map) (uri : List ℕ) (P : Document → List Element → Type 0) : Type 0 where
  pub opened : Opened
  pub elements : List Element
  pub stands : get_by_text m uri ≡ Some opened
  pub parsed : AreElementsOf (string_bytes opened.document.text) Edition2024 elements
  pub holds : P opened.document elements

-- this is so of the document that the parameters of a message name, which is open
pub record IsParsed (s : Server) (params : Data) (P : Document → List Element → Type 0) : Type 0 where
  pub uri : List ℕ
  pub uri_is : uri_in params ≡ Some uri
  pub at : IsParsedAt s.documents uri P

-- the parameters of a message name no document, or one that is not open
abbrev pub NamesNone : Server → Data → Type 0
NamesNone s params = (uri_in params ≡ None) ⊎ IsNotOpen params s

-- what a request about a document gives, and what it does not
abbrev pub Gives : Server → List ℕ → Data → List ℕ → Type 0
Gives s method params text = IsParsed s params (λ d es. IsGiven d es method params text)

abbrev pub Withholds : Server → List ℕ → Data → Fault → Type 0
Withholds s method params fault = IsParsed s params (λ d es. IsWithheld d es method params fault)
