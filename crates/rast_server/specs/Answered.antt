-- What is sent for a message, and what the server is after it.
use Rattle.std.specs.Prelude.{◌≡◌, ◌≢◌, ◌⊎◌, ℕ, List, Option, Some, None, IsUtf8, codes, string_bytes, unwrap_or}
use Rattle.serde_json.specs.Data.{Data, null}
use Rattle.serde_json.specs.Find.{get}
use Rattle.serde_json.specs.Read.{read}
use Rattle.rast_messages.specs.Messages.{IsNoMessage, IsNotification, IsRequest, IsResponse, id_in}
use Rattle.rast_messages.specs.Replies.{error_text, failure, notification_text, shown_params, success_text}
use Rattle.rast_messages.specs.declared.reply.Code.{Code}
use Rattle.rast_messages.specs.declared.reply.Code.TheVariants.{ParseError, InvalidRequest, MethodNotFound, InvalidParams, InternalError, ServerNotInitialized}
use Rattle.rast_messages.specs.declared.reply.Fault.{Fault}
use Rattle.rast_server.specs.Documents.{Cannot, Changes, Does, KeepsDocuments, Leaves}
use Rattle.rast_server.specs.Limited.{AsksOfPlaces, Gives, NamesNone, Withholds}
use Rattle.rast_server.specs.declared.server.Granted.{Granted}
use Rattle.rast_server.specs.declared.server.Outcome.{Outcome}
use Rattle.rast_server.specs.declared.server.Outcome.TheVariants.{Nothing, Reply, Note, Exit}
use Rattle.rast_server.specs.declared.server.Server.{Server}
use Rattle.rast_server.specs.declared.server.Stage.{Stage}
use Rattle.rast_server.specs.declared.server.Stage.TheVariants.{Fresh, Ready, ShutDown}

-- the requests about a document
abbrev pub IsAboutDocument : List ℕ → Type 0
IsAboutDocument m = (m ≡ codes "textDocument/documentSymbol") ⊎ ((m ≡ codes "textDocument/foldingRange")
    ⊎ ((m ≡ codes "textDocument/selectionRange") ⊎ ((m ≡ codes "textDocument/documentHighlight")
    ⊎ ((m ≡ codes "textDocument/semanticTokens/full") ⊎ ((m ≡ codes "textDocument/semanticTokens/range")
    ⊎ (m ≡ codes "rust-analyzer/viewSyntaxTree"))))))

-- the notifications that the server heeds, but for `exit`
abbrev pub IsHeeded : List ℕ → Type 0
IsHeeded m = (m ≡ codes "textDocument/didOpen") ⊎ ((m ≡ codes "textDocument/didChange") ⊎ (m ≡ codes "textDocument/didClose"))

-- when a request is refused with which code for its time or its method alone; out of memory it may always be
abbrev pub IsRefusedAt : Stage → List ℕ → Code → Type 0
IsRefusedAt stage method code = (code ≡ InternalError)
    ⊎ (((code ≡ ServerNotInitialized) × (stage ≡ Fresh) × (method ≢ codes "initialize"))
    ⊎ (((code ≡ InvalidRequest) × ((stage ≡ ShutDown) ⊎ ((stage ≡ Ready) × (method ≡ codes "initialize"))))
    ⊎ ((code ≡ MethodNotFound) × (stage ≡ Ready) × (method ≢ codes "initialize") × (method ≢ codes "shutdown") × ¬ IsAboutDocument method)))

-- when one about a document is: it names none that is open, its places are none, or its answer would be longer than the
-- limit
abbrev pub IsRefusedAbout : Server → List ℕ → Data → Fault → Type 0
IsRefusedAbout s method params fault =
    ((fault.code ≡ InvalidParams) × (NamesNone s params ⊎ AsksOfPlaces method)) ⊎ Withholds s method params fault

abbrev pub Refuses : Server → List ℕ → Data → Fault → Type 0
Refuses s method params fault =
    IsRefusedAt s.stage method fault.code ⊎ ((s.stage ≡ Ready) × IsAboutDocument method × IsRefusedAbout s method params fault)

-- what a request makes of the server: `initialize` and `shutdown` lead on, and nothing else changes it
abbrev pub Grants : Server → List ℕ → Data → Granted → Type 0
Grants s method params g = ((s.stage ≡ Fresh) × (method ≡ codes "initialize") × (g.stage ≡ Ready))
    ⊎ (((s.stage ≡ Ready) × (method ≡ codes "shutdown") × (g.stage ≡ ShutDown) × (g.encoding ≡ s.encoding) × (string_bytes g.text ≡ codes "null"))
    ⊎ ((s.stage ≡ Ready) × IsAboutDocument method × (g.stage ≡ Ready) × (g.encoding ≡ s.encoding) × Gives s method params (string_bytes g.text)))

-- the reply with the result, and the server as the request leaves it
pub record IsGranted (old : Server) (id : Data) (method : List ℕ) (params : Data) (text : List ℕ) (new : Server) : Type 0 where
  pub granted : Granted
  pub grants : Grants old method params granted
  pub text_is : text ≡ success_text id (string_bytes granted.text)
  pub stage : new.stage ≡ granted.stage
  pub encoding : new.encoding ≡ granted.encoding
  pub documents : new.documents ≡ old.documents

-- the reply with an error, and the server as it was
pub record IsRefused (old : Server) (id : Data) (method : List ℕ) (params : Data) (text : List ℕ) (new : Server) : Type 0 where
  pub fault : Fault
  pub refuses : Refuses old method params fault
  pub text_is : text ≡ error_text id fault
  pub same : new ≡ old

-- the reply to a request, exactly one
abbrev pub Answers : Server → Data → List ℕ → Data → Outcome → Server → Type 0
Answers old id method params Nothing new = ⊥
Answers old id method params (Reply text) new =
    IsGranted old id method params (string_bytes text) new ⊎ IsRefused old id method params (string_bytes text) new
Answers old id method params (Note text) new = ⊥
Answers old id method params (Exit status) new = ⊥

-- the status with which the server ends
abbrev pub status_of : Stage → ℕ
status_of Fresh = 1
status_of Ready = 1
status_of ShutDown = 0

-- the parameters of a message, or `null`
abbrev pub params_in : Data → Data
params_in d = unwrap_or (get (codes "params") d) null

-- a notification about a document fails, and the editor is told why
pub record IsLogged (old : Server) (method : List ℕ) (params : Data) (text : List ℕ) (new : Server) : Type 0 where
  pub fault : Fault
  pub text_is : text ≡ notification_text (codes "window/logMessage") (shown_params (failure method fault.text.now))
  pub why : Cannot method params old fault
  pub leaves : Leaves method params fault old new

-- a notification about a document does what it says, or fails
pub record IsDone (old : Server) (method : List ℕ) (params : Data) (text : List ℕ) (new : Server) : Type 0 where
  pub heeded : IsHeeded method
  pub ready : old.stage ≡ Ready
  pub stage : new.stage ≡ old.stage
  pub encoding : new.encoding ≡ old.encoding
  pub documents : Does method params old new ⊎ IsLogged old method params text new

-- what a notification does: never is there a reply
abbrev pub Heeds : Server → List ℕ → Data → Outcome → Server → Type 0
Heeds old method params Nothing new = (method ≢ codes "exit") × (new ≡ old) × ((old.stage ≢ Ready) ⊎ ¬ IsHeeded method)
Heeds old method params (Reply text) new = ⊥
Heeds old method params (Note text) new = IsDone old method params (string_bytes text) new
Heeds old method params (Exit status) new = (method ≡ codes "exit") × (new ≡ old) × (status ≡ status_of old.stage)

-- what a notification leaves of which the editor is not even told that it failed
pub record IsUntold (old : Server) (method : List ℕ) (params : Data) (new : Server) : Type 0 where
  pub stage : new.stage ≡ old.stage
  pub encoding : new.encoding ≡ old.encoding
  pub documents : KeepsDocuments old new ⊎ ((method ≡ codes "textDocument/didChange") × Changes params old new)

-- an error with this code is sent, without an id or with the one that is known
pub record IsError (code : Code) (id : Data) (text : List ℕ) : Type 0 where
  pub fault : Fault
  pub code_is : fault.code ≡ code
  pub text_is : text ≡ error_text id fault

abbrev pub Reports : Code → Data → Outcome → Type 0
Reports code id Nothing = ⊥
Reports code id (Reply text) = IsError code id (string_bytes text)
Reports code id (Note text) = ⊥
Reports code id (Exit status) = ⊥

-- `null` where no id can be told
abbrev pub id_or_null : Option Data → Data
id_or_null None = null
id_or_null (Some id) = id

-- what is sent for the content of a message, and what the server is after it
pub data IsAnswer (old : Server) (content : List ℕ) (outcome : Outcome) (new : Server) : Type 0 where
  request : (d id : Data) (method : List ℕ) → read content ≡ Some d → IsRequest d id method → Answers old id method (params_in d) outcome new → IsAnswer old content outcome new
  notification : (d : Data) (method : List ℕ) → read content ≡ Some d → IsNotification d method → Heeds old method (params_in d) outcome new → IsAnswer old content outcome new
  response : (d : Data) → read content ≡ Some d → IsResponse d → outcome ≡ Nothing → new ≡ old → IsAnswer old content outcome new
  no_message : (d : Data) → read content ≡ Some d → IsNoMessage d → Reports InvalidRequest (id_or_null (id_in d)) outcome → new ≡ old → IsAnswer old content outcome new
  no_json : (IsUtf8 content → read content ≡ None) → Reports ParseError null outcome → new ≡ old → IsAnswer old content outcome new
  no_memory : Reports InternalError null outcome → new ≡ old → IsAnswer old content outcome new

-- what a message leaves that is not answered, since there is no memory for any answer
pub data IsUnanswered (old : Server) (content : List ℕ) (new : Server) : Type 0 where
  same : new ≡ old → IsUnanswered old content new
  untold : (d : Data) (method : List ℕ) → read content ≡ Some d → IsNotification d method → IsUntold old method (params_in d) new → IsUnanswered old content new
