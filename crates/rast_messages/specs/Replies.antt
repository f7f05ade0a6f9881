-- Replies and notifications of a server.
use Rattle.std.specs.Prelude.{ℕ, List, ◌++◌, codes}
use Rattle.serde_json.specs.Data.{Data, string}
use Rattle.serde_json.specs.Written.{compact_text}
use Rattle.rast_messages.specs.declared.reply.Code.{Code}
use Rattle.rast_messages.specs.declared.reply.Code.TheVariants.{ParseError, InvalidRequest, MethodNotFound, InvalidParams, InternalError, ServerNotInitialized, RequestFailed}
use Rattle.rast_messages.specs.declared.reply.Fault.{Fault}

-- the numbers of JSON-RPC and of the protocol
abbrev pub number_of : Code → List ℕ
number_of ParseError = codes "-32700"
number_of InvalidRequest = codes "-32600"
number_of MethodNotFound = codes "-32601"
number_of InvalidParams = codes "-32602"
number_of InternalError = codes "-32603"
number_of ServerNotInitialized = codes "-32002"
number_of RequestFailed = codes "-32803"

-- a text as a JSON string
abbrev pub string_text : List ℕ → List ℕ
string_text text = compact_text (string text)

-- what a reply begins with
unfoldable pub begun : Data → List ℕ
begun id = codes "{\"jsonrpc\":\"2.0\",\"id\":" ++ compact_text id

abbrev pub success_text : Data → List ℕ → List ℕ
success_text id value = begun id ++ codes ",\"result\":" ++ value ++ codes "}"

abbrev pub error_text : Data → Fault → List ℕ
error_text id fault = begun id ++ codes ",\"error\":{\"code\":" ++ number_of fault.code ++ codes ",\"message\":" ++ string_text fault.text.now ++ codes "}}"

-- what a notification begins with: its parameters follow
abbrev pub notification_begun : List ℕ → List ℕ
notification_begun method = codes "{\"jsonrpc\":\"2.0\",\"method\":\"" ++ method ++ codes "\",\"params\":"

abbrev pub notification_text : List ℕ → List ℕ → List ℕ
notification_text method params = codes "{\"jsonrpc\":\"2.0\",\"method\":\"" ++ method ++ codes "\",\"params\":" ++ params ++ codes "}"

-- what is said of a notification that failed
unfoldable pub failure : List ℕ → List ℕ → List ℕ
failure method text = method ++ codes ": " ++ text

-- the parameters of a notification that shows a text as an error
unfoldable pub shown_params : List ℕ → List ℕ
shown_params text = codes "{\"type\":1,\"message\":" ++ string_text text ++ codes "}"
