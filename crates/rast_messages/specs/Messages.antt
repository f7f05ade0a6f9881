-- What a message of JSON-RPC is.
use Rattle.std.specs.Prelude.{◌≡◌, ◌⊎◌, ℕ, List, Bool, true, false, not, Option, Some, None, IsSome, option_and_then, option_map, codes}
use Rattle.serde_json.specs.Data.{Data, null, boolean, number, string, array, object}
use Rattle.serde_json.specs.Find.{as_str, get, is_float}
use Rattle.serde_json.specs.View.{view}
use Rattle.rast_messages.specs.declared.message.Message.{Message}
use Rattle.rast_messages.specs.declared.message.Message.TheVariants.{Request, Notification, Response, Invalid}

-- an id is a string or an integer
abbrev pub is_id : Data → Bool
is_id null = false
is_id (boolean b) = false
is_id (number n) = not (is_float n)
is_id (string s) = true
is_id (array ds) = false
is_id (object ms) = false

abbrev pub checked_id : Option Data → Option Data
checked_id None = None
checked_id (Some d) = elim (is_id d) [ true ↦ Some d | false ↦ None ]

-- the id of a message, if it is one
abbrev pub id_in : Data → Option Data
id_in d = checked_id (get (codes "id") d)

-- the text of a member, if it is a text
abbrev pub text_in : List ℕ → Data → Option (List ℕ)
text_in name d = option_and_then as_str (get name d)

-- the message is one of JSON-RPC 2.0
abbrev pub IsOfProtocol : Data → Type 0
IsOfProtocol d = text_in (codes "jsonrpc") d ≡ Some (codes "2.0")

-- the message answers a request: it has an id, no method, and a result or an error
pub record IsResponse (d : Data) : Type 0 where
  pub of_protocol : IsOfProtocol d
  pub no_method : text_in (codes "method") d ≡ None
  pub id : IsSome (get (codes "id") d)
  pub answer : IsSome (get (codes "result") d) ⊎ IsSome (get (codes "error") d)

pub record IsRequest (d id : Data) (method : List ℕ) : Type 0 where
  pub of_protocol : IsOfProtocol d
  pub id_is : id_in d ≡ Some id
  pub method_is : text_in (codes "method") d ≡ Some method

pub record IsNotification (d : Data) (method : List ℕ) : Type 0 where
  pub of_protocol : IsOfProtocol d
  pub no_id : get (codes "id") d ≡ None
  pub method_is : text_in (codes "method") d ≡ Some method

-- the message is none of these
pub record IsNoMessage (d : Data) : Type 0 where
  pub no_request : (id : Data) (method : List ℕ) → ¬ IsRequest d id method
  pub no_notification : (method : List ℕ) → ¬ IsNotification d method
  pub no_response : ¬ IsResponse d

abbrev pub Classifies : Data → Message → Type 0
Classifies d (Request id method) = IsRequest d (view id.now) method.now
Classifies d (Notification method) = IsNotification d method.now
Classifies d Response = IsResponse d
Classifies d (Invalid id) = IsNoMessage d × (option_map (λ v. view v.now) id ≡ id_in d)
