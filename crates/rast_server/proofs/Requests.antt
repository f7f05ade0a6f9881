-- What is sent for each kind of message.
use Rattle.std.proofs.Common.{◌≡◌, ℕ, Bool, Bor, MatchOption, String, true, false, IfOk, OnErr, IsUtf8, List, Option, Some, None, Result, Ok, Err, refl, sym, subst, option_map, string_bytes}
use Rattle.std.specs.declared.alloc.AllocError.{AllocError}
use Rattle.std.specs.declared.alloc.Global.{Global}
use Rattle.serde_json.specs.Data.{Data, null, boolean, number, string, array, object, unsigned, negative, float}
use Rattle.serde_json.specs.Read.{read}
use Rattle.serde_json.specs.View.{view}
use Rattle.serde_json.specs.declared.value.Value.{Value}
use Rattle.serde_json.specs.Written.{has_float}
use Rattle.rast_messages.specs.Messages.{IsNoMessage, IsNotification, IsRequest, checked_id, id_in}
use Rattle.rast_messages.specs.Replies.{error_text}
use Rattle.rast_messages.specs.declared.reply.Fault.{Fault}
use Rattle.rast_messages.specs.declared.reply.Code.TheVariants.{InternalError, InvalidRequest, ParseError}
use Rattle.rast_server.specs.Answered.{Answers, Heeds, IsAnswer, IsUnanswered, IsUntold, Reports, id_or_null, params_in}
use Rattle.rast_server.specs.Answered.IsAnswer.{request, notification, no_message, no_json, no_memory}
use Rattle.rast_server.specs.Answered.IsUnanswered.{same, untold}
use Rattle.rast_server.specs.declared.server.Outcome.{Outcome}
use Rattle.rast_server.specs.declared.server.Outcome.TheVariants.{Reply}
use Rattle.rast_server.specs.declared.server.Server.{Server}

checked_plain : (o : Option Data) (i : Data) → checked_id o ≡ Some i → has_float i ≡ false
checked_plain None i e = cc e
checked_plain (Some null) i e = cc e
checked_plain (Some (boolean b)) i e = cc e
checked_plain (Some (number (unsigned n))) i e = subst (λ (d : Data). has_float d ≡ false) (let f : number (unsigned n) ≡ i = cc e in f) refl
checked_plain (Some (number (negative n))) i e = subst (λ (d : Data). has_float d ≡ false) (let f : number (negative n) ≡ i = cc e in f) refl
checked_plain (Some (number (float x))) i e = cc e
checked_plain (Some (string s)) i e = subst (λ (d : Data). has_float d ≡ false) (let f : string s ≡ i = cc e in f) refl
checked_plain (Some (array ds)) i e = cc e
checked_plain (Some (object ms)) i e = cc e

-- an id is no number with a fraction
pub id_plain : (d i : Data) → id_in d ≡ Some i → has_float i ≡ false
id_plain d i e = checked_plain _ i e

-- a request is answered
pub requested : (old new : Server) (content method : List ℕ) (d i params : Data) (r : Result Outcome AllocError) → read content ≡ Some d → IsRequest d i method
    → params ≡ params_in d → IfOk r (λ o. has_float i ≡ false → Answers old i method params o new) → IfOk r (λ o. IsAnswer old content o new)
requested old new content method d i params (Ok o) e p q h =
    request d i method e p (subst (λ (x : Data). Answers old i method x o new) q (h (id_plain d i p.id_is)))
requested old new content method d i params (Err a) e p q h = tt

-- a notification is heeded
pub notified : (old new : Server) (content method : List ℕ) (d params : Data) (r : Result Outcome AllocError) → read content ≡ Some d → IsNotification d method
    → params ≡ params_in d → IfOk r (λ o. Heeds old method params o new) → IfOk r (λ o. IsAnswer old content o new)
notified old new content method d params (Ok o) e p q h = notification d method e p (subst (λ (x : Data). Heeds old method x o new) q h)
notified old new content method d params (Err a) e p q h = tt

-- a content that is not read is reported
pub unread : (old : Server) (content : List ℕ) (memory : Bool) (r : Result Outcome AllocError) → (memory ≡ false → IsUtf8 content → read content ≡ None)
    → IfOk r (λ o. memory ≡ true → Reports InternalError null o) → IfOk r (λ o. memory ≡ false → Reports ParseError null o)
    → IfOk r (λ o. IsAnswer old content o old)
unread old content true (Ok o) none h k = no_memory (h refl) refl
unread old content false (Ok o) none h k = no_json (none refl) (k refl) refl
unread old content memory (Err a) none h k = tt

-- the text of an error with an id that may not be known
error_is : (id : Option (Bor Value)) (known : Option Data) (text : List ℕ) (fault : Fault) → option_map (λ v. view v.now) id ≡ known
    → ((i : Data) → known ≡ Some i → has_float i ≡ false)
    → MatchOption id (text ≡ error_text null fault) (λ v. has_float (view v.now) ≡ false → text ≡ error_text (view v.now) fault)
    → text ≡ error_text (id_or_null known) fault
error_is None known text fault e plain h = subst (λ (o : Option Data). text ≡ error_text (id_or_null o) fault) e h
error_is (Some v) known text fault e plain h = subst (λ (o : Option Data). text ≡ error_text (id_or_null o) fault) e (h (plain (view v.now) (sym e)))

-- what is no message is reported
pub unfit : (old : Server) (content : List ℕ) (d : Data) (id : Option (Bor Value)) (fault : Fault) (text : String Global) → read content ≡ Some d
    → IsNoMessage d → option_map (λ v. view v.now) id ≡ id_in d → fault.code ≡ InvalidRequest
    → MatchOption id (string_bytes text ≡ error_text null fault) (λ v. has_float (view v.now) ≡ false → string_bytes text ≡ error_text (view v.now) fault)
    → IsAnswer old content (Reply text) old
unfit old content d id fault text e none known code h = no_message d e none
    (record { fault = fault; code_is = code; text_is = error_is id (id_in d) (string_bytes text) fault known (id_plain d) h }) refl

-- what a notification leaves that is not answered
pub untold_of : (old new : Server) (content method : List ℕ) (d params : Data) (r : Result Outcome AllocError) → read content ≡ Some d → IsNotification d method
    → params ≡ params_in d → OnErr r (IsUntold old method params new) → OnErr r (IsUnanswered old content new)
untold_of old new content method d params (Ok o) e p q h = tt
untold_of old new content method d params (Err a) e p q h = untold d method e p (subst (λ (x : Data). IsUntold old method x new) q h)

-- what is not answered leaves the server as it was
pub left : (old new : Server) (content : List ℕ) (r : Result Outcome AllocError) → OnErr r (new ≡ old) → OnErr r (IsUnanswered old content new)
left old new content (Ok o) h = tt
left old new content (Err a) h = same h
