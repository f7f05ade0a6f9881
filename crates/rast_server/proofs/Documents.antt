-- What becomes of the documents.
use Rattle.std.proofs.Common.{◌≡◌, ◌⊎◌, ℕ, ℤ, List, Bor, Option, Some, None, Result, Ok, Err, IfErr, OnOk, OnErr, false, is_err, map, option_map, string_bytes, unwrap_or, codes, inl, inr, ap, sym, subst, rules, ◌∙◌}
use Rattle.std.specs.BTreeMap.{get_by_text}
use Rattle.serde_json.specs.Data.{Data, null}
use Rattle.serde_json.specs.Find.{get}
use Rattle.serde_json.specs.View.{view}
use Rattle.serde_json.specs.declared.value.Value.{Value, Null, the_lemmas}
use Rattle.rast_document.specs.declared.change.Change.{Change}
use Rattle.rast_document.specs.declared.document.Document.{Document}
use Rattle.rast_messages.specs.Params.{changes_in, said, uri_in, version_in}
use Rattle.rast_messages.specs.declared.reply.Fault.{Fault}
use Rattle.rast_server.specs.Answered.{params_in}
use Rattle.rast_server.specs.Documents.{CannotChange, Changes, IsNoMemory, Puts, SaysNoPlace, SaysNotOpen}
use Rattle.rast_server.specs.Trees.{ChangesText, HasNoText, Map, PutsIn}
use Rattle.rast_server.specs.declared.server.Opened.{Opened}
use Rattle.rast_server.specs.declared.server.Server.{Server}

pub view-Null : view Null ≡ null
view-Null = search (rules, the_lemmas)

-- the parameters that are handed on are those of the message
pub params_are : (o : Option (Bor Value)) (r none : Bor Value) (d : Data) → r ≡ unwrap_or o none → option_map (λ v. view v.now) o ≡ get (codes "params") d
    → view none.now ≡ null → view r.now ≡ params_in d
params_are None r none d u e n = ap (λ (v : Bor Value). view v.now) u ∙ (n ∙ ap (λ (x : Option Data). unwrap_or x null) e)
params_are (Some v) r none d u e n = ap (λ (v : Bor Value). view v.now) u ∙ ap (λ (x : Option Data). unwrap_or x null) e

-- what is so of a success
pub on_ok : {A E P : Type 0} (r : Result A E) → OnOk r P → is_err r ≡ false → P
on_ok (Ok a) h e = h
on_ok (Err x) h e = cc e

-- what is so whatever the result
pub always : {A E P : Type 0} (r : Result A E) → P → OnOk r P
always (Ok a) p = p
always (Err x) p = tt

-- a failure that kept all
pub kept_all : {A P : Type 0} (Q : Type 0) (r : Result A Fault) → P → IfErr r (λ fault. P ⊎ (IsNoMemory fault × Q))
kept_all Q (Ok a) p = tt
kept_all Q (Err x) p = inl p

-- a failure after what was done
pub done_first : {A Q : Type 0} (P : Type 0) (r : Result A Fault) → IfErr r IsNoMemory → Q → IfErr r (λ fault. P ⊎ (IsNoMemory fault × Q))
done_first P (Ok a) h q = tt
done_first P (Err x) h q = inr (h, q)

-- what is so whatever the error
pub always_err : {A E P : Type 0} (r : Result A E) → P → OnErr r P
always_err (Ok a) p = tt
always_err (Err x) p = p

-- why a change is not made
pub not_made : (params : Data) (s : Server) (fault : Fault) (uri : List ℕ) (changes : List Change) → uri_in params ≡ Some uri → changes_in params ≡ Some (map said changes)
    → IsNoMemory fault ⊎ ((SaysNotOpen fault × (get_by_text s.documents uri ≡ None)) ⊎ (SaysNoPlace fault × HasNoText uri changes s.documents))
    → CannotChange params s fault
not_made params s fault uri changes u k (inl memory) = inl memory
not_made params s fault uri changes u k (inr (inl h)) = inr (inr (inl (h.0, record { uri = uri; uri_is = u; none = h.1 })))
not_made params s fault uri changes u k (inr (inr h)) =
    inr (inr (inr (h.0, record { uri = uri; changes = changes; before = h.1.before; uri_is = u; changes_are = k; was = h.1.was; none = h.1.none })))

-- a change that is made, with its version in another form
pub made : (params : Data) (s t : Server) (uri : List ℕ) (v w : ℤ) (changes : List Change) (m : Map) → uri_in params ≡ Some uri → changes_in params ≡ Some (map said changes)
    → version_in params ≡ Some v → w ≡ v → ChangesText uri w changes s.documents m → t.documents ≡ m → Changes params s t
made params s t uri v w changes m u k i j h e = record {
  uri = uri;
  changes = changes;
  before = h.before;
  after = h.after;
  uri_is = u;
  changes_are = k;
  was = h.was;
  version_is = i ∙ ap Some (sym (h.version_is ∙ j));
  encoding = h.encoding;
  text = h.text;
  puts = subst (λ (n : Map). PutsIn uri (Some h.after) s.documents n) (sym e) h.puts;
}

-- what stands at a uri once another server has the same documents
pub puts_kept : (uri : List ℕ) (w : Option Opened) (s t : Server) (m n : Map) → m ≡ s.documents → t.documents ≡ n → PutsIn uri w m n → Puts uri w s t
puts_kept uri w s t m n e f p =
    subst (λ (x : Map). PutsIn uri w s.documents x) (sym f) (subst (λ (x : Map). PutsIn uri w x n) e p)

-- the same for a document whose version is given in another form
pub put_version : (uri : List ℕ) (v w : ℤ) (d : Document) (m n : Map) → w ≡ v → PutsIn uri (Some record { version = w; document = d }) m n
    → PutsIn uri (Some record { version = v; document = d }) m n
put_version uri v w d m n e p = subst (λ (x : ℤ). PutsIn uri (Some record { version = x; document = d }) m n) e p
