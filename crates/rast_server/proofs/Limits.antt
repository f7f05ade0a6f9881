-- What requests about documents are answered.
use Rattle.std.proofs.Common.{◌≡◌, ◌≢◌, ◌⊎◌, ℕ, List, Option, None, Some, String, Result, Ok, Err, IfErr, IfOk, codes, inl, inr, option_map, refl, string_bytes, subst, ap, sym, ◌∙◌}
use Rattle.std.specs.BTreeMap.{get_by_text}
use Rattle.std.specs.declared.alloc.Global.{Global}
use Rattle.serde_json.specs.Data.{Data}
use Rattle.rap_base.specs.declared.edition.Edition.TheVariants.{Edition2024}
use Rattle.flat_tree.specs.declared.element.Element.{Element}
use Rattle.rast_answers.specs.Listings.{AreElementsOf}
use Rattle.rast_document.specs.declared.document.Document.{Document}
use Rattle.rast_messages.specs.Params.{uri_in}
use Rattle.rast_messages.specs.declared.reply.Code.TheVariants.{InternalError}
use Rattle.rast_messages.specs.declared.reply.Fault.{Fault}
use Rattle.rast_server.specs.Answered.{IsAboutDocument, IsRefusedAbout}
use Rattle.rast_server.specs.Limited.{Fails, Gives, IsGiven, IsParsedAt, IsProportional, IsWithheld}
use Rattle.rast_server.specs.Trees.{Map}
use Rattle.rast_server.specs.declared.server.Opened.{Opened}
use Rattle.rast_server.specs.declared.server.Server.{Server}

-- the request that is left of those about a document
pub last_method : (m : List ℕ) → IsAboutDocument m → IsProportional m → m ≢ codes "textDocument/foldingRange" → m ≢ codes "textDocument/documentHighlight"
    → m ≢ codes "textDocument/semanticTokens/full" → m ≡ codes "textDocument/semanticTokens/range"
last_method m (inl e) p f h t = absurd (p.2 e)
last_method m (inr (inl e)) p f h t = absurd (f e)
last_method m (inr (inr (inl e))) p f h t = absurd (p.1 e)
last_method m (inr (inr (inr (inl e)))) p f h t = absurd (h e)
last_method m (inr (inr (inr (inr (inl e))))) p f h t = absurd (t e)
last_method m (inr (inr (inr (inr (inr (inl e)))))) p f h t = e
last_method m (inr (inr (inr (inr (inr (inr e)))))) p f h t = absurd (p.0 e)

some_of : {A B : Type 0} (f : A → B) (o : Option A) (b : B) → option_map f o ≡ Some b → (a : A) × ((o ≡ Some a) × (b ≡ f a))
some_of f None b e = absurd cc
some_of f (Some a) b e = (a, (refl, cc))

-- what is so of the document under a uri, whose tree has these elements
pub parsed_at : (m : Map) (uri : List ℕ) (d : Document) (es : List Element) (P : Document → List Element → Type 0)
    → option_map (λ opened. opened.document) (get_by_text m uri) ≡ Some d → AreElementsOf (string_bytes d.text) Edition2024 es → P d es → IsParsedAt m uri P
parsed_at m uri d es P is parsed holds =
    let x = some_of (λ (opened : Opened). opened.document) (get_by_text m uri) d is in
    record {
      opened = x.0;
      elements = es;
      stands = x.1.0;
      parsed = subst (λ (y : Document). AreElementsOf (string_bytes y.text) Edition2024 es) x.1.1 parsed;
      holds = subst (λ (y : Document). P y es) x.1.1 holds;
    }

-- a document that was found is the one under its uri
pub of_get : (m n : Map) (uri : List ℕ) (opened : Opened) (d : Document) → Some opened ≡ get_by_text n uri → n ≡ m → d ≡ opened.document
    → option_map (λ x. x.document) (get_by_text m uri) ≡ Some d
of_get m n uri opened d found same is =
    ap (λ (x : Map). option_map (λ y. y.document) (get_by_text x uri)) (sym same)
    ∙ ap (λ (o : Option Opened). option_map (λ y. y.document) o) (sym found) ∙ ap Some (sym is)

-- what is given about it
pub given_at : (r : Result (String Global) Fault) (m : Map) (uri method : List ℕ) (params : Data) (d : Document) (es : List Element)
    → option_map (λ opened. opened.document) (get_by_text m uri) ≡ Some d → AreElementsOf (string_bytes d.text) Edition2024 es
    → IfOk r (λ text. IsGiven d es method params (string_bytes text)) → IfOk r (λ text. IsParsedAt m uri (λ d es. IsGiven d es method params (string_bytes text)))
given_at (Ok text) m uri method params d es is parsed h = parsed_at m uri d es (λ x ys. IsGiven x ys method params (string_bytes text)) is parsed h
given_at (Err fault) m uri method params d es is parsed h = tt

withheld_at : (fault : Fault) (m : Map) (uri method : List ℕ) (params : Data) (d : Document) (es : List Element)
    → option_map (λ opened. opened.document) (get_by_text m uri) ≡ Some d → AreElementsOf (string_bytes d.text) Edition2024 es
    → Fails method fault.code ⊎ IsWithheld d es method params fault → Fails method fault.code ⊎ IsParsedAt m uri (λ d es. IsWithheld d es method params fault)
withheld_at fault m uri method params d es is parsed (inl fails) = inl fails
withheld_at fault m uri method params d es is parsed (inr h) = inr (parsed_at m uri d es (λ x ys. IsWithheld x ys method params fault) is parsed h)

-- why nothing is
pub why_at : (r : Result (String Global) Fault) (m : Map) (uri method : List ℕ) (params : Data) (d : Document) (es : List Element)
    → option_map (λ opened. opened.document) (get_by_text m uri) ≡ Some d → AreElementsOf (string_bytes d.text) Edition2024 es
    → IfErr r (λ fault. Fails method fault.code ⊎ IsWithheld d es method params fault)
    → IfErr r (λ fault. Fails method fault.code ⊎ IsParsedAt m uri (λ d es. IsWithheld d es method params fault))
why_at (Ok text) m uri method params d es is parsed h = tt
why_at (Err fault) m uri method params d es is parsed h = withheld_at fault m uri method params d es is parsed h

-- what is given about the document that the parameters name
pub gives : (r : Result (String Global) Fault) (s : Server) (uri method : List ℕ) (params : Data) → uri_in params ≡ Some uri
    → IfOk r (λ text. IsParsedAt s.documents uri (λ d es. IsGiven d es method params (string_bytes text))) → IfOk r (λ text. Gives s method params (string_bytes text))
gives (Ok text) s uri method params is h = record { uri = uri; uri_is = is; at = h }
gives (Err fault) s uri method params is h = tt

refused : (fault : Fault) (s : Server) (uri method : List ℕ) (params : Data) → uri_in params ≡ Some uri
    → Fails method fault.code ⊎ IsParsedAt s.documents uri (λ d es. IsWithheld d es method params fault) → (fault.code ≡ InternalError) ⊎ IsRefusedAbout s method params fault
refused fault s uri method params is (inl (inl memory)) = inl memory
refused fault s uri method params is (inl (inr places)) = inr (inl (places.0, inr places.1))
refused fault s uri method params is (inr h) = inr (inr (record { uri = uri; uri_is = is; at = h }))

-- why nothing is
pub refuses : (r : Result (String Global) Fault) (s : Server) (uri method : List ℕ) (params : Data) → uri_in params ≡ Some uri
    → IfErr r (λ fault. Fails method fault.code ⊎ IsParsedAt s.documents uri (λ d es. IsWithheld d es method params fault))
    → IfErr r (λ fault. (fault.code ≡ InternalError) ⊎ IsRefusedAbout s method params fault)
refuses (Ok text) s uri method params is h = tt
refuses (Err fault) s uri method params is h = refused fault s uri method params is h
