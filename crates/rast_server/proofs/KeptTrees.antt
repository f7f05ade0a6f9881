-- What becomes of the kept trees.
use Rattle.std.proofs.Common.{◌≡◌, ◌⊎◌, ◌<◌, ◌-◌, ◌++◌, ◌∷◌, ℕ, Bool, false, true, not, List, [], Option, None, Some, String, Vec, suc, length, slice_index_or, take, drop, string_bytes, inl, inr, refl, sym, subst, ap, ◌∙◌, if◌then◌else◌}
use Rattle.std.proofs.lemmas.Bool.{both_ways, cond-false, cond-true, false_from_ne_true, not-true}
use Rattle.std.proofs.lemmas.List.Elements.{All-append, All-contains, All-drop, All-filter, All-push, All-same, All-take, filter_passes}
use Rattle.std.proofs.lemmas.Map.Text.{btree_map_updates_text}
use Rattle.std.proofs.lemmas.Slice.Eq.{bytes_eq-Decides}
use Rattle.std.specs.BTreeMap.{UpdatesBy, get_by_text, is_at}
use Rattle.std.specs.Cmp.Lexicographic.{slice_cmp}
use Rattle.std.specs.List.{remove}
use Rattle.std.specs.Map.{lookup}
use Rattle.std.specs.Option.{ForSome}
use Rattle.std.specs.Ordering.{nat_cmp}
use Rattle.std.specs.Str.{bytes_eq}
use Rattle.std.specs.String.{string_cmp}
use Rattle.std.specs.declared.alloc.Global.{Global}
use Rattle.rap_base.specs.declared.edition.Edition.TheVariants.{Edition2024}
use Rattle.flat_tree.specs.declared.element.Element.{Element}
use Rattle.rast_answers.specs.Listings.{AreElementsOf}
use Rattle.rast_document.specs.Changes.{AllChange}
use Rattle.rast_document.specs.declared.change.Change.{Change}
use Rattle.rast_messages.specs.declared.reply.Fault.{Fault}
use Rattle.rast_server.specs.Documents.{IsNoMemory, SaysNoPlace, SaysNotOpen}
use Rattle.rast_server.specs.Trees.{AreKeptOf, AreTrees, HasNoText, IsTree, IsTreeOf, Keeps, Map, Prepares, PutsIn, is_under, last, others}
use Rattle.rast_server.specs.declared.server.Opened.{Opened}
use Rattle.rast_server.specs.declared.trees.Kept.{Kept}

-- the map is changed at this uri alone
pub put_in : (uri : List ℕ) (w : Option Opened) (m n : Map) → UpdatesBy string_cmp (λ k. slice_cmp nat_cmp uri (string_bytes k)) m n w → PutsIn uri w m n
put_in uri w m n h = btree_map_updates_text uri m n w h

-- what stands at a uri afterwards
pub put_at : (uri : List ℕ) (w : Option Opened) (m n : Map) → PutsIn uri w m n → get_by_text n uri ≡ w
put_at uri w m n p = p uri ∙ cond-true (bytes_eq uri uri) w (get_by_text m uri) ((bytes_eq-Decides uri uri).1 refl)

-- the same from a map to one that is the same as another
pub put_from : (uri : List ℕ) (w : Option Opened) (l m n : Map) → m ≡ l → PutsIn uri w m n → PutsIn uri w l n
put_from uri w l m n e p = subst (λ (x : Map). PutsIn uri w x n) e p

apart : (xs ys : List ℕ) → bytes_eq xs ys ≡ false → bytes_eq ys xs ≡ false
apart xs ys e = false_from_ne_true (bytes_eq ys xs) (λ t. both_ways (bytes_eq xs ys) e ((bytes_eq-Decides xs ys).1 (sym ((bytes_eq-Decides ys xs).0 t))))

-- a tree that is kept under another uri than that of the document that changed
tree_put : (m n : Map) (uri : List ℕ) (w : Option Opened) (tree : Kept) → PutsIn uri w m n → is_under uri tree ≡ false → IsTree m tree → IsTree n tree
tree_put m n uri w tree p e t = λ opened f.
    let same : get_by_text n (string_bytes tree.uri) ≡ get_by_text m (string_bytes tree.uri)
    = p (string_bytes tree.uri) ∙ cond-false (bytes_eq uri (string_bytes tree.uri)) w (get_by_text m (string_bytes tree.uri)) (apart (string_bytes tree.uri) uri e) in
    t opened (sym same ∙ f)

-- one document changes, and its trees are given up
pub trees_put : (m n : Map) (uri : List ℕ) (w : Option Opened) (old new : List Kept) → PutsIn uri w m n → new ≡ others uri old → AreTrees m old → AreTrees n new
trees_put m n uri w old new p e t = All-same (IsTree n) new (others uri old) e (λ i d h.
    tree_put m n uri w (slice_index_or (others uri old) i d) p (not-true _ (filter_passes (λ (k : Kept). not (is_under uri k)) old i d h))
    (All-filter (λ (k : Kept). not (is_under uri k)) (IsTree m) old t i d h))

-- no document changes
pub trees_same : (m n : Map) (trees : List Kept) → n.entries ≡ m.entries → AreTrees m trees → AreTrees n trees
trees_same m n trees e t = λ i d h opened f.
    t i d h opened (ap (λ es. lookup (is_at (λ k. slice_cmp nat_cmp (string_bytes (slice_index_or trees i d).uri) (string_bytes k))) es) (sym e) ∙ f)

-- a document's tree becomes the latest, or the oldest is given up
pub trees_prepared : (m : Map) (uri : List ℕ) (old new : List Kept) → Prepares uri old new → AreTrees m old → AreTrees m new
trees_prepared m uri old new (inl h) t =
    let rest = All-append (IsTree m) (take h.place old) (drop (suc h.place) old) (All-take (IsTree m) h.place old t) (All-drop (IsTree m) (suc h.place) old t) in
    let own = All-contains (IsTree m) old h.tree t (h.place, h.within, h.stood) in
    All-same (IsTree m) new (remove old h.place ++ h.tree ∷ []) h.moved (All-push (IsTree m) (remove old h.place) h.tree rest own)
trees_prepared m uri old new (inr h) t = All-same (IsTree m) new (last 3 old) h.1 (All-drop (IsTree m) (length old - 3) old t)

-- the nodes and leaves of the tree of a document are kept
trees_with : (m : Map) (uri : List ℕ) (elements : List Element) (old new : List Kept)
    → ForSome (get_by_text m uri) (λ opened. AreElementsOf (string_bytes opened.document.text) Edition2024 elements)
    → Keeps uri elements old new → AreTrees m old → AreTrees m new
trees_with m uri elements old new h k t =
    let own : IsTree m k.tree = λ opened e.
    subst (λ (es : List Element). AreElementsOf (string_bytes opened.document.text) Edition2024 es) (sym k.elements_are)
    (h opened (ap (λ (u : List ℕ). get_by_text m u) (sym k.under) ∙ e)) in
    let rest = All-drop (IsTree m) (length (others uri old) - 3) (others uri old) (All-filter (λ (x : Kept). not (is_under uri x)) (IsTree m) old t) in
    All-same (IsTree m) new (last 3 (others uri old) ++ k.tree ∷ []) k.kept (All-push (IsTree m) (last 3 (others uri old)) k.tree rest own)

-- they are kept, or all is as before
pub trees_kept : (b : Bool) (m : Map) (uri : List ℕ) (elements : List Element) (old new : List Kept)
    → ForSome (get_by_text m uri) (λ opened. AreElementsOf (string_bytes opened.document.text) Edition2024 elements)
    → (b ≡ true → Keeps uri elements old new) → (b ≡ false → new ≡ old) → AreTrees m old → AreTrees m new
trees_kept true m uri elements old new h k r t = trees_with m uri elements old new h (k refl) t
trees_kept false m uri elements old new h k r t = All-same (IsTree m) new old (r refl) t

-- a tree comes behind others
pub keeps : (tree : Kept) (uri : List ℕ) (elements : List Element) (old rest new : List Kept) → new ≡ rest ++ tree ∷ [] → rest ≡ last 3 (others uri old)
    → string_bytes tree.uri ≡ uri → tree.elements.items ≡ elements → Keeps uri elements old new
keeps tree uri elements old rest new p q u e = record {
  tree = tree;
  under = u;
  elements_are = e;
  kept = p ∙ ap (λ (ts : List Kept). ts ++ tree ∷ []) q;
}

-- a tree that is kept under the uri of an open document is that of its text
pub tree_of : (m : Map) (uri : List ℕ) (opened : Opened) (tree : Kept) (trees : List Kept) → AreTrees m trees → IsTreeOf uri tree trees
    → get_by_text m uri ≡ Some opened → AreElementsOf (string_bytes opened.document.text) Edition2024 tree.elements.items
tree_of m uri opened tree trees t h e =
    let under : string_bytes tree.uri ≡ uri = (bytes_eq-Decides (string_bytes tree.uri) uri).0 h.1 in
    All-contains (IsTree m) trees tree t h.0 opened (ap (λ (u : List ℕ). get_by_text m u) under ∙ e)

-- the nodes and leaves of a text's tree
pub kept_of : (text : List ℕ) (elements : List Element) (kept : Vec Element Global) → AreElementsOf text Edition2024 elements → kept.items ≡ elements → AreKeptOf text (Some kept)
kept_of text elements kept h e = λ es f.
    let same : kept ≡ es = cc in
    subst (λ (x : List Element). AreElementsOf text Edition2024 x) (sym e ∙ ap (λ (v : Vec Element Global). v.items) same) h

-- what is kept of the text of the document that stands at a uri
pub kept_at : (m : Map) (uri : List ℕ) (opened : Opened) (tree : Option (Vec Element Global)) → Some opened ≡ get_by_text m uri → AreKeptOf (string_bytes opened.document.text) tree
    → ForSome (get_by_text m uri) (λ x. AreKeptOf (string_bytes x.document.text) tree)
kept_at m uri opened tree e h = λ x f.
    let both : Some opened ≡ Some x = e ∙ f in
    let same : opened ≡ x = cc in
    subst (λ (o : Opened). AreKeptOf (string_bytes o.document.text) tree) same h

-- why a change is not made
pub no_text : (fault : Fault) (uri : List ℕ) (changes : List Change) (m : Map) (before : Opened) → get_by_text m uri ≡ Some before
    → IsNoMemory fault ⊎ (SaysNoPlace fault × ((text : List ℕ) → ¬ AllChange before.document.encoding (string_bytes before.document.text) changes text))
    → IsNoMemory fault ⊎ ((SaysNotOpen fault × (get_by_text m uri ≡ None)) ⊎ (SaysNoPlace fault × HasNoText uri changes m))
no_text fault uri changes m before b (inl memory) = inl memory
no_text fault uri changes m before b (inr h) = inr (inr (h.0, record { before = before; was = b; none = h.1 }))
