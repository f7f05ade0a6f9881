-- What is still to begin on the way back through a history, the nearest first.
-- (What calls promise one another; no promise of the library rests on it.)
use Rattle.std.specs.Prelude.{ℕ, suc, zero, ◌+◌, List, [], ◌∷◌, ◌++◌, Bool, true, false}
use Rattle.rap_events.specs.declared.event.walk.Pending.{Pending}
use Rattle.rap_events.specs.declared.event.walk.Pending.TheVariants as pending

-- the kinds of the nodes that begin where the newest open marker does, the outermost first
abbrev pub glue : List Pending → List ℕ
glue [] = []
glue (pending.Outermost k ∷ ps) = k ∷ []
glue (pending.Inner k ∷ ps) = glue ps ++ k ∷ []
glue (pending.Nothing ∷ ps) = []
glue (pending.Past ∷ ps) = []

-- what is to begin before that marker
abbrev pub others : List Pending → List Pending
others [] = []
others (pending.Outermost k ∷ ps) = ps
others (pending.Inner k ∷ ps) = others ps
others (pending.Nothing ∷ ps) = ps
others (pending.Past ∷ ps) = ps

-- whether a node begins there
abbrev pub begins_node : List Pending → Bool
begins_node [] = false
begins_node (pending.Outermost k ∷ ps) = true
begins_node (pending.Inner k ∷ ps) = true
begins_node (pending.Nothing ∷ ps) = false
begins_node (pending.Past ∷ ps) = false

-- what is left once that marker is found to be one before a node: its nodes stay, to be around that node
abbrev pub left_by : Bool → List Pending → List Pending
left_by true ps = ps
left_by false ps = others ps

-- a node in those around it, or the outermost at its place
abbrev pub node_of : Bool → ℕ → Pending
node_of true k = pending.Inner k
node_of false k = pending.Outermost k

-- so many markers further back
abbrev pub pasts : ℕ → List Pending → List Pending
pasts zero ps = ps
pasts (suc n) ps = pending.Past ∷ pasts n ps

-- a node is to begin past so many markers
abbrev pub begun : ℕ → Bool → ℕ → List Pending → List Pending
begun skips is_around k ps = pasts skips (node_of is_around k ∷ ps)

-- how many nodes of a list begin within another one, which a call before them begins
abbrev pub inners : List Pending → ℕ
inners [] = 0
inners (pending.Outermost k ∷ ps) = inners ps
inners (pending.Inner k ∷ ps) = inners ps + 1
inners (pending.Nothing ∷ ps) = inners ps
inners (pending.Past ∷ ps) = inners ps

-- one for the node that is to be in those around it
abbrev pub slot : Bool → ℕ
slot true = 1
slot false = 0
