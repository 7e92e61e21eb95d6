-- Labelling access cells one after another: what stands before the first, and after some places of a list.
use Rattle.std.specs.Prelude.{◌≡◌, ◌⊎◌, List, ℕ, ◌+◌, ◌*◌, ◌≤◌, ◌<◌, get_or, length}
use Rattle.walkgraph.specs.Links.{Joined}
use Rattle.walkgraph.specs.FieldsPromise.{JoinInput, start_of, WalkableOn, Access, LinkedBy}
use Rattle.walkgraph.proofs.DisjointSet.{Same}
use Rattle.disjoint.specs.Forest.{of}
use Rattle.cellstate.specs.Labels.{owner_of, depth_of}
use Rattle.visits.specs.SearchState.{Walks, Seeds, Planting}
use Rattle.seeds.specs.Sown.{Sowable}

-- the states before any cell is labelled: 65,535 where the cell is walkable, 0 where not
pub record Grounded (cells before states : List ℕ) : Type 0 where
  pub size : length states ≡ length before
  pub entry : (k : ℕ) → k < length states → of states k ≡ of cells k * 65535

-- the place of an access cell of resource s is done, where the lists before r are, and of the list r the places before `place`
abbrev pub Done : ℕ → ℕ → ℕ → ℕ → Type 0
Done r place s k = (s < r) ⊎ ((s ≡ r) × (k < place))

-- the access cells at the places that are done are labelled, each with a resource of its class; labels are of access cells, and resources that are in one class are in one field
pub record SownTo (i : JoinInput) (r place : ℕ) (states queue parents ranks : List ℕ) (tail : ℕ) : Type 0 where
  pub planting : Planting i.width i.height states queue parents ranks tail
  pub size : length parents ≡ length i.ends
  pub walks_on : (x y : ℕ) → WalkableOn i x y → Walks i.width i.height states x y
  pub walks_off : (x y : ℕ) → Walks i.width i.height states x y → WalkableOn i x y
  pub every : (s x y : ℕ) (a : Access i s x y) → Done r place s a.place → (depth_of (of states (y * i.width + x)) ≡ 0) × Same (of parents) s (owner_of (of states (y * i.width + x)))
  pub only : (s x y : ℕ) → Seeds i.width i.height states s x y → Access i s x y
  pub joined : (s t : ℕ) → s < length parents → t < length parents → Same (of parents) s t → Joined (LinkedBy i) s t

-- an input of this width and with these indices, of which the places from..to are of resource r
pub record OfList (i : JoinInput) (width : ℕ) (indices : List ℕ) (r from to : ℕ) : Type 0 where
  pub sowable : Sowable i
  pub wide : i.width ≡ width
  pub list : i.indices ≡ indices
  pub resource : r < length i.ends
  pub low : start_of i.ends r ≤ from
  pub rise : from ≤ to
  pub high : to ≤ get_or i.ends r 0

-- there is such an input, and the lists before r and the places before `from` are done
pub record MaySow (width : ℕ) (indices : List ℕ) (r from to : ℕ) (states queue parents ranks : List ℕ) (tail : ℕ) : Type 0 where
  pub input : JoinInput
  pub places : OfList input width indices r from to
  pub sown : SownTo input r from states queue parents ranks tail

-- for each such input, and of its places those before `place` are done
abbrev pub SownSo : (width : ℕ) (indices : List ℕ) (r from to place : ℕ) (states queue parents ranks : List ℕ) (tail : ℕ) (states' queue' parents' ranks' : List ℕ) (tail' : ℕ) → Type 0
SownSo width indices r from to place states queue parents ranks tail states' queue' parents' ranks' tail' =
    (i : JoinInput) → OfList i width indices r from to → SownTo i r from states queue parents ranks tail → SownTo i r place states' queue' parents' ranks' tail'

-- and where all are
abbrev pub Sows : (width : ℕ) (indices : List ℕ) (r from to : ℕ) (states queue parents ranks : List ℕ) (tail : ℕ) (states' queue' parents' ranks' : List ℕ) (tail' : ℕ) → Type 0
Sows width indices r from to = SownSo width indices r from to to

-- the call is not refused, and the buffers are those of its map and its resources
pub record MaySeed (i : JoinInput) (states queue parents ranks : List ℕ) : Type 0 where
  pub sowable : Sowable i
  pub cells : length states ≡ i.height * i.width
  pub room : length queue ≡ i.height * i.width
  pub members : length parents ≡ length i.ends
  pub long : length ranks ≡ length i.ends
