-- Labelling the access cells of all resources: what is asked of the lists, and what stands once some of their places are done.
use Rattle.std.specs.Prelude.{◌≡◌, List, ℕ, ◌+◌, ◌*◌, ◌≤◌, ◌<◌, get_or, length}
use Rattle.walkgraph.specs.Links.{Joined}
use Rattle.walkgraph.specs.FieldsPromise.{JoinInput, start_of, WalkableOn, Access, LinkedBy}
use Rattle.walkgraph.proofs.DisjointSet.{Same}
use Rattle.disjoint.specs.Forest.{of}
use Rattle.cellstate.specs.Labels.{owner_of, depth_of}
use Rattle.visits.specs.SearchState.{Walks, Seeds, Planting}

-- a fields call that is not refused: its map, at most 512 lists that never fall, and indices of cells
pub record Sowable (i : JoinInput) : Type 0 where
  pub wide : (1 ≤ i.width) × (i.width ≤ 1024)
  pub tall : (1 ≤ i.height) × (i.height ≤ 1024)
  pub cells : length i.cells ≡ i.height * i.width
  pub bits : (k : ℕ) → get_or i.cells k 0 ≤ 1
  pub few : length i.ends ≤ 512
  pub rise : (r : ℕ) → r < length i.ends → start_of i.ends r ≤ get_or i.ends r 0
  pub high : (r : ℕ) → r < length i.ends → get_or i.ends r 0 ≤ length i.indices
  pub cell : (k : ℕ) → k < length i.indices → get_or i.indices k 0 < i.height * i.width

-- the access cells of the first `lists` resources are labelled, each with a resource of its class; labels are of access cells, and resources that are in one class are in one field
pub record Sown (i : JoinInput) (lists : ℕ) (states queue parents ranks : List ℕ) (tail : ℕ) : Type 0 where
  pub planting : Planting i.width i.height states queue parents ranks tail
  pub size : length parents ≡ length i.ends
  pub walks_on : (x y : ℕ) → WalkableOn i x y → Walks i.width i.height states x y
  pub walks_off : (x y : ℕ) → Walks i.width i.height states x y → WalkableOn i x y
  pub every : (r x y : ℕ) → r < lists → Access i r x y → (depth_of (of states (y * i.width + x)) ≡ 0) × Same (of parents) r (owner_of (of states (y * i.width + x)))
  pub only : (r x y : ℕ) → Seeds i.width i.height states r x y → Access i r x y
  pub joined : (r s : ℕ) → r < length parents → s < length parents → Same (of parents) r s → Joined (LinkedBy i) r s
