-- What labelling one access cell does.
use Rattle.std.specs.Prelude.{◌≡◌, ◌≢◌, List, ℕ, ◌+◌, ◌<◌, length, set}
use Rattle.disjoint.specs.Forest.{of, Forest}
use Rattle.cellstate.specs.Labels.{Label}
use Rattle.labels.specs.Growth.{Met}

-- the cell is in the map, the queue has room for a cell that is labelled, and a label met is one of a resource
pub record MayPlant (states queue parents ranks : List ℕ) (tail label index : ℕ) : Type 0 where
  pub forest : Forest parents ranks
  pub cell : index < length states
  pub own : Label (length parents) label
  pub room : of states index ≡ 65535 → tail < length queue
  pub other : of states index ≢ 0 → of states index ≢ 65535 → Label (length parents) (of states index)

-- an access cell: unwalkable and left, labelled, or met by its label
pub data Planted (states queue parents ranks : List ℕ) (tail label index point : ℕ) : List ℕ → List ℕ → List ℕ → List ℕ → ℕ → Type 0 where
  shut : of states index ≡ 0 → Planted states queue parents ranks tail label index point states queue parents ranks tail
  labelled : of states index ≡ 65535 → Planted states queue parents ranks tail label index point (set states index label) (set queue tail point) parents ranks (tail + 1)
  met : {parents' ranks' : List ℕ} → of states index ≢ 0 → of states index ≢ 65535 → Met parents parents' ranks' label (of states index) →
      Planted states queue parents ranks tail label index point states queue parents' ranks' tail
