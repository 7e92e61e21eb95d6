-- What one move from a cell does.
use Rattle.std.specs.Prelude.{◌≡◌, ◌≢◌, not, List, ℕ, ◌+◌, ◌*◌, ◌≤◌, ◌<◌, T, length, set}
use Rattle.disjoint.specs.Forest.{of, Forest}
use Rattle.cellstate.specs.Labels.{Label}
use Rattle.cellstate.specs.Looks.{opens}
use Rattle.labels.specs.Growth.{Met}

-- the numbers of a move by over - 1 columns and down - 1 rows: none is too large, and no difference stops at 0
pub record MoveFits (index next point over down : ℕ) : Type 0 where
  pub across : over ≤ 2
  pub along : down ≤ 2
  pub here : index < 1048576
  pub there : next < 1048576
  pub place : point < 1048576
  pub first : over ≤ next + 1
  pub second : 1 ≤ index + over
  pub low : 1025 ≤ point + (down * 1024 + over)

-- the move's cells are in the map, the queue has room for a cell that is labelled, and a label met is one of a resource
pub record MayVisit (states queue parents ranks : List ℕ) (tail state next first second : ℕ) : Type 0 where
  pub forest : Forest parents ranks
  pub next_in : next < length states
  pub first_in : first < length states
  pub second_in : second < length states
  pub label : Label (length parents) state
  pub room : T (opens states next first second) → of states next ≡ 65535 → tail < length queue
  pub labels : T (opens states next first second) → of states next ≢ 65535 → Label (length parents) (of states next)

-- a move to a cell: closed, into a cell that gets a label, or into one whose label is met
pub data Visited (states queue parents ranks : List ℕ) (tail state next point first second : ℕ) : List ℕ → List ℕ → List ℕ → List ℕ → ℕ → Type 0 where
  shut : T (not (opens states next first second)) → Visited states queue parents ranks tail state next point first second states queue parents ranks tail
  labelled : T (opens states next first second) → of states next ≡ 65535 →
      Visited states queue parents ranks tail state next point first second (set states next (state + 1)) (set queue tail point) parents ranks (tail + 1)
  met : {parents' ranks' : List ℕ} → T (opens states next first second) → of states next ≢ 65535 → Met parents parents' ranks' state (of states next) →
      Visited states queue parents ranks tail state next point first second states queue parents' ranks' tail
