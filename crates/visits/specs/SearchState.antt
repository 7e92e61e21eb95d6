-- The search over states and a queue, in the words of the law of its turns. The queue holds points: 1,024 times the row, plus the column.
use Rattle.std.specs.Prelude.{◌≡◌, Bool, ◌&&◌, List, ℕ, ◌+◌, ◌*◌, ◌/◌, ◌%◌, ◌≤◌, ◌<◌, T, ltb, length}
use Rattle.walkgraph.specs.Links.{Linked}
use Rattle.walkgraph.proofs.DisjointSet.{Same}
use Rattle.walklaws.proofs.SearchTurns.{State, Turn}
use Rattle.walklaws.proofs.SearchEnd.{Adj, Near}
use Rattle.disjoint.specs.Forest.{of, Forest}
use Rattle.cellstate.specs.Labels.{owner_of, depth_of, Label, cell_of}
use Rattle.labels.specs.Growth.{Grown}

-- the cell is labelled
unfoldable pub is_label : ℕ → Bool
is_label state = ltb 0 state && ltb state 65535

-- the states and the queue as the state of the two-sided search
abbrev pub state_of : ℕ → List ℕ → List ℕ → ℕ → State
state_of width states queue tail =
    record {
      lab = λ c. is_label (of states c);
      owner = λ c. owner_of (of states c);
      depth = λ c. depth_of (of states c);
      q = λ i. cell_of width (of queue i);
      tail = tail;
    }

-- the cell (x, y) is walkable
pub record Walks (width height : ℕ) (states : List ℕ) (x y : ℕ) : Type 0 where
  pub column : x < width
  pub row : y < height
  pub walks : 0 < of states (y * width + x)

-- the cell (x, y) is labelled with resource r at depth 0
pub record Seeds (width height : ℕ) (states : List ℕ) (r x y : ℕ) : Type 0 where
  pub walks : Walks width height states x y
  pub owner : owner_of (of states (y * width + x)) ≡ r
  pub depth : depth_of (of states (y * width + x)) ≡ 0

-- "linked if a walk of at most 32 steps joins a walkable access cell of one to one of the other", of the labelled access cells
abbrev pub Links : ℕ → ℕ → List ℕ → ℕ → ℕ → Type 0
Links width height states = Linked (Walks width height states) (Seeds width height states)

-- a turn of the search: labels are of resources, points are of the map, and the law's own state
pub record Searching (width height : ℕ) (states queue parents : List ℕ) (tail head : ℕ) : Type 0 where
  pub wide : (1 ≤ width) × (width ≤ 1024)
  pub tall : (1 ≤ height) × (height ≤ 1024)
  pub cells : length states ≡ height * width
  pub room : length queue ≡ height * width
  pub few : length parents ≤ 512
  pub fits : (c : ℕ) → of states c ≤ 65535
  pub labels : (c : ℕ) → T (is_label (of states c)) → Label (length parents) (of states c)
  pub points : (i : ℕ) → i < tail → (of queue i % 1024 < width) × (of queue i / 1024 < height)
  pub turn : Turn (Adj width (Walks width height states)) (Near width (Walks width height states) (Seeds width height states)) (length states) (Same (of parents)) (state_of width states queue tail) head

-- the same cells are walkable, and the same are access cells
pub record Alike (width height : ℕ) (states states' : List ℕ) : Type 0 where
  pub on : (x y : ℕ) → Walks width height states x y → Walks width height states' x y
  pub off : (x y : ℕ) → Walks width height states' x y → Walks width height states x y
  pub seeds_on : (r x y : ℕ) → Seeds width height states r x y → Seeds width height states' r x y
  pub seeds_off : (r x y : ℕ) → Seeds width height states' r x y → Seeds width height states r x y

-- a move in a turn: labels stay, and where the move was open, the next cell is labelled and its label has met
pub record Moved (width height : ℕ) (states queue parents : List ℕ) (tail head state next : ℕ) (opened : Bool) (states' queue' parents' ranks' : List ℕ) (tail' : ℕ) : Type 0 where
  pub searching : Searching width height states' queue' parents' tail' head
  pub grown : Grown (Links width height states') parents parents' ranks'
  pub alike : Alike width height states states'
  pub kept : (c : ℕ) → T (is_label (of states c)) → of states' c ≡ of states c
  pub walks : (c : ℕ) → 0 < of states' c → 0 < of states c
  pub places : (i : ℕ) → i < tail → of queue' i ≡ of queue i
  pub more : tail ≤ tail'
  pub ends : T opened → T (is_label (of states' next)) × (depth_of state + depth_of (of states' next) < 32 → Same (of parents') (owner_of state) (owner_of (of states' next)))

-- some access cells are labelled: all in the queue have depth 0
pub record Planting (width height : ℕ) (states queue parents ranks : List ℕ) (tail : ℕ) : Type 0 where
  pub searching : Searching width height states queue parents tail 0
  pub forest : Forest parents ranks
  pub flat : (i : ℕ) → i < tail → depth_of (of states (cell_of width (of queue i))) ≡ 0
