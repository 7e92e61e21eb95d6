-- The search from cell to cell, to its end.
use Rattle.std.specs.Prelude.{◌≡◌, List, ℕ, suc, ◌<◌, length}
use Rattle.disjoint.specs.Forest.{of, Forest}
use Rattle.cellstate.specs.Labels.{depth_of, cell_of}
use Rattle.labels.specs.Growth.{Grown}
use Rattle.visits.specs.SearchState.{Links, Searching, Alike}
use Rattle.picks.specs.Listed.{Table}

-- a cell is taken from the queue, and is not of depth 16
pub record Turning (width height : ℕ) (states queue parents ranks over down steps list : List ℕ) (tail head : ℕ) : Type 0 where
  pub searching : Searching width height states queue parents tail head
  pub forest : Forest parents ranks
  pub more : head < tail
  pub shallow : depth_of (of states (cell_of width (of queue head))) < 16
  pub table : Table width over down steps
  pub long : length list ≡ 9

-- its moves are done
pub record Expanded (width height : ℕ) (states parents states' queue' parents' ranks' list' : List ℕ) (tail' head : ℕ) : Type 0 where
  pub searching : Searching width height states' queue' parents' tail' (suc head)
  pub grown : Grown (Links width height states') parents parents' ranks'
  pub alike : Alike width height states states'
  pub long : length list' ≡ 9

-- access cells are labelled, and no cell has been taken from the queue
pub record Seeded (width height : ℕ) (states queue parents ranks : List ℕ) (seeds : ℕ) : Type 0 where
  pub searching : Searching width height states queue parents seeds 0
  pub forest : Forest parents ranks

-- the search after some cells
pub record Running (width height : ℕ) (states₀ parents₀ states queue parents ranks : List ℕ) (tail head : ℕ) : Type 0 where
  pub searching : Searching width height states queue parents tail head
  pub grown : Grown (Links width height states) parents₀ parents ranks
  pub alike : Alike width height states₀ states

-- and at its end: no cell is left in the queue, or the next one has depth 16
pub record Ran (width height : ℕ) (states₀ parents₀ states queue parents ranks : List ℕ) : Type 0 where
  pub tail : ℕ
  pub head : ℕ
  pub running : Running width height states₀ parents₀ states queue parents ranks tail head
  pub last : head < tail → depth_of (of states (cell_of width (of queue head))) ≡ 16
