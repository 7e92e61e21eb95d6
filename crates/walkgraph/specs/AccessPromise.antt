-- Document 01, "The promises themselves": what access of a rectangle promises, for every input.
use Rattle.std.specs.Prelude.{◌≡◌, List, ◌++◌, ℕ, length, drop}
use Rattle.walkgraph.specs.Painting.{Rectangle}
use Rattle.walkgraph.specs.Ring.{access_cells}
use Rattle.walkgraph.specs.Refusals.{accepted, refused, access_verdict}

-- a refusal's number and place, or how many access cells there are
pub data AccessAnswer : Type 0 where
  refusal : (number place : ℕ) → AccessAnswer
  listed : (count : ℕ) → AccessAnswer

-- the answer and the lent buffer after the call, where it held `before`
pub data AccessPromise (width height : ℕ) (cells : List ℕ) (r : Rectangle) (before : List ℕ) : List ℕ → AccessAnswer → Type 0 where
  -- "A refusal returns number and place and writes nothing."
  refuses : {number place : ℕ} → access_verdict width height cells r (length before) ≡ refused number place →
      AccessPromise width height cells r before before (refusal number place)
  -- "Access cells are the walkable ring cells, listed by row, then column"; "Entries past the used part stay."
  lists : access_verdict width height cells r (length before) ≡ accepted →
      AccessPromise width height cells r before (access_cells width height cells r ++ drop (length (access_cells width height cells r)) before)
      (listed (length (access_cells width height cells r)))
