-- Document 01, "The promises themselves": what the access cells of many rectangles promise, for every input.
use Rattle.std.specs.Prelude.{◌≡◌, Bool, ◌||◌, List, ℕ, ◌/◌, length, ℤ, ltb}
use Rattle.walkgraph.specs.Refusals.{Verdict, accepted, refused, judge, bad_grid, bad_fours, first_bad_resource}
use Rattle.walkgraph.specs.AccessPromise.{AccessAnswer, refusal, listed}
use Rattle.manyrectangles.specs.AllCells.{all_cells}
use Rattle.manyrectangles.specs.Lent.{ListsLent, listed_in}

-- 7 SCRATCH, "a lent buffer is shorter than needed": fewer indices than all access cells together, or fewer ends than rectangles
unfoldable pub short_lists : ℕ → ℕ → ℕ → ℕ → Bool
short_lists count rectangles indices ends = ltb indices count || ltb ends rectangles

-- "Access: 1, 4, 7", each as the field call has it, and 3 COUNT before 4: numbers not in fours or, as for fields, n > 512
unfoldable pub lists_verdict : ℕ → ℕ → List ℕ → List ℤ → ℕ → ℕ → Verdict
lists_verdict width height cells rectangles indices ends =
    let n = length rectangles / 4 in
    let bad = first_bad_resource width height rectangles in
    judge (bad_grid width height cells) 1 0
    (judge (bad_fours 512 rectangles) 3 0
    (judge (ltb bad n) 4 bad
    (judge (short_lists (length (all_cells width height cells rectangles n)) n indices ends) 7 0 accepted)))

-- the answer and both lent buffers after the call, where they held `before`
pub data AccessListsPromise (width height : ℕ) (cells : List ℕ) (rectangles : List ℤ) (before : ListsLent) : ListsLent → AccessAnswer → Type 0 where
  -- "A refusal returns number and place and writes nothing."
  refuses : {number place : ℕ} → lists_verdict width height cells rectangles (length before.indices) (length before.ends) ≡ refused number place →
      AccessListsPromise width height cells rectangles before before (refusal number place)
  -- "Access cells are the walkable ring cells, listed by row, then column", of one rectangle after another; how many there are
  lists : lists_verdict width height cells rectangles (length before.indices) (length before.ends) ≡ accepted →
      AccessListsPromise width height cells rectangles before (listed_in width height cells rectangles before)
      (listed (length (all_cells width height cells rectangles (length rectangles / 4))))
