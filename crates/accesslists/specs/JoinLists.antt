-- The lists of an accepted call as the fields call is given them.
use Rattle.std.specs.Prelude.{List, ℕ, ◌/◌, length, take, ℤ}
use Rattle.walkgraph.specs.FieldsPromise.{JoinInput}
use Rattle.manyrectangles.specs.Lent.{ListsLent}

-- "u32 indices with n u32 ends": the first `count` indices, as many as the call answers, and the first n ends, as many as there are rectangles
abbrev pub join_input : ℕ → ℕ → List ℕ → List ℤ → ListsLent → ℕ → JoinInput
join_input width height cells rectangles after count =
    record { width = width; height = height; cells = cells; indices = take count after.indices; ends = take (length rectangles / 4) after.ends }
