-- An access cell before the search: its label, and its point in the queue.
use Rattle.std.specs.Prelude.{ℕ, ◌+◌, ◌*◌, ◌/◌, ◌%◌}

-- 32 times the resource's number from 1, plus the depth, which is 0
abbrev pub label_of : ℕ → ℕ
label_of resource = 32 * (resource + 1)

-- the point of the cell at an index: 1,024 times the row, plus the column
abbrev pub point_of : ℕ → ℕ → ℕ
point_of width index = index / width * 1024 + index % width
