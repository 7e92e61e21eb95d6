-- What the fields call is given, as document 01's.
use Rattle.std.specs.Prelude.{List, ℕ}
use Rattle.walkgraph.specs.FieldsPromise.{JoinInput}
use Rattle.fieldsinput.specs.declared.FieldsInput.{FieldsInput}

-- what a fields call is given
abbrev pub input_of : (width height : ℕ) (cells indices ends : List ℕ) → JoinInput
input_of width height cells indices ends = record { width = width; height = height; cells = cells; indices = indices; ends = ends }

-- "Access cells come as u32 indices with n u32 ends."
abbrev pub as_input : FieldsInput → JoinInput
as_input given = input_of given.width given.height given.cells.now given.indices.now given.ends.now
