-- Reading a cell: the code's part as that of the walk graph, and a part of the lent lanes as a list.
use Rattle.std.specs.Prelude.{List, take, drop, ℤ}
use Rattle.walkgraph.specs.Reading.{Part}
use Rattle.reading.specs.declared.Part as code

-- "the part of the lent lanes that belongs to it"
abbrev pub as_part : code.Part → Part
as_part p = record { start = p.start; size = p.length }

-- the entries from a part's start on, as many as its size
unfoldable pub part_of : Part → List ℤ → List ℤ
part_of p lanes = take p.size (drop p.start lanes)
