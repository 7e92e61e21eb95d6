-- The slices that a disjoint set is lent.
use Rattle.std.specs.Prelude.{◌≡◌}
use Rattle.disjoint.specs.declared.find.Classes.{Classes}

-- the same two slices
abbrev pub SameSlices : Classes → Classes → Type 0
SameSlices before after = (after.parents.ghost_name ≡ before.parents.ghost_name) × (after.ranks.ghost_name ≡ before.ranks.ghost_name)
