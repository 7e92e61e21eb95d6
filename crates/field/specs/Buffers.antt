-- The seven lent buffers as document 01's.
use Rattle.std.specs.Prelude.{◌≡◌}
use Rattle.walkgraph.specs.Buffers.{Lent}
use Rattle.make.specs.Makes.{lent}
use Rattle.field.specs.declared.buffers.Buffers.{Buffers}

-- what the buffers hold
abbrev pub lent_of : Buffers → Lent
lent_of b = lent b.lanes.now b.walk.now b.flags.now b.rows.now b.versions.now b.pulled_down.now b.pulled_up.now

-- they are the same slices
pub record SameSlices (before after : Buffers) : Type 0 where
  pub lanes : after.lanes.ghost_name ≡ before.lanes.ghost_name
  pub walk : after.walk.ghost_name ≡ before.walk.ghost_name
  pub flags : after.flags.ghost_name ≡ before.flags.ghost_name
  pub rows : after.rows.ghost_name ≡ before.rows.ghost_name
  pub versions : after.versions.ghost_name ≡ before.versions.ghost_name
  pub pulled_down : after.pulled_down.ghost_name ≡ before.pulled_down.ghost_name
  pub pulled_up : after.pulled_up.ghost_name ≡ before.pulled_up.ghost_name
