-- What the ground of a field asks of its site and of the lent buffers.
use Rattle.std.specs.Prelude.{◌≡◌, List, ℕ, ◌+◌, ◌*◌, ◌/◌, ◌≤◌, length, ℤ}
use Rattle.walkgraph.specs.Lists.{placed}
use Rattle.rings.specs.Rings.{AllRings}
use Rattle.window.specs.declared.record.Window.{Window}
use Rattle.window.specs.Fills.{AreBits}
use Rattle.plan.specs.declared.site.Site.{Site}
use Rattle.plan.specs.Sites.{GoodSite}

-- the cells are those of the site's map, each 0 or 1, and the window with padding has room in the walk bytes and in the flags
pub record GroundFits (s : Site) (cells : List ℕ) (walk flags : ℕ) : Type 0 where
  pub site : GoodSite s
  pub map : length cells ≡ s.height * s.width
  pub bits : AreBits cells (s.height * s.width)
  pub walk_in : (s.window.height + 2) * (s.window.width + 2) ≤ walk
  pub flags_in : (s.window.height + 2) * (s.window.width + 2) ≤ flags

-- each resource has a ring on the site's map and a lane, and the window with padding has room in the lanes, the walk bytes and the intervals
pub record BeginFits (s : Site) (resources : List ℤ) (lanes walk rows : ℕ) : Type 0 where
  pub site : GoodSite s
  pub rings : AllRings s.width s.height resources
  pub few : length resources / 4 ≤ s.window.lanes
  pub lanes_in : (s.window.height + 2) * (s.window.width + 2) * s.window.lanes ≤ lanes
  pub walk_in : (s.window.height + 2) * (s.window.width + 2) ≤ walk
  pub rows_in : 2 * s.window.height ≤ rows

-- the levels of a buffer after all lanes of the window, with padding, became unreachable
abbrev pub unreachable_levels : Window → (ℕ → ℕ) → ℕ → ℕ
unreachable_levels w before = placed before 0 ((w.height + 2) * (w.width + 2) * w.lanes) (λ (k : ℕ). 65535)
