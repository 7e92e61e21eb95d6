-- What making a field asks of its site and of its buffers.
use Rattle.std.specs.Prelude.{◌≡◌, List, ℕ, ◌-◌, ◌/◌, min, ℤ, length}
use Rattle.walkgraph.specs.Window.{sources}
use Rattle.walkgraph.specs.Buffers.{Call, Lent}
use Rattle.cells.specs.Boxes.{reach, box_of}
use Rattle.plan.specs.declared.site.Site.{Site}
use Rattle.grounds.specs.Grounds.{GroundFits, BeginFits}
use Rattle.versions.specs.Versions.{VersionBuffers}

-- the rows of the window above the sources
abbrev pub quiet_rows : Site → ℕ
quiet_rows s = min (s.sources.top - s.window.top) s.window.height

-- what is lent to make it
abbrev pub lent : (lanes : List ℤ) (walk flags rows versions downs ups : List ℕ) → Lent
lent lanes walk flags rows versions downs ups = record { lanes = lanes; walk = walk; flags = flags; rows = rows; versions = versions; pulled_down = downs; pulled_up = ups }

-- the call that a site is of
abbrev pub site_call : Site → List ℕ → List ℤ → List ℤ → Call
site_call s cells blockers resources =
    record { reach = reach; width = s.width; height = s.height; cells = cells; lanes = s.window.lanes; blockers = blockers; resources = resources; targets = box_of s.targets }

-- the map and the resources are those of the site, and the window has room in what is lent
pub record MakeFits (s : Site) (cells : List ℕ) (resources : List ℤ) (before : Lent) : Type 0 where
  pub ground : GroundFits s cells (length before.walk) (length before.flags)
  pub start : BeginFits s resources (length before.lanes) (length before.walk) (length before.rows)
  pub versions : VersionBuffers s.window.height (length before.versions) (length before.pulled_down) (length before.pulled_up)
  pub from : box_of s.sources ≡ sources s.width s.height resources (length resources / 4 - 1)
