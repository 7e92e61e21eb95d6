-- The site of an accepted call with a resource.
use Rattle.std.specs.Prelude.{◌≡◌}
use Rattle.walkgraph.specs.Window.{window}
use Rattle.cells.specs.Boxes.{reach, box_of}
use Rattle.window.specs.Windows.{OnMap, window_over}
use Rattle.lane.specs.Levels.{LaneCount}
use Rattle.plan.specs.declared.site.Site.{Site}

-- its boxes are on the map, its window is the one around them, and a cell has eight or sixteen lanes
pub record GoodSite (s : Site) : Type 0 where
  pub on_map : OnMap s.width s.height (box_of s.sources) (box_of s.targets)
  pub over : s.window ≡ window_over (window reach s.width s.height (box_of s.sources) (box_of s.targets)) s.window.lanes
  pub count : LaneCount s.window.lanes
