-- What a field call leads to, by the window and by the lengths of the lent buffers.
use Rattle.std.specs.Prelude.{◌≡◌, Bool, true, false, cond, ◌&&◌, Option, Some, None, Result, Ok, Err, List, ℕ, ◌+◌, ◌*◌, ◌-◌, ◌/◌, ◌≤◌, length, ℤ, leb}
use Rattle.walkgraph.specs.Painting.{Rectangle}
use Rattle.walkgraph.specs.Window.{sources}
use Rattle.walkgraph.specs.Buffers as buffers
use Rattle.walkgraph.specs.Refusals.{bad_span, FieldInput, Verdict, accepted, refused, field_verdict}
use Rattle.cells.specs.Boxes.{reach, box_of}
use Rattle.rings.specs.Rings.{AllRings}
use Rattle.badgrid.specs.Greatest.{greatest}
use Rattle.targetbox.specs.TargetBox.{cells_of}
use Rattle.window.specs.declared.record.Window.{Window}
use Rattle.lane.specs.Levels.{LaneCount}
use Rattle.plan.specs.declared.Lent.{Lent}
use Rattle.refusal.specs.declared.Refusal.{Refusal}
use Rattle.refusal.specs.declared.Refusal.TheVariants.{Scratch}
use Rattle.refusal.specs.Table.{number_of, place_of}
use Rattle.plan.specs.declared.site.Site.{Site}
use Rattle.plan.specs.Sites.{GoodSite}

-- the lengths that refusal 7 asks for: "P x lanes i16, P bytes of walk, P bytes of flags, 2H u16 of row intervals (two a row), and three version buffers of H+2 u32"
unfoldable pub enough : Window → Lent → Bool
enough window lent =
    let cells = (window.height + 2) * (window.width + 2) in
    let rows = window.height in
    leb (cells * window.lanes) lent.lanes && leb cells lent.walk && leb cells lent.flags && leb (2 * rows) lent.rows && leb (rows + 2) lent.versions && leb (rows + 2) lent.pulled_down && leb (rows + 2) lent.pulled_up

-- resources, a lane count and a target box that are not refused, and at least one resource
pub record Accepted (width height lanes : ℕ) (resources : List ℤ) (targets : Rectangle) : Type 0 where
  pub rings : AllRings width height resources
  pub count : LaneCount lanes
  pub across : bad_span width targets.left targets.right ≡ false
  pub along : bad_span height targets.top targets.bottom ≡ false

-- their site
pub record SiteOf (width height lanes : ℕ) (resources : List ℤ) (targets : Rectangle) (s : Site) : Type 0 where
  pub good : GoodSite s
  pub columns : s.width ≡ width
  pub rows : s.height ≡ height
  pub from : box_of s.sources ≡ sources width height resources (length resources / 4 - 1)
  pub to : box_of s.targets ≡ cells_of targets
  pub count : s.window.lanes ≡ lanes

-- the plan of a site: refusal 7 is left
unfoldable pub site_plan : Site → Lent → Result (Option Site) Refusal
site_plan s lent = cond (enough s.window lent) (Ok (Some s)) (Err Scratch)

-- ---- the plan of a field call

-- what a field call is given, as one record
abbrev pub input_of : (width height : ℕ) (cells : List ℕ) (lanes : ℕ) (blockers resources : List ℤ) (targets : Rectangle) → FieldInput
input_of width height cells lanes blockers resources targets =
    record { width = width; height = height; cells = cells; lanes = lanes; blockers = blockers; resources = resources; targets = targets }

-- buffers of these lengths
pub record Lengths (lent : Lent) (before : buffers.Lent) : Type 0 where
  pub lanes : length before.lanes ≡ lent.lanes
  pub walk : length before.walk ≡ lent.walk
  pub flags : length before.flags ≡ lent.flags
  pub rows : length before.rows ≡ lent.rows
  pub versions : length before.versions ≡ lent.versions
  pub down : length before.pulled_down ≡ lent.pulled_down
  pub up : length before.pulled_up ≡ lent.pulled_up

-- the table's verdict, whatever the buffers hold
abbrev pub Judged : FieldInput → Lent → Verdict → Type 0
Judged i lent verdict = (before : buffers.Lent) → Lengths lent before → field_verdict reach i before ≡ verdict

-- an accepted call with no resources
pub record NothingToMake (i : FieldInput) (lent : Lent) : Type 0 where
  pub judged : Judged i lent accepted
  pub none : length i.resources / 4 ≡ 0

-- an accepted call with a resource, and its site
pub record ToMake (i : FieldInput) (lent : Lent) (s : Site) : Type 0 where
  pub judged : Judged i lent accepted
  pub some_columns : 1 ≤ i.width
  pub some_rows : 1 ≤ i.height
  pub long : length i.cells ≡ i.width * i.height
  pub bits : greatest i.cells ≤ 1
  pub few : length i.resources / 4 ≤ i.lanes
  pub found : Accepted i.width i.height i.lanes i.resources i.targets
  pub site : SiteOf i.width i.height i.lanes i.resources i.targets s
  pub room : enough s.window lent ≡ true

-- what a plan says of a call
unfoldable pub PlanOf : FieldInput → Lent → Result (Option Site) Refusal → Type 0
PlanOf i lent (Err refusal) = Judged i lent (refused (number_of refusal) (place_of refusal))
PlanOf i lent (Ok None) = NothingToMake i lent
PlanOf i lent (Ok (Some s)) = ToMake i lent s
