-- The field call's promise from its plan: the call is refused, there is nothing to make, or the field is made at a site.
use mathlib.Core.Path.{◌≡◌, sym, ◌∙◌, subst}
use mathlib.Core.Bool.{Bool, true, false, ◌&&◌}
use Prim.Native.Nat.{ℕ, ◌+◌, ◌*◌, ◌≤◌}
use native.Mathlib.Nat.{mul_comm}
use native.Mathlib.Omega.{arith}
use lib.ListN.{length}
use lib.Dec.{T, leb, leb→le}
use Rattle.walkgraph.specs.Buffers.{Call, Lent, FieldMade}
use Rattle.walkgraph.specs.Reading.{no_window}
use Rattle.walkgraph.specs.Refusals.{FieldInput, call_of}
use Rattle.walkgraph.specs.Promise.{refusal, made, FieldPromise, refuses, nothing, makes}
use Rattle.cells.specs.Boxes.{reach}
use Rattle.badgrid.proofs.Grids.{entry_least}
use Rattle.window.specs.declared.record.Window.{Window}
use Rattle.window.specs.Windows.{as_record}
use Rattle.window.specs.Fills.{AreBits}
use Rattle.plan.specs.declared.Lent as plan
use Rattle.std.specs.Prelude.{Some, None, Ok, Err}
use Rattle.refusal.specs.declared.Refusal.{Refusal}
use Rattle.refusal.specs.Table.{number_of, place_of}
use Rattle.plan.specs.declared.site.Site.{Site}
use Rattle.plan.specs.Plans.{enough, Lengths, ToMake, PlanOf}
use Rattle.plan.proofs.Plans.{in_limits_lem, record_is}
use Rattle.make.specs.Makes.{site_call, MakeFits}

-- the lengths that a window needs
pub record Roomy (w : Window) (l : plan.Lent) : Type 0 where
  pub lanes : (w.height + 2) * (w.width + 2) * w.lanes ≤ l.lanes
  pub walk : (w.height + 2) * (w.width + 2) ≤ l.walk
  pub flags : (w.height + 2) * (w.width + 2) ≤ l.flags
  pub rows : 2 * w.height ≤ l.rows
  pub versions : w.height + 2 ≤ l.versions
  pub downs : w.height + 2 ≤ l.pulled_down
  pub ups : w.height + 2 ≤ l.pulled_up

all_seven : (a b c d e f g : Bool) → T (a && b && c && d && e && f && g) → T a × T b × T c × T d × T e × T f × T g
all_seven true true true true true true true t = (tt, tt, tt, tt, tt, tt, tt)
all_seven false b c d e f g t = elim t [ ]
all_seven true false c d e f g t = elim t [ ]
all_seven true true false d e f g t = elim t [ ]
all_seven true true true false e f g t = elim t [ ]
all_seven true true true true false f g t = elim t [ ]
all_seven true true true true true false g t = elim t [ ]
all_seven true true true true true true false t = elim t [ ]

roomy : (w : Window) (l : plan.Lent) → T (enough w l) → Roomy w l
unfolding enough
roomy w l t =
    let cells = (w.height + 2) * (w.width + 2) in
    let rows = w.height in
    let r = all_seven (leb (cells * w.lanes) l.lanes) (leb cells l.walk) (leb cells l.flags) (leb (2 * rows) l.rows) (leb (rows + 2) l.versions) (leb (rows + 2) l.pulled_down) (leb (rows + 2) l.pulled_up) t in
    record {
      lanes = leb→le _ _ r.0;
      walk = leb→le _ _ r.1;
      flags = leb→le _ _ r.2;
      rows = leb→le _ _ r.3;
      versions = leb→le _ _ r.4;
      downs = leb→le _ _ r.5;
      ups = leb→le _ _ r.6;
    }

module _ (i : FieldInput) (lengths : plan.Lent) (before : Lent) (long : Lengths lengths before) where
  pub call_refused : (row : Refusal) → PlanOf i lengths (Err row) → FieldPromise reach i before before (refusal (number_of row) (place_of row))
  unfolding PlanOf
  call_refused row p = refuses (p before long)

  pub call_nothing : PlanOf i lengths (Ok None) → FieldPromise reach i before before (made (no_window i.lanes) 0)
  unfolding PlanOf
  call_nothing p = nothing (p.judged before long) p.none

  module _ (s : Site) (p : PlanOf i lengths (Ok (Some s))) where
    to_make : ToMake i lengths s
    unfolding PlanOf
    to_make = p

    -- the map of an accepted call
    map_long : length i.cells ≡ s.height * s.width
    map_long = let o = to_make.site in rw (o.rows, o.columns) (to_make.long ∙ mul_comm i.width i.height)

    map_bits : AreBits i.cells (s.height * s.width)
    map_bits k h = omega (arith, entry_least i.cells k, to_make.bits)

    pub make_fits : MakeFits s i.cells i.resources before
    make_fits =
        let p = to_make in
        let o = p.site in
        let r = roomy s.window lengths (subst T (sym p.room) tt) in
        record {
          ground = record { site = o.good; map = map_long; bits = map_bits; walk_in = omega (arith, r.walk, long.walk); flags_in = omega (arith, r.flags, long.flags) };
          start = record {
            site = o.good;
            rings = rw (o.columns, o.rows) p.found.rings;
            few = omega (arith, o.count, p.few);
            lanes_in = omega (arith, r.lanes, long.lanes);
            walk_in = omega (arith, r.walk, long.walk);
            rows_in = omega (arith, r.rows, long.rows);
          };
          versions = record { limit = (in_limits_lem s o.good).1; versions_in = omega (arith, r.versions, long.versions); downs_in = omega (arith, r.downs, long.down); ups_in = omega (arith, r.ups, long.up) };
          from = rw (o.columns, o.rows) o.from;
        }

    -- the site's call is the input's
    same_call : site_call s i.cells i.blockers i.resources ≡ call_of reach i
    unfolding call_of
    same_call = let o = to_make.site in rw (o.columns, o.rows, o.count, o.to)

    pub call_made : {after : Lent} {sweeps : ℕ} → FieldMade (site_call s i.cells i.blockers i.resources) before after sweeps → FieldPromise reach i before after (made (as_record s.window) sweeps)
    call_made {after} {sweeps} m =
        let p = to_make in
        rw (record_is i s p.site) (makes (p.judged before long) p.found.rings.some (subst (λ (c : Call). FieldMade c before after sweeps) same_call m))
