-- `make::make`: the used part of the lanes is lent on, so the entries past it stay; the rest is what the ground, the start and the sweeps leave.
use mathlib.Core.Path.{sym, ap, ◌∙◌}
use Prim.Native.Nat.{ℕ, ◌+◌, ◌*◌, ◌≤◌}
use native.Mathlib.Omega.{arith}
use lib.Seq.{length-take-le}
use Rattle.sweep.specs.Relaxes.{RelaxFits}
use Rattle.make.specs.Makes.{quiet_rows, lent}
use Rattle.grounds.proofs.Grounds.{limits, lanes_small}
use Rattle.make.proofs.SiteMade.{relax_fits, site_made}
use Rattle.make.proofs.make.Goals.{After-begin}
use Rattle.make.proofs.make.Goals as goal

-- what the sweeps ask, after the start
fits : (c : After-begin) → let a = c.args in let w = a.site.window in RelaxFits w.lanes (w.width + 2) w.height (quiet_rows a.site) c.begin.new.lanes c.ground.new.flags c.begin.new.rows a.versions.now a.pulled_down.now a.pulled_up.now
fits c =
    let a = c.args in
    let s = a.site in
    let n = c.padded.result * s.window.lanes in
    let before = lent a.lanes.now a.walk.now a.flags.now a.rows.now a.versions.now a.pulled_down.now a.pulled_up.now in
    relax_fits s a.cells.now a.blockers.now a.resources.now before c.requires c.ground.new.walk c.ground.new.flags c.begin.new.rows n c.begin.new.lanes
    c.ground.auto.walk c.ground.auto.flags c.begin.auto.rows (ap (λ (k : ℕ). k * s.window.lanes) c.padded.ensures) c.begin.auto.lanes c.ground.ensures.0 c.ground.ensures.1 c.begin.ensures.0 c.begin.ensures.1

pub padded-requires : goal.padded-requires
padded-requires c =
    let g = c.requires.ground.site in
    let z = limits _ _ _ _ g.on_map _ g.over in
    (z.width, z.height)

pub overflow_mul-used : goal.overflow_mul-used
overflow_mul-used c =
    let g = c.requires.ground.site in
    let q : c.padded.result * c.args.site.window.lanes ≤ 16842816 = rw c.padded.ensures (lanes_small _ _ _ _ g.on_map _ g.over g.count) in
    record { fits = omega (arith, q) }

pub slice_bounds-used-end : goal.slice_bounds-used-end
slice_bounds-used-end c = rw c.padded.ensures c.requires.start.lanes_in

pub slice_bounds-used-end-2 : goal.slice_bounds-used-end-2
slice_bounds-used-end-2 c = sym (length-take-le _ c.args.lanes.now (rw c.padded.ensures c.requires.start.lanes_in))

pub ground-requires : goal.ground-requires
ground-requires c = c.requires.ground

pub begin-requires : goal.begin-requires
begin-requires c =
    let p = c.requires.start in
    let e = c.padded.ensures in
    record {
      site = p.site;
      rings = p.rings;
      few = p.few;
      lanes_in = rw (length-take-le (c.padded.result * c.args.site.window.lanes) c.args.lanes.now (rw e p.lanes_in), e) (omega arith);
      walk_in = omega (arith, p.walk_in, c.ground.auto.walk);
      rows_in = p.rows_in;
    }

pub stride-requires : goal.stride-requires
stride-requires c = let g = c.requires.ground.site in (limits _ _ _ _ g.on_map _ g.over).width

pub relax-requires : goal.relax-requires
relax-requires c = rw (c.stride.ensures, c.above-quiet.ensures) (fits (goal.at.relax-requires c).After-begin)

pub returns : goal.returns
returns c =
    let a = c.args in
    let s = a.site in
    let n = c.padded.result * s.window.lanes in
    let before = lent a.lanes.now a.walk.now a.flags.now a.rows.now a.versions.now a.pulled_down.now a.pulled_up.now in
    site_made s a.cells.now a.blockers.now a.resources.now before c.requires c.ground.new.walk c.ground.new.flags c.begin.new.rows n c.begin.new.lanes
    c.ground.auto.walk c.ground.auto.flags c.begin.auto.rows (ap (λ (k : ℕ). k * s.window.lanes) c.padded.ensures) c.begin.auto.lanes c.ground.ensures.0 c.ground.ensures.1 c.begin.ensures.0 c.begin.ensures.1
    c.relax.new.lanes c.relax.new.versions c.relax.new.pulled_down c.relax.new.pulled_up c.relax.result
    (c.relax.auto.lanes ∙ c.begin.auto.lanes) c.relax.auto.versions c.relax.auto.pulled_down c.relax.auto.pulled_up (rw (c.stride.ensures, c.above-quiet.ensures) at c.relax.ensures)
