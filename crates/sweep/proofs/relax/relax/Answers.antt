-- `relax::relax`: the sweeps ended, from the versions before the first to versions that were cleared.
use native.Mathlib.Omega.{arith}
use Rattle.sweep.specs.Relaxes.{Versioned}
use Rattle.sweep.proofs.relax.relax.Goals.{After-unpulled}
use Rattle.sweep.proofs.relax.relax.Goals as goal

-- the versions before the first sweep
versioned : (c : After-unpulled) → let a = c.args in Versioned a.ground.height a.quiet a.versions.now a.pulled_down.now a.pulled_up.now c.unpulled.new.versions c.unpulled.new.pulled_down c.unpulled.new.pulled_up
versioned c = record { made = c.unpulled.ensures; versions_long = c.unpulled.auto.versions; downs_long = c.unpulled.auto.pulled_down; ups_long = c.unpulled.auto.pulled_up }

pub unpulled-requires : goal.unpulled-requires
unpulled-requires c = (c.requires.buffers, c.requires.above)

pub run-sweeps-requires : goal.run-sweeps-requires
run-sweeps-requires c =
    let p = c.requires in
    let w = p.room in
    let b = p.buffers in (
      record { count = w.count; intervals = w.intervals; low = w.low; last = w.last; levels = w.levels; flags = w.flags; each = omega (arith, b.versions_in, c.unpulled.auto.versions) },
      omega (arith, b.downs_in, c.unpulled.auto.pulled_down),
      omega (arith, b.ups_in, c.unpulled.auto.pulled_up),
      p.stops _ _ _ (versioned (goal.at.run-sweeps-requires c).After-unpulled),
    )

pub cleared-requires : goal.cleared-requires
cleared-requires c =
    let b = c.requires.buffers in
    record {
      limit = b.limit;
      versions_in = omega (arith, b.versions_in, c.unpulled.auto.versions, c.run-sweeps.auto.versions);
      downs_in = omega (arith, b.downs_in, c.unpulled.auto.pulled_down, c.run-sweeps.auto.pulled_down);
      ups_in = omega (arith, b.ups_in, c.unpulled.auto.pulled_up, c.run-sweeps.auto.pulled_up);
    }

pub returns : goal.returns
returns c =
    record {
      begun_versions = c.unpulled.new.versions;
      begun_downs = c.unpulled.new.pulled_down;
      begun_ups = c.unpulled.new.pulled_up;
      begun = versioned (goal.at.returns c).After-unpulled;
      ended_versions = c.run-sweeps.new.versions;
      ended_downs = c.run-sweeps.new.pulled_down;
      ended_ups = c.run-sweeps.new.pulled_up;
      ended = c.run-sweeps.ensures;
      cleared = c.cleared.ensures;
    }
