-- `gaps::RowGaps::inside`: the gaps to both boxes are small, so their costs and the sum fit.
use Prim.Native.Nat.{◌≤◌}
use native.Mathlib.Omega.{arith}
use Rattle.gaps.specs.Inside.{inside_in_row}
use Rattle.gaps.proofs.Gaps.{gap_most, octile_most}
use Rattle.gaps.proofs.RowGaps.inside.Goals.{After-gap, After-gap-2}
use Rattle.gaps.proofs.RowGaps.inside.Goals as goal

pub gap-requires : goal.gap-requires
gap-requires c = c.requires.1.ends

-- the column's gaps to the two boxes
near-sources : (c : After-gap) → c.gap.result ≤ 1024
near-sources c =
    omega (arith, c.gap.ensures, gap_most 1024 c.args.x c.args.self.sources.left c.args.self.sources.right c.requires.0 c.requires.1.near c.requires.1.ends)

pub octile-from_sources-requires : goal.octile-from_sources-requires
octile-from_sources-requires c = (near-sources (goal.at.octile-from_sources-requires c).After-gap, c.requires.1.gap)

pub gap-requires-2 : goal.gap-requires-2
gap-requires-2 c = c.requires.2.ends

near-targets : (c : After-gap-2) → c.gap-2.result ≤ 1024
near-targets c =
    omega (arith, c.gap-2.ensures, gap_most 1024 c.args.x c.args.self.targets.left c.args.self.targets.right c.requires.0 c.requires.2.near c.requires.2.ends)

pub octile-to_targets-requires : goal.octile-to_targets-requires
octile-to_targets-requires c = (near-targets (goal.at.octile-to_targets-requires c).After-gap-2, c.requires.2.gap)

pub overflow_add-result : goal.overflow_add-result
overflow_add-result c =
    let s = octile_most 1024 c.gap.result c.args.self.source (near-sources (goal.at.overflow_add-result c).After-gap) c.requires.1.gap in
    let t = octile_most 1024 c.gap-2.result c.args.self.target (near-targets (goal.at.overflow_add-result c).After-gap-2) c.requires.2.gap in
    record { fits = omega (arith, c.octile-to_targets.ensures, c.octile-from_sources.ensures) }

pub returns : goal.returns
unfolding inside_in_row
returns c = rw (c.octile-to_targets.ensures, c.gap-2.ensures, c.octile-from_sources.ensures, c.gap.ensures)
