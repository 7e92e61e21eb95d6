-- `flags::flag_rows`: the rows that the loop passed are made.
use mathlib.Core.Path.{◌≡◌, refl}
use Prim.Native.Nat.{◌+◌, ◌*◌}
use native.Mathlib.Nat.{add-mul}
use native.Mathlib.Omega.{arith}
use Rattle.window.specs.Fills.{entries, window_rows}
use Rattle.flags.specs.Flags.{flag_rows}
use Rattle.window.proofs.Fills.{rows_none, rows_more}
use Rattle.flags.proofs.FlagBytes.{row_fits}
use Rattle.flags.proofs.flag_rows.Goals as goal

pub loop-y-init : goal.loop-y-init
loop-y-init c = rows_none _ _ _ _ _

pub flag_row_at-requires : goal.flag_row_at-requires
flag_row_at-requires c =
    let l = c.loop-y in
    let s = c.stride-stride.result in
    let row : (l.y + 1) * s ≡ s + l.y * s = omega (arith, add-mul l.y 1 s) in
    row_fits c.requires l.y c.stride-stride.ensures row c.loop-y-test.true l.auto.flags

pub loop-y-preserved : goal.loop-y-preserved
loop-y-preserved c =
    let l = c.loop-y in
    let s = c.stride-stride.result in
    let first : (l.y + 1) * s + 1 ≡ s + 1 + l.y * s = omega (arith, add-mul l.y 1 s) in
    rows_more _ (s + 1) s _ _ l.y (s + 1 + l.y * s) (entries l.flags) _ refl l.invariant (rw first at c.flag_row_at.ensures)

pub returns : goal.returns
unfolding window_rows flag_rows
returns c =
    let e : c.loop-y.y ≡ c.args.window.height = omega arith in
    rw (e, c.stride-stride.ensures) at c.loop-y.invariant
