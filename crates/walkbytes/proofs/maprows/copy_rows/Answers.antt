-- `maprows::copy_rows`: the rows that the loop passed are the map's.
use mathlib.Core.Path.{◌≡◌, refl}
use Prim.Native.Nat.{ℕ, ◌+◌, ◌*◌, ◌≤◌, ◌<◌}
use native.Mathlib.Nat.{add-mul, mul-le-mul_right}
use native.Mathlib.Omega.{arith}
use Rattle.window.specs.Fills.{entries, window_rows}
use Rattle.window.proofs.Fills.{rows_none, rows_more}
use Rattle.window.specs.declared.record.Window.{Window}
use Rattle.walkbytes.specs.Copies.{Copies, map_rows}
use Rattle.walkbytes.proofs.Copying.{row_copied}
use Rattle.walkbytes.proofs.maprows.copy_rows.Goals as goal

in_map : (w : Window) (width cells walk y : ℕ) → Copies w width cells walk → y < w.height → (w.top + y) * width + w.left + w.width ≤ cells
in_map w width cells walk y f h =
    let c = f.columns in
    let r = f.rows in
    let q : (w.top + y + 1) * width ≤ (w.top + w.height) * width = mul-le-mul_right width (omega arith) in
    omega (arith, add-mul (w.top + y) 1 width)

in_walk : (w : Window) (width cells walk y s now : ℕ) → Copies w width cells walk → y < w.height → s ≡ w.width + 2 → now ≡ walk → (y + 1) * s + 1 + w.width ≤ now
in_walk w width cells walk y s now f h e p =
    let r = f.room in
    let q : (y + 2) * (w.width + 2) ≤ (w.height + 2) * (w.width + 2) = mul-le-mul_right (w.width + 2) (omega arith) in
    rw e (omega (arith, add-mul (y + 1) 1 (w.width + 2)))

pub loop-y-init : goal.loop-y-init
loop-y-init c = rows_none _ _ _ _ _

pub loop-y-preserved : goal.loop-y-preserved
loop-y-preserved c =
    let l = c.loop-y in
    let a = c.args in
    let s = c.stride-stride.result in
    let from : (a.window.top + l.y) * a.width + a.window.left ≡ a.window.top * a.width + a.window.left + l.y * a.width = omega (arith, add-mul a.window.top l.y a.width) in
    let to : s + 1 + l.y * s ≡ (l.y + 1) * s + 1 = omega (arith, add-mul l.y 1 s) in
    rows_more _ (s + 1) s a.window.width (map_rows a.window a.width a.cells.now) l.y (s + 1 + l.y * s) (entries l.walk) _ refl l.invariant
    (row_copied a.window a.width a.cells.now l.walk _ l.y _ _ _ _ _ to from (omega arith) (omega arith)
    (in_map _ _ _ _ _ c.requires c.loop-y-test.true)
    (in_walk _ _ _ _ _ s _ c.requires c.loop-y-test.true c.stride-stride.ensures c.loop-y.auto.walk)
    c.copy_row.ensures)

pub returns : goal.returns
unfolding window_rows
returns c =
    let e : c.loop-y.y ≡ c.args.window.height = omega arith in
    rw (e, c.stride-stride.ensures) at c.loop-y.invariant
