-- A part that is read lies in the lent lanes.
use mathlib.Core.Bool.{◌&&◌, ◌||◌}
use Prim.Native.Nat.{ℕ, suc, ◌+◌, ◌*◌, ◌-◌, ◌≤◌, ◌<◌}
use native.Mathlib.Nat.{suc-mul, mul-le-mul_right}
use native.Mathlib.Omega.{arith}
use lib.Dec.{leb, ltb, eqb, leb→le, ltb→lt}
use Rattle.walkgraph.specs.Reading.{WindowRecord, fits, in_record, Part, outside_part, read_part}
use Rattle.walkgraph.proofs.Tests.{cond_ind, and_left, and_right}

pub read_in : (r : WindowRecord) (length x y : ℕ) → (read_part r length x y).start + (read_part r length x y).size ≤ length
unfolding read_part outside_part fits in_record
read_in r length x y =
    cond_ind (λ (p : Part). p.start + p.size ≤ length) (fits r length && in_record r x y)
    (λ t.
    let w = r.width in
    let f = and_left (fits r length) (in_record r x y) t in
    let i = and_right (fits r length) (in_record r x y) t in
    let a : (r.height + 2) * (w + 2) * r.lanes ≤ length = leb→le _ _ (and_right ((eqb r.lanes 8 || eqb r.lanes 16) && leb w 1024 && leb r.height 1024) (leb ((r.height + 2) * (w + 2) * r.lanes) length) f) in
    let b = and_left (leb r.left x && ltb (x - r.left) w && leb r.top y) (ltb (y - r.top) r.height) i in
    let c = and_left (leb r.left x && ltb (x - r.left) w) (leb r.top y) b in
    let column : x - r.left < w = ltb→lt _ _ (and_right (leb r.left x) (ltb (x - r.left) w) c) in
    let row : y - r.top < r.height = ltb→lt _ _ (and_right (leb r.left x && ltb (x - r.left) w && leb r.top y) (ltb (y - r.top) r.height) i) in
    let place = (y - r.top + 1) * (w + 2) + (x - r.left + 1) in
    let p : suc (y - r.top + 1) * (w + 2) ≤ (r.height + 2) * (w + 2) = mul-le-mul_right (w + 2) (omega arith) in
    let q : suc place * r.lanes ≤ (r.height + 2) * (w + 2) * r.lanes = mul-le-mul_right r.lanes (omega (arith, suc-mul (y - r.top + 1) (w + 2))) in
    omega (arith, suc-mul place r.lanes))
    (λ t. omega arith)
