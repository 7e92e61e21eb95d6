-- One cell of a row in levels is the same cell in half costs, a base above: out_level is the least of five, and back_level the least of two, where unreachable is
-- at 65,535.
use mathlib.Core.Path.{◌≡◌, sym, ◌∙◌, ap}
use mathlib.Core.Bool.{Bool, true, false, cond}
use Prim.Native.Nat.{ℕ, ◌+◌, ◌≤◌, min, max}
use native.Mathlib.Nat.{max-zero}
use native.Mathlib.Omega.{arith}
use Rattle.walkgraph.specs.Sweep.{diagonal_from, least_of_five}
use Rattle.lane.specs.Levels.{saturated, out_level, back_level}

-- saturation does not show below 65,535
drop_two : (o a b : ℕ) → o ≤ 65535 → min o (min (saturated a 500) (saturated b 707)) ≡ min o (min (a + 500) (b + 707))
drop_two o a b h = omega arith

drop_one : (o c : ℕ) → o ≤ 65535 → min o (saturated c 500) ≡ min o (c + 500)
drop_one o c h = omega arith

-- the straight moves first, then the diagonal ones
regroup : (o a d c : ℕ) → min (min o (min a d)) c ≡ min (min o (min a c)) d
regroup o a d c = omega arith

regroup_five : (o a w e c : ℕ) → least_of_five o a w e c ≡ min (min o (min a c)) (min w e)
unfolding least_of_five
regroup_five o a w e c =
    let f : min w (min e c) ≡ min (min w e) c = omega arith in
    ap (λ (z : ℕ). min o (min a z)) f ∙ last (min w e)
  where
    last : (d : ℕ) → min o (min a (min d c)) ≡ min (min o (min a c)) d
    last d = omega arith

open_out : (old over slant left : ℕ) → old ≤ 65535 →
    max (min (min old (min (saturated over 500) (saturated slant 707))) (saturated left 500)) 0 ≡ min (min old (min (over + 500) (left + 500))) (slant + 707)
open_out old over slant left h =
    let a : min old (min (over + 500) (slant + 707)) ≤ 65535 = omega arith in
    max-zero (min (min old (min (saturated over 500) (saturated slant 707))) (saturated left 500))
    ∙ ap (λ (z : ℕ). min z (saturated left 500)) (drop_two old over slant h)
    ∙ drop_one (min old (min (over + 500) (slant + 707))) left a
    ∙ regroup old (over + 500) (slant + 707) (left + 500)

module _ (base top : ℕ) (high : top + base ≡ 65535) where
  lift_straight : (o a c : ℕ) → min (o + base) (min (a + base + 500) (c + base + 500)) ≡ min o (min (a + 500) (c + 500)) + base
  lift_straight o a c = omega arith

  -- q is the least without the diagonal moves
  lift_diagonal : (west? east? : Bool) (q west east : ℕ) → q ≤ top →
      min (q + base) (min (max (west + base) (cond west? 0 65535)) (max (east + base) (cond east? 0 65535)) + 707) ≡
      min q (min (diagonal_from top west? west) (diagonal_from top east? east)) + base
  unfolding diagonal_from
  lift_diagonal true true q west east h = omega arith
  lift_diagonal true false q west east h = omega arith
  lift_diagonal false true q west east h = omega arith
  lift_diagonal false false q west east h = omega arith

  -- an open cell
  pub out_open : (west? east? : Bool) (old over west east left : ℕ) → old ≤ top →
      out_level (old + base) (over + base) (west + base) (east + base) (left + base) (cond west? 0 65535) (cond east? 0 65535) 0 ≡
      least_of_five old (over + 500) (diagonal_from top west? west) (diagonal_from top east? east) (left + 500) + base
  unfolding out_level
  out_open west? east? old over west east left h =
      let q : ℕ = min old (min (over + 500) (left + 500)) in
      let k : q ≤ top = omega arith in
      open_out (old + base) (over + base) _ (left + base) (omega arith)
      ∙ ap (λ (z : ℕ). min z (min (max (west + base) (cond west? 0 65535)) (max (east + base) (cond east? 0 65535)) + 707)) (lift_straight old over left)
      ∙ lift_diagonal west? east? q west east k
      ∙ ap (λ (z : ℕ). z + base) (sym (regroup_five old (over + 500) (diagonal_from top west? west) (diagonal_from top east? east) (left + 500)))

  pub back_open : (old right : ℕ) → old ≤ top → back_level (old + base) (right + base) 0 ≡ min old (right + 500) + base
  unfolding back_level
  back_open old right h = omega arith

-- a shut cell
shut : (v : ℕ) → v ≤ 65535 → max v 65535 ≡ 65535
shut v h = omega arith

pub out_shut : (old over west east left west_gate east_gate : ℕ) → out_level old over west east left west_gate east_gate 65535 ≡ 65535
unfolding out_level
out_shut old over west east left west_gate east_gate =
    shut (min (min old (min (saturated over 500) (saturated (min (max west west_gate) (max east east_gate)) 707))) (saturated left 500)) (below (min old (min (saturated over 500) (saturated (min (max west west_gate) (max east east_gate)) 707))))
  where
    below : (z : ℕ) → min z (saturated left 500) ≤ 65535
    below z = omega arith

pub back_shut : (old right : ℕ) → back_level old right 65535 ≡ 65535
unfolding back_level
back_shut old right = omega arith
