-- `cell::out`: a wall is shut, and past the test the cell's own gate is open and each gate is that of its bit.
use mathlib.Core.Path.{◌≡◌, ◌∙◌}
use Prim.Native.Nat.{ℕ, ◌/◌, ◌%◌, ◌<◌}
use native.Mathlib.Nat.{mod-lt}
use native.Mathlib.Omega.{arith}
use Rattle.onelane.specs.Takes.{out_at}
use Rattle.ways.specs.Row.{turned}
use Rattle.ways.proofs.Table.{gate_level, gate_in, wall_out}
use Rattle.ways.proofs.cell.out.Goals as goal

-- a bit that is not 0 is 1
odd : (n : ℕ) → ¬ (n % 2 ≡ 0) → n % 2 ≡ 1
odd n h = let b : n % 2 < 2 = mod-lt n (omega arith) in omega arith

pub returns-then-flag-eq0 : goal.returns-then-flag-eq0
returns-then-flag-eq0 g c = record { each = λ k h. wall_out c.if-flag-eq0.true _ k h _ _ _ _ _ _ _ }

pub out-requires : goal.out-requires
out-requires g c =
    let t = c.requires.0 in
    let l = c.requires.1 in
    let f = c.requires.2 in (
      omega arith,
      (
        f.own,
        omega (arith, f.fed),
        record {
          left = omega (arith, f.low, f.fed);
          right = f.fed;
          left_gate = gate_in t l _ c.place.ensures;
          right_gate = gate_in t l _ c.place-2.ensures;
        },
      ),
    )

pub returns : goal.returns
unfolding out_at
returns g c =
    let a = c.args in
    let p = c.requires.0 in
    let t = turned a.down a.flag in
    record {
      each = λ k h. let b : k < 16 = omega (arith, h, c.requires.1) in
          c.out.ensures.each k h
          ∙ rw (
            c.place.ensures,
            c.place-2.ensures,
            c.turned-turned.ensures,
            gate_level p (t / 2 % 2) k (mod-lt (t / 2) (omega arith)) b,
            gate_level p (t / 4 % 2) k (mod-lt (t / 4) (omega arith)) b,
            odd a.flag c.if-flag-eq0.false,
          );
    }
