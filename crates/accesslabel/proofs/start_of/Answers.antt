-- `accesslabel::start_of`: the first resource, and another.
use mathlib.Core.Path.{◌≡◌, refl}
use mathlib.Core.List.{List}
use Prim.Native.Nat.{ℕ, zero, suc, ◌-◌}
use native.Mathlib.Omega.{arith}
use lib.ListN.{get_or}
use Rattle.walkgraph.specs.FieldsPromise.{start_of}
use Rattle.accesslabel.proofs.start_of.Goals as goal

first : (ends : List ℕ) (r : ℕ) → r ≡ 0 → start_of ends r ≡ 0
unfolding start_of
first ends r e = rw e

later : (ends : List ℕ) (r : ℕ) → ¬ (r ≡ 0) → start_of ends r ≡ get_or ends (r - 1) 0
unfolding start_of
later ends zero n = absurd (n refl)
later ends (suc r) n =
    let e : suc r - 1 ≡ r = omega arith in
    rw e

pub returns-then-resource-eq0 : goal.returns-then-resource-eq0
returns-then-resource-eq0 c = omega (arith, first c.args.ends.now c.args.resource c.if-resource-eq0.true)

pub overflow_cast-result : goal.overflow_cast-result
overflow_cast-result c = omega (arith, c.shared_slice_known-1.given (c.args.resource - 1))

pub returns : goal.returns
returns c = omega (arith, later c.args.ends.now c.args.resource c.if-resource-eq0.false)
