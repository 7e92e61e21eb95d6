-- `onelane::out`: the levels of its calls, put together as the code puts the calls together.
use mathlib.Core.Path.{◌≡◌, refl, ap, ap₂, ◌∙◌}
use Prim.Native.Nat.{ℕ, ◌+◌, min, max}
use native.Mathlib.Omega.{arith}
use borrow.Author.Rules.{sfits_of}
use Rattle.lane.specs.Levels.{saturated, out_level}
use Rattle.lane.proofs.Levels.{read}
use Rattle.onelane.specs.Takes.{slant_at, out_at}
use Rattle.onelane.proofs.Places.{lane_read}
use Rattle.onelane.proofs.out.Goals as goal

-- an open gate leaves a level as it is
open-gate : (n : ℕ) → n ≡ max n 0
open-gate n = omega arith

pub returns : goal.returns
unfolding out_at out_level slant_at
returns c =
    let a = c.args in
    let slant = read c.slant.result (sfits_of c.slant.type_inv) ∙ c.slant.ensures in
    let corner = read c.stepped-corner.result (sfits_of c.stepped-corner.type_inv) ∙ c.stepped-corner.ensures 707 refl ∙ ap (λ n. saturated n 707) slant in
    let over = read c.stepped.result (sfits_of c.stepped.type_inv) ∙ c.stepped.ensures 500 refl ∙ ap (λ n. saturated n 500) (lane_read a.lanes.now (a.over + a.k) (sfits_of c.stepped-arg-1.given)) in
    let fed-over = read c.least.result (sfits_of c.least.type_inv) ∙ c.least.ensures ∙ ap₂ min over corner in
    let fed = read c.least-fed.result (sfits_of c.least-fed.type_inv) ∙ c.least-fed.ensures ∙ ap₂ min (lane_read a.lanes.now (a.i + a.k) (sfits_of c.least-arg-1.given)) fed-over in
    let beside = read c.stepped-2.result (sfits_of c.stepped-2.type_inv) ∙ c.stepped-2.ensures 500 refl ∙ ap (λ n. saturated n 500) (read a.beside c.ranges.beside) in
    read c.least-2.result (sfits_of c.least-2.type_inv) ∙ c.least-2.ensures ∙ ap₂ min fed beside ∙ open-gate _
