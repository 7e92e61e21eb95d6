-- `versions::set`: the part that was filled, put back.
use mathlib.Core.Path.{◌≡◌, ap, ◌∙◌}
use Prim.Native.Nat.{◌+◌, ◌-◌}
use native.Mathlib.Omega.{arith}
use lib.ListN.{length, get_or, replicate, drop, length-drop}
use lib.Seq.{length-take-le}
use Rattle.std.proofs.lemmas.List.{get_or-replicate}
use Rattle.window.proofs.Fills.{part_back}
use Rattle.versions.proofs.set.Goals as goal

pub returns : goal.returns
returns c =
    let a = c.args in
    let e : a.from + a.count - a.from ≡ a.count = omega arith in
    let long : length c.fill.new.self ≡ a.count = c.fill.ensures.len ∙ length-take-le _ (drop a.from a.numbers.now) (simp length-drop (omega arith)) ∙ e in
    let part : c.fill.new.self ≡ replicate (length c.fill.new.self) a.number = rw c.fill.ensures.len (c.fill.ensures.after (λ y h. h)) in
    part_back a.numbers.now c.fill.new.self a.from _ a.count (λ i. a.number) e c.requires long (λ i h. ap (λ n. get_or n i 0) part ∙ get_or-replicate _ i a.number 0 (omega arith))
