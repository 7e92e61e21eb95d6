-- `accessrefusal::below`: the test of every index.
use mathlib.Core.Path.{◌∙◌}
use Prim.Native.Nat.{ℕ}
use lib.Dec.{ltb}
use Rattle.std.proofs.Common.{rules, tests}
use Rattle.std.proofs.lemmas.Iterator.{YieldsList-from_slice}
use Rattle.std.proofs.lemmas.Iterator.Search.{all_from_yields_List}
use Rattle.accessrefusal.proofs.Ends.{all_by_chain}
use Rattle.accessrefusal.proofs.below.Goals as goal

pub returns : goal.returns
returns c =
    let a = c.args in
    let below = λ (i : ℕ). ltb i a.cells in
    all_from_yields_List below _ _ _ c.all.ensures.ran (YieldsList-from_slice a.indices.now cc) (λ x b q k. search (rules, tests)) ∙ all_by_chain below a.indices.now
