-- The cost of a cell for a resource as text: by what a lane holds, and how long it is at most.
use Rattle.std.specs.Prelude.{Option, Some, None}
use mathlib.Core.Path.{◌≡◌, sym, ap}
use mathlib.Core.Bool.{◌&&◌}
use mathlib.Core.List.{List, [], ◌∷◌}
use Prim.Native.Nat.{ℕ, ◌≤◌}
use native.Mathlib.Omega.{arith}
use lib.IntN.{ℤ, pos}
use lib.ListN.{length, get_or}
use lib.Dec.{leb, ltb, leb→le, ltb→lt}
use Rattle.walkgraph.specs.Lanes.{bias, half_cost_of}
use Rattle.walkgraph.proofs.Tests.{cond_ind, and_left, and_right}
use Rattle.decimal.specs.Numbers.{decimal_of}
use Rattle.lane.specs.Levels.{level}
use Rattle.halfcost.specs.Costs.{cost_of}
use Rattle.halfcost.proofs.Costs.{half_level}
use Rattle.page.proofs.Lengths.{number_most}
use Rattle.costtext.specs.Costs.{cost_bytes, cost_text, cost_at}

-- ---- what a lane holds
module _ (lane : ℤ) where
  pub text_none : None ≡ cost_of lane → cost_text lane ≡ 45 ∷ []
  unfolding cost_text cost_bytes
  text_none e = ap cost_bytes (sym e)

  pub text_half : (half : ℕ) → Some half ≡ cost_of lane → cost_text lane ≡ decimal_of (pos half)
  unfolding cost_text cost_bytes
  text_half half e = ap cost_bytes (sym e)

-- ---- how long it is at most
cost_most : (lane : ℤ) → length (cost_text lane) ≤ 5
unfolding cost_text cost_bytes cost_of
cost_most lane =
    cond_ind (λ (held : Option ℕ). length (cost_bytes held) ≤ 5) (leb 17534 (level lane) && ltb (level lane) 65535)
    (λ t.
    let from = leb→le 17534 (level lane) (and_left (leb 17534 (level lane)) (ltb (level lane) 65535) t) in
    let below = ltb→lt (level lane) 65535 (and_right (leb 17534 (level lane)) (ltb (level lane) 65535) t) in
    number_most 5 (half_cost_of (bias 96) lane) (omega arith) (omega (arith, half_level lane from)))
    (λ t. omega arith)

pub at_most : (part : List ℤ) (l : ℕ) → length (cost_at part l) ≤ 6
unfolding cost_at
at_most part l = omega (arith, cost_most (get_or part l (pos 32767)))
