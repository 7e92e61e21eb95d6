-- What is listed of a ring, as the answer says it.
use mathlib.Core.Path.{◌≡◌, ◌∙◌}
use mathlib.Core.List.{List, ◌++◌}
use Prim.Native.Nat.{ℕ, ◌+◌, ◌≤◌}
use native.Mathlib.Omega.{arith}
use lib.ListN.{length, drop}
use lib.Seq.{sets-eq}
use Rattle.ringlists.specs.Lists.{Listed}
use Rattle.std.proofs.Common.{Ok}
use Rattle.ringanswer.specs.Answers.{RingListed, fits}

-- a whole list from the buffer's start on
pub ring_listed : {p before after : List ℕ} {end : ℕ} → length p ≤ length before → Listed p before 0 after end → RingListed p before after (Ok end)
ring_listed {p} {before} {after} {end} h l =
    let from_start : 0 + length p ≡ length p = omega arith in
    let all : after ≡ p ++ drop (length p) before = l.buffer ∙ rw from_start at (sets-eq p before 0 (omega arith)) in
    let count : end ≡ length p = l.ends ∙ from_start in
    rw (all, count) (fits h)
