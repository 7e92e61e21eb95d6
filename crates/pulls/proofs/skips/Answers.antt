-- `pulls::skips`: the version that was last pulled, or another.
use mathlib.Core.Path.{◌≡◌, refl}
use mathlib.Core.Bool.{false}
use mathlib.Core.List.{List}
use Prim.Native.Nat.{ℕ}
use lib.ListN.{get_or, set}
use Rattle.pulls.specs.Pulls.{Pulls, skipped, due}
use Rattle.pulls.proofs.skips.Goals as goal

pub bounds-pulled-own : goal.bounds-pulled-own
bounds-pulled-own c = c.requires

pub returns-then-pulled-own : goal.returns-then-pulled-own
returns-then-pulled-own c = skipped c.if-pulled-own.true

pub bounds-pulled-own-2 : goal.bounds-pulled-own-2
bounds-pulled-own-2 c = c.requires

-- what is remembered is the version
remembered : {version y : ℕ} {pulled : List ℕ} (written : ℕ) → ¬ (get_or pulled y 0 ≡ version) → written ≡ version → Pulls version y pulled (set pulled y written) false
remembered written other e = rw e (due other)

pub returns : goal.returns
returns c = remembered _ c.if-pulled-own.false refl
