-- `versions::unpulled`: each buffer by the numbers that were written to it.
use mathlib.Core.Path.{◌∙◌, ap}
use Prim.Native.Nat.{ℕ, ◌+◌, ◌-◌}
use native.Mathlib.Omega.{arith}
use Rattle.walkgraph.specs.Lists.{placed}
use Rattle.window.specs.Fills.{entries, zeros}
use Rattle.versions.specs.Versions.{never}
use Rattle.versions.proofs.unpulled.Goals as goal

pub returns : goal.returns
returns c =
    let a = c.args in
    record {
      version = c.set.ensures;
      down = c.set-3.ensures ∙ ap (λ (before : ℕ → ℕ). placed before (a.quiet + 1) (a.height + 1 - a.quiet) never) (c.set-2.ensures ∙ ap (λ (n : ℕ). placed (entries a.pulled_down.now) 0 n zeros) (omega arith));
      up = c.set-4.ensures;
    }
