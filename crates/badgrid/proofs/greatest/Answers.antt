-- `badgrid::greatest`: the greater of two bytes, over all of them, from 0.
use mathlib.Core.Path.{◌≡◌, ◌∙◌}
use Prim.Native.Nat.{max}
use Rattle.std.proofs.Common.{rules}
use Rattle.std.specs.List.{fold}
use Rattle.badgrid.proofs.Grids.{greatest_by_fold}
use Rattle.badgrid.proofs.greatest.Goals as goal

pub returns : goal.returns
returns c = let e : c.fold.result ≡ fold max 0 c.args.cells.now = search rules in e ∙ greatest_by_fold c.args.cells.now
