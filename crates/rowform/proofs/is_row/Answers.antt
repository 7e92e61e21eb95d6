-- `rowform::is_row`: LF after the width, and cells before it.
use Rattle.std.proofs.Common.{◌≡◌, ◌-◌, length, take, drop, arith}
use Rattle.std.proofs.lemmas.Grind.{common_steps}
use Rattle.rowform.proofs.Cells.{other_byte, cells_judged}
use Rattle.rowform.proofs.is_row.Goals as goal

pub returns-else-eq : goal.returns-else-eq
returns-else-eq c = rw c.if-eq.false (other_byte _ _ _ (λ e. grind (arith, common_steps)))

pub returns-then-eq : goal.returns-then-eq
returns-then-eq c =
    let whole : take (length c.args.text.now - c.args.at) (drop c.args.at c.args.text.now) ≡ drop c.args.at c.args.text.now = grind (arith, common_steps) in
    cells_judged _ _ _ (grind (arith, common_steps)) (grind (arith, common_steps)) _ (rw whole at c.all_cells.ensures)
