-- `onelane::kept`: two lanes are equal exactly when their levels are.
use mathlib.Core.Path.{sym, ap, ◌∙◌}
use mir.Syntax.{w16}
use mir.Val.{of_z}
use mir.ValLaws.{to_z-of_z}
use Rattle.lane.specs.Levels.{level}
use Rattle.lane.proofs.Machine.{equal}
use Rattle.lane.proofs.Levels.{level_one}
use Rattle.onelane.proofs.Mark.{kept_same, kept_other}
use Rattle.onelane.proofs.kept.Goals as goal

pub returns-then-old-new : goal.returns-then-old-new
returns-then-old-new c =
    let a = c.args in
    let f = c.ranges in
    to_z-of_z w16 a.same f.same ∙ sym (kept_same a.same _ _ (ap level (equal w16 a.old a.new f.old f.new c.if-old-new.true)))

pub returns-else-old-new : goal.returns-else-old-new
returns-else-old-new c =
    let a = c.args in
    let f = c.ranges in
    sym (kept_other a.same _ _ (λ e. c.if-old-new.false (ap (of_z w16) (level_one a.old a.new f.old.sfits f.new.sfits e))))
