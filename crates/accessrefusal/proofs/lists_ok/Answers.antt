-- `accessrefusal::lists_ok`: its two tests are those of the lists.
use mathlib.Core.Path.{sym, ◌∙◌}
use Rattle.accessrefusal.proofs.Ends.{good_lists}
use Rattle.accessrefusal.proofs.lists_ok.Goals as goal

pub returns-then-ends_ok : goal.returns-then-ends_ok
returns-then-ends_ok c =
    let a = c.args in
    rw (good_lists a.cells a.indices.now a.ends.now, sym c.ends_ok.ensures ∙ c.if-ends_ok.true, c.below.ensures)

pub returns-else-ends_ok : goal.returns-else-ends_ok
returns-else-ends_ok c =
    let a = c.args in
    rw (good_lists a.cells a.indices.now a.ends.now, sym c.ends_ok.ensures ∙ c.if-ends_ok.false) c.if-ends_ok.false
