-- `strip::kept`: the first k marks are kept.
use mathlib.Core.Path.{◌≡◌}
use native.Mathlib.Omega.{arith}
use lib.IntN.{pos}
use lib.ListN.{get_or, length-set}
use mir.Syntax.{w16}
use mir.Val.{to_z, of_z}
use mir.ValLaws.{to_z-of_z}
use borrow.Author.Rules.{sfits_of}
use Rattle.strip.specs.Marks.{kept_at}
use Rattle.strip.proofs.Marks.{marks_more}
use Rattle.strip.proofs.kept.Goals as goal

pub loop-k-preserved : goal.loop-k-preserved
unfolding kept_at
loop-k-preserved g c =
    let a = c.args in
    let k = c.loop-k.k in
    let stored : to_z w16 (of_z w16 c.kept.result) ≡ kept_at a.same a.old a.new k =
    rw (
      to_z-of_z w16 c.kept.result (sfits_of c.kept.type_inv),
      c.kept.ensures,
      to_z-of_z w16 (get_or a.same k (pos 0)) (sfits_of c.kept-arg-1.given),
      to_z-of_z w16 (get_or a.old k (pos 0)) (sfits_of c.kept-arg-in-loop-k-1.given),
      to_z-of_z w16 (get_or a.new k (pos 0)) (sfits_of c.kept-arg-in-loop-k-2-1.given),
    ) in
    (omega arith, simp length-set (omega arith), marks_more c.loop-k.strip k _ (omega arith) stored c.loop-k.invariant.2)

pub returns : goal.returns
returns g c = record { each = λ k l. c.loop-k.invariant.2.each k (omega arith) }
