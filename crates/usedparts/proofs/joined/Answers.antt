-- `usedparts::joined`: the used parts of the buffers are lent on, and come back before the entries past them.
use mathlib.Core.Path.{◌≡◌, sym}
use mathlib.Core.List.{List, ◌++◌}
use Prim.Native.Nat.{ℕ, ◌≤◌}
use lib.ListN.{length, take, drop, length-append, length-drop}
use native.Mathlib.Omega.{arith}
use lib.Seq.{length-take-le}
use Rattle.fieldsinput.specs.Input.{as_input}
use Rattle.usedparts.specs.Lent.{lent}
use Rattle.usedparts.proofs.Passed.{Passed, passed, may_seed, made}
use Rattle.usedparts.proofs.joined.Goals.{Start}
use Rattle.usedparts.proofs.joined.Goals as goal

known : (c : Start) → Passed (as_input c.args.given) ((let a = c.args in lent a.states.now a.queue.now a.parents.now a.ranks.now a.answers.now))
known c = passed (as_input c.args.given) ((let a = c.args in lent a.states.now a.queue.now a.parents.now a.ranks.now a.answers.now)) c.requires

pub slice_bounds-numbers-end : goal.slice_bounds-numbers-end
slice_bounds-numbers-end c = (known (goal.at.slice_bounds-numbers-end c).Start).room.states

pub slice_bounds-numbers-end-2 : goal.slice_bounds-numbers-end-2
slice_bounds-numbers-end-2 c = sym (length-take-le _ c.args.states.now (known (goal.at.slice_bounds-numbers-end-2 c).Start).room.states)

pub slice_bounds-numbers-end-3 : goal.slice_bounds-numbers-end-3
slice_bounds-numbers-end-3 c = (known (goal.at.slice_bounds-numbers-end-3 c).Start).room.queue

pub slice_bounds-numbers-end-4 : goal.slice_bounds-numbers-end-4
slice_bounds-numbers-end-4 c = sym (length-take-le _ c.args.queue.now (known (goal.at.slice_bounds-numbers-end-4 c).Start).room.queue)

pub slice_bounds-numbers-end-5 : goal.slice_bounds-numbers-end-5
slice_bounds-numbers-end-5 c = (known (goal.at.slice_bounds-numbers-end-5 c).Start).room.parents

pub slice_bounds-numbers-end-6 : goal.slice_bounds-numbers-end-6
slice_bounds-numbers-end-6 c = sym (length-take-le _ c.args.parents.now (known (goal.at.slice_bounds-numbers-end-6 c).Start).room.parents)

pub slice_bounds-numbers-end-7 : goal.slice_bounds-numbers-end-7
slice_bounds-numbers-end-7 c = (known (goal.at.slice_bounds-numbers-end-7 c).Start).room.ranks

pub slice_bounds-numbers-end-8 : goal.slice_bounds-numbers-end-8
slice_bounds-numbers-end-8 c = sym (length-take-le _ c.args.ranks.now (known (goal.at.slice_bounds-numbers-end-8 c).Start).room.ranks)

pub slice_bounds-numbers-end-9 : goal.slice_bounds-numbers-end-9
slice_bounds-numbers-end-9 c = omega (arith, (known (goal.at.slice_bounds-numbers-end-9 c).Start).room.answers)

pub slice_bounds-numbers-end-10 : goal.slice_bounds-numbers-end-10
slice_bounds-numbers-end-10 c = sym (length-take-le _ c.args.answers.now (known (goal.at.slice_bounds-numbers-end-10 c).Start).room.answers)

pub numbers-requires : goal.numbers-requires
numbers-requires c =
    let r = (known (goal.at.numbers-requires c).Start).room in
    let a = c.args in (
      may_seed (known (goal.at.numbers-requires c).Start) (length-take-le _ a.states.now r.states) (length-take-le _ a.queue.now r.queue) (length-take-le _ a.parents.now r.parents) (length-take-le _ a.ranks.now r.ranks),
      length-take-le _ a.answers.now r.answers,
    )

-- a part that is as long as it was lent, with what stands past it, is as long as the whole
whole : (n : ℕ) (before part : List ℕ) → n ≤ length before → length part ≡ length (take n before) → length (part ++ drop n before) ≡ length before
whole n before part fits e = omega (arith, e, fits, length-take-le n before fits, length-append part (drop n before), length-drop n before)

pub returns : goal.returns
returns c =
    let k = known (goal.at.returns c).Start in
    let r = k.room in
    let a = c.args in
    let n = c.numbers.new in
    let l = c.numbers.auto in
    made k n.states n.queue n.parents n.ranks n.answers
    (whole _ a.states.now n.states r.states l.states) (whole _ a.queue.now n.queue r.queue l.queue) (whole _ a.parents.now n.parents r.parents l.parents) (whole _ a.ranks.now n.ranks r.ranks l.ranks) (whole _ a.answers.now n.answers (omega (arith, r.answers)) l.answers)
    c.numbers.ensures
