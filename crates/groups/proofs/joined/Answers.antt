-- `groups::joined`: the fields call is accepted, so it finds fields.
use mathlib.Core.Path.{sym}
use Prim.Native.Nat.{ℕ}
use lib.ListN.{length-replicate}
use Rattle.fieldsinput.specs.Input.{as_input}
use Rattle.usedparts.specs.Lent.{lent}
use Rattle.countanswer.specs.Answers.{joined_of}
use Rattle.groups.specs.Groups.{zero_join}
use Rattle.groups.proofs.Calls.{join_ok, join_found}
use Rattle.groups.proofs.joined.Goals as goal

pub slice_bounds-fields-end : goal.slice_bounds-fields-end
slice_bounds-fields-end c = sym (length-replicate {A = ℕ} 3600 0)

pub slice_bounds-fields-end-2 : goal.slice_bounds-fields-end-2
slice_bounds-fields-end-2 c = sym (length-replicate {A = ℕ} 3600 0)

pub slice_bounds-fields-end-3 : goal.slice_bounds-fields-end-3
slice_bounds-fields-end-3 c = sym (length-replicate {A = ℕ} 8 0)

pub slice_bounds-fields-end-4 : goal.slice_bounds-fields-end-4
slice_bounds-fields-end-4 c = sym (length-replicate {A = ℕ} 8 0)

pub unwrap-requires : goal.unwrap-requires
unwrap-requires c =
    join_ok (as_input c.args.given) (zero_join c.args.answers.now) {after = (let l = c.fields.new in lent l.states l.queue l.parents l.ranks l.answers)} c.fields.result c.requires c.fields.ensures

pub returns : goal.returns
unfolding joined_of
returns c =
    join_found (as_input c.args.given) c.args.answers.now {after = (let l = c.fields.new in lent l.states l.queue l.parents l.ranks l.answers)} (rw c.unwrap.ensures at c.fields.ensures)
