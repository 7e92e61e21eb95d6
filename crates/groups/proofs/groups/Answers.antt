-- `groups::groups`: the access lists are made, and the used parts of both are lent to the fields call.
use mathlib.Core.Path.{sym}
use Prim.Native.Nat.{ℕ, ◌/◌, ◌≤◌}
use lib.ListN.{length, length-replicate}
use lib.Seq.{length-take-le}
use Rattle.walkgraph.specs.AccessPromise.{listed}
use Rattle.listspromise.specs.AccessListsPromise.{AccessListsPromise}
use Rattle.manyrectangles.specs.Listing.{lent}
use Rattle.countanswer.specs.Answers.{listed_of}
use Rattle.accesslists.proofs.JoinLists.{lists_long}
use Rattle.groups.specs.Groups.{zero_lists}
use Rattle.groups.proofs.Calls.{lists_ok, join_accepted, groups_found}
use Rattle.groups.proofs.groups.Goals.{After-unwrap-count}
use Rattle.groups.proofs.groups.Goals as goal

-- they are listed
made : (c : After-unwrap-count) → let a = c.args in AccessListsPromise a.width a.height a.cells.now a.resources.now zero_lists (lent (c.access_lists-found.new.indices) (c.access_lists-found.new.ends)) (listed (c.unwrap-count.result))
unfolding listed_of
made c = rw (c.unwrap-count.ensures, c.access_cells-indices.ensures) at c.access_lists-found.ensures

-- and they stand in the arrays
long : (c : After-unwrap-count) → (let a = c.args in AccessListsPromise a.width a.height a.cells.now a.resources.now zero_lists (lent (c.access_lists-found.new.indices) (c.access_lists-found.new.ends)) (listed (c.unwrap-count.result))) → (c.unwrap-count.result ≤ length (c.access_lists-found.new.indices)) × (length c.args.resources.now / 4 ≤ length (c.access_lists-found.new.ends))
long c of_made = let a = c.args in lists_long a.width a.height a.cells.now a.resources.now zero_lists of_made

pub access_cells-indices-requires : goal.access_cells-indices-requires
access_cells-indices-requires c = tt

pub slice_bounds-access_lists-end : goal.slice_bounds-access_lists-end
slice_bounds-access_lists-end c = rw c.access_cells-indices.ensures (sym (length-replicate {A = ℕ} 28800 0))

pub unwrap-count-requires : goal.unwrap-count-requires
unwrap-count-requires c = lists_ok c.requires c.access_lists-found.result (rw c.access_cells-indices.ensures at c.access_lists-found.ensures)

pub slice_bounds-indices-end : goal.slice_bounds-indices-end
slice_bounds-indices-end c = (long (goal.at.slice_bounds-indices-end c).After-unwrap-count (made (goal.at.slice_bounds-indices-end c).After-unwrap-count)).0

pub slice_bounds-given-end : goal.slice_bounds-given-end
slice_bounds-given-end c = sym (length-take-le _ (c.access_lists-found.new.indices) (long (goal.at.slice_bounds-given-end c).After-unwrap-count (made (goal.at.slice_bounds-given-end c).After-unwrap-count)).0)

pub slice_bounds-ends-end : goal.slice_bounds-ends-end
slice_bounds-ends-end c = (long (goal.at.slice_bounds-ends-end c).After-unwrap-count (made (goal.at.slice_bounds-ends-end c).After-unwrap-count)).1

pub slice_bounds-given-end-2 : goal.slice_bounds-given-end-2
slice_bounds-given-end-2 c = sym (length-take-le _ (c.access_lists-found.new.ends) (long (goal.at.slice_bounds-given-end-2 c).After-unwrap-count (made (goal.at.slice_bounds-given-end-2 c).After-unwrap-count)).1)

pub joined-requires : goal.joined-requires
joined-requires c = join_accepted c.requires (made (goal.at.joined-requires c).After-unwrap-count)

pub returns : goal.returns
returns c = groups_found (made (goal.at.returns c).After-unwrap-count) c.joined.ensures
