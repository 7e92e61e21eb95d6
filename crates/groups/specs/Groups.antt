-- The fields of a room's resources, by the access lists and the fields call, each lent buffers of zeros.
use Rattle.std.specs.Prelude.{◌≡◌, false, List, ℕ, ◌*◌, ◌/◌, ◌≤◌, ℤ, length, replicate}
use Rattle.walkgraph.specs.Refusals.{bad_grid, bad_fours, first_bad_resource}
use Rattle.walkgraph.specs.AccessPromise.{listed}
use Rattle.walkgraph.specs.FieldsPromise.{JoinInput, JoinLent, FieldsPromise, joined}
use Rattle.manyrectangles.specs.Lent.{ListsLent}
use Rattle.listspromise.specs.AccessListsPromise.{AccessListsPromise}
use Rattle.manyrectangles.specs.Listing as listing
use Rattle.accesslists.specs.JoinLists.{join_input}
use Rattle.usedparts.specs.Lent as fields

-- room for the access cells of 8 resources on 60 rows of 60 columns: "u32 indices with n u32 ends"
abbrev pub zero_lists : ListsLent
zero_lists = listing.lent (replicate 28800 0) (replicate 8 0)

-- "C u16 states, C u32 queue, n u16 parents, n u8 ranks", and the answers
abbrev pub zero_join : List ℕ → JoinLent
zero_join answers = fields.lent (replicate 3600 0) (replicate 3600 0) (replicate 8 0) (replicate 8 0) answers

-- what the fields call finds in buffers of zeros
pub record Joins (input : JoinInput) (before after : List ℕ) (groups : ℕ) : Type 0 where
  pub left : JoinLent
  pub promise : FieldsPromise input (zero_join before) left (joined groups)
  pub answers : left.answers ≡ after

-- the same for the access lists that the resources have
pub record Grouped (width height : ℕ) (cells : List ℕ) (resources : List ℤ) (before after : List ℕ) (groups : ℕ) : Type 0 where
  pub lists : ListsLent
  pub count : ℕ
  pub promise : AccessListsPromise width height cells resources zero_lists lists (listed count)
  pub joins : Joins (join_input width height cells resources lists count) before after groups

-- a room in the program's limits whose map and resources are not refused, and an answer for each of 8 resources
pub record GroupsFit (width height : ℕ) (cells : List ℕ) (resources : List ℤ) (answers : List ℕ) : Type 0 where
  pub map : bad_grid width height cells ≡ false
  pub fours : bad_fours 8 resources ≡ false
  pub good : first_bad_resource width height resources ≡ length resources / 4
  pub size : height * width ≤ 3600
  pub room : 8 ≤ length answers
