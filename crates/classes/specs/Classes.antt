-- The fields found.
use Rattle.std.specs.Prelude.{◌≡◌, List, ℕ, ◌<◌, length}
use Rattle.walkgraph.specs.Links.{Numbered}
use Rattle.walkgraph.specs.FieldsPromise.{JoinInput, LinkedBy}
use Rattle.disjoint.specs.Forest.{of}
use Rattle.zeros.specs.Zeros.{Cleared}

-- "numbered from 0 by their smallest member": the numbers below the count, each in use; and the first four buffers are 0
pub record FieldsFound (i : JoinInput) (states queue parents ranks answers : List ℕ) (count : ℕ) : Type 0 where
  pub cleared : Cleared states queue parents ranks
  pub numbered : Numbered (LinkedBy i) (length i.ends) (of answers)
  pub below : (r : ℕ) → r < length i.ends → of answers r < count
  pub used : (k : ℕ) → k < count → (r : ℕ) × (r < length i.ends) × (of answers r ≡ k)
