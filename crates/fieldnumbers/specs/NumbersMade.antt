-- The fields numbered by the roots of the resources.
use Rattle.std.specs.Prelude.{List, ℕ}
use Rattle.numbering.specs.Fields.{FieldNumbers}
use Rattle.roots.specs.Roots.{AtRoots}
use Rattle.zeros.specs.Zeros.{Cleared}

-- each resource has the number of its root, "numbered from 0 by their smallest member", so many in all; and "the first four end as 0 in their used parts"
pub record NumbersMade (parents before states' queue' parents' ranks' answers' : List ℕ) (count : ℕ) : Type 0 where
  pub roots : List ℕ
  pub rooted : AtRoots parents roots
  pub numbers : FieldNumbers roots before answers' count
  pub cleared : Cleared states' queue' parents' ranks'
