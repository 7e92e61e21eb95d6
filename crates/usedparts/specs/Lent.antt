-- The fields call's buffers as document 01's.
use Rattle.std.specs.Prelude.{List, ℕ}
use Rattle.walkgraph.specs.FieldsPromise.{JoinLent}

-- what is lent
abbrev pub lent : (states queue parents ranks answers : List ℕ) → JoinLent
lent states queue parents ranks answers = record { states = states; queue = queue; parents = parents; ranks = ranks; answers = answers }
