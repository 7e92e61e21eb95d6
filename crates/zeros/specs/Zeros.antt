-- Buffers that end as 0.
use Rattle.std.specs.Prelude.{◌≡◌, List, ℕ, get_or}

-- every entry is 0
abbrev pub Zero : List ℕ → Type 0
Zero entries = (j : ℕ) → get_or entries j 0 ≡ 0

-- "The first four end as 0 in their used parts."
pub record Cleared (states queue parents ranks : List ℕ) : Type 0 where
  pub of_states : Zero states
  pub of_queue : Zero queue
  pub of_parents : Zero parents
  pub of_ranks : Zero ranks
