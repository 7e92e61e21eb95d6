-- What the buffers of a window hold: room for each row that a sweep visits.
use Rattle.std.proofs.Common.{◌≡◌, ℕ, ◌+◌, ◌-◌, ◌*◌, ◌%◌, ◌^◌, ◌<◌, Bool, true, false, List, get_or, set}
use Rattle.ways.specs.Row.{RowDone}
use Rattle.pulls.specs.Pulls.{Pulls}
use Rattle.pulls.proofs.Pulled.{skipped_same, due_set}
use Rattle.row.specs.Visits.{Ground, State, first, past, Visited, skipped, done}

-- a row that is not empty and was skipped
pub row_skipped : {g : Ground} {down fresh skips : Bool} {y z : ℕ} {s : State} {after : List ℕ} → first g y < past g y → Pulls (get_or s.versions z 0) y s.pulled after skips → skips ≡ true →
    Visited g down fresh y z s (record { levels = s.levels; versions = s.versions; pulled = after; changed = s.changed })
row_skipped some pulls e =
    let same = skipped_same (rw e at pulls) in
    rw same.1 (skipped some same.0)

-- one that was done, by the answer
module _ {g : Ground} {down fresh skips answer : Bool} {y z : ℕ} {s : State} {after : List ℕ} {levels : ℕ → ℕ} (some : first g y < past g y) (pulls : Pulls (get_or s.versions z 0) y s.pulled after skips) (goes : skips ≡ false)
    (row : RowDone g.lanes g.flag down ((y * g.stride + first g y) * g.lanes) ((z * g.stride + first g y) * g.lanes) (y * g.stride + first g y) (past g y - first g y) s.levels levels fresh answer) where
  pub done_changed : (version : ℕ) → answer ≡ true → version ≡ (get_or s.versions y 0 + 1) % 2 ^ 32 →
      Visited g down fresh y z s (record { levels = levels; versions = set s.versions y version; pulled = after; changed = true })
  done_changed version e f =
      let pulled = due_set (rw goes at pulls) in
      rw (f, pulled.1) (done {changed = true} some pulled.0 (rw e at row))

  pub done_same : answer ≡ false → Visited g down fresh y z s (record { levels = levels; versions = s.versions; pulled = after; changed = s.changed })
  done_same e =
      let pulled = due_set (rw goes at pulls) in
      rw pulled.1 (done {changed = false} some pulled.0 (rw e at row))
