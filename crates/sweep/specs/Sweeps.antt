-- Sweeps that skip rows, on the lent buffers: the turns of one sweep, and the alternating sweeps up to the quiet one.
use Rattle.std.specs.Prelude.{◌≡◌, Bool, true, false, cond, List, ℕ, suc, ◌%◌, ◌≤◌, eqb}
use Rattle.row.specs.Visits.{Ground, State, Visited, row_at, feed_at}

-- n turns of a sweep over `height` rows
pub data Turns (g : Ground) (down fresh : Bool) (height : ℕ) (s : State) : ℕ → State → Type 0 where
  none : Turns g down fresh height s 0 s
  more : {n : ℕ} {t u : State} → Turns g down fresh height s n t → Visited g down fresh (row_at down height n) (feed_at down height n) t u → Turns g down fresh height s (suc n) u

-- the state between sweeps: each direction remembers by itself what each row last pulled
pub record Run : Type 0 where
  pub levels : ℕ → ℕ
  pub versions : List ℕ
  pub pulled_down : List ℕ
  pub pulled_up : List ℕ

-- what a sweep starts with, and what it leaves
abbrev pub begins : Bool → Run → State
begins down r = record { levels = r.levels; versions = r.versions; pulled = cond down r.pulled_down r.pulled_up; changed = false }

-- and what a sweep leaves of the run
abbrev pub leaves : Bool → Run → State → Run
leaves down r s = record { levels = s.levels; versions = s.versions; pulled_down = cond down s.pulled r.pulled_down; pulled_up = cond down r.pulled_up s.pulled }

-- "Down comes first, then they alternate": sweep number n, from 0, goes down where n is even
abbrev pub goes_down : ℕ → Bool
goes_down n = eqb (n % 2) 0

-- sweep number n turns the run r into q; rows are fresh in number 0
pub record OneSweep (g : Ground) (height n : ℕ) (r q : Run) (answer : Bool) : Type 0 where
  pub state : State
  pub turns : Turns g (goes_down n) (eqb n 0) height (begins (goes_down n) r) height state
  pub leaves_it : q ≡ leaves (goes_down n) r state
  pub answers : answer ≡ state.changed

-- n sweeps; the first one is fresh. The answer is whether the last of them changed something. Another sweep is run after the first, and after one that changed
-- something.
pub data Sweeps (g : Ground) (height : ℕ) (r : Run) : ℕ → Run → Bool → Type 0 where
  start : Sweeps g height r 0 r true
  next : {n : ℕ} {q : Run} {before : Bool} {s : State} → Sweeps g height r n q before → (2 ≤ n → before ≡ true) → Turns g (goes_down n) (eqb n 0) height (begins (goes_down n) q) height s →
      Sweeps g height r (suc n) (leaves (goes_down n) q s) s.changed

-- the run ended with sweep number n: "the first sweep after the first that changes nothing"
pub record Ended (g : Ground) (height : ℕ) (r q : Run) (n : ℕ) : Type 0 where
  pub late : 2 ≤ n
  pub sweeps : Sweeps g height r n q false
