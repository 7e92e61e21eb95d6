-- Sweeps as their loops go: one turn more, one sweep more, and where the run ends.
use mathlib.Core.Path.{◌≡◌, refl, sym, ◌∙◌}
use mathlib.Core.Bool.{Bool, true, false, cond}
use mathlib.Core.List.{List}
use Prim.Native.Nat.{ℕ, ◌+◌, ◌*◌, ◌%◌, ◌≤◌, ◌<◌}
use native.Mathlib.Nat.{mul-le-mul_right, add-mul}
use native.Mathlib.Numerals.{add-one}
use native.Mathlib.Decide.{dec_le, ℕ_discrete}
use native.Mathlib.Omega.{arith}
use lib.Dec.{leb, eqb}
use borrow.Author.Tests.{eqb-false, ne_eqb, le-leb, lt-leb}
use Rattle.walkgraph.proofs.Tests.{by_cases}
use Rattle.row.specs.Visits.{Ground, State, row_at, feed_at, Visited}
use Rattle.sweep.specs.Sweeps.{Run, Turns, more, begins, leaves, goes_down, OneSweep, Sweeps, start, next, Ended}
use Rattle.sweep.specs.Buffers.{Window, Stops}
use Rattle.row.specs.Buffers.{VisitFits}

-- ---- the turns of a sweep

record InWindow (down : Bool) (height turn : ℕ) : Type 0 where
  pub top : 1 ≤ row_at down height turn
  pub bottom : row_at down height turn ≤ height
  pub feed : feed_at down height turn ≤ height + 1

in_window_lem : (down : Bool) (height turn : ℕ) → turn < height → InWindow down height turn
in_window_lem true height turn h = record { top = omega arith; bottom = omega arith; feed = omega arith }
in_window_lem false height turn h = record { top = omega arith; bottom = omega arith; feed = omega arith }

row_in : (y height stride lanes : ℕ) → y ≤ height + 1 → (y * stride + stride ≤ (height + 2) * stride) × ((y * stride + stride) * lanes ≤ (height + 2) * stride * lanes)
row_in y height stride lanes h =
    let e : (y + 1) * stride ≤ (height + 2) * stride = mul-le-mul_right stride (omega arith) in
    let f : y * stride + stride ≤ (height + 2) * stride = omega (arith, add-mul y 1 stride) in
    (f, mul-le-mul_right lanes f)

pub visit_fits : {lanes stride height : ℕ} {rows : List ℕ} {cells bytes versions : ℕ} → Window lanes stride height rows cells bytes versions → (pulled : ℕ) → height + 2 ≤ pulled → (down : Bool) (turn : ℕ) → turn < height →
    VisitFits lanes stride (row_at down height turn) (feed_at down height turn) rows cells bytes versions pulled
visit_fits {lanes} {stride} {height} w pulled p down turn h =
    let t = in_window_lem down height turn h in
    let o = row_in (row_at down height turn) height stride lanes (omega (arith, t.bottom)) in
    let f = row_in (feed_at down height turn) height stride lanes t.feed in
    record {
      count = w.count;
      top = t.top;
      interval = omega (arith, t.bottom, w.intervals);
      low = w.low (row_at down height turn) t.top t.bottom;
      last = w.last (row_at down height turn) t.top t.bottom;
      cells_own = omega (arith, o.1, w.levels);
      cells_feed = omega (arith, f.1, w.levels);
      flags = omega (arith, o.0, w.flags);
      version_own = omega (arith, t.bottom, w.each);
      version_feed = omega (arith, t.feed, w.each);
      pulled_own = omega (arith, t.bottom);
    }

pub turns_more : {g : Ground} {down fresh : Bool} {height n y z : ℕ} {s t u : State} → Turns g down fresh height s n t → y ≡ row_at down height n → z ≡ feed_at down height n → Visited g down fresh y z t u → Turns g down fresh height s (n + 1) u
turns_more {n = n} w e f v = rw (add-one n) (more w (rw (e, f) at v))

-- ---- one of the alternating sweeps

module _ {g : Ground} {height n : ℕ} {r : Run} {s : State} where
  pub sweep_down : goes_down n ≡ true → Turns g true (eqb n 0) height (begins true r) height s → OneSweep g height n r (leaves true r s) s.changed
  sweep_down d w = record { state = s; turns = rw d w; leaves_it = rw d; answers = refl }

  pub sweep_up : goes_down n ≡ false → Turns g false false height (begins false r) height s → OneSweep g height n r (leaves false r s) s.changed
  sweep_up d w =
      let f : eqb n 0 ≡ false = ne_eqb n 0 (λ q. eqb-false (n % 2) 0 d (rw q refl)) in
      record { state = s; turns = rw (d, f) w; leaves_it = rw d; answers = refl }

-- ---- the run

-- whether it ends
ends_not : (changed : Bool) (n : ℕ) → cond changed false (leb 2 n) ≡ false → 2 ≤ n → changed ≡ true
ends_not true n e h = refl
ends_not false n e h = absurd (let f = le-leb 2 n h in let z : ◌≡◌ {A = ℕ} 0 1 = cc in omega arith)

ends_yes : (changed : Bool) (n : ℕ) → cond changed false (leb 2 n) ≡ true → (changed ≡ false) × (2 ≤ n)
ends_yes true n e = absurd (let z : ◌≡◌ {A = ℕ} 0 1 = cc in omega arith)
ends_yes false n e = (refl, by_cases (dec_le 2 n) (λ h. h) (λ h. absurd (let f = lt-leb 2 n (omega arith) in let z : ◌≡◌ {A = ℕ} 0 1 = cc in omega arith)))

module _ {g : Ground} {height : ℕ} {r : Run} where
  -- n sweeps were run, and another one comes
  pub record RunTo (stops : Stops g height r) (n : ℕ) (q : Run) : Type 0 where
    pub last : Bool
    pub sweeps : Sweeps g height r n q last
    pub on : 2 ≤ n → last ≡ true
    pub below : n < stops.most

  pub run_start : (stops : Stops g height r) → RunTo stops 0 r
  run_start stops = record { last = true; sweeps = start; on = λ h. refl; below = omega (arith, stops.late) }

  module _ (stops : Stops g height r) {n : ℕ} {p q : Run} {answer stop : Bool} (t : RunTo stops n p) (o : OneSweep g height n p q answer) (e : stop ≡ cond answer false (leb 2 (n + 1))) where
    one_more : Sweeps g height r (n + 1) q answer
    one_more = rw (add-one n, o.leaves_it, o.answers) (next t.sweeps t.on o.turns)

    pub run_next : stop ≡ false → RunTo stops (n + 1) q
    run_next f =
        let on : 2 ≤ n + 1 → answer ≡ true = ends_not answer (n + 1) (sym e ∙ f) in
        record {
          last = answer;
          sweeps = one_more;
          on = on;
          below = by_cases (ℕ_discrete (n + 1) stops.most)
              (λ z. absurd (let a = on (omega (arith, stops.late)) in let b = stops.quiet (rw z at one_more) in let y : ◌≡◌ {A = ℕ} 0 1 = cc in omega arith))
              (λ z. omega (arith, t.below));
        }

    pub run_ends : stop ≡ true → Ended g height r q (n + 1)
    run_ends f =
        let y = ends_yes answer (n + 1) (sym e ∙ f) in
        record { late = y.1; sweeps = rw y.0 at one_more }
