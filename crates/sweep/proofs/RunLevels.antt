-- The alternating sweeps on the buffers: they hold the lanes of document 01's plain sweeps, they stop, and the number with which they stop is the sweep count.
use mathlib.Core.Path.{◌≡◌, refl, sym, ◌∙◌, ap}
use mathlib.Core.Bool.{Bool, true, false, cond, not}
use mathlib.Core.List.{List, []}
use Prim.Native.Nat.{ℕ, zero, suc, ◌+◌, ◌-◌, ◌*◌, ◌%◌, ◌≤◌, ◌<◌}
use native.Mathlib.Decide.{dec_le, ℕ_discrete}
use native.Mathlib.Omega.{arith}
use lib.ListN.{get_or, length}
use lib.Dec.{T, eqb}
use borrow.Author.Tests.{eq-eqb, ne_eqb}
use Rattle.walkgraph.specs.Lanes.{unreachable}
use Rattle.walkgraph.specs.Sweep.{PaddedWindow, written, value_at, Direction, down, up, turn, direction, sweep, sweeps, Quiet, IsCount}
use Rattle.walkgraph.proofs.Tests.{by_cases}
use Rattle.walkgraph.proofs.SweepSteps.{PaddingShut}
use Rattle.walklaws.proofs.Sweeps.{Sound, sound_shut, sweeps_sound, quiet_last, twice, twice_is}
use Rattle.row.specs.Visits.{Ground, State}
use Rattle.sweep.specs.Sweeps.{Run, begins, leaves, goes_down, Turns, Sweeps, start, next, Ended}
use Rattle.sweep.specs.Buffers.{Stops}
use Rattle.sweep.proofs.RowLevels.{Along}
use Rattle.sweep.proofs.TurnLevels.{GroundIs, dir_of, pull_of, never}
use Rattle.sweep.proofs.SweepLevels.{Sized, Kept, sized_next, Swept, swept_whole}

-- the direction of a sweep, by its number
turn_not : (b : Bool) → turn (dir_of b) ≡ dir_of (not b)
unfolding turn
turn_not true = refl
turn_not false = refl

goes_next : (n : ℕ) → goes_down (suc n) ≡ not (goes_down n)
goes_next n =
    by_cases (ℕ_discrete (n % 2) 0)
    (λ e. let f : ¬ (suc n % 2 ≡ 0) = λ q. omega arith in ne_eqb _ _ f ∙ ap not (sym (eq-eqb _ _ e)))
    (λ e. let f : suc n % 2 ≡ 0 = omega arith in eq-eqb _ _ f ∙ ap not (sym (ne_eqb _ _ e)))

pub direction_is : (n : ℕ) → direction n ≡ dir_of (goes_down n)
unfolding direction
direction_is zero = refl
direction_is (suc n) = ap turn (direction_is n) ∙ turn_not (goes_down n) ∙ ap dir_of (sym (goes_next n))

-- what each row last pulled does not hang on the direction of the sweep
pulls_swap : (m : PaddedWindow) (downs ups : List ℕ) → pull_of m false ups downs ≡ pull_of m true downs ups
pulls_swap m downs ups = λ i d v. same d v i
  where
    same : (d : Direction) (v : ℕ) → pull_of m false ups downs d v ≡ pull_of m true downs ups d v
    same down v = refl
    same up v = refl

eqb_later : (n : ℕ) → eqb n 0 ≡ false → 1 ≤ n
eqb_later zero e = absurd (let z : ◌≡◌ {A = ℕ} 0 1 = cc in omega arith)
eqb_later (suc n) e = omega arith

module _ (m : PaddedWindow) (shut : PaddingShut m) (g : Ground) (ground : GroundIs m g) (base : ℕ) (high : unreachable m.reach + base ≡ 65535)
    (some : 1 ≤ m.reach) (few : 2 * m.reach + 2 < never)
    (Source : ℕ → ℕ → ℕ → Type 0) (begun : ℕ → List (List ℕ)) (sound : (l : ℕ) → Sound m (Source l) (begun l)) (sized : Sized m g.lanes begun) where
  -- the tables after n plain sweeps
  abbrev pub plain : ℕ → ℕ → List (List ℕ)
  plain n l = sweeps m (begun l) n

  -- what holds after n sweeps; the answer is that of the last
  pub record After (n : ℕ) (r : Run) (answer : Bool) : Type 0 where
    pub kept : Kept m g.lanes base (plain n) n r.levels r.versions (pull_of m true r.pulled_down r.pulled_up)
    pub size : Sized m g.lanes (plain n)
    pub versions : m.height + 2 ≤ length r.versions
    pub downs : m.height + 2 ≤ length r.pulled_down
    pub ups : m.height + 2 ≤ length r.pulled_up
    pub along : 1 ≤ n → (l v : ℕ) → l < g.lanes → 1 ≤ v → v ≤ m.height → Along m v (get_or (plain n l) v [])
    pub quiet : 1 ≤ n → answer ≡ false → Quiet m begun g.lanes n
    pub loud : 1 ≤ n → answer ≡ true → ¬ (Quiet m begun g.lanes n)
    pub before : (j : ℕ) → 2 ≤ j → j < n → ¬ (Quiet m begun g.lanes j)
    pub most : n ≤ 2 * m.reach + 1

  -- sweep number 2 x reach + 1 is quiet
  pub last_quiet : Quiet m begun g.lanes (2 * m.reach + 1)
  unfolding Quiet
  last_quiet l k x y =
      let e : 2 * m.reach + 1 ≡ suc (twice m.reach) = omega (arith, twice_is m.reach) in
      let f : 2 * m.reach + 1 - 1 ≡ twice m.reach = omega (arith, twice_is m.reach) in
      rw (f, e) (quiet_last m shut (Source l) (begun l) (sound l) x y)

  module _ (n : ℕ) (r : Run) (last : Bool) (a : After n r last) (on : 2 ≤ n → last ≡ true) where
    -- so the run has not got that far
    below : n ≤ 2 * m.reach
    below =
        by_cases (dec_le n (2 * m.reach)) (λ h. h)
        (λ h.
        let e : n ≡ 2 * m.reach + 1 = omega (arith, a.most) in
        absurd (a.loud (omega arith) (on (omega arith)) (rw e last_quiet)))

    shut_values : (l x v : ℕ) → l < g.lanes → ¬ (T (written m x v)) → value_at m (plain n l) x v ≡ unreachable m.reach
    shut_values l x v k w = sound_shut m shut (Source l) (sweeps_sound m shut (Source l) (begun l) (sound l) n) x v w

    alongs : eqb n 0 ≡ false → (l v : ℕ) → l < g.lanes → 1 ≤ v → v ≤ m.height → Along m v (get_or (plain n l) v [])
    alongs e = a.along (eqb_later n e)

    -- one sweep in the direction b
    module _ (b : Bool) (same : direction n ≡ dir_of b) where
      abbrev other : List ℕ
      other = cond b r.pulled_up r.pulled_down

      pulls_is : (c : Bool) → pull_of m c (cond c r.pulled_down r.pulled_up) (cond c r.pulled_up r.pulled_down) ≡ pull_of m true r.pulled_down r.pulled_up
      pulls_is true = refl
      pulls_is false = pulls_swap m r.pulled_down r.pulled_up

      pulled_long : (c : Bool) → m.height + 2 ≤ length (cond c r.pulled_down r.pulled_up)
      pulled_long true = a.downs
      pulled_long false = a.ups

      swept_of : {s : State} → Turns g b (eqb n 0) m.height (begins b r) m.height s → Swept m shut g ground base high b (eqb n 0) other n (omega (arith, below)) (plain n) a.size shut_values alongs s
      swept_of w =
          swept_whole m shut g ground base high b (eqb n 0) other n (omega (arith, below)) (plain n) a.size shut_values alongs
          (rw (pulls_is b) a.kept) a.versions (pulled_long b) refl w

      next_plain : (l : ℕ) → plain (suc n) l ≡ sweep m (dir_of b) (plain n l)
      unfolding sweeps
      next_plain l = ap (λ (d : Direction). sweep m d (plain n l)) same

      tables_next : plain (suc n) ≡ (λ (l : ℕ). sweep m (dir_of b) (plain n l))
      tables_next = λ i l. next_plain l i

      pulls_left : (c : Bool) (pulled : List ℕ) → pull_of m true (cond c pulled r.pulled_down) (cond c r.pulled_up pulled) ≡ pull_of m c pulled (cond c r.pulled_up r.pulled_down)
      pulls_left true pulled = refl
      pulls_left false pulled = sym (pulls_swap m r.pulled_down pulled)

      downs_long : (c : Bool) (pulled : List ℕ) → m.height + 2 ≤ length pulled → m.height + 2 ≤ length (cond c pulled r.pulled_down)
      downs_long true pulled h = h
      downs_long false pulled h = a.downs

      ups_long : (c : Bool) (pulled : List ℕ) → m.height + 2 ≤ length pulled → m.height + 2 ≤ length (cond c r.pulled_up pulled)
      ups_long true pulled h = a.ups
      ups_long false pulled h = h

      next_quiet : {s : State} → Turns g b (eqb n 0) m.height (begins b r) m.height s → s.changed ≡ false → Quiet m begun g.lanes (suc n)
      unfolding Quiet
      next_quiet w c l k x y =
          let e : suc n - 1 ≡ n = omega arith in
          rw e (ap (λ (table : List (List ℕ)). value_at m table x y) (next_plain l) ∙ (swept_of w).quiet c l x y k)

      next_loud : {s : State} → Turns g b (eqb n 0) m.height (begins b r) m.height s → s.changed ≡ true → ¬ (Quiet m begun g.lanes (suc n))
      unfolding Quiet
      next_loud w c q =
          let f = (swept_of w).loud c in
          let e : suc n - 1 ≡ n = omega arith in
          let z : value_at m (plain (suc n) f.0) f.1 f.2 ≡ value_at m (plain n f.0) f.1 f.2 = rw e at (q f.0 f.3 f.1 f.2) in
          f.4 (sym (ap (λ (table : List (List ℕ)). value_at m table f.1 f.2) (next_plain f.0)) ∙ z)

      next_before : (j : ℕ) → 2 ≤ j → j < suc n → ¬ (Quiet m begun g.lanes j)
      next_before j h k =
          by_cases (ℕ_discrete j n)
          (λ e. rw e (a.loud (omega arith) (on (omega arith))))
          (λ e. a.before j h (omega arith))

      after_next : {s : State} → Turns g b (eqb n 0) m.height (begins b r) m.height s → After (suc n) (leaves b r s) s.changed
      after_next {s} w =
          let v = swept_of w in
          let e : n + 1 ≡ suc n = omega arith in
          record {
            kept = rw (tables_next, pulls_left b s.pulled, ← e) v.kept;
            size = rw tables_next (sized_next m shut g ground base high b (eqb n 0) other n (omega (arith, below)) (plain n) a.size shut_values alongs);
            versions = v.versions;
            downs = downs_long b s.pulled v.pulled;
            ups = ups_long b s.pulled v.pulled;
            along = λ h l u k p q. rw (next_plain l) (v.along l u k p q);
            quiet = λ h. next_quiet w;
            loud = λ h. next_loud w;
            before = next_before;
            most = omega (arith, below);
          }

  -- ---- every run
  module _ (r : Run) (kept : Kept m g.lanes base begun 0 r.levels r.versions (pull_of m true r.pulled_down r.pulled_up))
      (versions : m.height + 2 ≤ length r.versions) (downs : m.height + 2 ≤ length r.pulled_down) (ups : m.height + 2 ≤ length r.pulled_up) where
    after_start : After 0 r true
    unfolding sweeps
    after_start =
        record {
          kept = kept;
          size = sized;
          versions = versions;
          downs = downs;
          ups = ups;
          along = λ h. absurd (omega arith);
          quiet = λ h. absurd (omega arith);
          loud = λ h. absurd (omega arith);
          before = λ j h k. absurd (omega arith);
          most = omega arith;
        }

    pub after : {n : ℕ} {q : Run} {answer : Bool} → Sweeps g m.height r n q answer → After n q answer
    after start = after_start
    after (next {n = n} {q = q} {before = before} p on w) = after_next n q before (after p) on (goes_down n) (direction_is n) w

    -- the run stops: sweep number 2 x reach + 1, if it comes to that, changes nothing
    pub stops : {q : Run} {answer : Bool} → Sweeps g m.height r (2 * m.reach + 1) q answer → answer ≡ false
    stops {answer = true} p = absurd ((after p).loud (omega arith) refl last_quiet)
    stops {answer = false} p = refl

    -- which is what the code asks
    pub run_stops : Stops g m.height r
    run_stops = record { most = 2 * m.reach + 1; late = omega arith; few = omega arith; quiet = λ p. stops p }

    -- and where it stops, its number is the sweep count
    pub ended_count : {q : Run} {n : ℕ} → Ended g m.height r q n → IsCount m begun g.lanes n
    ended_count e = let a = after e.sweeps in record { low = e.late; quiet = a.quiet (omega (arith, e.late)) refl; loud = a.before }
