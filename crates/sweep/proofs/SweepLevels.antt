-- One sweep on the buffers is document 01's plain sweep, in every lane.
use mathlib.Core.Path.{◌≡◌, refl, sym, ◌∙◌, ap}
use mathlib.Core.Bool.{Bool, true, false}
use mathlib.Core.List.{List, []}
use Prim.Native.Nat.{ℕ, zero, suc, ◌+◌, ◌-◌, ◌≤◌, ◌<◌}
use native.Mathlib.Decide.{dec_le}
use native.Mathlib.Omega.{arith}
use lib.ListN.{get_or, length, get_or-eq_default}
use lib.Dec.{T}
use Rattle.walkgraph.specs.Lanes.{unreachable}
use Rattle.walkgraph.specs.Sweep.{PaddedWindow, written, read_row, value_at, Direction, down, up, place, swept, sweep}
use Rattle.walkgraph.proofs.Tests.{by_cases}
use Rattle.walkgraph.proofs.SweepSteps.{PaddingShut, written_in, place_place, place_le}
use Rattle.walklaws.proofs.Sweeps.{sweep_row, sweep_past, swept_first, swept_next}
use Rattle.walklaws.proofs.RelaxedRow.{relaxed_length}
use Rattle.walklaws.proofs.Skipping.{Fresh, quiet_row, fresh_same, empty_quiet}
use Rattle.row.specs.Visits.{Ground, State, row_at, feed_at}
use Rattle.sweep.specs.Sweeps.{Turns, none, more}
use Rattle.sweep.proofs.RowLevels.{Along, Holds}
use Rattle.sweep.proofs.TurnLevels.{GroundIs, dir_of, version_at, pull_of, never, mid_row, mid_done, mid_left, mid_past, mid_none, Mid, turn}

-- the code's turns are the places of the sweep
row_at_lem : (m : PaddedWindow) (b : Bool) (n : ℕ) → n < m.height → row_at b m.height n ≡ place m (dir_of b) (suc n)
unfolding place
row_at_lem m true n h = omega arith
row_at_lem m false n h = omega arith

feed_at_lem : (m : PaddedWindow) (b : Bool) (n : ℕ) → n < m.height → feed_at b m.height n ≡ place m (dir_of b) n
unfolding place
feed_at_lem m true n h = refl
feed_at_lem m false n h = omega arith

place_pos : (m : PaddedWindow) (d : Direction) (v : ℕ) → 1 ≤ v → v ≤ m.height → 0 < place m d v
unfolding place
place_pos m down v h k = h
place_pos m up v h k = omega arith

place_last : (m : PaddedWindow) (d : Direction) (v : ℕ) → 1 ≤ v → v ≤ m.height → place m d v ≤ m.height
unfolding place
place_last m down v h k = k
place_last m up v h k = omega arith

-- true is not false
clash {ℓ} : {A : Type ℓ} → true ≡ false → A
clash e = absurd (let z : ◌≡◌ {A = ℕ} 0 1 = cc in omega arith)

-- the tables of all lanes have the window's size with padding
pub record Sized (m : PaddedWindow) (lanes : ℕ) (t : ℕ → List (List ℕ)) : Type 0 where
  pub wide : (l v : ℕ) → l < lanes → v ≤ m.height + 1 → length (get_or (t l) v []) ≡ m.width + 2
  pub tall : (l v : ℕ) → l < lanes → m.height + 1 < v → get_or (t l) v [] ≡ []

-- the buffers hold the tables, and the versions are true of them, after `number` sweeps
pub record Kept (m : PaddedWindow) (lanes base : ℕ) (t : ℕ → List (List ℕ)) (number : ℕ) (levels : ℕ → ℕ) (versions : List ℕ) (pulls : Direction → ℕ → ℕ) : Type 0 where
  pub holds : (l v : ℕ) → l < lanes → v ≤ m.height + 1 → Holds m lanes base levels l v (get_or (t l) v [])
  pub fresh_rows : Fresh m lanes (λ l v. get_or (t l) v []) (version_at m versions) pulls never
  pub low : (v : ℕ) → version_at m versions v ≤ number

module _ (m : PaddedWindow) (shut : PaddingShut m) (g : Ground) (ground : GroundIs m g) (base : ℕ) (high : unreachable m.reach + base ≡ 65535) (b fresh : Bool) (other : List ℕ)
    (number : ℕ) (few : number + 1 < never) (t : ℕ → List (List ℕ)) (sized : Sized m g.lanes t)
    (closed : (l x v : ℕ) → l < g.lanes → ¬ (T (written m x v)) → value_at m (t l) x v ≡ unreachable m.reach)
    (alongs : fresh ≡ false → (l v : ℕ) → l < g.lanes → 1 ≤ v → v ≤ m.height → Along m v (get_or (t l) v [])) where
  abbrev D : Direction
  D = dir_of b

  abbrev MidOf : ℕ → State → Type 0
  MidOf = Mid m shut g ground base high b fresh other number few t sized.wide closed alongs

  mid_start : (s : State) → Kept m g.lanes base t number s.levels s.versions (pull_of m b s.pulled other) → m.height + 2 ≤ length s.versions → m.height + 2 ≤ length s.pulled →
      s.changed ≡ false → MidOf 0 s
  mid_start s k p q c =
      let same : (l v : ℕ) → mid_row m D (t l) 0 v ≡ get_or (t l) v [] = λ l v. mid_none m shut D (t l) v in
      record {
        holds = λ l v h e. rw (same l v) (k.holds l v h e);
        versions = p;
        pulled = q;
        fresh_rows = fresh_same (λ l v h. same l v) k.fresh_rows;
        low = λ v. omega (arith, k.low v);
        lower = λ v e. k.low v;
        along = λ l v h e f r. absurd (omega (arith, place_pos m D v e f));
        quiet = λ e l v x h f r. ap (λ (row : List ℕ). read_row m row x) (same l v);
        loud = λ e. clash (sym e ∙ c);
      }

  turns : {s : State} {n : ℕ} {u : State} → MidOf 0 s → n ≤ m.height → Turns g b fresh m.height s n u → MidOf n u
  turns i h none = i
  turns i h (more {n = n} {t = w} p v) =
      turn m shut g ground base high b fresh other number few t sized.wide closed alongs n (omega arith) w (turns i (omega arith) p)
      (rw (row_at_lem m b n (omega arith), feed_at_lem m b n (omega arith)) at v)

  -- ---- after the last turn: the far padding, which no turn visits, is left as it is by the plain sweep too
  padding_none : (v : ℕ) → m.height < v → (x : ℕ) → ¬ (T (written m x v))
  padding_none v h x o = omega (arith, written_in m shut x v o)

  zero_none : (x : ℕ) → ¬ (T (written m x 0))
  zero_none x o = omega (arith, written_in m shut x 0 o)

  far_none : (d : Direction) (x : ℕ) → ¬ (T (written m x (place m d (m.height + 1))))
  unfolding place
  far_none down = padding_none (m.height + 1) (omega arith)
  far_none up = let e : m.height + 1 - (m.height + 1) ≡ 0 = omega arith in rw e zero_none

  far_row : (l : ℕ) → l < g.lanes → ((x : ℕ) → read_row m (get_or (t l) (place m D (m.height + 1)) []) x ≤ unreachable m.reach) →
      swept m D (t l) (m.height + 1) ≡ get_or (t l) (place m D (m.height + 1)) []
  far_row l k most =
      let e : m.height + 1 ≡ suc m.height = omega arith in
      let p = place_le m D (suc m.height) (omega arith) in
      rw e
      (swept_next m shut D (t l) m.height
      ∙ quiet_row (empty_quiet (rw e at (far_none D)) (rw e at most)) (sized.wide l (place m D (suc m.height)) k p))

  table_most : {s : State} → MidOf m.height s → (l v x : ℕ) → l < g.lanes → read_row m (mid_row m D (t l) m.height v) x ≤ unreachable m.reach
  table_most i l v x k = i.fresh_rows.top l v x k

  last_rows : {s : State} → MidOf m.height s → (l v : ℕ) → l < g.lanes → get_or (sweep m D (t l)) v [] ≡ mid_row m D (t l) m.height v
  last_rows i l v k =
      by_cases (dec_le v (m.height + 1))
      (λ h.
      by_cases (dec_le (place m D v) m.height)
      (λ q. sweep_row m shut D (t l) v h ∙ sym (mid_done m shut D (t l) m.height v h q))
      (λ q.
      let f : place m D v ≡ m.height + 1 = omega (arith, place_le m D v h) in
      let w : place m D (m.height + 1) ≡ v = ap (place m D) (sym f) ∙ place_place m D v h in
      let r : mid_row m D (t l) m.height v ≡ get_or (t l) v [] = mid_left m shut D (t l) m.height v (omega arith) in
      sweep_row m shut D (t l) v h ∙ ap (swept m D (t l)) f
      ∙ far_row l k (rw w (λ x. rw r at (table_most i l v x k)))
      ∙ ap (λ (u : ℕ). get_or (t l) u []) w ∙ sym r))
      (λ h. sweep_past m shut D (t l) v (omega arith) ∙ sym (mid_past m shut D (t l) m.height v (omega arith) ∙ sized.tall l v k (omega arith)))

  -- the tables keep their size
  swept_wide : (l i : ℕ) → l < g.lanes → length (swept m D (t l) i) ≡ m.width + 2
  swept_wide l zero k = ap length (swept_first m shut D (t l)) ∙ sized.wide l (place m D 0) k (place_le m D 0 (omega arith))
  swept_wide l (suc i) k = ap length (swept_next m shut D (t l) i) ∙ relaxed_length m _ _ _ _

  pub sized_next : Sized m g.lanes (λ l. sweep m D (t l))
  sized_next =
      record {
        wide = λ l v k h. ap length (sweep_row m shut D (t l) v h) ∙ swept_wide l (place m D v) k;
        tall = λ l v k h. sweep_past m shut D (t l) v h;
      }

  past_end : (row : List ℕ) (x : ℕ) → length row ≡ m.width + 2 → m.width + 1 < x → read_row m row x ≡ unreachable m.reach
  past_end row x e h = get_or-eq_default row (unreachable m.reach) (omega arith)

  -- what a whole sweep leaves
  pub record Swept (s : State) : Type 0 where
    pub kept : Kept m g.lanes base (λ l. sweep m D (t l)) (number + 1) s.levels s.versions (pull_of m b s.pulled other)
    pub versions : m.height + 2 ≤ length s.versions
    pub pulled : m.height + 2 ≤ length s.pulled
    pub along : (l v : ℕ) → l < g.lanes → 1 ≤ v → v ≤ m.height → Along m v (get_or (sweep m D (t l)) v [])
    pub quiet : s.changed ≡ false → (l x y : ℕ) → l < g.lanes → value_at m (sweep m D (t l)) x y ≡ value_at m (t l) x y
    pub loud : s.changed ≡ true → (l : ℕ) × (x : ℕ) × (y : ℕ) × (l < g.lanes) × ¬ (value_at m (sweep m D (t l)) x y ≡ value_at m (t l) x y)

  all_quiet : {s : State} → MidOf m.height s → s.changed ≡ false → (l x y : ℕ) → l < g.lanes → value_at m (sweep m D (t l)) x y ≡ value_at m (t l) x y
  all_quiet i c l x y k =
      by_cases (dec_le y (m.height + 1))
      (λ h.
      by_cases (dec_le x (m.width + 1))
      (λ q. ap (λ (row : List ℕ). read_row m row x) (last_rows i l y k) ∙ i.quiet c l y x k h q)
      (λ q. past_end (get_or (sweep m D (t l)) y []) x (sized_next.wide l y k h) (omega arith) ∙ sym (past_end (get_or (t l) y []) x (sized.wide l y k h) (omega arith))))
      (λ h. ap (λ (row : List ℕ). read_row m row x) (sweep_past m shut D (t l) y (omega arith) ∙ sym (sized.tall l y k (omega arith))))

  pub swept_whole : {s u : State} → Kept m g.lanes base t number s.levels s.versions (pull_of m b s.pulled other) → m.height + 2 ≤ length s.versions → m.height + 2 ≤ length s.pulled →
      s.changed ≡ false → Turns g b fresh m.height s m.height u → Swept u
  swept_whole {s} k p q c w =
      let i = turns (mid_start s k p q c) (omega arith) w in
      record {
        kept = record {
          holds = λ l v h e. rw (last_rows i l v h) (i.holds l v h e);
          fresh_rows = fresh_same (λ l v h. last_rows i l v h) i.fresh_rows;
          low = i.low;
        };
        versions = i.versions;
        pulled = i.pulled;
        along = λ l v h e f. rw (last_rows i l v h) (i.along l v h e f (omega (arith, place_last m D v e f)));
        quiet = all_quiet i;
        loud = λ e. let f = i.loud e in (f.0, f.2, f.1, f.3, rw (last_rows i f.0 f.1 f.3) f.6);
      }
