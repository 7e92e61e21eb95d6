-- One turn of a sweep on the buffers is one row of document 01's plain sweep: a row that is skipped, or has no inside cell, is one that the plain sweep leaves as it is.
use mathlib.Core.Path.{◌≡◌, refl, sym, ◌∙◌, ap}
use mathlib.Core.Logic.{◌≢◌, ◌⊎◌, inl, inr}
use mathlib.Core.Bool.{Bool, true, false, cond, ◌&&◌}
use mathlib.Core.List.{List, []}
use Prim.Native.Nat.{ℕ, suc, ◌+◌, ◌-◌, ◌*◌, ◌^◌, ◌≤◌, ◌<◌}
use native.Mathlib.Nat.{mod-eq_of_lt}
use native.Mathlib.Decide.{dec_le, ℕ_discrete}
use native.Mathlib.Omega.{arith}
use lib.ListN.{get_or, length, set, length-set, get_or-eq_default}
use lib.Seq.{get_or-set_same, get_or-set_other}
use lib.Dec.{T, leb, leb→le, le→leb, not_T}
use lib.Arith.{lt→nleb}
use Rattle.walkgraph.specs.Lanes.{unreachable}
use Rattle.walkgraph.specs.Sweep.{PaddedWindow, in_window, written, read_row, value_at, relaxed, Direction, down, up, place, swept}
use Rattle.walkgraph.specs.Buffers.{flag_byte, cell_place}
use Rattle.walkgraph.proofs.Tests.{by_cases, and_left, and_right, and_pair, cond_true, cond_false}
use Rattle.walkgraph.proofs.SweepSteps.{PaddingShut, written_in, place_place, place_le}
use Rattle.walklaws.proofs.Sweeps.{swept_first, swept_next}
use Rattle.walklaws.proofs.RelaxedRow as Relaxed
use Rattle.walklaws.proofs.Skipping.{Feeds, Fresh, Relax, relax_fresh, relaxed_quiet, quiet_row, fresh_same, empty_quiet}
use Rattle.ways.specs.Row.{RowDone}
use Rattle.row.specs.Visits.{Ground, State, first, past, next_versions, Visited, empty, skipped, done}
use Rattle.sweep.proofs.Gates.{FeedsRow}
use Rattle.sweep.proofs.RowLevels.{Interval, Along, Holds}
use Rattle.sweep.proofs.RowResult as RowResult

-- the ground of a run is that of a padded window
pub record GroundIs (m : PaddedWindow) (g : Ground) : Type 0 where
  pub some : 0 < g.lanes
  pub stride : g.stride ≡ m.width + 2
  pub flags : (x y : ℕ) → T (in_window m x y) → g.flag (cell_place m x y) ≡ flag_byte m x y
  pub interval : (y : ℕ) → 1 ≤ y → y ≤ m.height → Interval m y (first g y) (past g y)

abbrev pub dir_of : Bool → Direction
dir_of true = down
dir_of false = up

-- u32's largest: "never pulled"
abbrev pub never : ℕ
never = 4294967295

-- the version of a row, and the version that it last pulled. What the buffers hold past the window's rows does not count.
unfoldable pub version_at : PaddedWindow → List ℕ → ℕ → ℕ
version_at m versions v = cond (leb v (m.height + 1)) (get_or versions v 0) 0

unfoldable pub pulled_at : PaddedWindow → List ℕ → ℕ → ℕ
pulled_at m pulled v = cond (leb v (m.height + 1)) (get_or pulled v 0) never

module _ (m : PaddedWindow) (numbers : List ℕ) (v : ℕ) where
  pub version_in : v ≤ m.height + 1 → version_at m numbers v ≡ get_or numbers v 0
  unfolding version_at
  version_in h = cond_true (leb v (m.height + 1)) _ _ (le→leb v (m.height + 1) h)

  pub version_out : m.height + 1 < v → version_at m numbers v ≡ 0
  unfolding version_at
  version_out h = cond_false (leb v (m.height + 1)) _ _ (lt→nleb v (m.height + 1) h)

  pub pulled_in : v ≤ m.height + 1 → pulled_at m numbers v ≡ get_or numbers v 0
  unfolding pulled_at
  pulled_in h = cond_true (leb v (m.height + 1)) _ _ (le→leb v (m.height + 1) h)

  pub pulled_out : m.height + 1 < v → pulled_at m numbers v ≡ never
  unfolding pulled_at
  pulled_out h = cond_false (leb v (m.height + 1)) _ _ (lt→nleb v (m.height + 1) h)

-- what each row last pulled, by direction: `own` in the direction of the sweep, `other` in the other one
abbrev pub pull_of : PaddedWindow → Bool → List ℕ → List ℕ → Direction → ℕ → ℕ
pull_of m true own other down v = pulled_at m own v
pull_of m true own other up v = pulled_at m other v
pull_of m false own other down v = pulled_at m other v
pull_of m false own other up v = pulled_at m own v

pull_own : (m : PaddedWindow) (b : Bool) (own other : List ℕ) (v : ℕ) → pull_of m b own other (dir_of b) v ≡ pulled_at m own v
pull_own m true own other v = refl
pull_own m false own other v = refl

-- a row pulls in one direction only
pulled_set : (m : PaddedWindow) (own : List ℕ) (y version v : ℕ) → v ≢ y → pulled_at m (set own y version) v ≡ pulled_at m own v
pulled_set m own y version v n =
    by_cases (dec_le v (m.height + 1))
    (λ h. pulled_in m (set own y version) v h ∙ get_or-set_other own y v version 0 n ∙ sym (pulled_in m own v h))
    (λ h. pulled_out m (set own y version) v (omega arith) ∙ sym (pulled_out m own v (omega arith)))

pulls_set : (m : PaddedWindow) (b : Bool) (own other : List ℕ) (y version : ℕ) (e : Direction) (v : ℕ) → ¬ ((e ≡ dir_of b) × (v ≡ y)) →
    pull_of m b (set own y version) other e v ≡ pull_of m b own other e v
pulls_set m true own other y version down v n = pulled_set m own y version v (λ q. n (refl, q))
pulls_set m true own other y version up v n = refl
pulls_set m false own other y version down v n = refl
pulls_set m false own other y version up v n = pulled_set m own y version v (λ q. n (refl, q))

feeds_dir : (b : Bool) (z y : ℕ) → FeedsRow b z y → Feeds (dir_of b) z y
feeds_dir true z y e = e
feeds_dir false z y e = e

dir_feeds : (b : Bool) (z y : ℕ) → Feeds (dir_of b) z y → FeedsRow b z y
dir_feeds true z y e = e
dir_feeds false z y e = e

-- a written cell is inside
written_inside : (m : PaddedWindow) (x y : ℕ) → T (written m x y) → T (m.inside x y)
unfolding written
written_inside m x y o = and_right (m.walkable x y) (m.inside x y) o

true_false {ℓ} : {A : Type ℓ} → true ≡ false → A
true_false e = absurd (let z : ◌≡◌ {A = ℕ} 0 1 = cc in omega arith)

-- a row of the window is at one place of the sweep
place_one : (m : PaddedWindow) (d : Direction) (n v : ℕ) → n < m.height → place m d v ≡ suc n → v ≡ place m d (suc n)
unfolding place
place_one m down n v h e = e
place_one m up n v h e = omega arith

-- the rows of a turn are rows of the window, and follow each other
place_in : (m : PaddedWindow) (d : Direction) (n : ℕ) → n < m.height → (1 ≤ place m d (suc n)) × (place m d (suc n) ≤ m.height)
unfolding place
place_in m down n h = (omega arith, omega arith)
place_in m up n h = (omega arith, omega arith)

place_feeds : (m : PaddedWindow) (d : Direction) (n : ℕ) → n < m.height → Feeds d (place m d n) (place m d (suc n))
unfolding place
place_feeds m down n h = refl
place_feeds m up n h = omega arith

-- the rows of a table after n turns of a sweep: those that were visited are swept
unfoldable pub mid_row : PaddedWindow → Direction → List (List ℕ) → ℕ → ℕ → List ℕ
mid_row m d t n v = cond (leb (place m d v) n && leb v (m.height + 1)) (swept m d t (place m d v)) (get_or t v [])

module _ (m : PaddedWindow) (shut : PaddingShut m) (d : Direction) (t : List (List ℕ)) where
  pub mid_done : (n v : ℕ) → v ≤ m.height + 1 → place m d v ≤ n → mid_row m d t n v ≡ swept m d t (place m d v)
  unfolding mid_row
  mid_done n v k h =
      cond_true (leb (place m d v) n && leb v (m.height + 1)) _ _ (and_pair (leb (place m d v) n) (leb v (m.height + 1)) (le→leb (place m d v) n h) (le→leb v (m.height + 1) k))

  pub mid_left : (n v : ℕ) → n < place m d v → mid_row m d t n v ≡ get_or t v []
  unfolding mid_row
  mid_left n v h =
      cond_false (leb (place m d v) n && leb v (m.height + 1)) _ _
      (not_T (leb (place m d v) n && leb v (m.height + 1)) (λ q. omega (arith, leb→le (place m d v) n (and_left (leb (place m d v) n) (leb v (m.height + 1)) q))))

  pub mid_past : (n v : ℕ) → m.height + 1 < v → mid_row m d t n v ≡ get_or t v []
  unfolding mid_row
  mid_past n v h =
      cond_false (leb (place m d v) n && leb v (m.height + 1)) _ _
      (not_T (leb (place m d v) n && leb v (m.height + 1)) (λ q. omega (arith, leb→le v (m.height + 1) (and_right (leb (place m d v) n) (leb v (m.height + 1)) q))))

  -- before the first turn
  pub mid_none : (v : ℕ) → mid_row m d t 0 v ≡ get_or t v []
  mid_none v =
      by_cases (dec_le v (m.height + 1))
      (λ k.
      by_cases (dec_le (place m d v) 0)
      (λ h.
      let e : place m d v ≡ 0 = omega arith in
      mid_done 0 v k h ∙ ap (swept m d t) e ∙ swept_first m shut d t ∙ ap (λ (u : ℕ). get_or t u []) (ap (place m d) (sym e) ∙ place_place m d v k))
      (λ h. mid_left 0 v (omega arith)))
      (λ k. mid_past 0 v (omega arith))

  -- one turn more
  pub mid_other : (n v : ℕ) → n < m.height → v ≢ place m d (suc n) → mid_row m d t (suc n) v ≡ mid_row m d t n v
  mid_other n v h e =
      by_cases (dec_le v (m.height + 1))
      (λ k.
      by_cases (dec_le (place m d v) n)
      (λ q. mid_done (suc n) v k (omega arith) ∙ sym (mid_done n v k q))
      (λ q.
      let f : place m d v ≢ suc n = λ r. e (place_one m d n v h r) in
      mid_left (suc n) v (omega arith) ∙ sym (mid_left n v (omega arith))))
      (λ k. mid_past (suc n) v (omega arith) ∙ sym (mid_past n v (omega arith)))

  pub mid_own : (n : ℕ) → n < m.height →
      mid_row m d t (suc n) (place m d (suc n)) ≡ relaxed m (place m d (suc n)) (place m d n) (mid_row m d t n (place m d n)) (mid_row m d t n (place m d (suc n)))
  mid_own n h =
      let a = place_place m d (suc n) (omega arith) in
      let b = place_place m d n (omega arith) in
      let c = place_le m d (suc n) (omega arith) in
      let e : mid_row m d t n (place m d n) ≡ swept m d t n = mid_done n (place m d n) (place_le m d n (omega arith)) (omega arith) ∙ ap (swept m d t) b in
      let f : mid_row m d t n (place m d (suc n)) ≡ get_or t (place m d (suc n)) [] = mid_left n (place m d (suc n)) (omega arith) in
      mid_done (suc n) (place m d (suc n)) c (omega arith) ∙ ap (swept m d t) a ∙ swept_next m shut d t n ∙ rw (e, f)

-- ---- a sweep in the direction `b`, number `number`, over the tables t of all lanes
module _ (m : PaddedWindow) (shut : PaddingShut m) (g : Ground) (ground : GroundIs m g) (base : ℕ) (high : unreachable m.reach + base ≡ 65535) (b fresh : Bool) (other : List ℕ)
    (number : ℕ) (few : number + 1 < never) (t : ℕ → List (List ℕ))
    (long : (l v : ℕ) → l < g.lanes → v ≤ m.height + 1 → length (get_or (t l) v []) ≡ m.width + 2)
    (closed : (l x v : ℕ) → l < g.lanes → ¬ (T (written m x v)) → value_at m (t l) x v ≡ unreachable m.reach)
    (alongs : fresh ≡ false → (l v : ℕ) → l < g.lanes → 1 ≤ v → v ≤ m.height → Along m v (get_or (t l) v [])) where
  abbrev D : Direction
  D = dir_of b

  abbrev mid : ℕ → ℕ → ℕ → List ℕ
  mid n l v = mid_row m D (t l) n v

  -- what holds after n turns
  pub record Mid (n : ℕ) (s : State) : Type 0 where
    pub holds : (l v : ℕ) → l < g.lanes → v ≤ m.height + 1 → Holds m g.lanes base s.levels l v (mid n l v)
    pub versions : m.height + 2 ≤ length s.versions
    pub pulled : m.height + 2 ≤ length s.pulled
    pub fresh_rows : Fresh m g.lanes (mid n) (version_at m s.versions) (pull_of m b s.pulled other) never
    pub low : (v : ℕ) → version_at m s.versions v ≤ number + 1
    pub lower : (v : ℕ) → n < place m D v → version_at m s.versions v ≤ number
    pub along : (l v : ℕ) → l < g.lanes → 1 ≤ v → v ≤ m.height → place m D v ≤ n → Along m v (mid n l v)
    pub quiet : s.changed ≡ false → (l v x : ℕ) → l < g.lanes → v ≤ m.height + 1 → x ≤ m.width + 1 → read_row m (mid n l v) x ≡ read_row m (get_or (t l) v []) x
    pub loud : s.changed ≡ true → (l : ℕ) × (v : ℕ) × (x : ℕ) × (l < g.lanes) × (v ≤ m.height + 1) × (x ≤ m.width + 1) × ¬ (read_row m (mid n l v) x ≡ read_row m (get_or (t l) v []) x)

  module _ (n : ℕ) (h : n < m.height) (s : State) (i : Mid n s) where
    abbrev y : ℕ
    y = place m D (suc n)

    abbrev z : ℕ
    z = place m D n

    y_in : (1 ≤ y) × (y ≤ m.height)
    y_in = place_in m D n h

    y_fits : y ≤ m.height + 1
    y_fits = omega (arith, y_in)

    z_in : z ≤ m.height + 1
    z_in = place_le m D n (omega arith)

    y_left : n < place m D y
    y_left = omega (arith, place_place m D (suc n) (omega arith))

    own_row : (l : ℕ) → mid n l y ≡ get_or (t l) y []
    own_row l = mid_left m shut D (t l) n y y_left

    own_long : (l : ℕ) → l < g.lanes → length (mid n l y) ≡ m.width + 2
    own_long l k = ap length (own_row l) ∙ long l y k (omega (arith, y_in))

    -- the rows after the turn
    after_own : (l : ℕ) → mid (suc n) l y ≡ relaxed m y z (mid n l z) (mid n l y)
    after_own l = mid_own m shut D (t l) n h

    after_other : (l v : ℕ) → v ≢ y → mid (suc n) l v ≡ mid n l v
    after_other l v e = mid_other m shut D (t l) n v h e

    -- ---- the row stays: it has no inside cell, or is skipped
    module _ (same : (l : ℕ) → l < g.lanes → relaxed m y z (mid n l z) (mid n l y) ≡ mid n l y) (closed-row : (l : ℕ) → l < g.lanes → Along m y (mid n l y)) where
      all_same : (l v : ℕ) → l < g.lanes → mid (suc n) l v ≡ mid n l v
      all_same l v k =
          by_cases (ℕ_discrete v y)
          (λ e. rw e (after_own l ∙ same l k))
          (λ e. after_other l v e)

      stay : Mid (suc n) s
      stay =
          record {
            holds = λ l v k e. rw (all_same l v k) (i.holds l v k e);
            versions = i.versions;
            pulled = i.pulled;
            fresh_rows = fresh_same all_same i.fresh_rows;
            low = i.low;
            lower = λ v e. i.lower v (omega arith);
            along = λ l v k e f q.
                rw (all_same l v k)
                (by_cases (dec_le (place m D v) n) (i.along l v k e f)
                (λ r. let w : v ≡ y = place_one m D n v h (omega arith) in rw w (closed-row l k)));
            quiet = λ q l v x k e f. rw (all_same l v k) (i.quiet q l v x k e f);
            loud = λ q. let c = i.loud q in (c.0, c.1, c.2, c.3, c.4, c.5, rw (all_same c.0 c.1 c.3) c.6);
          }

    feeds : Feeds D z y
    feeds = place_feeds m D n h

    own_most : (l x : ℕ) → l < g.lanes → read_row m (mid n l y) x ≤ unreachable m.reach
    own_most l x k = i.fresh_rows.top l y x k

    -- a row whose interval is empty has no cell to write
    empty_turn : past g y ≤ first g y → Mid (suc n) s
    empty_turn e =
        stay
        (λ l k. quiet_row (empty_quiet none (λ x. own_most l x k)) (own_long l k))
        (λ l k. record { left = λ x o. absurd (none (suc x) o); right = λ x o. absurd (none x o) })
      where
        none : (x : ℕ) → ¬ (T (written m x y))
        none x o =
            let w = written_in m shut x y o in
            let j = ground.interval y y_in.0 y_in.1 in
            let r = j.only x w.0 w.1 (written_inside m x y o) in
            omega (arith, r.0, r.1)

    -- a row whose feeding row has the version that it last pulled is quiet
    skip_turn : get_or s.pulled y 0 ≡ get_or s.versions z 0 → Mid (suc n) s
    skip_turn e =
        stay
        (λ l k. quiet_row (row l k) (own_long l k))
        (λ l k. record { left = (row l k).left; right = (row l k).right })
      where
        row : (l : ℕ) → l < g.lanes → Relaxed.RowQuiet m y z (mid n l z) (mid n l y)
        row l k =
            i.fresh_rows.quiet D z y feeds
            (pull_own m b s.pulled other y ∙ pulled_in m s.pulled y y_fits ∙ e ∙ sym (version_in m s.versions z z_in)) l k

    -- ---- the row is relaxed
    module _ {levels : ℕ → ℕ} {answer : Bool}
        (r : RowDone g.lanes g.flag b ((y * g.stride + first g y) * g.lanes) ((z * g.stride + first g y) * g.lanes) (y * g.stride + first g y) (past g y - first g y) s.levels levels fresh answer)
      where
        abbrev next : State
        next = record { levels = levels; versions = next_versions answer s.versions y; pulled = set s.pulled y (get_or s.versions z 0); changed = cond answer true s.changed }

        own_closed : (l x : ℕ) → l < g.lanes → ¬ (T (written m x y)) → read_row m (mid n l y) x ≡ unreachable m.reach
        own_closed l x k w = ap (λ (row : List ℕ). read_row m row x) (own_row l) ∙ closed l x y k w

        result : RowResult.RowResult m shut g.lanes ground.some g.flag base high b s.levels y z (first g y) (past g y) y_in.0 y_in.1 (dir_feeds b z y feeds) z_in
            (ground.interval y y_in.0 y_in.1) (λ x. ground.flags x y) (mid n) i.holds own_most own_closed levels answer
        result =
            RowResult.row_result m shut g.lanes ground.some g.flag base high b s.levels y z (first g y) (past g y) y_in.0 y_in.1 (dir_feeds b z y feeds) z_in
            (ground.interval y y_in.0 y_in.1) (λ x. ground.flags x y) (mid n) i.holds own_most own_closed (rw ground.stride at r)
            (λ e l k. rw (own_row l) (alongs e l y k y_in.0 y_in.1))

        -- versions
        version_y : get_or s.versions y 0 ≤ number
        version_y = rw (version_in m s.versions y y_fits) at (i.lower y y_left)

        versions_at : (a : Bool) → version_at m (next_versions a s.versions y) y ≡ cond a (suc (version_at m s.versions y)) (version_at m s.versions y)
        versions_at true =
            let e : get_or s.versions y 0 + 1 < 2 ^ 32 = omega (arith, version_y) in
            version_in m (next_versions true s.versions y) y y_fits ∙ get_or-set_same s.versions y _ 0 (omega (arith, i.versions, y_in)) ∙ mod-eq_of_lt e
            ∙ omega (arith, version_in m s.versions y y_fits)
        versions_at false = refl

        versions_rest : (a : Bool) (v : ℕ) → v ≢ y → version_at m (next_versions a s.versions y) v ≡ version_at m s.versions v
        versions_rest true v e =
            by_cases (dec_le v (m.height + 1))
            (λ q. version_in m (next_versions true s.versions y) v q ∙ get_or-set_other s.versions y v _ 0 e ∙ sym (version_in m s.versions v q))
            (λ q. version_out m (next_versions true s.versions y) v (omega arith) ∙ sym (version_out m s.versions v (omega arith)))
        versions_rest false v e = refl

        versions_long : (a : Bool) → length (next_versions a s.versions y) ≡ length s.versions
        versions_long true = length-set s.versions y _
        versions_long false = refl

        version_low : (a : Bool) → version_at m (next_versions a s.versions y) y ≤ number + 1
        version_low true = omega (arith, versions_at true, i.lower y y_left)
        version_low false = omega (arith, versions_at false, i.lower y y_left)

        own_same : answer ≡ false → (l x : ℕ) → l < g.lanes → read_row m (mid (suc n) l y) x ≡ read_row m (mid n l y) x
        own_same e l x k =
            rw (after_own l)
            (by_cases (dec_le x (m.width + 1)) (result.quiet e l x k)
            (λ q. Relaxed.relaxed_out m y z (mid n l z) (mid n l y) x (omega arith) ∙ sym (get_or-eq_default (mid n l y) (unreachable m.reach) (omega (arith, own_long l k)))))

        told : (a : Bool) → answer ≡ a →
            (version_at m (next_versions answer s.versions y) y ≡ suc (version_at m s.versions y)) ⊎ ((version_at m (next_versions answer s.versions y) y ≡ version_at m s.versions y) × ((l x : ℕ) → l < g.lanes → read_row m (mid (suc n) l y) x ≡ read_row m (mid n l y) x))
        told true e = inl (rw e (versions_at true))
        told false e = inr (rw e (versions_at false), own_same e)

        relax : Relax m g.lanes (mid n) (mid (suc n)) (version_at m s.versions) (version_at m next.versions) (pull_of m b s.pulled other) (pull_of m b next.pulled other) D z y
        relax =
            record {
              feeds = feeds;
              row = λ l k. after_own l;
              rest = λ l v k e. after_other l v e;
              version = told answer refl;
              versions = versions_rest answer;
              pulled = pull_own m b next.pulled other y ∙ pulled_in m next.pulled y y_fits ∙ get_or-set_same s.pulled y _ 0 (omega (arith, i.pulled, y_in)) ∙ sym (version_in m s.versions z z_in);
              pulls = λ e v q. pulls_set m b s.pulled other y (get_or s.versions z 0) e v q;
            }

        -- the lanes of the turn's row and of the others
        done_holds : (l v : ℕ) → l < g.lanes → v ≤ m.height + 1 → Holds m g.lanes base levels l v (mid (suc n) l v)
        done_holds l v k e =
            by_cases (ℕ_discrete v y)
            (λ q. rw (q, after_own l) (result.row l k))
            (λ q x f. rw (after_other l v q) (result.rest l v k q x f ∙ i.holds l v k e x f))

        done_along : (l v : ℕ) → l < g.lanes → 1 ≤ v → v ≤ m.height → place m D v ≤ suc n → Along m v (mid (suc n) l v)
        done_along l v k e f q =
            by_cases (ℕ_discrete v y)
            (λ w. rw (w, after_own l) (relaxed_along l k))
            (λ w. rw (after_other l v w) (i.along l v k e f (by_cases (dec_le (place m D v) n) (λ r. r) (λ r. absurd (w (place_one m D n v h (omega arith)))))))
          where
            relaxed_along : (l : ℕ) → l < g.lanes → Along m y (relaxed m y z (mid n l z) (mid n l y))
            relaxed_along l k =
                let q = relaxed_quiet m shut y z (mid n l z) (mid n l y) (λ x. own_most l x k) in
                record { left = q.left; right = q.right }

        done_quiet : (a : Bool) → answer ≡ a → cond a true s.changed ≡ false → (l v x : ℕ) → l < g.lanes → v ≤ m.height + 1 → x ≤ m.width + 1 → read_row m (mid (suc n) l v) x ≡ read_row m (get_or (t l) v []) x
        done_quiet true e c l v x k f q = absurd (true_false c)
        done_quiet false e c l v x k f q =
            by_cases (ℕ_discrete v y)
            (λ w. rw w (own_same e l x k ∙ ap (λ (row : List ℕ). read_row m row x) (own_row l)))
            (λ w. rw (after_other l v w) (i.quiet c l v x k f q))

        done_loud : (a : Bool) → answer ≡ a → cond a true s.changed ≡ true →
            (l : ℕ) × (v : ℕ) × (x : ℕ) × (l < g.lanes) × (v ≤ m.height + 1) × (x ≤ m.width + 1) × ¬ (read_row m (mid (suc n) l v) x ≡ read_row m (get_or (t l) v []) x)
        done_loud true e c =
            let f = result.loud e in
            (f.0, y, f.1, f.2, omega (arith, y_in), f.3, rw (after_own f.0, ← own_row f.0) f.4)
        done_loud false e c =
            let f = i.loud c in
            let w : f.1 ≢ y = λ q. f.6 (rw q (ap (λ (row : List ℕ). read_row m row f.2) (own_row f.0))) in
            (f.0, f.1, f.2, f.3, f.4, f.5, rw (after_other f.0 f.1 w) f.6)

        done_turn : Mid (suc n) next
        done_turn =
            record {
              holds = done_holds;
              versions = omega (arith, versions_long answer, i.versions);
              pulled = omega (arith, length-set s.pulled y (get_or s.versions z 0), i.pulled);
              fresh_rows = relax_fresh shut i.fresh_rows relax (omega (arith, version_low answer));
              low = λ v. by_cases (ℕ_discrete v y) (λ e. rw e (version_low answer)) (λ e. omega (arith, versions_rest answer v e, i.low v));
              lower = λ v e.
                  let w : v ≢ y = λ q. omega (arith, ap (place m D) q, place_place m D (suc n) (omega arith)) in
                  omega (arith, versions_rest answer v w, i.lower v (omega arith));
              along = done_along;
              quiet = done_quiet answer refl;
              loud = done_loud answer refl;
            }

    -- whatever the visit did
    pub turn : {u : State} → Visited g b fresh y z s u → Mid (suc n) u
    turn (empty e) = empty_turn e
    turn (skipped e f) = skip_turn f
    turn (done e f r) = done_turn r
