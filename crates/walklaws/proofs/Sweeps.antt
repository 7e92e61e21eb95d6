-- Whole sweeps: values fall and stay real, each sweep leaves no step of its direction that would lower a value, and a sweep over values that none of its steps
-- lowers changes nothing.
use mathlib.Core.Path.{◌≡◌, refl, sym, ◌∙◌, ap, subst}
use mathlib.Core.Logic.{⊎_elim}
use mathlib.Core.List.{List, []}
use Prim.Native.Nat.{ℕ, zero, suc, ◌+◌, ◌*◌, ◌≤◌, ◌<◌}
use native.Mathlib.Decide.{dec_le}
use native.Mathlib.Omega.{arith}
use lib.ListN.{get_or, get_or-eq_default}
use Rattle.walkgraph.specs.Lists.{tabulate, grow, grown}
use Rattle.walkgraph.specs.Lanes.{cap, unreachable}
use Rattle.walkgraph.specs.Walk.{distance, Step, straight, diagonal, Walk, here, on}
use Rattle.walkgraph.specs.Field.{WalkCosts}
use Rattle.walkgraph.specs.Sweep.{PaddedWindow, Direction, read_row, value_at, written, place, relaxed, swept, sweep, turn, direction, sweeps, swept_step}
use Rattle.walkgraph.proofs.Tests.{dec_t, by_cases}
use Rattle.walkgraph.proofs.Lists.{get_d_tabulate, length_tabulate, get_or_grow}
use Rattle.walkgraph.proofs.SweepSteps.{Walkable, Allowed, PaddingShut, written_in, corner_sides, corner_open, place_place, place_le, place_next, place_pred, Level, same, next, distance_none, distance_one, one_of_two, level}
use Rattle.walkgraph.proofs.Walks.{steps_reach, extend, last_allowed}
use Rattle.walkgraph.proofs.Values.{Capped}
use Rattle.walklaws.proofs.Settled.{Settled, settled_field}
use Rattle.walklaws.proofs.RelaxedRow as R

-- no step of the sweep lowers a value
pub record Closed (m : PaddedWindow) (d : Direction) (t : List (List ℕ)) : Type 0 where
  pub edge : {x y u v k : ℕ} → Allowed m x y → Allowed m u v → Step (Walkable m) x y u v k → Level m d y v → value_at m t u v ≤ value_at m t x y + k

-- ---- a step by what it does to the column
pub data View (Walkable : ℕ → ℕ → Type 0) (x y u v k : ℕ) : Type 0 where
  rightwards : u ≡ suc x → v ≡ y → k ≡ 500 → View Walkable x y u v k
  leftwards : x ≡ suc u → v ≡ y → k ≡ 500 → View Walkable x y u v k
  upright : u ≡ x → distance y v ≡ 1 → k ≡ 500 → View Walkable x y u v k
  west : u ≡ suc x → distance y v ≡ 1 → k ≡ 707 → Walkable x v → Walkable u y → View Walkable x y u v k
  east : x ≡ suc u → distance y v ≡ 1 → k ≡ 707 → Walkable x v → Walkable u y → View Walkable x y u v k

pub view : {Walkable : ℕ → ℕ → Type 0} {x y u v k : ℕ} → Step Walkable x y u v k → View Walkable x y u v k
view {x = x} {y = y} {u = u} {v = v} (straight e) =
    ⊎_elim
    (λ i. ⊎_elim (λ g. rightwards g (distance_none y v i.1) refl) (λ g. leftwards g (distance_none y v i.1) refl) (distance_one x u i.0))
    (λ i. upright (distance_none x u i.0) i.1 refl)
    (one_of_two (distance x u) (distance y v) e)
view {x = x} {u = u} (diagonal e f p q) = ⊎_elim (λ g. west g f refl p q) (λ g. east g f refl p q) (distance_one x u e)

-- to show something of each row, show it of the row at each place
by_row_place : (m : PaddedWindow) (d : Direction) (P : ℕ → Type 0) → ((i : ℕ) → i ≤ m.height + 1 → P (place m d i)) → (y : ℕ) → y ≤ m.height + 1 → P y
by_row_place m d P f y h = subst P (place_place m d y h) (f (place m d y) (place_le m d y h))

module _ (m : PaddedWindow) (p : PaddingShut m) (d : Direction) (t : List (List ℕ)) where
  abbrev S : ℕ → List ℕ
  S = swept m d t

  abbrev old : ℕ → List ℕ
  old i = get_or t (place m d i) []

  -- the rows of the sweep, by place and by row
  pub swept_first : S zero ≡ old zero
  unfolding swept grown
  swept_first = refl

  pub swept_next : (i : ℕ) → S (suc i) ≡ relaxed m (place m d (suc i)) (place m d i) (S i) (old (suc i))
  unfolding swept grown swept_step
  swept_next i = refl

  pub sweep_row : (y : ℕ) → y ≤ m.height + 1 → get_or (sweep m d t) y [] ≡ S (place m d y)
  unfolding sweep swept
  sweep_row y h =
      get_d_tabulate (m.height + 2) (λ y. get_or (grow (m.height + 2) (old zero) (swept_step m d t)) (place m d y) []) [] y (omega arith)
      ∙ get_or_grow (m.height + 2) (old zero) (swept_step m d t) [] (place m d y) (omega (arith, place_le m d y h))

  pub sweep_past : (y : ℕ) → m.height + 1 < y → get_or (sweep m d t) y [] ≡ []
  unfolding sweep
  sweep_past y h =
      let rows = tabulate (m.height + 2) (λ y. get_or (grow (m.height + 2) (old zero) (swept_step m d t)) (place m d y) []) in
      get_or-eq_default rows [] (omega (arith, length_tabulate (m.height + 2) (λ y. get_or (grow (m.height + 2) (old zero) (swept_step m d t)) (place m d y) [])))

  at_place : (i x : ℕ) → i ≤ m.height + 1 → value_at m (sweep m d t) x (place m d i) ≡ read_row m (S i) x
  at_place i x h = ap (λ (r : List ℕ). read_row m r x) (sweep_row (place m d i) (place_le m d i h) ∙ ap S (place_place m d i h))

  -- ---- values fall
  S_fall : (i x : ℕ) → x ≤ m.width + 1 → read_row m (S i) x ≤ read_row m (old i) x
  unfolding swept grown swept_step
  S_fall zero x h = omega arith
  S_fall (suc i) x h = R.row_fall m (place m d (suc i)) (place m d i) (S i) (old (suc i)) x h

  pub sweep_fall_in : (x y : ℕ) → x ≤ m.width + 1 → y ≤ m.height + 1 → value_at m (sweep m d t) x y ≤ value_at m t x y
  sweep_fall_in x y h k =
      by_row_place m d (λ y. value_at m (sweep m d t) x y ≤ value_at m t x y) (λ i l. omega (arith, at_place i x l, S_fall i x h)) y k

  -- ---- the steps of the sweep lower no value
  module _ (j : ℕ) where
    abbrev Y : ℕ
    Y = place m d (suc j)

    abbrev Z : ℕ
    Z = place m d j

    row_edge : {x u k : ℕ} → Allowed m u Y → View (Walkable m) x Z u Y k → distance Z Y ≡ 1 → read_row m (S (suc j)) u ≤ read_row m (S j) x + k
    unfolding swept grown swept_step distance
    row_edge o (rightwards e f c) g = absurd (omega arith)
    row_edge o (leftwards e f c) g = absurd (omega arith)
    row_edge {x} {u} o (upright e f c) g =
        let i = written_in m p _ _ o in
        omega (arith, R.row_upright m Y Z (S j) (old (suc j)) u i.0 i.1 o, ap (read_row m (S j)) e)
    row_edge {x} {u} o (west e f c a b) g =
        let i = written_in m p _ _ o in
        let r = R.row_west m Y Z (S j) (old (suc j)) x (omega arith) (rw e at o) (corner_open m (suc x) Y x Z a (rw e at b)) in
        omega (arith, r, ap (read_row m (S (suc j))) e)
    row_edge {x} {u} o (east e f c a b) g =
        let i = written_in m p _ _ o in
        let r = R.row_slant m Y Z (S j) (old (suc j)) u i.0 i.1 o (corner_open m u Y (suc u) Z (rw e at a) b) in
        omega (arith, r, ap (read_row m (S j)) e)

    along_edge : {x u k : ℕ} → Allowed m u Y → View (Walkable m) x Y u Y k → read_row m (S (suc j)) u ≤ read_row m (S (suc j)) x + k
    unfolding swept grown swept_step distance
    along_edge {x} {u} o (rightwards e f c) =
        let i = written_in m p _ _ o in
        omega (arith, R.row_left m Y Z (S j) (old (suc j)) x (omega arith) (rw e at o), ap (read_row m (S (suc j))) e)
    along_edge {x} {u} o (leftwards e f c) =
        let i = written_in m p _ _ o in
        omega (arith, R.row_right m Y Z (S j) (old (suc j)) u (omega arith) o, ap (read_row m (S (suc j))) e)
    along_edge o (upright e f c) = absurd (omega arith)
    along_edge o (west e f c a b) = absurd (omega arith)
    along_edge o (east e f c a b) = absurd (omega arith)

  edge_next : {x y u v k : ℕ} (j : ℕ) → j ≤ m.height → y ≡ place m d j → v ≡ place m d (suc j) → Allowed m u v → Step (Walkable m) x y u v k →
      value_at m (sweep m d t) u v ≤ value_at m (sweep m d t) x y + k
  edge_next {x} {y} {u} {v} {k} j h e f o s =
      rw (e, f)
      (omega (arith, at_place j x (omega arith), at_place (suc j) u (omega arith), row_edge j (rw f at o) (view (rw (e, f) at s)) (place_next m d j h)))

  edge_same : {x y u v k : ℕ} (j : ℕ) → j ≤ m.height → y ≡ place m d (suc j) → v ≡ place m d (suc j) → Allowed m u v → Step (Walkable m) x y u v k →
      value_at m (sweep m d t) u v ≤ value_at m (sweep m d t) x y + k
  edge_same {x} {y} {u} {v} {k} j h e f o s =
      rw (e, f) (omega (arith, at_place (suc j) x (omega arith), at_place (suc j) u (omega arith), along_edge j (rw f at o) (view (rw (e, f) at s))))

  edge_level : {x y u v k : ℕ} → Allowed m x y → Allowed m u v → Step (Walkable m) x y u v k → Level m d y v → value_at m (sweep m d t) u v ≤ value_at m (sweep m d t) x y + k
  edge_level {x} {y} {u} {v} a b s (same e) =
      let i = written_in m p _ _ b in
      let j = place_pred m d v i.2 i.3 in
      let f : v ≡ place m d (suc j.0) = sym (place_place m d v (omega arith)) ∙ ap (place m d) j.1 in
      edge_same j.0 (omega arith) (sym e ∙ f) f b s
  edge_level {x} {y} {u} {v} a b s (next e) =
      let i = written_in m p _ _ b in
      let h = written_in m p _ _ a in
      let f : v ≡ place m d (suc (place m d y)) = sym (place_place m d v (omega arith)) ∙ ap (place m d) e in
      edge_next (place m d y) (omega (arith, place_le m d v (omega arith))) (sym (place_place m d y (omega arith))) f b s

  pub sweep_closed : Closed m d (sweep m d t)
  sweep_closed = record { edge = edge_level }

-- ---- what holds of the values between sweeps: they are at most 48,001, each within the cap is the cost of a walk, and the sources are at 0
pub record Sound (m : PaddedWindow) (Source : ℕ → ℕ → Type 0) (t : List (List ℕ)) : Type 0 where
  pub top : (x y : ℕ) → value_at m t x y ≤ unreachable m.reach
  pub real : (x y : ℕ) → value_at m t x y ≤ cap m.reach → WalkCosts (Walkable m) (Allowed m) Source x y (value_at m t x y)
  pub start : (x y : ℕ) → Source x y → Allowed m x y → value_at m t x y ≡ 0

module _ (m : PaddedWindow) (p : PaddingShut m) (Source : ℕ → ℕ → Type 0) where
  -- cells that are not written are unreachable
  pub sound_shut : {t : List (List ℕ)} → Sound m Source t → (x y : ℕ) → ¬ (Allowed m x y) → value_at m t x y ≡ unreachable m.reach
  sound_shut {t} g x y n = go (dec_le (value_at m t x y) (cap m.reach))
    where
      go : Dec (value_at m t x y ≤ (cap m.reach)) → value_at m t x y ≡ unreachable m.reach
      go (yes h) = absurd (n (last_allowed (g.real x y h).walk))
      go (no h) = omega (arith, g.top x y)

  module _ (d : Direction) {t : List (List ℕ)} (g : Sound m Source t) where
    S_real_in : (i : ℕ) → suc i ≤ m.height + 1 → ((x : ℕ) → read_row m (swept m d t i) x ≤ cap m.reach → WalkCosts (Walkable m) (Allowed m) Source x (place m d i) (read_row m (swept m d t i) x)) →
        (x : ℕ) → x ≤ m.width + 1 → read_row m (swept m d t (suc i)) x ≤ cap m.reach →
        WalkCosts (Walkable m) (Allowed m) Source x (place m d (suc i)) (read_row m (swept m d t (suc i)) x)
    unfolding swept grown swept_step distance
    S_real_in i h ih =
        let y = place m d (suc i) in
        let z = place m d i in
        let n : distance z y ≡ 1 = place_next m d i (omega arith) in
        R.row_real m y z (swept m d t i) (get_or t y [])
        (λ x v. WalkCosts (Walkable m) (Allowed m) Source x y v)
        (λ x k. g.real x y k)
        (λ x o k. extend (ih (suc x) k) (straight (omega arith)) o)
        (λ x o c k. extend (ih x k) (diagonal (omega arith) n (corner_sides m (suc x) y x z c).0 (corner_sides m (suc x) y x z c).1) o)
        (λ x o c k. extend (ih (suc (suc x)) k) (diagonal (omega arith) n (corner_sides m (suc x) y (suc (suc x)) z c).0 (corner_sides m (suc x) y (suc (suc x)) z c).1) o)
        (λ x v o k r. extend r (straight (omega arith)) o)
        (λ x v o k r. extend r (straight (omega arith)) o)

    S_real : (i : ℕ) → i ≤ m.height + 1 → (x : ℕ) → read_row m (swept m d t i) x ≤ cap m.reach →
        WalkCosts (Walkable m) (Allowed m) Source x (place m d i) (read_row m (swept m d t i) x)
    unfolding swept grown swept_step
    S_real zero h x k = g.real x (place m d 0) k
    S_real (suc i) h x k =
        let ih = S_real i (omega arith) in
        by_cases (dec_le x (m.width + 1))
        (λ l. S_real_in i h ih x l k)
        (λ l. absurd (omega (arith, R.relaxed_out m (place m d (suc i)) (place m d i) (swept m d t i) (get_or t (place m d (suc i)) []) x (omega arith))))

    S_top : (i x : ℕ) → read_row m (swept m d t i) x ≤ unreachable m.reach
    unfolding swept grown swept_step
    S_top zero x = g.top x (place m d 0)
    S_top (suc i) x =
        by_cases (dec_le x (m.width + 1))
        (λ l. omega (arith, S_fall m p d t (suc i) x l, g.top x (place m d (suc i))))
        (λ l. omega (arith, R.relaxed_out m (place m d (suc i)) (place m d i) (swept m d t i) (get_or t (place m d (suc i)) []) x (omega arith)))

    sweep_out : (x y : ℕ) → m.height + 1 < y → value_at m (sweep m d t) x y ≡ unreachable m.reach
    sweep_out x y h = ap (λ (r : List ℕ). read_row m r x) (sweep_past m p d t y h)

    pub sweep_top : (x y : ℕ) → value_at m (sweep m d t) x y ≤ unreachable m.reach
    sweep_top x y =
        by_cases (dec_le y (m.height + 1))
        (by_row_place m d (λ y. value_at m (sweep m d t) x y ≤ unreachable m.reach) (λ i l. omega (arith, at_place m p d t i x l, S_top i x)) y)
        (λ l. omega (arith, sweep_out x y (omega arith)))

    sweep_real : (x y : ℕ) → value_at m (sweep m d t) x y ≤ cap m.reach → WalkCosts (Walkable m) (Allowed m) Source x y (value_at m (sweep m d t) x y)
    sweep_real x y =
        by_cases (dec_le y (m.height + 1))
        (by_row_place m d (λ y. value_at m (sweep m d t) x y ≤ cap m.reach → WalkCosts (Walkable m) (Allowed m) Source x y (value_at m (sweep m d t) x y)) (λ i l. rw (at_place m p d t i x l) (S_real i l x)) y)
        (λ l h. absurd (omega (arith, sweep_out x y (omega arith))))

    sweep_start : (x y : ℕ) → Source x y → Allowed m x y → value_at m (sweep m d t) x y ≡ 0
    sweep_start x y f o =
        let i = written_in m p x y o in
        omega (arith, g.start x y f o, sweep_fall_in m p d t x y (omega arith) (omega arith))

    pub sweep_sound : Sound m Source (sweep m d t)
    sweep_sound = record { top = sweep_top; real = sweep_real; start = sweep_start }

    -- ---- values fall, everywhere
    pub sweep_fall : (x y : ℕ) → value_at m (sweep m d t) x y ≤ value_at m t x y
    sweep_fall x y =
        by_cases (dec_t (written m x y))
        (λ o. let i = written_in m p x y o in sweep_fall_in m p d t x y (omega arith) (omega arith))
        (λ n. omega (arith, sound_shut g x y n, sweep_top x y))

    -- ---- a sweep over values that no step of it lowers changes nothing
    any_edge : {x y u v k : ℕ} → Closed m d t → Allowed m u v → Step (Walkable m) x y u v k → Level m d y v → value_at m t u v ≤ value_at m t x y + k
    any_edge {x} {y} {u} {v} f o s l =
        by_cases (dec_t (written m x y))
        (λ a. f.edge a o s l)
        (λ n. omega (arith, sound_shut g x y n, g.top u v))

    row_quiet : (i : ℕ) → i ≤ m.height → Closed m d t → ((x : ℕ) → x ≤ m.width + 1 → read_row m (swept m d t i) x ≡ value_at m t x (place m d i)) →
        R.RowQuiet m (place m d (suc i)) (place m d i) (swept m d t i) (get_or t (place m d (suc i)) [])
    unfolding distance
    row_quiet i h f ih =
        let y = place m d (suc i) in
        let z = place m d i in
        let n : distance z y ≡ 1 = place_next m d i (omega arith) in
        let l : Level m d z y = next (place_place m d (suc i) (omega arith) ∙ ap suc (sym (place_place m d i (omega arith)))) in
        record {
          straight = λ x o. let b = written_in m p _ _ o in omega (arith, any_edge {x = suc x} f o (straight (omega arith)) l, ih (suc x) (omega arith));
          west = λ x o c.
              let b = written_in m p _ _ o in
              omega (arith, any_edge {x = x} f o (diagonal (omega arith) n (corner_sides m (suc x) y x z c).0 (corner_sides m (suc x) y x z c).1) l, ih x (omega arith));
          east = λ x o c.
              let b = written_in m p _ _ o in
              omega (arith, any_edge {x = suc (suc x)} f o (diagonal (omega arith) n (corner_sides m (suc x) y (suc (suc x)) z c).0 (corner_sides m (suc x) y (suc (suc x)) z c).1) l, ih (suc (suc x)) (omega arith));
          left = λ x o. any_edge {x = x} f o (straight (omega arith)) (same refl);
          right = λ x o. any_edge {x = suc x} f o (straight (omega arith)) (same refl);
          top = λ x. g.top x y;
        }

    S_quiet : Closed m d t → (i : ℕ) → i ≤ m.height + 1 → (x : ℕ) → x ≤ m.width + 1 → read_row m (swept m d t i) x ≡ value_at m t x (place m d i)
    unfolding swept grown swept_step
    S_quiet f zero h x k = refl
    S_quiet f (suc i) h x k =
        let ih = S_quiet f i (omega arith) in
        R.row_quiet m (place m d (suc i)) (place m d i) (swept m d t i) (get_or t (place m d (suc i)) []) (row_quiet i (omega arith) f ih) x k

    pub sweep_quiet : Closed m d t → (x y : ℕ) → value_at m (sweep m d t) x y ≡ value_at m t x y
    sweep_quiet f x y =
        by_cases (dec_t (written m x y))
        (λ o.
        let b = written_in m p x y o in
        by_row_place m d (λ y. value_at m (sweep m d t) x y ≡ value_at m t x y) (λ i l. at_place m p d t i x l ∙ S_quiet f i l x (omega arith)) y (omega arith))
        (λ n. sound_shut sweep_sound x y n ∙ sym (sound_shut g x y n))

-- ---- many sweeps
unfoldable pub twice : ℕ → ℕ
twice zero = zero
twice (suc j) = suc (suc (twice j))

pub twice_is : (j : ℕ) → twice j ≡ 2 * j
unfolding twice
twice_is zero = refl
twice_is (suc j) = omega (arith, twice_is j)

module _ (m : PaddedWindow) (p : PaddingShut m) (Source : ℕ → ℕ → Type 0) where
  -- ---- values that no step lowers are the field
  both_settled : {t : List (List ℕ)} (d : Direction) → Sound m Source t → Closed m d t → Closed m (turn d) t → Settled m.reach (Walkable m) (Allowed m) Source (value_at m t)
  both_settled {t} d g f h = record { top = g.top; start = g.start; real = g.real; still = still }
    where
      still : {x y u w k : ℕ} → Allowed m x y → Allowed m u w → Step (Walkable m) x y u w k → value_at m t u w ≤ value_at m t x y + k
      still a b s = ⊎_elim (λ l. f.edge a b s l) (λ l. h.edge a b s l) (level m p a b s d)

  pub field_closed : {t : List (List ℕ)} → Sound m Source t → ((x y : ℕ) → Capped m.reach (WalkCosts (Walkable m) (Allowed m) Source x y) (value_at m t x y)) → (d : Direction) → Closed m d t
  field_closed {t} g c d = record { edge = edge }
    where
      edge : {x y u v k : ℕ} → Allowed m x y → Allowed m u v → Step (Walkable m) x y u v k → Level m d y v → value_at m t u v ≤ value_at m t x y + k
      edge {x} {y} {u} {v} a b s l =
          by_cases (dec_le (value_at m t x y) (cap m.reach))
          (λ h. (c u v).least _ (extend ((c x y).real h) s b))
          (λ h. omega (arith, g.top u v))

  module _ (t : List (List ℕ)) (g : Sound m Source t) where
    pub sweeps_sound : (n : ℕ) → Sound m Source (sweeps m t n)
    unfolding sweeps
    sweeps_sound zero = g
    sweeps_sound (suc n) = sweep_sound m p Source (direction n) (sweeps_sound n)

    sweeps_closed : (n : ℕ) → Closed m (direction n) (sweeps m t (suc n))
    unfolding sweeps
    sweeps_closed n = sweep_closed m p (direction n) (sweeps m t n)

    pub sweeps_fall : (n x y : ℕ) → value_at m (sweeps m t (suc n)) x y ≤ value_at m (sweeps m t n) x y
    unfolding sweeps
    sweeps_fall n x y = sweep_fall m p Source (direction n) (sweeps_sound n) x y

    -- ---- a quiet sweep after the first ends at the field
    pub quiet_field : (n : ℕ) → ((x y : ℕ) → value_at m (sweeps m t (suc (suc n))) x y ≡ value_at m (sweeps m t (suc n)) x y) →
        (x y : ℕ) → Capped m.reach (WalkCosts (Walkable m) (Allowed m) Source x y) (value_at m (sweeps m t (suc (suc n))) x y)
    unfolding direction
    quiet_field n q =
        settled_field
        (both_settled (direction n) (sweeps_sound (suc (suc n)))
        (record { edge = λ {x} {y} {u} {v} a b s l. omega (arith, q x y, q u v, (sweeps_closed n).edge a b s l) })
        (sweeps_closed (suc n)))

    -- ---- two sweeps take each step once
    pair : {x y u v k : ℕ} (n : ℕ) → Allowed m x y → Allowed m u v → Step (Walkable m) x y u v k → value_at m (sweeps m t (suc (suc n))) u v ≤ value_at m (sweeps m t n) x y + k
    unfolding direction
    pair {x} {y} {u} {v} n a b s =
        ⊎_elim
        (λ l. omega (arith, (sweeps_closed n).edge a b s l, sweeps_fall n x y, sweeps_fall (suc n) u v))
        (λ l. omega (arith, (sweeps_closed (suc n)).edge a b s l, sweeps_fall n x y, sweeps_fall (suc n) x y))
        (level m p a b s (direction n))

    settle : {a b x y n c : ℕ} → Source a b → Walk (Walkable m) (Allowed m) a b x y n c → (j : ℕ) → n ≤ j → value_at m (sweeps m t (twice j)) x y ≤ c
    unfolding twice
    settle f (here o) j h = omega (arith, (sweeps_sound (twice j)).start _ _ f o)
    settle f (on w s o) zero h = absurd (omega arith)
    settle f (on w s o) (suc j) h = omega (arith, settle f w j (omega arith), pair (twice j) (last_allowed w) o s)

    pub field_reach : (x y : ℕ) → Capped m.reach (WalkCosts (Walkable m) (Allowed m) Source x y) (value_at m (sweeps m t (twice m.reach)) x y)
    unfolding twice
    field_reach x y = record { top = (sweeps_sound (twice m.reach)).top x y; real = (sweeps_sound (twice m.reach)).real x y; least = least }
      where
        least : (c : ℕ) → WalkCosts (Walkable m) (Allowed m) Source x y c → value_at m (sweeps m t (twice m.reach)) x y ≤ c
        least c r =
            by_cases (dec_le c (cap m.reach))
            (λ h. settle r.source r.walk m.reach (steps_reach m.reach r.walk h))
            (λ h. omega (arith, (sweeps_sound (twice m.reach)).top x y))

    -- ---- the sweep after 2 x reach is quiet: the 193rd at a reach of 96
    pub quiet_last : (x y : ℕ) → value_at m (sweeps m t (suc (twice m.reach))) x y ≡ value_at m (sweeps m t (twice m.reach)) x y
    unfolding sweeps
    quiet_last x y = sweep_quiet m p Source (direction (twice m.reach)) (sweeps_sound (twice m.reach)) (field_closed (sweeps_sound (twice m.reach)) field_reach (direction (twice m.reach))) x y
