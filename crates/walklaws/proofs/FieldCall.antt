-- The mathematics of one field call: after the counted sweeps every cell and lane is as document 01 says, the lanes are determined, and at a target cell the
-- value is that of the whole painted map (demand 3).
use mathlib.Core.Path.{◌≡◌, refl, sym, ◌∙◌, ap, subst}
use mathlib.Core.List.{List}
use Prim.Native.Nat.{ℕ, suc, ◌+◌, ◌*◌, ◌-◌, ◌/◌, ◌%◌, ◌≤◌, ◌<◌}
use native.Mathlib.Nat.{div-add-mod', div-lt_iff_lt-mul, mod-lt}
use native.Mathlib.Omega.{arith}
use native.Mathlib.Decide.{dec_le}
use lib.ListN.{get_or}
use lib.Seq.{ext_get_or}
use lib.IntN.{ℤ, pos}
use lib.Dec.{T, ltb, ltb→lt}
use Rattle.walkgraph.specs.Lanes.{cap, unreachable, bias, lane_of}
use Rattle.walkgraph.specs.Map.{Box, In}
use Rattle.walkgraph.specs.Painting.{rectangle}
use Rattle.walkgraph.specs.Ring.{ring}
use Rattle.walkgraph.specs.Window.{Inside}
use Rattle.walkgraph.specs.Field.{Both, WalkCosts, IsField}
use Rattle.walkgraph.specs.Sweep.{PaddedWindow, value_at, sweeps, in_window, padded}
use Rattle.walkgraph.specs.Buffers.{Call, resource_count, source_box, unblocked, window_of, padded_of, starts_lane, Value, LaneIs, inner, padding, cell_place, lane_place, padded_cells, LanesAre, UsedPart, Lent, FieldMade, lane_start, CountIs}
use Rattle.walkgraph.proofs.Tests.{by_cases, dec_t, and_left, and_right}
use Rattle.walkgraph.proofs.Boxes.{in_box_lem, box_in}
use Rattle.walkgraph.proofs.Values.{Capped, to_capped, to_field, field_one}
use Rattle.walkgraph.proofs.WholeMap.{whole_map}
use Rattle.walkgraph.proofs.SweepSteps.{Allowed, PaddingShut, written_in}
use Rattle.walklaws.proofs.Sweeps.{Sound, sweeps_sound, sound_shut}
use Rattle.walklaws.proofs.Maps.{painted_cell, ring_sources, outside}
use Rattle.walkgraph.proofs.SweepSteps.{count_one_lem}
use Rattle.walklaws.proofs.Count.{start_sound, count_most, count_field}
use Rattle.walklaws.proofs.OnMap as OnMap

-- ---- no two different results

-- a cell and lane has one value
lane_one : {c : Call} {l x y v u : ℕ} → LaneIs c l x y v → LaneIs c l x y u → v ≡ u
unfolding Value
lane_one (inner a p) (inner b q) = field_one p q
lane_one (inner a p) (padding n q) = absurd (n a)
lane_one (padding n p) (inner a q) = absurd (n a)
lane_one (padding n p) (padding m q) = p ∙ sym q

-- an index of the used part is the place of a lane of a cell
place_of : (c : Call) → 0 < c.lanes → (i : ℕ) → i < padded_cells (padded_of c) * c.lanes →
    (l : ℕ) × (x : ℕ) × (y : ℕ) × (l < c.lanes) × (x < (padded_of c).width + 2) × (y < (padded_of c).height + 2) × (lane_place c l x y ≡ i)
unfolding lane_place cell_place padded_cells
place_of c h i k =
    let n = c.lanes in
    let s = (padded_of c).width + 2 in
    let z : 0 < s = omega arith in
    let q : i / n < ((padded_of c).height + 2) * s = (div-lt_iff_lt-mul h).1 k in
    let r : i / n / s < (padded_of c).height + 2 = (div-lt_iff_lt-mul z).1 q in
    (i % n, i / n % s, i / n / s, mod-lt i h, mod-lt (i / n) z, r, ap (λ (z : ℕ). z * n + i % n) (div-add-mod' (i / n) s) ∙ div-add-mod' i n)

pub lanes_one : (c : Call) → 0 < c.lanes → (d₀ d e : List ℤ) → LanesAre c d₀ d → LanesAre c d₀ e → d ≡ e
lanes_one c h d₀ d e p q = ext_get_or (pos 0) d e (p.long ∙ sym q.long) (λ i k. same i)
  where
    same : (i : ℕ) → get_or d i (pos 0) ≡ get_or e i (pos 0)
    same i =
        by_cases (dec_le (suc i) (padded_cells (padded_of c) * c.lanes))
        (λ k.
        let o = place_of c h i k in
        let a = p.cells o.0 o.1 o.2 o.3 o.4 o.5 in
        let b = q.cells o.0 o.1 o.2 o.3 o.4 o.5 in
        let f : a.0 ≡ b.0 = lane_one a.1 b.1 in
        subst (λ (z : ℕ). get_or d z (pos 0) ≡ get_or e z (pos 0)) o.6 (a.2 ∙ ap (lane_of (bias c.reach)) f ∙ sym b.2))
        (λ k. p.stay i (omega arith) ∙ sym (q.stay i (omega arith)))

-- a used part is determined, and so is every buffer of a field call
pub used_one : {used : ℕ} {f : ℕ → ℕ} {b d e : List ℕ} → UsedPart used f b d → UsedPart used f b e → d ≡ e
used_one {used} {f} {b} {d} {e} p q = ext_get_or 0 d e (p.long ∙ sym q.long) (λ j h. same j)
  where
    same : (j : ℕ) → get_or d j 0 ≡ get_or e j 0
    same j =
        by_cases (dec_le (suc j) used)
        (λ k. p.entries j k ∙ sym (q.entries j k))
        (λ k. p.stay j (omega arith) ∙ sym (q.stay j (omega arith)))

pub made_one : (c : Call) → 0 < c.lanes → (b d e : Lent) (j k : ℕ) → FieldMade c b d j → FieldMade c b e k → (d ≡ e) × (j ≡ k)
unfolding CountIs
made_one c h b d e j k p q =
    let f₁ = lanes_one c h b.lanes d.lanes e.lanes p.lanes q.lanes in
    let f₂ = used_one p.walk q.walk in
    let f₃ = used_one p.flags q.flags in
    let f₄ = used_one p.rows q.rows in
    let f₅ = used_one p.versions q.versions in
    let f₆ = used_one p.pulled_down q.pulled_down in
    let f₇ = used_one p.pulled_up q.pulled_up in (
      λ i. record { lanes = f₁ i; walk = f₂ i; flags = f₃ i; rows = f₄ i; versions = f₅ i; pulled_down = f₆ i; pulled_up = f₇ i },
      count_one_lem (padded_of c) (lane_start c) c.lanes j k p.count q.count,
    )

-- ---- the window of a call
module _ (c : Call) where
  abbrev W : Box
  W = window_of c

  abbrev M : PaddedWindow
  M = padded_of c

  -- unblocked cells are on the map, and the padding is not walkable
  pub on_map : (x y : ℕ) → T (unblocked c x y) → (x < c.width) × (y < c.height)
  unfolding unblocked
  on_map x y t = painted_cell c.width c.height c.cells c.blockers x y t

  pub shut : PaddingShut M
  unfolding padded_of
  shut = OnMap.padding_shut c.reach c.width c.height (unblocked c) on_map (source_box c) c.targets

  -- its size and reach
  pub width_is : M.width ≡ W.right + 1 - W.left
  unfolding padded_of window_of padded
  width_is = refl

  pub height_is : M.height ≡ W.bottom + 1 - W.top
  unfolding padded_of window_of padded
  height_is = refl

  pub reach_is : M.reach ≡ c.reach
  unfolding padded_of padded
  reach_is = refl

  -- lane l's sources, seen from the window, and its start values
  abbrev pub SourceIn : ℕ → ℕ → ℕ → Type 0
  SourceIn l x y = T (starts_lane c l (W.left + x - 1) (W.top + y - 1))

  pub lane_sound : (l : ℕ) → Sound M (SourceIn l) (lane_start c l)
  unfolding lane_start
  lane_sound l = start_sound M shut (λ x y. starts_lane c l (W.left + x - 1) (W.top + y - 1))

  -- "Lanes beyond the resource count are unreachable everywhere.": no start, always unreachable
  lane_resource : (l x y : ℕ) → T (starts_lane c l x y) → l < resource_count c
  unfolding starts_lane
  lane_resource l x y t = ltb→lt l (resource_count c) (and_left (ltb l (resource_count c)) (ring c.width c.height (rectangle c.resources l) x y) t)

  pub unused_lane : (l : ℕ) → ¬ (l < resource_count c) → (k x y : ℕ) → value_at M (sweeps M (lane_start c l) k) x y ≡ unreachable M.reach
  unused_lane l h k x y =
      let s = sweeps_sound M shut (SourceIn l) (lane_start c l) (lane_sound l) k in
      by_cases (dec_le (value_at M (sweeps M (lane_start c l) k) x y) (cap M.reach))
      (λ i. absurd (h (lane_resource l _ _ (s.real x y i).source)))
      (λ i. omega (arith, s.top x y))

  pub sources_in : (l a b : ℕ) → T (starts_lane c l a b) → In (source_box c) a b
  unfolding starts_lane source_box
  sources_in l a b t =
      let r = ring c.width c.height (rectangle c.resources l) a b in
      let o = lane_resource l a b t in
      ring_sources c.width c.height c.resources (resource_count c - 1) l (omega arith) a b (and_right (ltb l (resource_count c)) r t)

  -- ---- demand 3: at a target cell the field over inside cells is that of the whole painted map
  pub value_exact : (l x y : ℕ) → In c.targets x y → {v : ℕ} → Value c l x y v →
      IsField c.reach (WalkCosts (λ x y. T (unblocked c x y)) (λ x y. T (unblocked c x y)) (λ x y. T (starts_lane c l x y)) x y) v
  unfolding Value
  value_exact l x y i f = to_field (whole_map c.reach (source_box c) c.targets (sources_in l) i (to_capped f))

  -- ---- demand 3, where a target cell is outside the window: no walk on the whole painted map is within the cap
  pub target_outside : (l x y : ℕ) → In c.targets x y → ¬ (In W x y) →
      IsField c.reach (WalkCosts (λ x y. T (unblocked c x y)) (λ x y. T (unblocked c x y)) (λ x y. T (starts_lane c l x y)) x y) (unreachable c.reach)
  unfolding window_of
  target_outside l x y i j = outside c.reach c.width c.height (source_box c) c.targets on_map (sources_in l) x y i j

-- ---- the counted sweeps meet the promise: what is left to the code is that its lanes are the sweeps' values and its count the count
module _ (c : Call) (k : ℕ) (n : CountIs c k) where
  -- lane l after the counted sweeps, at the window's column x and row y
  unfoldable pub counted : ℕ → ℕ → ℕ → ℕ
  counted l x y = value_at (padded_of c) (sweeps (padded_of c) (lane_start c l) k) x y

  -- over inside cells, on the map
  pub restricted : (l x y : ℕ) → l < c.lanes → In (window_of c) x y →
      Capped c.reach (WalkCosts (λ x y. T (unblocked c x y)) (Both (λ x y. T (unblocked c x y)) (Inside c.reach (source_box c) c.targets)) (λ x y. T (starts_lane c l x y)) x y)
      (counted l (x + 1 - (window_of c).left) (y + 1 - (window_of c).top))
  unfolding CountIs counted padded_of window_of padded
  restricted l x y h i =
      OnMap.window_field c.reach c.width c.height (unblocked c) (on_map c) (source_box c) c.targets (λ x y. T (starts_lane c l x y)) x y i
      (count_field (padded_of c) (shut c) (SourceIn c) (lane_start c) (lane_sound c) c.lanes k n l h (x + 1 - (window_of c).left) (y + 1 - (window_of c).top))

  made_inner : (l x y : ℕ) → l < c.lanes → T (in_window (padded_of c) x y) → LaneIs c l x y (counted l x y)
  unfolding in_window Value
  made_inner l x y h t =
      let i = in_box_lem (record { left = 1; top = 1; right = (padded_of c).width; bottom = (padded_of c).height }) x y t in
      let a = width_is c in
      let b = height_is c in
      let e : (window_of c).left + x - 1 + 1 - (window_of c).left ≡ x = omega arith in
      let f : (window_of c).top + y - 1 + 1 - (window_of c).top ≡ y = omega arith in
      inner t (to_field (rw (e, f) at (restricted l ((window_of c).left + x - 1) ((window_of c).top + y - 1) h (omega arith, omega arith, omega arith, omega arith))))

  written_in_window : (x y : ℕ) → Allowed (padded_of c) x y → T (in_window (padded_of c) x y)
  unfolding in_window
  written_in_window x y o = box_in (record { left = 1; top = 1; right = (padded_of c).width; bottom = (padded_of c).height }) x y (written_in (padded_of c) (shut c) x y o)

  made_padding : (l x y : ℕ) → ¬ (T (in_window (padded_of c) x y)) → LaneIs c l x y (counted l x y)
  unfolding counted
  made_padding l x y m =
      padding m
      (sound_shut (padded_of c) (shut c) (SourceIn c l) (sweeps_sound (padded_of c) (shut c) (SourceIn c l) (lane_start c l) (lane_sound c l) k) x y (λ o. m (written_in_window x y o)) ∙ ap unreachable (reach_is c))

  -- each cell and lane is as promised
  pub lanes_made : (l x y : ℕ) → l < c.lanes → LaneIs c l x y (counted l x y)
  lanes_made l x y h = by_cases (dec_t (in_window (padded_of c) x y)) (made_inner l x y h) (made_padding l x y)

  -- the count is at most 2 x reach + 1
  pub counted_most : 1 ≤ c.reach → k ≤ 2 * c.reach + 1
  unfolding CountIs
  counted_most h = let e = reach_is c in omega (arith, count_most (padded_of c) (omega arith) (shut c) (SourceIn c) (lane_start c) (lane_sound c) c.lanes k n)

  -- ---- demand 3: at a target cell of the window the value is the least cost of a walk on the whole painted map, from a walkable cell of the resource's ring
  pub target_exact : (l x y : ℕ) → l < c.lanes → In c.targets x y → In (window_of c) x y →
      IsField c.reach (WalkCosts (λ x y. T (unblocked c x y)) (λ x y. T (unblocked c x y)) (λ x y. T (starts_lane c l x y)) x y)
      (counted l (x + 1 - (window_of c).left) (y + 1 - (window_of c).top))
  unfolding Value
  target_exact l x y h i j = value_exact c l x y i (to_field (restricted l x y h j))
