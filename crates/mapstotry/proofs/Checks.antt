-- A test for each kind of example, and the law: an example holds where its test passes.
use mathlib.Core.Path.{◌≡◌, sym, ◌∙◌, subst}
use mathlib.Core.Bool.{Bool, true, ◌&&◌}
use mathlib.Core.List.{List, [], ◌∷◌}
use Prim.Native.Nat.{ℕ, ◌+◌, ◌/◌, ◌<◌}
use native.Mathlib.Omega.{arith}
use lib.ListN.{length, get_or}
use lib.IntN.{ℤ, sub_ℕ}
use lib.Dec.{T, eqb, ltb, eqb→eq, ltb→lt}
use Rattle.walkgraph.specs.Lanes.{bias, lane_of, half_cost_of}
use Rattle.walkgraph.specs.Map.{Box}
use Rattle.walkgraph.specs.Painting.{rectangle, painted}
use Rattle.walkgraph.specs.Ring.{ring}
use Rattle.walkgraph.specs.Window.{floor_half, window_low, Inside}
use Rattle.walkgraph.specs.Field.{Both, WalkCosts, IsField}
use Rattle.walkgraph.specs.Buffers.{Call, resource_count, source_box, unblocked, window_of, starts_lane, Value, LaneIs, inner, padding}
use Rattle.walkgraph.proofs.Tests.{and_left, and_right, T_true, bool_eq}
use Rattle.walklaws.proofs.Maps.{painted_cell}
use Rattle.mapstotry.specs.Drawing.{Terrain}
use Rattle.mapstotry.specs.Table.{call, Readings, FieldIs, LinkedOn, FieldsAre, Example, lane, window_left, painting, field, first_sweep_quiet, equal_lanes, fields, Holds, AllHold}
use Rattle.mapstotry.proofs.Tests.{every, every_at, same_bool, bool_is, same_signed, signed_is, same_box, box_is, same_rectangle, rectangle_is}
use Rattle.mapstotry.proofs.Counting.{histories, quiet_test, count_test, quiet_is, count_fits, count_is_lem}
use Rattle.mapstotry.proofs.Readings.{readings_test, readings_are_lem}
use Rattle.mapstotry.proofs.Nearness.{marked}
use Rattle.mapstotry.proofs.Linking.{land, land_on_map, access_resource, links, links_linked, linked_links}
use Rattle.mapstotry.proofs.Numbers.{same_test, numbers_test, numbers_are}

-- ---- painting

unfoldable pub painting_test : Terrain → List ℤ → Terrain → Bool
painting_test before blockers after =
    eqb before.width after.width && eqb before.height after.height
    && every (λ y. every (λ x. same_bool (painted before.width before.height before.cells blockers x y) (land after x y)) before.width) before.height

module _ (before : Terrain) (blockers : List ℤ) (after : Terrain) (t : T (painting_test before blockers after)) where
  abbrev painted_at : ℕ → ℕ → Bool
  painted_at = painted before.width before.height before.cells blockers

  abbrev same_size : Bool
  same_size = eqb before.width after.width && eqb before.height after.height

  abbrev same_cells : Bool
  same_cells = every (λ y. every (λ x. same_bool (painted_at x y) (land after x y)) before.width) before.height

  same_size_lem : T same_size
  unfolding painting_test
  same_size_lem = and_left same_size same_cells t

  on_both : (x y : ℕ) → x < before.width → y < before.height → painted_at x y ≡ land after x y
  unfolding painting_test
  on_both x y h k =
      bool_is (painted_at x y) (land after x y)
      (every_at (λ x. same_bool (painted_at x y) (land after x y)) before.width
      (every_at (λ y. every (λ x. same_bool (painted_at x y) (land after x y)) before.width) before.height (and_right same_size same_cells t) y k) x h)

  painting_is : (x y : ℕ) → painted_at x y ≡ land after x y
  painting_is x y =
      let e : before.width ≡ after.width = eqb→eq _ _ (and_left (eqb before.width after.width) (eqb before.height after.height) same_size_lem) in
      let f : before.height ≡ after.height = eqb→eq _ _ (and_right (eqb before.width after.width) (eqb before.height after.height) same_size_lem) in
      bool_eq (painted_at x y) (land after x y)
      (λ s. let i = painted_cell before.width before.height before.cells blockers x y s in rw (on_both x y i.0 i.1) at s)
      (λ s. let i = land_on_map after x y s in rw (on_both x y (rw e i.0) (rw f i.1)) s)

-- ---- a field call

unfoldable pub field_test : Call → Box → ℕ → Readings → Bool
field_test c window count readings =
    let lanes = histories c count in
    same_box (window_of c) window && count_test c lanes count && readings_test c lanes count readings

field_is : (c : Call) (window : Box) (count : ℕ) (readings : Readings) → T (field_test c window count readings) → FieldIs c window count readings
unfolding field_test
field_is c window count readings t =
    let lanes = histories c count in
    let two = and_left (same_box (window_of c) window && count_test c lanes count) (readings_test c lanes count readings) t in
    let counted = and_right (same_box (window_of c) window) (count_test c lanes count) two in
    record {
      window_is = box_is (window_of c) window (and_left (same_box (window_of c) window) (count_test c lanes count) two);
      count_is = count_is_lem c count counted;
      readings_are = readings_are_lem c count (count_is_lem c count counted) (count_fits c count counted) readings
          (and_right (same_box (window_of c) window && count_test c lanes count) (readings_test c lanes count readings) t);
    }

-- ---- equal lanes

unfoldable pub lanes_test : Call → ℕ → ℕ → Bool
lanes_test c l k = ltb l (resource_count c) && ltb k (resource_count c) && same_rectangle (rectangle c.resources l) (rectangle c.resources k)

module _ (c : Call) (l k : ℕ) (t : T (lanes_test c l k)) where
  abbrev both : Bool
  both = ltb l (resource_count c) && ltb k (resource_count c)

  abbrev alike : Bool
  alike = same_rectangle (rectangle c.resources l) (rectangle c.resources k)

  both_in : T both
  unfolding lanes_test
  both_in = and_left both alike t

  first_in : T (ltb l (resource_count c))
  first_in = and_left (ltb l (resource_count c)) (ltb k (resource_count c)) both_in

  second_in : T (ltb k (resource_count c))
  second_in = and_right (ltb l (resource_count c)) (ltb k (resource_count c)) both_in

  -- the two lanes start at the same cells
  starts : starts_lane c l ≡ starts_lane c k
  unfolding starts_lane lanes_test
  starts =
      let e = T_true (ltb l (resource_count c)) first_in ∙ sym (T_true (ltb k (resource_count c)) second_in) in
      let f = rectangle_is (rectangle c.resources l) (rectangle c.resources k) (and_right both alike t) in
      λ i x y. e i && ring c.width c.height (f i) x y

  equal_value : (x y v : ℕ) → Value c l x y v → Value c k x y v
  unfolding Value
  equal_value x y v q =
      subst
      (λ (starts : ℕ → ℕ → Bool).
      IsField c.reach
      (WalkCosts (λ x y. T (unblocked c x y)) (Both (λ x y. T (unblocked c x y)) (Inside c.reach (source_box c) c.targets)) (λ x y. T (starts x y)) x y)
      v)
      starts q

  equal_lane : {x y v : ℕ} → LaneIs c l x y v → LaneIs c k x y v
  equal_lane (inner i q) = inner i (equal_value _ _ _ q)
  equal_lane (padding n e) = padding n e

-- ---- fields of resources

unfoldable pub fields_test : Terrain → List ℤ → List ℕ → Bool
fields_test map resources numbers =
    let n = length resources / 4 in
    let table = links map resources in
    let link : ℕ → ℕ → Bool = λ r s. marked table s r in
    let number : ℕ → ℕ = λ r. get_or numbers r 0 in
    eqb (length numbers) n && same_test link number n && numbers_test link number n

fields_are : (map : Terrain) (resources : List ℤ) (numbers : List ℕ) → T (fields_test map resources numbers) → FieldsAre map resources numbers
unfolding fields_test
fields_are map resources numbers t =
    let n = length resources / 4 in
    let link : ℕ → ℕ → Bool = λ r s. marked (links map resources) s r in
    let number : ℕ → ℕ = λ r. get_or numbers r 0 in
    let two = and_left (eqb (length numbers) n && same_test link number n) (numbers_test link number n) t in
    record {
      each = eqb→eq (length numbers) n (and_left (eqb (length numbers) n) (same_test link number n) two);
      numbered = numbers_are (LinkedOn map resources) link (links_linked map resources) (linked_links map resources) number n
          (λ r s l. (access_resource map resources r l.a l.b l.first, access_resource map resources s l.x l.y l.last))
          (and_right (eqb (length numbers) n) (same_test link number n) two)
          (and_right (eqb (length numbers) n && same_test link number n) (numbers_test link number n) t);
    }

-- ---- all kinds of examples

unfoldable pub checks : Example → Bool
checks (lane half_cost value) = same_signed (lane_of (bias 96) half_cost) value && eqb (half_cost_of (bias 96) value) half_cost
checks (window_left s t half left) = same_signed (floor_half (sub_ℕ (s + t) 96)) half && eqb (window_low 96 s t) left
checks (painting before blockers after) = painting_test before blockers after
checks (field map resources targets window count readings) = field_test (call map resources targets) window count readings
checks (first_sweep_quiet map resources targets) =
    let c = call map resources targets in
    quiet_test (histories c 1) (resource_count c) 1
checks (equal_lanes map resources targets l k) = lanes_test (call map resources targets) l k
checks (fields map resources numbers) = fields_test map resources numbers

pub checks_hold : (e : Example) → T (checks e) → Holds e
unfolding checks Holds land
checks_hold (lane half_cost value) t =
    let a = same_signed (lane_of (bias 96) half_cost) value in
    let b = eqb (half_cost_of (bias 96) value) half_cost in
    (signed_is (lane_of (bias 96) half_cost) value (and_left a b t), eqb→eq (half_cost_of (bias 96) value) half_cost (and_right a b t))
checks_hold (window_left s t half left) h =
    let a = same_signed (floor_half (sub_ℕ (s + t) 96)) half in
    let b = eqb (window_low 96 s t) left in
    (signed_is (floor_half (sub_ℕ (s + t) 96)) half (and_left a b h), eqb→eq (window_low 96 s t) left (and_right a b h))
checks_hold (painting before blockers after) t = painting_is before blockers after t
checks_hold (field map resources targets window count readings) t = field_is (call map resources targets) window count readings t
checks_hold (first_sweep_quiet map resources targets) t = quiet_is (call map resources targets) 1 1 (omega arith) t
checks_hold (equal_lanes map resources targets l k) t =
    let c = call map resources targets in
    (ltb→lt l (resource_count c) (first_in c l k t), ltb→lt k (resource_count c) (second_in c l k t), λ x y v. equal_lane c l k t)
checks_hold (fields map resources numbers) t = fields_are map resources numbers t

-- ---- a list of examples

unfoldable pub all_check : List Example → Bool
all_check [] = true
all_check (e ∷ examples) = checks e && all_check examples

pub all_hold : (examples : List Example) → T (all_check examples) → AllHold examples
unfolding all_check AllHold
all_hold [] t = tt
all_hold (e ∷ examples) t = (checks_hold e (and_left (checks e) (all_check examples) t), all_hold examples (and_right (checks e) (all_check examples) t))
