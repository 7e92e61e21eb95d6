-- The field call's promise determines its answer and its buffers; and demand 3, of every call that meets it.
use mathlib.Core.Path.{◌≡◌, refl, sym, ◌∙◌, ap}
use mathlib.Core.Bool.{Bool, true, false, not, ◌&&◌, ◌||◌}
use mathlib.Core.List.{List}
use Prim.Native.Nat.{ℕ, zero, suc, ◌+◌, ◌*◌, ◌-◌, ◌/◌, ◌%◌, ◌≤◌, ◌<◌}
use native.Mathlib.Omega.{arith}
use lib.ListN.{get_or, length}
use lib.IntN.{pos}
use lib.Dec.{T, leb, ltb, eqb, leb→le, ltb→lt, eqb→eq, le→leb, lt→ltb, not_T}
use Rattle.walkgraph.specs.Lanes.{unreachable, bias, lane_of}
use Rattle.walkgraph.specs.Map.{Box, In, in_box}
use Rattle.walkgraph.specs.Window.{window}
use Rattle.walkgraph.specs.Sweep.{in_window}
use Rattle.walkgraph.specs.Buffers.{Call, source_box, window_of, padded_of, padded_cells, Lent, FieldMade, Value, LaneIs, inner, padding, lane_place, cell_place}
use Rattle.walkgraph.specs.Reading.{WindowRecord, record_of, Part, read_part, fits, in_record, outside_part}
use Rattle.walkgraph.specs.Refusals.{Verdict, accepted, refused, judge, all, bad_grid, bad_lanes, bad_fours, short_buffers, FieldInput, call_of, field_verdict}
use Rattle.walkgraph.specs.Promise.{FieldAnswer, made, FieldPromise, refuses, nothing, makes, shows, outside, Demand3}
use Rattle.walkgraph.proofs.Tests.{by_cases, and_left, and_right, and_pair, cond_true, cond_false, dec_t}
use Rattle.walkgraph.proofs.Boxes.{box_in, in_box_lem}
use Rattle.walkgraph.proofs.WindowEdges.{window_high_lem}
use Rattle.walklaws.proofs.FieldCall.{made_one, width_is, height_is, value_exact, target_outside}

-- ---- a judged call
judge_accepted : (test : Bool) (number place : ℕ) (next : Verdict) → judge test number place next ≡ accepted → (test ≡ false) × (next ≡ accepted)
unfolding judge
judge_accepted true number place next e = absurd (let z : ◌≡◌ {A = ℕ} 0 1 = cc in omega arith)
judge_accepted false number place next e = (refl, e)

pub clash {ℓ} : {A : Type ℓ} {number place : ℕ} {v : Verdict} → v ≡ refused number place → v ≡ accepted → A
clash p q = absurd (let z : ◌≡◌ {A = ℕ} 0 1 = cc in omega arith)

pub same_number : {number place number' place' : ℕ} {v : Verdict} → v ≡ refused number place → v ≡ refused number' place' → (number ≡ number') × (place ≡ place')
same_number p q = (cc, cc)

-- an accepted call has lanes
accepted_lanes : (reach : ℕ) (i : FieldInput) (lent : Lent) → field_verdict reach i lent ≡ accepted → bad_lanes i.lanes ≡ false
unfolding field_verdict
accepted_lanes reach i lent e = (judge_accepted _ 2 0 _ (judge_accepted _ 1 0 _ e).1).0

lanes_some : (lanes : ℕ) → bad_lanes lanes ≡ false → 0 < lanes
unfolding bad_lanes
lanes_some zero e = absurd (let z : ◌≡◌ {A = ℕ} 0 1 = cc in omega arith)
lanes_some (suc lanes) e = omega arith

-- ---- no two different results
pub promise_one : (reach : ℕ) (i : FieldInput) (before : Lent) {d e : Lent} {a b : FieldAnswer} → FieldPromise reach i before d a → FieldPromise reach i before e b → (d ≡ e) × (a ≡ b)
unfolding call_of
promise_one reach i before (refuses p) (refuses q) = let s = same_number p q in (refl, rw (s.0, s.1) refl)
promise_one reach i before (refuses p) (nothing q n) = clash p q
promise_one reach i before (refuses p) (makes q n f) = clash p q
promise_one reach i before (nothing p n) (refuses q) = clash q p
promise_one reach i before (nothing p n) (nothing q k) = (refl, refl)
promise_one reach i before (nothing p n) (makes q k f) = absurd (omega arith)
promise_one reach i before (makes p n f) (refuses q) = clash q p
promise_one reach i before (makes p n f) (nothing q k) = absurd (omega arith)
promise_one reach i before (makes {after = d} {sweeps = j} p n f) (makes {after = e} {sweeps = k} q l g) =
    let s = made_one (call_of reach i) (lanes_some i.lanes (accepted_lanes reach i before p)) before d e j k f g in
    (s.0, ap (made (record_of (call_of reach i))) s.1)

-- ---- what an accepted call is known by
not_false : (b : Bool) → not b ≡ false → T b
not_false true e = tt
not_false false e = absurd (let z : ◌≡◌ {A = ℕ} 0 1 = cc in omega arith)

and_false : (a b : Bool) → T a → a && b ≡ false → b ≡ false
and_false true b t e = e
and_false false b t e = absurd t

grid_small : (width height : ℕ) (cells : List ℕ) → bad_grid width height cells ≡ false → (1 ≤ width) × (width ≤ 1024) × (1 ≤ height) × (height ≤ 1024)
unfolding bad_grid
grid_small w h cells e =
    let bytes = all (λ byte. leb byte 1) cells in
    let size = eqb (length cells) (w * h) in
    let t = not_false (leb 1 w && leb w 1024 && leb 1 h && leb h 1024 && size && bytes) e in
    let a = and_left (leb 1 w && leb w 1024 && leb 1 h && leb h 1024) size (and_left (leb 1 w && leb w 1024 && leb 1 h && leb h 1024 && size) bytes t) in
    let b = and_left (leb 1 w && leb w 1024 && leb 1 h) (leb h 1024) a in
    let c = and_left (leb 1 w && leb w 1024) (leb 1 h) b in (
      leb→le _ _ (and_left (leb 1 w) (leb w 1024) c),
      leb→le _ _ (and_right (leb 1 w) (leb w 1024) c),
      leb→le _ _ (and_right (leb 1 w && leb w 1024) (leb 1 h) b),
      leb→le _ _ (and_right (leb 1 w && leb w 1024 && leb 1 h) (leb h 1024) a),
    )

lanes_long : (c : Call) (lent : Lent) → short_buffers c lent ≡ false → padded_cells (padded_of c) * c.lanes ≤ length lent.lanes
unfolding short_buffers
lanes_long c lent e =
    let p = padded_cells (padded_of c) in
    let h = (padded_of c).height in
    let a = leb (p * c.lanes) (length lent.lanes) in
    let b = leb p (length lent.walk) in
    let d = leb p (length lent.flags) in
    let r = leb (2 * h) (length lent.rows) in
    let v = leb (h + 2) (length lent.versions) in
    let w = leb (h + 2) (length lent.pulled_down) in
    let u = leb (h + 2) (length lent.pulled_up) in
    let t = not_false (a && b && d && r && v && w && u) e in
    leb→le _ _ (and_left a b (and_left (a && b) d (and_left (a && b && d) r (and_left (a && b && d && r) v (and_left (a && b && d && r && v) w (and_left (a && b && d && r && v && w) u t))))))

module _ (reach : ℕ) (i : FieldInput) (before : Lent) (ok : field_verdict reach i before ≡ accepted) where
  pub accepted_grid : (1 ≤ i.width) × (i.width ≤ 1024) × (1 ≤ i.height) × (i.height ≤ 1024)
  unfolding field_verdict
  accepted_grid = grid_small i.width i.height i.cells (judge_accepted _ 1 0 _ ok).0

  pub accepted_buffers : 0 < length i.resources / 4 → short_buffers (call_of reach i) before ≡ false
  unfolding field_verdict
  accepted_buffers h =
      let e₁ = (judge_accepted _ 1 0 _ ok).1 in
      let e₂ = (judge_accepted _ 2 0 _ e₁).1 in
      let e₃ = (judge_accepted _ 3 0 _ e₂).1 in
      let e₄ = (judge_accepted _ 4 _ _ e₃).1 in
      let e₅ = (judge_accepted _ 5 0 _ e₄).1 in
      let e₆ = (judge_accepted _ 6 0 _ e₅).1 in
      let e₇ = (judge_accepted (not (eqb (length i.resources / 4) 0) && short_buffers (call_of reach i) before) 7 0 accepted e₆).0 in
      and_false (not (eqb (length i.resources / 4) 0)) (short_buffers (call_of reach i) before) (not_T (eqb (length i.resources / 4) 0) (λ t. omega (arith, eqb→eq (length i.resources / 4) 0 t))) e₇

  -- every resource has a lane
  pub in_lanes : (l : ℕ) → l < length i.resources / 4 → l < (call_of reach i).lanes
  unfolding field_verdict bad_fours call_of
  in_lanes l h =
      let e₂ = (judge_accepted _ 2 0 _ (judge_accepted _ 1 0 _ ok).1).1 in
      let n = length i.resources in
      let t = not_false (eqb (n % 4) 0 && leb (n / 4) i.lanes) (judge_accepted _ 3 0 _ e₂).0 in
      omega (arith, leb→le (n / 4) i.lanes (and_right (eqb (n % 4) 0) (leb (n / 4) i.lanes) t))

-- the value of a cell of the window, by its column and row with padding
lane_value : {c : Call} {l x y v : ℕ} → LaneIs c l x y v → (1 ≤ x) × (x ≤ (padded_of c).width) × (1 ≤ y) × (y ≤ (padded_of c).height) → Value c l ((window_of c).left + x - 1) ((window_of c).top + y - 1) v
unfolding in_window
lane_value (inner t f) i = f
lane_value {c} {x = x} {y = y} (padding n e) i = absurd (n (box_in (record { left = 1; top = 1; right = (padded_of c).width; bottom = (padded_of c).height }) x y i))

in_dec : (b : Box) (x y : ℕ) → Dec (In b x y)
in_dec b x y = by_cases (dec_t (in_box b x y)) (λ t. yes (in_box_lem b x y t)) (λ n. no (λ i. n (box_in b x y i)))

-- ---- demand 3, of every call that meets the promise
module _ (reach : ℕ) (i : FieldInput) (before after : Lent) (sweeps : ℕ) (ok : field_verdict reach i before ≡ accepted) (some : 0 < length i.resources / 4)
    (f : FieldMade (call_of reach i) before after sweeps) where
  abbrev C : Call
  C = call_of reach i

  abbrev W : Box
  W = window_of C

  abbrev size : ℕ
  size = length after.lanes

  -- the record fits the lanes
  window_small : (W.right + 1 - W.left ≤ 1024) × (W.bottom + 1 - W.top ≤ 1024)
  unfolding window_of window call_of
  window_small =
      let g = accepted_grid reach i before ok in
      let a = window_high_lem reach i.width (source_box C).right C.targets.right in
      let b = window_high_lem reach i.height (source_box C).bottom C.targets.bottom in
      (omega arith, omega arith)

  record_fits : T (fits (record_of C) size)
  unfolding fits record_of padded_cells bad_lanes call_of
  record_fits =
      let s = window_small in
      let w = W.right + 1 - W.left in
      let h = W.bottom + 1 - W.top in
      let a : T (eqb i.lanes 8 || eqb i.lanes 16) = not_false (eqb i.lanes 8 || eqb i.lanes 16) (accepted_lanes reach i before ok) in
      let long = lanes_long C before (accepted_buffers reach i before ok some) in
      let e : (h + 2) * (w + 2) * i.lanes ≤ size = rw (width_is C, height_is C, ← f.lanes.long) at long in
      and_pair ((eqb i.lanes 8 || eqb i.lanes 16) && leb w 1024 && leb h 1024) (leb ((h + 2) * (w + 2) * i.lanes) size)
      (and_pair ((eqb i.lanes 8 || eqb i.lanes 16) && leb w 1024) (leb h 1024)
      (and_pair (eqb i.lanes 8 || eqb i.lanes 16) (leb w 1024) a (le→leb w 1024 s.0))
      (le→leb h 1024 s.1))
      (le→leb _ _ e)

  -- a cell is read exactly where it is in the window
  in_record_lem : (x y : ℕ) → In W x y → T (in_record (record_of C) x y)
  unfolding in_record record_of
  in_record_lem x y j =
      and_pair (leb W.left x && ltb (x - W.left) (W.right + 1 - W.left) && leb W.top y) (ltb (y - W.top) (W.bottom + 1 - W.top))
      (and_pair (leb W.left x && ltb (x - W.left) (W.right + 1 - W.left)) (leb W.top y)
      (and_pair (leb W.left x) (ltb (x - W.left) (W.right + 1 - W.left)) (le→leb W.left x j.0) (lt→ltb (x - W.left) (W.right + 1 - W.left) (omega arith)))
      (le→leb W.top y j.2))
      (lt→ltb (y - W.top) (W.bottom + 1 - W.top) (omega arith))

  record_in : (x y : ℕ) → T (in_record (record_of C) x y) → In W x y
  unfolding in_record record_of
  record_in x y t =
      let a = and_left (leb W.left x && ltb (x - W.left) (W.right + 1 - W.left) && leb W.top y) (ltb (y - W.top) (W.bottom + 1 - W.top)) t in
      let b = and_left (leb W.left x && ltb (x - W.left) (W.right + 1 - W.left)) (leb W.top y) a in
      let p : W.left ≤ x = leb→le _ _ (and_left (leb W.left x) (ltb (x - W.left) (W.right + 1 - W.left)) b) in
      let q : x - W.left < W.right + 1 - W.left = ltb→lt _ _ (and_right (leb W.left x) (ltb (x - W.left) (W.right + 1 - W.left)) b) in
      let r : W.top ≤ y = leb→le _ _ (and_right (leb W.left x && ltb (x - W.left) (W.right + 1 - W.left)) (leb W.top y) a) in
      let s : y - W.top < W.bottom + 1 - W.top = ltb→lt _ _ (and_right (leb W.left x && ltb (x - W.left) (W.right + 1 - W.left) && leb W.top y) (ltb (y - W.top) (W.bottom + 1 - W.top)) t) in
      (p, omega arith, r, omega arith)

  part_in : (x y : ℕ) → In W x y →
      read_part (record_of C) size x y ≡ (record { start = ((y - W.top + 1) * (W.right + 1 - W.left + 2) + (x - W.left + 1)) * C.lanes; size = C.lanes })
  unfolding read_part record_of
  part_in x y j = cond_true (fits (record_of C) size && in_record (record_of C) x y) _ _ (and_pair (fits (record_of C) size) (in_record (record_of C) x y) record_fits (in_record_lem x y j))

  part_out : (x y : ℕ) → ¬ (In W x y) → read_part (record_of C) size x y ≡ outside_part
  unfolding read_part
  part_out x y n =
      cond_false (fits (record_of C) size && in_record (record_of C) x y) _ _
      (not_T (fits (record_of C) size && in_record (record_of C) x y) (λ t. n (record_in x y (and_right (fits (record_of C) size) (in_record (record_of C) x y) t))))

  -- the lanes of a cell of the window
  cell_value : (l x y v : ℕ) → In W x y → LaneIs C l (x - W.left + 1) (y - W.top + 1) v → Value C l x y v
  cell_value l x y v j c =
      let w = width_is C in
      let k = height_is C in
      let e : W.left + (x - W.left + 1) - 1 ≡ x = omega arith in
      let g : W.top + (y - W.top + 1) - 1 ≡ y = omega arith in
      rw (e, g) at (lane_value {v = v} c (omega arith, omega arith, omega arith, omega arith))

  cell_lane : (l x y : ℕ) → l < C.lanes → In W x y → (v : ℕ) × Value C l x y v × (get_or after.lanes (((y - W.top + 1) * (W.right + 1 - W.left + 2) + (x - W.left + 1)) * C.lanes + l) (pos 0) ≡ lane_of (bias reach) v)
  unfolding lane_place cell_place call_of
  cell_lane l x y h j =
      let w = width_is C in
      let k = height_is C in
      let c = f.lanes.cells l (x - W.left + 1) (y - W.top + 1) h (omega arith) (omega arith) in
      (c.0, cell_value l x y c.0 j c.1, sym (ap (λ (n : ℕ). get_or after.lanes (((y - W.top + 1) * (n + 2) + (x - W.left + 1)) * C.lanes + l) (pos 0)) w) ∙ c.2)

  pub demand_3_made : (l x y : ℕ) → l < C.lanes → In C.targets x y → Demand3 reach C (record_of C) after.lanes l x y
  unfolding record_of call_of
  demand_3_made l x y h t =
      by_cases (in_dec W x y)
      (λ j.
      let c = cell_lane l x y h j in
      let p = part_in x y j in
      record {
        value = c.0;
        read = shows (ap (λ (q : Part). q.size) p) (rw p c.2);
        least = value_exact C l x y t c.1;
      })
      (λ n. record { value = unreachable reach; read = outside (part_out x y n) refl; least = target_outside C l x y t n })

-- whatever meets the promise and is no refusal, of every resource and target cell
pub demand_3 : (reach : ℕ) (i : FieldInput) (before : Lent) {after : Lent} {r : WindowRecord} {sweeps : ℕ} → FieldPromise reach i before after (made r sweeps) →
    (l x y : ℕ) → l < length i.resources / 4 → In (call_of reach i).targets x y → Demand3 reach (call_of reach i) r after.lanes l x y
demand_3 reach i before (nothing ok none) l x y h t = absurd (omega arith)
demand_3 reach i before (makes {after = after} {sweeps = sweeps} ok some f) l x y h t = demand_3_made reach i before after sweeps ok some f l x y (in_lanes reach i before ok l h) t
