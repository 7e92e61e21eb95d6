-- Document 01, "The promises themselves": what the field call promises, for every input.
use Rattle.std.specs.Prelude.{◌≡◌, List, ℕ, ◌+◌, ◌/◌, ◌<◌, get_or, length, ℤ, pos, T}
use Rattle.walkgraph.specs.Lanes.{unreachable, bias, lane_of}
use Rattle.walkgraph.specs.Field.{WalkCosts, IsField}
use Rattle.walkgraph.specs.Buffers.{Call, unblocked, starts_lane, Lent, FieldMade}
use Rattle.walkgraph.specs.Reading.{WindowRecord, record_of, no_window, outside_part, read_part}
use Rattle.walkgraph.specs.Refusals.{accepted, refused, FieldInput, call_of, field_verdict}

-- a refusal's number and place, or the window record and the sweep count
pub data FieldAnswer : Type 0 where
  refusal : (number place : ℕ) → FieldAnswer
  made : (window : WindowRecord) (sweeps : ℕ) → FieldAnswer

-- the answer and every lent buffer after the call, where they held `before`
pub data FieldPromise (reach : ℕ) (i : FieldInput) (before : Lent) : Lent → FieldAnswer → Type 0 where
  -- "A refusal returns number and place and writes nothing."
  refuses : {number place : ℕ} → field_verdict reach i before ≡ refused number place → FieldPromise reach i before before (refusal number place)
  -- "With no resources the window is 0 by 0, [..] nothing is written and the sweep count is 0."
  nothing : field_verdict reach i before ≡ accepted → length i.resources / 4 ≡ 0 → FieldPromise reach i before before (made (no_window i.lanes) 0)
  -- the field, and the number of plain sweeps
  makes : {after : Lent} {sweeps : ℕ} → field_verdict reach i before ≡ accepted → 0 < length i.resources / 4 → FieldMade (call_of reach i) before after sweeps →
      FieldPromise reach i before after (made (record_of (call_of reach i)) sweeps)

-- ---- demand 3: "At each target cell a number is the cost of a real walk on the whole painted map from a walkable cell bordering the resource, cutting no corner, and
-- none is cheaper; unreachable or outside exactly when no walk costs 48,000 or less."

-- the walks to (x, y) on the whole painted map that start at a walkable cell of the ring of resource l, by their cost
abbrev pub WalkTo : Call → ℕ → ℕ → ℕ → ℕ → Type 0
WalkTo c l x y = WalkCosts (λ x y. T (unblocked c x y)) (λ x y. T (unblocked c x y)) (λ x y. T (starts_lane c l x y)) x y

-- lane l of what is read at the cell (x, y) stands for the half cost v; "outside" stands for unreachable
pub data Reads (reach : ℕ) (r : WindowRecord) (lanes : List ℤ) (l x y v : ℕ) : Type 0 where
  shows : (read_part r (length lanes) x y).size ≡ r.lanes → get_or lanes ((read_part r (length lanes) x y).start + l) (pos 0) ≡ lane_of (bias reach) v → Reads reach r lanes l x y v
  outside : read_part r (length lanes) x y ≡ outside_part → v ≡ unreachable reach → Reads reach r lanes l x y v

-- what is read at a target cell, after the call
pub record Demand3 (reach : ℕ) (c : Call) (r : WindowRecord) (lanes : List ℤ) (l x y : ℕ) : Type 0 where
  pub value : ℕ
  pub read : Reads reach r lanes l x y value
  pub least : IsField reach (WalkTo c l x y) value
