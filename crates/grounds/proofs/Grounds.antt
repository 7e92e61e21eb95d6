-- The window of a good site: what the fills of its ground ask, and what they leave for the next.
use mathlib.Core.Path.{◌≡◌, sym, ◌∙◌, ap, subst}
use mathlib.Core.Bool.{Bool, true}
use mathlib.Core.Logic.{⊎_elim}
use mathlib.Core.List.{List}
use Prim.Native.Nat.{ℕ, ◌+◌, ◌*◌, ◌/◌, ◌≤◌, ◌<◌}
use native.Mathlib.Nat.{mul-le-mul_left, mul-le-mul_right}
use native.Mathlib.Omega.{arith}
use lib.IntN.{ℤ}
use lib.ListN.{get_or, length}
use Rattle.walkgraph.specs.Lists.{placed}
use Rattle.walkgraph.specs.Sweep.{padded}
use Rattle.walkgraph.specs.Painting.{painted}
use Rattle.walkgraph.specs.Buffers.{padded_cells}
use Rattle.walkgraph.specs.Window.{window}
use Rattle.walklaws.proofs.Intervals.{row_interval}
use Rattle.cells.specs.declared.boxes.CellBox.{CellBox}
use Rattle.cells.specs.Boxes.{reach, box_of}
use Rattle.window.specs.declared.record.Window.{Window}
use Rattle.window.specs.Windows.{window_over, OnMap}
use Rattle.window.specs.Fills.{entries, zeros, window_rows, AreBits, cleared}
use Rattle.walkbytes.specs.Copies.{Copies, map_rows}
use Rattle.walkbytes.specs.Painting.{Paints, blockers_painted}
use Rattle.flags.specs.Flags.{FlagRows, flag_rows, flags_filled}
use Rattle.walkbytes.specs.Filled.{walk_filled}
use Rattle.intervals.specs.Intervals.{RowEnds, rows_filled}
use Rattle.window.proofs.Fits.{sizes}
use Rattle.walkbytes.proofs.Fits.{copies, paints}
use Rattle.flags.proofs.Fits.{flag_rows_lem}
use Rattle.intervals.proofs.Fits.{row_ends_lem}
use Rattle.walkbytes.proofs.WalkMade.{walk_made}
use Rattle.flags.proofs.FlagsMade.{bytes_small}
use Rattle.intervals.proofs.RowsMade.{first_made, past_made}
use Rattle.lane.specs.Levels.{LaneCount}
use Rattle.start.specs.Hits.{Room, started_levels}
use Rattle.grounds.specs.Grounds.{unreachable_levels}

-- the window in the limits of a map
pub record Limits (w : Window) : Type 0 where
  pub left : w.left ≤ 1024
  pub top : w.top ≤ 1024
  pub width : w.width ≤ 1024
  pub height : w.height ≤ 1024

module _ (width height : ℕ) (s t : CellBox) (on : OnMap width height (box_of s) (box_of t)) (w : Window) (over : w ≡ window_over (window reach width height (box_of s) (box_of t)) w.lanes) where
  abbrev lanes : ℕ
  lanes = w.lanes

  abbrev W : Window
  W = window_over (window reach width height (box_of s) (box_of t)) lanes

  abbrev cells_of : Window → ℕ
  cells_of v = (v.height + 2) * (v.width + 2)

  in_cells : (n : ℕ) → cells_of w ≤ n → cells_of W ≤ n
  in_cells n h = subst (λ (v : Window). cells_of v ≤ n) over h

  pub limits : Limits w
  limits =
      let z = sizes width height s t lanes on in
      subst Limits (sym over)
      (record {
        left = omega (arith, z.columns, on.wide);
        top = omega (arith, z.rows, on.high);
        width = omega (arith, z.columns, on.wide);
        height = omega (arith, z.rows, on.high);
      })

  pub site_copies : (cells walk : ℕ) → height * width ≤ cells → cells_of w ≤ walk → Copies w width cells walk
  site_copies cells walk h k = subst (λ (v : Window). Copies v width cells walk) (sym over) (copies width height s t lanes on cells walk h (in_cells walk k))

  pub site_paints : (walk : ℕ) → cells_of w ≤ walk → Paints w walk
  site_paints walk k = subst (λ (v : Window). Paints v walk) (sym over) (paints width height s t lanes on walk (in_cells walk k))

  -- the walk bytes of a map whose cells are 0 or 1 are 0 or 1
  walk_bits : (cells : List ℕ) (blockers : List ℤ) (before : ℕ → ℕ) → AreBits cells (height * width) → (k : ℕ) → k < cells_of W → walk_filled W width height cells blockers before k ≤ 1
  unfolding padded padded_cells
  walk_bits cells blockers before b k h =
      bytes_small (padded reach width height (painted width height cells blockers) (box_of s) (box_of t)) lanes W.left W.top (walk_filled W width height cells blockers before)
      (walk_made width height cells blockers (box_of s) (box_of t) lanes on b before) before k h

  pub site_flag_rows : (cells : List ℕ) (blockers : List ℤ) (before : ℕ → ℕ) (walk : List ℕ) (flags : ℕ) → AreBits cells (height * width) →
      entries walk ≡ walk_filled w width height cells blockers before → cells_of w ≤ length walk → cells_of w ≤ flags → FlagRows w walk flags
  site_flag_rows cells blockers before walk flags b e h k =
      let f : entries walk ≡ walk_filled W width height cells blockers before = subst (λ (v : Window). entries walk ≡ walk_filled v width height cells blockers before) over e in
      subst (λ (v : Window). FlagRows v walk flags) (sym over)
      (flag_rows_lem width height s t lanes on walk flags (in_cells (length walk) h) (in_cells flags k)
      (λ i l. subst (λ (n : ℕ). n ≤ 1) (sym (ap (λ (g : ℕ → ℕ). g i) f)) (walk_bits cells blockers before b i l)))

  pub site_row_ends : (rows : ℕ) → 2 * w.height ≤ rows → RowEnds w s t rows
  site_row_ends rows k =
      subst (λ (v : Window). RowEnds v s t rows) (sym over)
      (row_ends_lem width height s t lanes on rows (subst (λ (v : Window). 2 * v.height ≤ rows) over k))

  -- the lanes of the window are few enough to count
  pub lanes_small : LaneCount lanes → cells_of w * lanes ≤ 16842816
  lanes_small count =
      let z = limits in
      let p : cells_of w ≤ 1026 * (w.width + 2) = mul-le-mul_right (w.width + 2) (omega (arith, z.height)) in
      let f : lanes ≤ 16 = ⊎_elim (λ e. omega arith) (λ e. omega arith) count in
      let q : cells_of w * lanes ≤ cells_of w * 16 = mul-le-mul_left (cells_of w) f in
      omega (arith, z.width)

  module _ (rows : List ℕ) (before : ℕ → ℕ) where
    -- the intervals of the window end in its rows
    intervals : entries rows ≡ rows_filled W (box_of s) (box_of t) before → (row : ℕ) → row < W.height → (get_or rows (2 * row) 0 ≤ W.width + 1) × (get_or rows (2 * row + 1) 0 ≤ W.width + 1)
    unfolding padded
    intervals e row h =
        let i = row_interval (padded reach width height (λ x y. true) (box_of s) (box_of t)) (row + 1) in
        let a = ap (λ (f : ℕ → ℕ). f (2 * row)) e ∙ first_made width height (λ x y. true) (box_of s) (box_of t) lanes before row h in
        let b = ap (λ (f : ℕ → ℕ). f (2 * row + 1)) e ∙ past_made width height (λ x y. true) (box_of s) (box_of t) lanes before row h in
        (omega (arith, i.ends, i.high), omega (arith, i.high))

    site_intervals : entries rows ≡ rows_filled w (box_of s) (box_of t) before → (row : ℕ) → row < w.height → (get_or rows (2 * row) 0 ≤ w.width + 1) × (get_or rows (2 * row + 1) 0 ≤ w.width + 1)
    site_intervals e =
        subst (λ (v : Window). (row : ℕ) → row < v.height → (get_or rows (2 * row) 0 ≤ v.width + 1) × (get_or rows (2 * row + 1) 0 ≤ v.width + 1)) (sym over)
        (intervals (subst (λ (v : Window). entries rows ≡ rows_filled v (box_of s) (box_of t) before) over e))

    pub site_room : (count walk : ℕ) → cells_of w * w.lanes ≤ count → cells_of w ≤ walk → 2 * w.height ≤ length rows → entries rows ≡ rows_filled w (box_of s) (box_of t) before → Room w count walk rows
    site_room count walk h k l e =
        let z = limits in
        record {
          left = z.left;
          top = z.top;
          width = z.width;
          height = z.height;
          lanes_in = h;
          walk_in = k;
          rows_in = l;
          first = λ row i. (site_intervals e row i).0;
          past = λ row i. (site_intervals e row i).1;
        }

-- ---- the fills, one after the other

pub walk_filled_lem : (w : Window) (width height : ℕ) (cells : List ℕ) (blockers : List ℤ) (before : ℕ → ℕ) (count : ℕ) {one two three : ℕ → ℕ} →
    count ≡ (w.height + 2) * (w.width + 2) → one ≡ placed before 0 count zeros → two ≡ window_rows w one (map_rows w width cells) →
    three ≡ blockers_painted w width height blockers (length blockers / 4) two → three ≡ walk_filled w width height cells blockers before
unfolding walk_filled cleared
walk_filled_lem w width height cells blockers before count a b c d =
    d
    ∙ ap (blockers_painted w width height blockers (length blockers / 4))
    (c ∙ ap (λ (f : ℕ → ℕ). window_rows w f (map_rows w width cells)) (b ∙ ap (λ (n : ℕ). placed before 0 n zeros) a))

pub flags_filled_lem : (w : Window) (walk before : ℕ → ℕ) (count : ℕ) {one two : ℕ → ℕ} →
    count ≡ (w.height + 2) * (w.width + 2) → one ≡ placed before 0 count zeros → two ≡ window_rows w one (flag_rows w walk) → two ≡ flags_filled w walk before
unfolding flags_filled cleared
flags_filled_lem w walk before count a b c =
    c ∙ ap (λ (f : ℕ → ℕ). window_rows w f (flag_rows w walk)) (b ∙ ap (λ (n : ℕ). placed before 0 n zeros) a)

pub levels_begun : (w : Window) (before : ℕ → ℕ) (hit : ℕ → Bool) (count : ℕ) {one two : ℕ → ℕ} →
    count ≡ (w.height + 2) * (w.width + 2) → one ≡ placed before 0 (count * w.lanes) (λ (k : ℕ). 65535) → two ≡ started_levels one hit →
    two ≡ started_levels (unreachable_levels w before) hit
levels_begun w before hit count a b c =
    c ∙ ap (λ (f : ℕ → ℕ). started_levels f hit) (b ∙ ap (λ (n : ℕ). placed before 0 (n * w.lanes) (λ (k : ℕ). 65535)) a)
