-- Flags of walk bytes.
use mathlib.Core.Path.{◌≡◌, sym, ◌∙◌, ap}
use mathlib.Core.List.{List}
use Prim.Native.Nat.{ℕ, ◌+◌, ◌*◌, ◌-◌, ◌≤◌, ◌<◌}
use native.Mathlib.Omega.{arith}
use lib.ListN.{length, set, take, drop}
use Rattle.walkgraph.specs.Lists.{placed}
use Rattle.window.specs.Fills.{entries}
use Rattle.window.specs.declared.record.Window.{Window}
use Rattle.cellflags.specs.CellFlags.{flags_of}
use Rattle.flags.specs.Flags.{flag_at, FlagRowAt, FlagRows}
use Rattle.window.proofs.Fills.{placed_store, placed_front, part_entries, row_room}

-- the flags at an index, by the indices of its neighbours
pub flag_at_lem : (walk : ℕ → ℕ) (stride i c w e n s : ℕ) → i ≡ c → i - 1 ≡ w → i + 1 ≡ e → i - stride ≡ n → i + stride ≡ s →
    flag_at walk stride i ≡ flags_of (walk c) (walk w) (walk e) (walk n) (walk s)
unfolding flag_at
flag_at_lem walk stride i c w e n s p q r t u = cc

-- of the middle one of three rows of a part that starts one row above
pub flag_part : (walk : List ℕ) (stride row x : ℕ) → stride ≤ row → x + 2 ≤ stride →
    flag_at (entries (take (3 * stride) (drop (row - stride) walk))) stride (stride + 1 + x) ≡ flag_at (entries walk) stride (row + 1 + x)
unfolding flag_at
flag_part walk stride row x h k =
    let a = same (stride + 1 + x) (row + 1 + x) (omega arith) (omega arith) in
    let b = same (stride + 1 + x - 1) (row + 1 + x - 1) (omega arith) (omega arith) in
    let d = same (stride + 1 + x + 1) (row + 1 + x + 1) (omega arith) (omega arith) in
    let e = same (stride + 1 + x - stride) (row + 1 + x - stride) (omega arith) (omega arith) in
    let f = same (stride + 1 + x + stride) (row + 1 + x + stride) (omega arith) (omega arith) in
    cc
  where
    same : (k i : ℕ) → k < 3 * stride → row - stride + k ≡ i → entries (take (3 * stride) (drop (row - stride) walk)) k ≡ entries walk i
    same k i l e = part_entries (row - stride) (3 * stride) walk k l ∙ ap (entries walk) e

-- the next byte of a row, stored
pub flag_stored : (before walk : ℕ → ℕ) (stride x v : ℕ) (buffer : List ℕ) → x < length buffer →
    v ≡ flags_of (walk (stride + x + 1)) (walk (stride + x)) (walk (stride + x + 2)) (walk (x + 1)) (walk (2 * stride + x + 1)) →
    entries buffer ≡ placed before 0 x (λ x. flag_at walk stride (stride + 1 + x)) →
    entries (set buffer x v) ≡ placed before 0 (x + 1) (λ x. flag_at walk stride (stride + 1 + x))
flag_stored before walk stride x v buffer b e h =
    let f = flag_at_lem walk stride (stride + 1 + x) (stride + x + 1) (stride + x) (stride + x + 2) (x + 1) (2 * stride + x + 1) (omega arith) (omega arith) (omega arith) (omega arith) (omega arith) in
    placed_store before 0 _ x x v buffer (omega arith) b (e ∙ sym f) h

-- the flags of a row, made from a part of the walk bytes, are those of the whole
pub part_flags : (walk part : List ℕ) (before : ℕ → ℕ) (stride row count size : ℕ) → size ≡ 3 * stride → stride ≤ row → count + 2 ≤ stride →
    entries part ≡ placed before 0 count (λ x. flag_at (entries (take size (drop (row - stride) walk))) stride (stride + 1 + x)) →
    (k : ℕ) → k < count → entries part k ≡ flag_at (entries walk) stride (row + 1 + k)
part_flags walk part before stride row count size q h l p k b =
    ap (λ (f : ℕ → ℕ). f k) p ∙ placed_front before count _ k b ∙ rw q (flag_part walk stride row k h (omega arith))

-- row y of a window
pub row_fits : {w : Window} {walk : List ℕ} {flags now stride row : ℕ} → FlagRows w walk flags → (y : ℕ) → stride ≡ w.width + 2 → row ≡ stride + y * stride → y < w.height → now ≡ flags →
    FlagRowAt walk stride now row w.width
row_fits {w} {walk} {flags} {now} {stride} {row} f y e r h n =
    let p : stride + y * stride + 2 * stride ≤ (w.height + 2) * (w.width + 2) = rw e (row_room y w.height (w.width + 2) h) in
    record {
      columns = omega arith;
      above = omega arith;
      below = omega (arith, f.bytes);
      room = omega (arith, f.room);
      bits = λ k l. f.bits k (omega arith);
    }
