-- Fills of buffers: how a loop makes one, and how it is read.
use mathlib.Core.Path.{◌≡◌, refl, sym, ◌∙◌, ap}
use mathlib.Core.List.{List, ◌++◌}
use Prim.Native.Nat.{ℕ, ◌+◌, ◌*◌, ◌-◌, ◌≤◌, ◌<◌}
use native.Mathlib.Nat.{suc-mul, add-mul, mul-le-mul_right}
use native.Mathlib.Numerals.{add-one}
use native.Mathlib.Decide.{ℕ_discrete}
use native.Mathlib.Omega.{arith}
use lib.ListN.{length, length-set, length-take, length-drop, set, take, drop, replicate, get_or-append}
use lib.Seq.{get_or-set_same, get_or-set_other, get_or-take, get_or-drop, get_or-append-add, length-take-le}
use borrow.Rule.Slice.PartMut.{put_mid}
use Rattle.std.proofs.lemmas.List.{get_or-replicate, length-replicate}
use Rattle.walkgraph.specs.Lists.{placed}
use Rattle.walkgraph.proofs.Tests.{by_cases}
use Rattle.walkgraph.proofs.Lists.{placed_in, placed_below, placed_above, by_place}
use Rattle.window.specs.Fills.{entries, rows_placed}

-- ---- a row, entry by entry
module _ (before : ℕ → ℕ) (start : ℕ) (new : ℕ → ℕ) where
  pub placed_none : (n : ℕ) → n ≡ 0 → before ≡ placed before start n new
  placed_none n e =
      λ t i.
      by_place (λ i. before i ≡ placed before start n new i) start n i
      (λ h. sym (placed_below before start n new i h))
      (λ k h. absurd (omega arith))
      (λ h. sym (placed_above before start n new i h))
      t

  placed_longer : (n i : ℕ) → ¬ (i ≡ start + n) → placed before start n new i ≡ placed before start (n + 1) new i
  placed_longer n i e =
      by_place (λ i. ¬ (i ≡ start + n) → placed before start n new i ≡ placed before start (n + 1) new i) start n i
      (λ h e. placed_below before start n new i h ∙ sym (placed_below before start (n + 1) new i h))
      (λ k h e. placed_in before start n new k h ∙ sym (placed_in before start (n + 1) new k (omega arith)))
      (λ h e. placed_above before start n new i h ∙ sym (placed_above before start (n + 1) new i (omega arith)))
      e

  -- a store more
  pub placed_store : (n at v : ℕ) (buffer : List ℕ) → at ≡ start + n → at < length buffer → v ≡ new n → entries buffer ≡ placed before start n new →
      entries (set buffer at v) ≡ placed before start (n + 1) new
  placed_store n at v buffer p h e f =
      λ t i.
      by_cases (ℕ_discrete i at)
      (λ q. rw (q, get_or-set_same buffer at v 0 h, p, placed_in before start (n + 1) new n (omega arith)) e)
      (λ q. get_or-set_other buffer at i v 0 q ∙ ap (λ (g : ℕ → ℕ). g i) f ∙ placed_longer n i (λ r. q (r ∙ sym p)))
      t

pub placed_two : (before : ℕ → ℕ) (start : ℕ) (new : ℕ → ℕ) (u v : ℕ) (buffer : List ℕ) → start + 2 ≤ length buffer → u ≡ new 0 → v ≡ new 1 → before ≡ entries buffer →
    entries (set (set buffer start u) (start + 1) v) ≡ placed before start 2 new
placed_two before start new u v buffer h e f g =
    let a : length (set buffer start u) ≡ length buffer = length-set buffer start u in
    placed_store before start new 1 (start + 1) v (set buffer start u) refl (omega arith) f
    (placed_store before start new 0 start u buffer (omega arith) (omega arith) e (sym g ∙ placed_none before start new 0 (omega arith)))

pub placed_front : (before : ℕ → ℕ) (n : ℕ) (new : ℕ → ℕ) (k : ℕ) → k < n → placed before 0 n new k ≡ new k
placed_front before n new k h = let e : 0 + k ≡ k = omega arith in rw e at (placed_in before 0 n new k h)

pub placed_past : (before : ℕ → ℕ) (n : ℕ) (new : ℕ → ℕ) (i : ℕ) → n ≤ i → placed before 0 n new i ≡ before i
placed_past before n new i h = placed_above before 0 n new i (omega arith)

-- ---- rows
module _ (before : ℕ → ℕ) (start stride count : ℕ) (new : ℕ → ℕ → ℕ) where
  pub rows_none : before ≡ rows_placed before start stride 0 count new
  unfolding rows_placed
  rows_none = refl

  -- a row more
  pub rows_more : (n from : ℕ) (now after : ℕ → ℕ) → from ≡ start + n * stride → now ≡ rows_placed before start stride n count new → after ≡ placed now from count (new n) →
      after ≡ rows_placed before start stride (n + 1) count new
  unfolding rows_placed
  rows_more n from now after e f g = g ∙ rw (f, e, add-one n)

-- where the next row starts
pub next_row : (at start n stride : ℕ) → at ≡ start + n * stride → at + stride ≡ start + (n + 1) * stride
next_row at start n stride e = rw (add-one n) (omega (arith, suc-mul n stride))

-- the rows of a window with padding lie in its (h + 2) * s places
pub row_room : (y h s : ℕ) → y < h → s + y * s + 2 * s ≤ (h + 2) * s
row_room y h s k = let r : (y + 3) * s ≤ (h + 2) * s = mul-le-mul_right s (omega arith) in omega (arith, add-mul y 3 s)

-- ---- a part that was lent and came back
pub part_entries : (a n : ℕ) (buffer : List ℕ) (k : ℕ) → k < n → entries (take n (drop a buffer)) k ≡ entries buffer (a + k)
part_entries a n buffer k h = get_or-take n (drop a buffer) k 0 h ∙ get_or-drop a buffer k 0

pub part_back : (buffer part : List ℕ) (start k n : ℕ) (new : ℕ → ℕ) → k ≡ n → start + n ≤ length buffer → length part ≡ n → ((i : ℕ) → i < n → entries part i ≡ new i) →
    entries (put_mid start k buffer part) ≡ placed (entries buffer) start n new
part_back buffer part start k n new e fits long each =
    λ t i.
    by_place (λ i. entries (put_mid start k buffer part) i ≡ placed (entries buffer) start n new i) start n i
    (λ h. get_or-append (take start buffer) (part ++ rest) 0 i (omega (arith, before)) ∙ get_or-take start buffer i 0 h ∙ sym (placed_below (entries buffer) start n new i h))
    (λ j h. later j ∙ get_or-append part rest 0 j (omega arith) ∙ each j h ∙ sym (placed_in (entries buffer) start n new j h))
    (λ h.
    let p : start + (i - start) ≡ i = omega arith in
    let q : n + (i - (start + n)) ≡ i - start = omega arith in
    let r : start + (n + (i - (start + n))) ≡ i = omega arith in
    (rw p at (later (i - start)))
    ∙ (rw (long, q) at (get_or-append-add part rest (i - (start + n)) 0))
    ∙ get_or-drop k (drop start buffer) (i - (start + n)) 0
    ∙ get_or-drop start buffer (k + (i - (start + n))) 0
    ∙ rw (e, r, placed_above (entries buffer) start n new i h))
    t
  where
    rest : List ℕ
    rest = drop k (drop start buffer)

    before : length (take start buffer) ≡ start
    before = length-take-le start buffer (omega arith)

    later : (j : ℕ) → entries (take start buffer ++ (part ++ rest)) (start + j) ≡ entries (part ++ rest) j
    later j = rw before at (get_or-append-add (take start buffer) (part ++ rest) j 0)

-- a part that was filled and came back
pub filled_back : (buffer part : List ℕ) (start k n v : ℕ) → k ≡ n → start + n ≤ length buffer → part ≡ replicate (length (take k (drop start buffer))) v →
    entries (put_mid start k buffer part) ≡ placed (entries buffer) start n (λ x. v)
filled_back buffer part start k n v e h f =
    let taken : length (take k (drop start buffer)) ≡ n = simp (length-take, length-drop) (omega arith) in
    part_back buffer part start k n (λ x. v) e h (ap length f ∙ length-replicate (length (take k (drop start buffer))) v ∙ taken)
    (λ i q. rw f (get_or-replicate (length (take k (drop start buffer))) i v 0 (omega arith)))
