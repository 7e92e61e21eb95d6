-- What is listed in a part that was lent on from mid buffer, and in both buffers, rectangle by rectangle.
use mathlib.Core.Path.{◌≡◌, refl, sym, ap, ◌∙◌}
use mathlib.Core.List.{List, [], ◌∷◌, ◌++◌, append_assoc}
use Prim.Native.Nat.{ℕ, ◌+◌, ◌-◌, ◌/◌, ◌≤◌}
use native.Mathlib.Omega.{arith}
use lib.ListN.{length, take, drop, set, length-drop, take-append-drop}
use lib.Seq.{sets-eq, drop-append-le, drop-drop, length-take-le}
use lib.IntN.{ℤ}
use borrow.Rule.Slice.PartMut.{mid_of, put_mid, post_of}
use Rattle.ringlists.specs.Lists.{Listed}
use Rattle.ringlists.proofs.Listing.{listed_more}
use Rattle.manyrectangles.specs.AllCells.{all_cells, ends_of}
use Rattle.manyrectangles.specs.Lent.{listed_in}
use Rattle.manyrectangles.specs.Listing.{lent, AllListed}
use Rattle.manyrectangles.proofs.AllCells.{ends_more, ends_length}

-- ---- the part behind the used entries
module _ (p before : List ℕ) (used : ℕ) (room : used + length p ≤ length before) where
  pub part_length : length (mid_of used (length before - used) before) ≡ length before - used
  part_length = length-take-le (length before - used) (drop used before) (omega (arith, length-drop used before))

  pub part_listed : {after : List ℕ} {end : ℕ} → Listed p (mid_of used (length before - used) before) 0 after end →
      Listed p before used (put_mid used (length before - used) before after) (used + end)
  part_listed {after} {end} l =
      let size = length before - used in
      let mid = mid_of used size before in
      let post = post_of used size before in
      let none : 0 + length p ≡ length p = omega arith in
      let all : after ≡ p ++ drop (length p) mid = l.buffer ∙ rw none at (sets-eq p mid 0 (omega (arith, part_length))) in
      let rest : drop (length p) mid ++ post ≡ drop (used + length p) before =
      sym (drop-append-le (length p) mid post (omega (arith, part_length))) ∙ ap (drop (length p)) (take-append-drop size (drop used before)) ∙ drop-drop (length p) used before in
      record {
        ends = omega (arith, l.ends);
        buffer = rw all (ap (λ (t : List ℕ). take used before ++ t) (append_assoc p (drop (length p) mid) post ∙ ap (λ (t : List ℕ). p ++ t) rest)) ∙ sym (append_assoc (take used before) p (drop (used + length p) before)) ∙ sym (sets-eq p before used room);
      }

-- ---- from a buffer's start on
whole : {p before after : List ℕ} {end : ℕ} → length p ≤ length before → Listed p before 0 after end → after ≡ p ++ drop (length p) before
whole {p} {before} i l = let none : 0 + length p ≡ length p = omega arith in l.buffer ∙ rw none at (sets-eq p before 0 (omega arith))

module _ (w h : ℕ) (cells : List ℕ) (l : List ℤ) where
  -- one end more
  pub end_listed : {before after : List ℕ} (k v : ℕ) → Listed (ends_of w h cells l k) before 0 after k → v ≡ length (all_cells w h cells l (k + 1)) →
      Listed (ends_of w h cells l (k + 1)) before 0 (set after k v) (k + 1)
  end_listed {before} {after} k v m e =
      let one : Listed (v ∷ []) after k (set after k v) (k + 1) = record { ends = refl; buffer = refl } in
      rw (ends_more w h cells l k, sym e) (listed_more m one)

  -- all of them
  pub all_listed : {indices ends indices' ends' : List ℕ} {count : ℕ} → length (all_cells w h cells l (length l / 4)) ≤ length indices → length l / 4 ≤ length ends →
      Listed (all_cells w h cells l (length l / 4)) indices 0 indices' count → Listed (ends_of w h cells l (length l / 4)) ends 0 ends' (length l / 4) →
      AllListed w h cells l (lent indices ends) (lent indices' ends') count
  unfolding listed_in
  all_listed {indices} {ends} {indices'} {ends'} i j p q =
      let n = length l / 4 in
      let e = whole i p in
      let f : ends' ≡ ends_of w h cells l n ++ drop n ends =
      rw (ends_length w h cells l n) at (whole (omega (arith, ends_length w h cells l n)) q) in
      record { buffers = rw (e, f) refl; counted = omega (arith, p.ends) }
