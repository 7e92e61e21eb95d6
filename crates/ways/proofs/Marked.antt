-- Marks of change that tell whether a buffer changed.
use mathlib.Core.Path.{◌≡◌, refl, sym, ◌∙◌}
use mathlib.Core.Logic.{inl, ⊎_elim}
use mathlib.Core.Bool.{Bool}
use mathlib.Core.List.{List}
use Prim.Native.Nat.{ℕ, ◌+◌, ◌<◌}
use native.Mathlib.Omega.{arith}
use lib.IntN.{ℤ, pos, negsuc}
use lib.ListN.{get_or, replicate}
use Rattle.std.proofs.lemmas.List.{get_or-replicate}
use Rattle.walkgraph.specs.Lists.{placed}
use Rattle.walkgraph.proofs.Lists.{placed_in, placed_below, placed_above, by_place}
use Rattle.strip.specs.Strips.{HasLevels}
use Rattle.onelane.specs.Mark.{kept_mark}
use Rattle.onelane.proofs.Mark.{kept_still, kept_moved}
use Rattle.strip.specs.Marks.{kept_at, HasMarks, AreMarks, IsChanged}
use Rattle.strip.proofs.Marks.{kept_marks}
use Rattle.ways.specs.Row.{Differ, Tells}

-- marks that are all -1 say that two buffers are the same, and one that is 0 that they differ
pub record Marked (lanes : ℕ) (marks : List ℤ) (F G : ℕ → ℕ) : Type 0 where
  pub are : AreMarks lanes marks
  pub still : ((k : ℕ) → k < lanes → get_or marks k (pos 0) ≡ negsuc 0) → F ≡ G
  pub moved : (k : ℕ) → k < lanes → get_or marks k (pos 0) ≡ pos 0 → Differ F G

-- at the start all of them are -1
pub marked_start : (lanes : ℕ) (F : ℕ → ℕ) → Marked lanes (replicate lanes (negsuc 0)) F F
marked_start lanes F =
    record {
      are = record { each = λ k h. inl (fresh k h) };
      still = λ s. refl;
      moved = λ k h z. absurd (let f = fresh k h in let q : ◌≡◌ {A = ℕ} 0 1 = cc in omega arith);
    }
  where
    fresh : (k : ℕ) → k < lanes → get_or (replicate lanes (negsuc 0)) k (pos 0) ≡ negsuc 0
    fresh k h = get_or-replicate lanes k (negsuc 0) (pos 0) h

-- so the answer of the last look at them
pub marked_tells : {lanes : ℕ} {marks : List ℤ} {F G : ℕ → ℕ} {answer : Bool} → Marked lanes marks F G → IsChanged lanes marks answer → Tells answer F G
marked_tells m c =
    record { loud = λ t. let k = c.some t in m.moved k.0 k.1 k.2; quiet = λ t. m.still (c.none t) }

-- a cell more: `old` holds what both buffers have at index i, and `new` is placed there
module _ (lanes : ℕ) (marks old new kept : List ℤ) (F G : ℕ → ℕ) (i : ℕ) (levels : ℕ → ℕ)
    (olds : HasLevels lanes old (λ k. F (i + k))) (same : (k : ℕ) → k < lanes → G (i + k) ≡ F (i + k)) (news : HasLevels lanes new levels) (keeps : HasMarks lanes kept (kept_at marks old new)) where
  abbrev H : ℕ → ℕ
  H = placed G i lanes levels

  kept_at_lem : (k : ℕ) → k < lanes → get_or kept k (pos 0) ≡ kept_mark (get_or marks k (pos 0)) (F (i + k)) (levels k)
  unfolding kept_at
  kept_at_lem k h = keeps.each k h ∙ rw (olds.each k h, news.each k h)

  unmoved : ((k : ℕ) → k < lanes → F (i + k) ≡ levels k) → G ≡ H
  unmoved e =
      λ t j.
      by_place (λ j. G j ≡ H j) i lanes j
      (λ b. sym (placed_below G i lanes levels j b))
      (λ k b. same k b ∙ e k b ∙ sym (placed_in G i lanes levels k b))
      (λ b. sym (placed_above G i lanes levels j b))
      t

  -- where they differed they still do: not at the cell
  differ_on : Differ F G → Differ F H
  differ_on (j, n) = (
    j,
    by_place (λ j. ¬ (F j ≡ G j) → ¬ (F j ≡ H j)) i lanes j
        (λ b n. rw (placed_below G i lanes levels j b) n)
        (λ k b n. absurd (n (sym (same k b))))
        (λ b n. rw (placed_above G i lanes levels j b) n)
        n,
  )

  pub marked_next : Marked lanes marks F G → Marked lanes kept F H
  marked_next m =
      record {
        are = kept_marks lanes marks old new kept m.are keeps;
        still = λ s.
            let q : (k : ℕ) (h : k < lanes) → (get_or marks k (pos 0) ≡ negsuc 0) × (F (i + k) ≡ levels k) = λ k h. kept_still _ _ _ (sym (kept_at_lem k h) ∙ s k h) in
            m.still (λ k h. (q k h).0) ∙ unmoved (λ k h. (q k h).1);
        moved = λ k h z.
            ⊎_elim
            (λ e. differ_on (m.moved k h e))
            (λ n. (i + k, λ e. n (e ∙ placed_in G i lanes levels k h)))
            (kept_moved _ _ _ (sym (kept_at_lem k h) ∙ z));
      }
