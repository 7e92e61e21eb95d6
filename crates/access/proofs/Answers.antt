-- What a call finds, test by test, is what access of a rectangle promises.
use mathlib.Core.Path.{◌≡◌, sym}
use mathlib.Core.Bool.{true, false}
use mathlib.Core.List.{List}
use Prim.Native.Nat.{ℕ}
use Rattle.walkgraph.specs.Painting.{Rectangle}
use Rattle.walkgraph.specs.Refusals.{bad_grid, bad_resource, access_verdict}
use Rattle.walkgraph.specs.AccessPromise.{AccessPromise, refusal}
use Rattle.walkgraph.specs.AccessPromise as promise
use Rattle.cells.specs.declared.boxes.Ring.{Ring}
use Rattle.cells.specs.Boxes.{box_of}
use Rattle.rings.specs.Rings.{Accepted}
use Rattle.judge.proofs.Judging.{refuses, passes}
use Rattle.std.proofs.Common.{Result}
use Rattle.refusal.specs.declared.Refusal.{Refusal}
use Rattle.countanswer.specs.Answers.{listed_of}
use Rattle.ringrows.specs.Rows.{ring_places}
use Rattle.ringanswer.specs.Answers.{RingListed}
use Rattle.ringanswer.proofs.Answers.{answered}
use Rattle.ringrows.proofs.OfResources.{found_access}

module _ (w h : ℕ) (cells : List ℕ) (r : Rectangle) where
  -- ---- refusals 1 and 4
  pub grid_refused : (before : List ℕ) → bad_grid w h cells ≡ true → AccessPromise w h cells r before before (refusal 1 0)
  unfolding access_verdict
  grid_refused before e = promise.refuses (sym (refuses _ e))

  pub resource_refused : (before : List ℕ) → bad_grid w h cells ≡ false → bad_resource w h r ≡ true → AccessPromise w h cells r before before (refusal 4 0)
  unfolding access_verdict
  resource_refused before d e = promise.refuses (sym (passes 1 0 d (refuses _ e)))

  -- ---- a resource that is not refused: what is listed of its ring are its access cells
  module _ (good_grid : bad_grid w h cells ≡ false) (good : bad_resource w h r ≡ false) (ring : Ring) (e : Accepted w h r ring) where
    pub ring_answered : {before after : List ℕ} {a : Result ℕ Refusal} → RingListed (ring_places cells w (box_of ring.ring) (box_of ring.body)) before after a → AccessPromise w h cells r before after (listed_of a)
    ring_answered l = answered w h cells r good_grid good (rw (found_access w h cells r good_grid good ring e) at l)
