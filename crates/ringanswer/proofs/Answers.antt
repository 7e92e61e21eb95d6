-- What is answered of a ring that is found is what access of a rectangle promises.
use mathlib.Core.Path.{◌≡◌, refl, sym}
use mathlib.Core.Bool.{false}
use mathlib.Core.List.{List}
use Prim.Native.Nat.{ℕ}
use borrow.Author.Tests.{lt-ltb, le-ltb}
use Rattle.walkgraph.specs.Painting.{Rectangle}
use Rattle.walkgraph.specs.Ring.{access_cells}
use Rattle.walkgraph.specs.Refusals.{bad_grid, bad_resource, accepted, access_verdict}
use Rattle.walkgraph.specs.AccessPromise.{AccessPromise}
use Rattle.walkgraph.specs.AccessPromise as promise
use Rattle.judge.proofs.Judging.{refuses, passes}
use Rattle.std.proofs.Common.{Result}
use Rattle.refusal.specs.declared.Refusal.{Refusal}
use Rattle.countanswer.specs.Answers.{listed_of}
use Rattle.ringanswer.specs.Answers.{RingListed, short, fits}

-- of a resource that is not refused: refusal 7, or the list
pub answered : (w h : ℕ) (cells : List ℕ) (r : Rectangle) → bad_grid w h cells ≡ false → bad_resource w h r ≡ false → {before after : List ℕ} {a : Result ℕ Refusal} →
    RingListed (access_cells w h cells r) before after a → AccessPromise w h cells r before after (listed_of a)
unfolding access_verdict listed_of
answered w h cells r good_grid good (short s) = promise.refuses (sym (passes 1 0 good_grid (passes 4 0 good (refuses accepted (lt-ltb _ _ s)))))
answered w h cells r good_grid good (fits s) = promise.lists (sym (passes 1 0 good_grid (passes 4 0 good (passes 7 0 (le-ltb _ _ s) refl))))
