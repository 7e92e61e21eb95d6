-- The promise of the access cells of many rectangles determines the answer and both buffers.
use mathlib.Core.Path.{◌≡◌, refl}
use mathlib.Core.List.{List}
use Prim.Native.Nat.{ℕ}
use lib.IntN.{ℤ}
use Rattle.walkgraph.specs.AccessPromise.{AccessAnswer}
use Rattle.walklaws.proofs.Promises.{clash, same_number}
use Rattle.manyrectangles.specs.Lent.{ListsLent}
use Rattle.listspromise.specs.AccessListsPromise.{AccessListsPromise, refuses, lists}

pub access_lists_one : (width height : ℕ) (cells : List ℕ) (rectangles : List ℤ) (before : ListsLent) {d e : ListsLent} {a b : AccessAnswer} →
    AccessListsPromise width height cells rectangles before d a → AccessListsPromise width height cells rectangles before e b → (d ≡ e) × (a ≡ b)
access_lists_one width height cells rectangles before (refuses p) (refuses q) = let s = same_number p q in (refl, rw (s.0, s.1) refl)
access_lists_one width height cells rectangles before (refuses p) (lists q) = clash p q
access_lists_one width height cells rectangles before (lists p) (refuses q) = clash q p
access_lists_one width height cells rectangles before (lists p) (lists q) = (refl, refl)
