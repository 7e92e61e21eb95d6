-- The promise of access of a rectangle determines its answer and its buffer.
use mathlib.Core.Path.{◌≡◌, refl}
use mathlib.Core.List.{List}
use Prim.Native.Nat.{ℕ}
use Rattle.walkgraph.specs.Painting.{Rectangle}
use Rattle.walkgraph.specs.AccessPromise.{AccessAnswer, AccessPromise, refuses, lists}
use Rattle.walklaws.proofs.Promises.{clash, same_number}

pub access_one : (width height : ℕ) (cells : List ℕ) (r : Rectangle) (before : List ℕ) {d e : List ℕ} {a b : AccessAnswer} →
    AccessPromise width height cells r before d a → AccessPromise width height cells r before e b → (d ≡ e) × (a ≡ b)
access_one width height cells r before (refuses p) (refuses q) = let s = same_number p q in (refl, rw (s.0, s.1) refl)
access_one width height cells r before (refuses p) (lists q) = clash p q
access_one width height cells r before (lists p) (refuses q) = clash q p
access_one width height cells r before (lists p) (lists q) = (refl, refl)
