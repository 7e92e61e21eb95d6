-- The exports' promises determine what they give back.
use mathlib.Core.Path.{◌≡◌, refl, sym, ap, ◌∙◌}
use mathlib.Core.List.{List}
use Prim.Native.Nat.{ℕ}
use lib.IntN.{ℤ}
use Rattle.walkgraph.specs.Buffers.{Lent}
use Rattle.walkgraph.specs.Painting.{Rectangle}
use Rattle.walkgraph.specs.Reading.{WindowRecord, Part, read_part}
use Rattle.walkgraph.specs.Refusals.{FieldInput}
use Rattle.walkgraph.specs.FieldsPromise.{JoinInput, JoinLent}
use Rattle.walklaws.proofs.Promises.{promise_one}
use Rattle.walklaws.proofs.AccessCall.{access_one}
use Rattle.walklaws.proofs.FieldsCall.{fields_one}
use Rattle.manyrectangles.specs.Lent.{ListsLent}
use Rattle.listspromise.proofs.AccessListsCall.{access_lists_one}
use Rattle.reading.specs.declared.Part as code
use Rattle.reading.specs.Parts.{as_part}
use Rattle.answernumbers.specs.declared.FieldAnswer.{FieldAnswer}
use Rattle.countanswer.specs.declared.CountAnswer.{CountAnswer}
use Rattle.answernumbers.specs.Numbers.{numbers_of}
use Rattle.countanswer.specs.Numbers.{listed_numbers, joined_numbers}
use Rattle.cerandool.specs.Exports.{FieldExported, AccessExported, AccessListsExported, FieldsExported}

-- no two results of a field call meet its promise: the seven buffers are equal, and so are the eight numbers
pub field_once : (reach : ℕ) (i : FieldInput) (before : Lent) {d e : Lent} {r s : FieldAnswer} → FieldExported reach i before d r → FieldExported reach i before e s → (d ≡ e) × (r ≡ s)
field_once reach i before p q =
    let same = promise_one reach i before p.promise q.promise in
    (same.0, p.numbers ∙ ap numbers_of same.1 ∙ sym q.numbers)

-- no two results of reading a cell meet its promise
pub part_once : (w : WindowRecord) (length x y : ℕ) (p q : code.Part) → as_part p ≡ read_part w length x y → as_part q ≡ read_part w length x y → p ≡ q
part_once w length x y p q e f =
    let same = e ∙ sym f in
    rw (ap (λ (a : Part). a.start) same, ap (λ (a : Part). a.size) same) refl

-- no two results of access of a rectangle meet its promise: the buffer is equal, and so are the three numbers
pub access_once : (width height : ℕ) (cells : List ℕ) (rectangle : Rectangle) (before : List ℕ) {d e : List ℕ} {r s : CountAnswer} →
    AccessExported width height cells rectangle before d r → AccessExported width height cells rectangle before e s → (d ≡ e) × (r ≡ s)
access_once width height cells rectangle before p q =
    let same = access_one width height cells rectangle before p.promise q.promise in
    (same.0, p.numbers ∙ ap listed_numbers same.1 ∙ sym q.numbers)

-- nor of access of many rectangles: both buffers and the three numbers
pub access_lists_once : (width height : ℕ) (cells : List ℕ) (rectangles : List ℤ) (before : ListsLent) {d e : ListsLent} {r s : CountAnswer} →
    AccessListsExported width height cells rectangles before d r → AccessListsExported width height cells rectangles before e s → (d ≡ e) × (r ≡ s)
access_lists_once width height cells rectangles before p q =
    let same = access_lists_one width height cells rectangles before p.promise q.promise in
    (same.0, p.numbers ∙ ap listed_numbers same.1 ∙ sym q.numbers)

-- nor of the fields call: the five buffers and the three numbers
pub fields_once : (i : JoinInput) (before : JoinLent) {d e : JoinLent} {r s : CountAnswer} → FieldsExported i before d r → FieldsExported i before e s → (d ≡ e) × (r ≡ s)
fields_once i before p q =
    let same = fields_one i before p.promise q.promise in
    (same.0, p.numbers ∙ ap joined_numbers same.1 ∙ sym q.numbers)
