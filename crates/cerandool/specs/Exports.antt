-- What the static library's exports give back: the promise of the library's own call, of an answer in document 01's numbers.
use Rattle.std.specs.Prelude.{◌≡◌, List, ℕ, ℤ}
use Rattle.walkgraph.specs.Buffers.{Lent}
use Rattle.walkgraph.specs.Painting.{Rectangle}
use Rattle.walkgraph.specs.Refusals.{FieldInput}
use Rattle.walkgraph.specs.Promise.{FieldAnswer, FieldPromise}
use Rattle.walkgraph.specs.AccessPromise.{AccessAnswer, AccessPromise}
use Rattle.walkgraph.specs.FieldsPromise.{JoinInput, JoinLent, JoinAnswer, FieldsPromise}
use Rattle.manyrectangles.specs.Lent.{ListsLent}
use Rattle.listspromise.specs.AccessListsPromise.{AccessListsPromise}
use Rattle.answernumbers.specs.declared.FieldAnswer as code
use Rattle.countanswer.specs.declared.CountAnswer.{CountAnswer}
use Rattle.answernumbers.specs.Numbers.{numbers_of}
use Rattle.countanswer.specs.Numbers.{listed_numbers, joined_numbers}

-- "Each public function has a promise, and it determines the answer and the final content of each lent buffer on every input": the field call's
pub record FieldExported (reach : ℕ) (i : FieldInput) (before after : Lent) (r : code.FieldAnswer) : Type 0 where
  pub answer : FieldAnswer
  pub promise : FieldPromise reach i before after answer
  pub numbers : r ≡ numbers_of answer

-- that of access of a rectangle
pub record AccessExported (width height : ℕ) (cells : List ℕ) (rectangle : Rectangle) (before after : List ℕ) (r : CountAnswer) : Type 0 where
  pub answer : AccessAnswer
  pub promise : AccessPromise width height cells rectangle before after answer
  pub numbers : r ≡ listed_numbers answer

-- that of access of many rectangles
pub record AccessListsExported (width height : ℕ) (cells : List ℕ) (rectangles : List ℤ) (before after : ListsLent) (r : CountAnswer) : Type 0 where
  pub answer : AccessAnswer
  pub promise : AccessListsPromise width height cells rectangles before after answer
  pub numbers : r ≡ listed_numbers answer

-- the fields call's
pub record FieldsExported (i : JoinInput) (before after : JoinLent) (r : CountAnswer) : Type 0 where
  pub answer : JoinAnswer
  pub promise : FieldsPromise i before after answer
  pub numbers : r ≡ joined_numbers answer
