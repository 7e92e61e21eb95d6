-- Document 01's numbers for each case of a field call's answer, and when they are u32s.
use Rattle.std.specs.Prelude.{ℕ, ◌≤◌}
use Rattle.walkgraph.specs.Reading.{WindowRecord}
use Rattle.walkgraph.specs.Promise.{FieldAnswer, refusal, made}
use Rattle.answernumbers.specs.declared.FieldAnswer as code

-- "A refusal returns number and place"; else "Window left, top, width, height", the lanes of a cell, and "sweep count". What a case does not have is 0.
unfoldable pub numbers_of : FieldAnswer → code.FieldAnswer
numbers_of (refusal number place) = record { number = number; place = place; left = 0; top = 0; width = 0; height = 0; lanes = 0; sweeps = 0 }
numbers_of (made window sweeps) =
    record {
      number = 0;
      place = 0;
      left = window.left;
      top = window.top;
      width = window.width;
      height = window.height;
      lanes = window.lanes;
      sweeps = sweeps;
    }

-- the numbers of an accepted call's answer are u32s
pub record Small (window : WindowRecord) (sweeps : ℕ) : Type 0 where
  pub left : window.left ≤ 4294967295
  pub top : window.top ≤ 4294967295
  pub width : window.width ≤ 4294967295
  pub height : window.height ≤ 4294967295
  pub lanes : window.lanes ≤ 4294967295
  pub count : sweeps ≤ 4294967295

-- an answer whose numbers are u32s; those of a refusal are from the start
unfoldable pub InU32 : FieldAnswer → Type 0
InU32 (refusal number place) = Unit {0}
InU32 (made window sweeps) = Small window sweeps
