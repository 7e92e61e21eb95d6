-- Document 01, rows 9 and 10 of the table of refusals: what the program makes of a text before the field call judges it.
use Rattle.std.specs.Prelude.{◌≡◌, true, false, List, ℕ, ◌≤◌, ◌<◌, ℤ, length}
use Rattle.roomlimits.specs.Limits.{in_limits}
use Rattle.roomtext.specs.Room.{Breaks}
use Rattle.roomtext.specs.Readings.{RoomTaken}

-- a room that is accepted, or a refusal's number and place
pub data Verdict : Type 0 where
  accepted : (width height blockers resources : ℕ) → Verdict
  refused : (number place : ℕ) → Verdict

-- "Program: 8,192 bytes, 9, the other limits of 10"
pub data JudgesText (text cells-before cells-after : List ℕ) (numbers-before numbers_after : List ℤ) : Verdict → Type 0 where
  too_many_bytes : 8192 < length text → cells-after ≡ cells-before → numbers_after ≡ numbers-before → JudgesText text cells-before cells-after numbers-before numbers_after (refused 10 0)
  breaks_form : {line : ℕ} → length text ≤ 8192 → Breaks text line → JudgesText text cells-before cells-after numbers-before numbers_after (refused 9 line)
  too_large : {width height blockers resources : ℕ} → length text ≤ 8192 → RoomTaken text cells-before cells-after numbers-before numbers_after width height blockers resources → in_limits width height blockers resources ≡ false → JudgesText text cells-before cells-after numbers-before numbers_after (refused 10 0)
  accepts : {width height blockers resources : ℕ} → length text ≤ 8192 → RoomTaken text cells-before cells-after numbers-before numbers_after width height blockers resources → in_limits width height blockers resources ≡ true → JudgesText text cells-before cells-after numbers-before numbers_after (accepted width height blockers resources)

-- buffers for any text that is read
pub record TextFits (cells : List ℕ) (numbers : List ℤ) : Type 0 where
  pub cells_long : 8192 ≤ length cells
  pub numbers_long : 8192 ≤ length numbers
