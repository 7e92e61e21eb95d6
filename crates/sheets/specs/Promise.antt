-- Document 01, "Room text and the program": what the library function promises.
use Rattle.std.specs.Prelude.{List, ℕ, ◌≤◌, length}
use Rattle.delivery.specs.Delivery.{Delivers}
use Rattle.sheets.specs.SheetText.{SheetOf}

-- the promise of the sheet of a text: every text has a sheet, and the buffer gets it or is too short for it
pub record SheetPromise (text before after : List ℕ) (count : ℕ) : Type 0 where
  pub sheet : List ℕ
  pub is : SheetOf text sheet
  -- so a buffer of 200,000 bytes is long enough for every text
  pub short : length sheet ≤ 200000
  pub delivers : Delivers sheet before after count
