-- Document 01, "Room text and the program", Output: the lines before and after those of the target cells, and when a page has room for them.
use Rattle.std.specs.Prelude.{List, ◌++◌, ℕ, ◌+◌, ◌*◌, ◌≤◌, ◌<◌, length, get_or}
use Rattle.walkgraph.specs.Reading.{WindowRecord}
use Rattle.ringlists.specs.Places.{in_order}
use Rattle.page.specs.declared.Page.{Page}
use Rattle.page.specs.Puts.{Puts}
use Rattle.page.specs.Lines.{window_line, sweeps_line, cells_line, groups_line, field_line}

-- "Window left, top, width, height; sweep count (8 lanes); number of target cells"
unfoldable pub head_lines : WindowRecord → (sweeps cells : ℕ) → List ℕ
head_lines window sweeps cells = window_line window.left window.top window.width window.height ++ (sweeps_line sweeps ++ cells_line cells)

-- "per resource its field"
unfoldable pub field_lines : (fields : List ℕ) → (resources : ℕ) → List ℕ
field_lines fields resources = in_order (λ r. field_line (get_or fields r 0)) resources

-- "number of fields; per resource its field"
unfoldable pub group_lines : (groups : ℕ) → (fields : List ℕ) → (resources : ℕ) → List ℕ
group_lines groups fields resources = groups_line groups ++ field_lines fields resources

-- ---- what a page must have room for
-- a field's number is a u16, so its line has at most 6 bytes
pub record FieldsRoom (fields : List ℕ) (resources : ℕ) (page : Page) : Type 0 where
  pub known : resources ≤ length fields
  pub few : resources ≤ 8
  pub text : page.at + resources * 6 ≤ length page.bytes.now

-- the lines of the fields have room, and each number has one digit
pub record GroupsRoom (groups : ℕ) (fields : List ℕ) (resources : ℕ) (page : Page) : Type 0 where
  pub known : resources ≤ length fields
  pub few : resources ≤ 8
  pub fewer : groups < 10
  pub text : page.at + 9 + resources * 6 ≤ length page.bytes.now

-- text put on a page, at most so many bytes
pub record PutsWithin (most : ℕ) (bytes : List ℕ) (before after : Page) : Type 0 where
  pub puts : Puts bytes before after
  pub short : after.at ≤ before.at + most
