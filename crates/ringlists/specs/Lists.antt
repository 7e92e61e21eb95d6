-- What is listed in a lent buffer, and the room that it needs.
use Rattle.std.specs.Prelude.{◌≡◌, List, ℕ, ◌+◌, ◌≤◌, ◌<◌, length}
use Rattle.std.proofs.lemmas.List.Edits.{sets}
use Rattle.ringlists.specs.Places.{open_places}

-- places stand behind the `used` entries of a buffer, and the others stay; `end` entries are used then
pub record Listed (places before : List ℕ) (used : ℕ) (after : List ℕ) (end : ℕ) : Type 0 where
  pub ends : end ≡ used + length places
  pub buffer : after ≡ sets before used places

-- there is room for a cell's place, which is one of a map
pub record Puts (places : List ℕ) (place used lent : ℕ) : Type 0 where
  pub small : place < 1048576
  pub room : used + length places ≤ lent

-- a run is among the cells of a map, and there is room for its places
pub record RunFits (cells : List ℕ) (from count used lent : ℕ) : Type 0 where
  pub cells_in : from + count ≤ length cells
  pub few : length cells ≤ 1048576
  pub room : used + length (open_places cells from count) ≤ lent
