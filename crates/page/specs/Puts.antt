-- Text put on a page, which is a lent buffer of bytes and the place up to which it is written.
use Rattle.std.specs.Prelude.{◌≡◌, List, ℕ, ◌+◌, ◌≤◌, length}
use Rattle.std.proofs.lemmas.List.Edits.{sets}
use Rattle.page.specs.declared.Page.{Page}

-- bytes stand from the page's place on, and its other bytes stay; the place is the one after them then, in the same buffer
pub record Puts (bytes : List ℕ) (before after : Page) : Type 0 where
  pub same : after.bytes.ghost_name ≡ before.bytes.ghost_name
  pub ends : after.at ≡ before.at + length bytes
  pub content : after.bytes.now ≡ sets before.bytes.now before.at bytes

-- the page has room for bytes from its place on
pub record Room (bytes : List ℕ) (page : Page) : Type 0 where
  pub room : page.at + length bytes ≤ length page.bytes.now
