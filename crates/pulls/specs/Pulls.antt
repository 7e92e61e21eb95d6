-- The version that a row last pulled.
use Rattle.std.specs.Prelude.{◌≡◌, Bool, true, false, List, ℕ, get_or, set}

-- "a row is skipped when its feeding row's version is the one it last pulled": row y; else it pulls that version
pub data Pulls (version y : ℕ) (pulled : List ℕ) : List ℕ → Bool → Type 0 where
  skipped : get_or pulled y 0 ≡ version → Pulls version y pulled pulled true
  due : ¬ (get_or pulled y 0 ≡ version) → Pulls version y pulled (set pulled y version) false
