-- Document 01, "Room text and the program": which texts are numbers, by its rules alone.
use Rattle.std.specs.Prelude.{◌≡◌, true, List, ◌∷◌, ℕ, ◌<◌, length, get_or}
use Rattle.decimal.specs.Numbers.{is_digit}

-- "decimal", "no leading zeros": one digit or more, and a zero first only where it stands alone
pub record Digits (text : List ℕ) : Type 0 where
  pub some : 0 < length text
  pub each : (k : ℕ) → k < length text → is_digit (get_or text k 0) ≡ true
  pub zero_alone : get_or text 0 0 ≡ 48 → length text ≡ 1

-- "no plus, no `-0`": digits, or a minus and digits that are not 0
pub data Numeral : List ℕ → Type 0 where
  plain : {text : List ℕ} → Digits text → Numeral text
  minus : {text : List ℕ} → Digits text → (get_or text 0 0 ≡ 48 → ⊥) → Numeral (45 ∷ text)
