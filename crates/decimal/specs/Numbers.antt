-- Document 01, "Room text and the program": the text of a number, where one stands in a text, and what reading and writing one come to.
use Rattle.std.specs.Prelude.{◌≡◌, Bool, false, cond, ◌&&◌, List, [], ◌∷◌, ◌++◌, ℕ, zero, suc, ◌+◌, ◌/◌, ◌%◌, ◌≤◌, leb, ltb, ℤ, pos, negsuc, length, get_or, drop, ◌≤ℤ◌}
use Rattle.std.proofs.Math.Seq.{slice}
use Rattle.std.proofs.lemmas.List.Edits.{sets}

-- the digits are the bytes 48 to 57
unfoldable pub is_digit : ℕ → Bool
is_digit byte = leb 48 byte && leb byte 57

-- "decimal", "no leading zeros": one digit below 10, else the digits of n / 10 and then the last one; in `steps` more at most
unfoldable pub digits_in : ℕ → ℕ → List ℕ
digits_in zero n = (48 + n) ∷ []
digits_in (suc steps) n = cond (ltb n 10) ((48 + n) ∷ []) (digits_in steps (n / 10) ++ ((48 + n % 10) ∷ []))

-- n steps are enough: n / 10 is less than n
unfoldable pub digits_of : ℕ → List ℕ
digits_of n = digits_in n n

-- "no plus, no `-0`": a minus, 45, stands before the digits of a number below 0, and nothing before the others
unfoldable pub decimal_of : ℤ → List ℕ
decimal_of (pos n) = digits_of n
decimal_of (negsuc n) = 45 ∷ digits_of (suc n)

-- the bytes from `at` up to `past` are the text of a number, and no digit goes on with it
pub record NumberAt (text : List ℕ) (at : ℕ) (number : ℤ) (past : ℕ) : Type 0 where
  pub spelled : slice at past text ≡ decimal_of number
  pub inside : past ≤ length text
  pub ended : is_digit (get_or text past 0) ≡ false

-- a number in its limits, both accepted
pub record Within (lowest highest number : ℤ) : Type 0 where
  pub low : lowest ≤ℤ number
  pub high : number ≤ℤ highest

-- what reading finds: a number and the place after it, or that no number stands there
pub data Found : Type 0 where
  number : ℤ → (past : ℕ) → Found
  nothing : Found

-- what reading finds at a place, if it accepts the numbers in those limits and no others
pub data Reads (lowest highest : ℤ) (text : List ℕ) (at : ℕ) : Found → Type 0 where
  accepts : {z : ℤ} {past : ℕ} → Within lowest highest z → NumberAt text at z past → Reads lowest highest text at (number z past)
  refuses : ((z : ℤ) (past : ℕ) → Within lowest highest z → NumberAt text at z past → ⊥) → Reads lowest highest text at nothing

-- "four numbers with single spaces", "Every line ends in LF": from `at` on the text goes on with a number's text, the byte that must follow it, and what stands from `past` on
pub record FollowedAt (text : List ℕ) (at : ℕ) (number : ℤ) (byte past : ℕ) : Type 0 where
  pub stands : drop at text ≡ decimal_of number ++ (byte ∷ drop past text)
  pub inside : past ≤ length text

-- what reading a number and the byte that must follow it finds, with the place after that byte
pub data ReadsFollowed (byte : ℕ) (lowest highest : ℤ) (text : List ℕ) (at : ℕ) : Found → Type 0 where
  accepts_followed : {z : ℤ} {past : ℕ} → Within lowest highest z → FollowedAt text at z byte past → ReadsFollowed byte lowest highest text at (number z past)
  refuses_followed : ((z : ℤ) (past : ℕ) → Within lowest highest z → FollowedAt text at z byte past → ⊥) → ReadsFollowed byte lowest highest text at nothing

-- a number that was read, judged by its limits
pub data Limited (lowest highest z : ℤ) (past : ℕ) : Found → Type 0 where
  within : Within lowest highest z → Limited lowest highest z past (number z past)
  beyond : (Within lowest highest z → ⊥) → Limited lowest highest z past nothing

-- the text of a number written into a buffer: the answer is the place after it, and every other byte stays
pub record Writes (number : ℤ) (at : ℕ) (before after : List ℕ) (past : ℕ) : Type 0 where
  pub ends : past ≡ at + length (decimal_of number)
  pub content : after ≡ sets before at (decimal_of number)
