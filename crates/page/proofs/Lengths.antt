-- How long numbers and lines are at most.
use mathlib.Core.List.{List, [], ◌∷◌}
use Prim.Native.Nat.{ℕ, zero, suc, ◌+◌, ◌*◌, ◌/◌, ◌≤◌, ◌<◌, ◌^◌}
use native.Mathlib.Nat.{pow-suc}
use native.Mathlib.Omega.{arith}
use native.Mathlib.Decide.{dec_lt}
use lib.IntN.{pos}
use lib.ListN.{length, length-append}
use Rattle.decimal.specs.Numbers.{digits_of, decimal_of}
use Rattle.decimal.proofs.Digits.{by_cases, length_small, length_large}
use Rattle.page.specs.Lines.{number_then, two_then, window_word, window_line, sweeps_word, sweeps_line, cells_word, cells_line, groups_word, groups_line, word_line, refused_word, refusal_line}

-- a number below 10 ^ k has k digits at most
digits_most : (k n : ℕ) → n < 10 ^ suc k → length (digits_of n) ≤ suc k
digits_most zero n h = omega (arith, length_small n h)
digits_most (suc k) n h =
    by_cases (dec_lt n 10)
    (λ q. omega (arith, length_small n q))
    (λ q. omega (arith, length_large n (omega (arith, q)), digits_most k (n / 10) (omega (arith, pow-suc 10 (suc k)))))

pub number_most : (k n : ℕ) → 0 < k → n < 10 ^ k → length (decimal_of (pos n)) ≤ k
unfolding decimal_of
number_most zero n h i = absurd (omega arith)
number_most (suc k) n h i = digits_most k n i

-- and with the byte after it
pub then_most : (k n byte : ℕ) → 0 < k → n < 10 ^ k → length (number_then n byte) ≤ k + 1
unfolding number_then
then_most k n byte h i = omega (arith, number_most k n h i, length-append (decimal_of (pos n)) (byte ∷ []))

-- ---- lines
pub word_most : (k : ℕ) (word : List ℕ) (n : ℕ) → 0 < k → n < 10 ^ k → length (word_line word n) ≤ length word + (k + 1)
unfolding word_line
word_most k word n h i = omega (arith, length-append word (number_then n 10), then_most k n 10 h i)

pub two_most : (k a b byte : ℕ) → 0 < k → a < 10 ^ k → b < 10 ^ k → length (two_then a b byte) ≤ 2 * (k + 1)
unfolding two_then
two_most k a b byte h p q = omega (arith, length-append (number_then a 32) (number_then b byte), then_most k a 32 h p, then_most k b byte h q)

pub window_most : (k a b c d : ℕ) → 0 < k → a < 10 ^ k → b < 10 ^ k → c < 10 ^ k → d < 10 ^ k → length (window_line a b c d) ≤ 7 + 4 * (k + 1)
unfolding window_word window_line
window_most k a b c d h p q r s = omega (arith, length-append (two_then a b 32) (two_then c d 10), two_most k a b 32 h p q, two_most k c d 10 h r s)

module _ (k n : ℕ) where
  pub sweeps_most : 0 < k → n < 10 ^ k → length (sweeps_line n) ≤ 7 + (k + 1)
  unfolding sweeps_word sweeps_line
  sweeps_most h i = word_most k sweeps_word n h i

  pub cells_most : 0 < k → n < 10 ^ k → length (cells_line n) ≤ 6 + (k + 1)
  unfolding cells_word cells_line
  cells_most h i = word_most k cells_word n h i

  pub groups_most : 0 < k → n < 10 ^ k → length (groups_line n) ≤ 7 + (k + 1)
  unfolding groups_word groups_line
  groups_most h i = word_most k groups_word n h i

pub refusal_most : (k number place : ℕ) → 0 < k → number < 10 ^ k → place < 10 ^ k → length (refusal_line number place) ≤ 8 + 2 * (k + 1)
unfolding refused_word refusal_line
refusal_most k number place h p q = omega (arith, two_most k number place 10 h p q)
