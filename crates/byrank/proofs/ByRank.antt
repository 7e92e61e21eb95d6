-- Roots by their ranks, case by case.
use mathlib.Core.Path.{◌≡◌}
use mathlib.Core.Logic.{◌≢◌}
use Prim.Native.Nat.{ℕ, suc, ◌≤◌, ◌<◌}
use native.Mathlib.Numerals.{add-one}
use borrow.Author.Tests.{eq-eqb, ne_eqb, lt-ltb, le-ltb}
use Rattle.byrank.specs.Ranks.{lower_root, raised_rank}

pub lower_left : (left right rank other : ℕ) → rank < other → lower_root left right rank other ≡ left
unfolding lower_root
lower_left left right rank other h = rw (lt-ltb rank other h)

pub lower_right : (left right rank other : ℕ) → other ≤ rank → lower_root left right rank other ≡ right
unfolding lower_root
lower_right left right rank other h = rw (le-ltb rank other h)

pub raised_same : (low high : ℕ) → low ≡ high → raised_rank low high ≡ suc high
unfolding raised_rank
raised_same low high e = rw (eq-eqb low high e) (add-one high)

pub raised_other : (low high : ℕ) → low ≢ high → raised_rank low high ≡ high
unfolding raised_rank
raised_other low high n = rw (ne_eqb low high n)
