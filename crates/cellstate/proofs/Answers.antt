-- A move that is open, as a test and as facts.
use mathlib.Core.Path.{◌≡◌, sym, ◌∙◌, ap}
use mathlib.Core.Bool.{Bool, true, false, not}
use lib.Dec.{T}
use borrow.Author.Tests.{not-false}

pub is_shut : (b : Bool) {r : Bool} → r ≡ b → not r ≡ true → T (not b)
is_shut b e t = rw (ap not (sym e) ∙ t) tt

pub is_open : (b : Bool) {r : Bool} → r ≡ b → not r ≡ false → T b
is_open b {r} e t = rw (sym e ∙ not-false r t) tt
