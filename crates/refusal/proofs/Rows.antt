-- A number and a place name one row of the table.
use mathlib.Core.Path.{◌≡◌, refl, sym, ◌∙◌}
use mathlib.Core.Bool.{cond}
use Prim.Native.Nat.{ℕ}
use lib.Dec.{eqb}
use Rattle.refusal.specs.declared.Refusal.{Refusal}
use Rattle.refusal.specs.declared.Refusal.TheVariants.{BadGrid, Lanes, Count, BadResource, Blockers, Targets, Scratch, Access, Text, TooLarge}
use Rattle.refusal.specs.Table.{number_of, place_of}

-- the row of a number and a place
row : ℕ → ℕ → Refusal
row number place =
    cond (eqb number 1) BadGrid
    (cond (eqb number 2) Lanes
    (cond (eqb number 3) Count
    (cond (eqb number 4) (BadResource place)
    (cond (eqb number 5) Blockers
    (cond (eqb number 6) Targets (cond (eqb number 7) Scratch (cond (eqb number 8) Access (cond (eqb number 9) (Text place) TooLarge))))))))

row_is : (r : Refusal) → row (number_of r) (place_of r) ≡ r
unfolding row
row_is BadGrid = refl
row_is Lanes = refl
row_is Count = refl
row_is (BadResource first) = refl
row_is Blockers = refl
row_is Targets = refl
row_is Scratch = refl
row_is Access = refl
row_is (Text line) = refl
row_is TooLarge = refl

pub same_refusal : (r s : Refusal) → number_of r ≡ number_of s → place_of r ≡ place_of s → r ≡ s
same_refusal r s e f = sym (row_is r) ∙ rw (e, f) (row_is s)
