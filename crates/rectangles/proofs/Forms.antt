-- Rectangles as lines in their forms, and that each form ends at one place.
use mathlib.Core.Path.{◌≡◌, refl, ap}
use mathlib.Core.List.{List, [], ◌∷◌, map}
use Prim.Native.Nat.{ℕ, ◌≤◌}
use native.Mathlib.Omega.{arith}
use lib.IntN.{pos}
use lib.ListN.{length, length-map}
use Rattle.decimal.specs.Numbers.{decimal_of}
use Rattle.roomlines.specs.Fours.{Four, four_line, FourFits, AllFit, nothing, more}
use Rattle.roomlines.specs.Forms.{Counted, FourLines}
use Rattle.roomlines.proofs.Counted.{counted_one}
use Rattle.fourlines.proofs.Stored.{fours_sized}
use Rattle.rectangles.specs.Readings.{counted, RectanglesForm, TargetsForm, EndForm}
use Rattle.rectangles.proofs.Joined.{Ending, both_ending}

-- ---- each form ends at one place
pub rectangles_ending : Ending RectanglesForm
rectangles_ending = record { one = λ x y c d e. counted_one (λ n ls f. fours_sized f) x y c d e }

targets_ending : Ending TargetsForm
targets_ending = record { one = λ x y c d e. counted_one (λ n ls f. fours_sized f) x y c d e }

pub end_ending : Ending EndForm
end_ending = both_ending rectangles_ending targets_ending

-- ---- rectangles as lines
module _ {lowest highest : ℕ} (fs : List Four) where
  pub fours_form : AllFit fs → lowest ≤ length fs → length fs ≤ highest → Counted FourLines lowest highest (counted (map four_line fs))
  unfolding counted
  fours_form fit low high = record {
    number = length fs;
    low = low;
    high = high;
    content = map four_line fs;
    form = record { fours = fs; fit = fit; number = refl; is = refl };
    is = ap (λ (n : ℕ). decimal_of (pos n) ∷ map four_line fs) (length-map fs four_line);
  }

-- one rectangle
pub record OneFour (fs : List Four) : Type 0 where
  pub f : Four
  pub fits : FourFits f
  pub is : fs ≡ f ∷ []

pub one_four : {fs : List Four} → AllFit fs → length fs ≡ 1 → OneFour fs
one_four nothing h = absurd (omega arith)
one_four (more {f = f} w nothing) h = record { f = f; fits = w; is = refl }
one_four (more w (more v a)) h = absurd (omega arith)
