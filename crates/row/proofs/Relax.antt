-- A row from its two ways.
use Rattle.std.proofs.Common.{◌≡◌, ℕ, ◌+◌, ◌*◌, Bool, true, false, sym, ◌∙◌, ⊎_elim, add-mul, arith}
use Rattle.ways.specs.Row.{both_row, Tells, OutDone, BackDone, RowDone, changed, both, kept}
use Rattle.ways.specs.Buffers.{RowFits, BackFits}
use Rattle.lane.specs.Levels.{LaneCount}

pub two_strips : {lanes : ℕ} → LaneCount lanes → ¬ (lanes ≡ 8) → lanes ≡ 16
two_strips l n = ⊎_elim (λ e. absurd (n e)) (λ e. e) l

-- the way back over the cells of the way out
pub back_fits : {lanes first feeding count cells now bytes : ℕ} → RowFits lanes first feeding count cells bytes → now ≡ cells → BackFits lanes (first + count) count now bytes
back_fits {lanes} fits e = record { low = omega arith; own = rw e fits.own; flags = fits.flags }

module _ {lanes : ℕ} {flag : ℕ → ℕ} {down : Bool} {first feeding count : ℕ} {F G : ℕ → ℕ} {moved : Bool} (out : OutDone lanes flag down first feeding count F G moved) where
  -- the way back after the way out is both ways
  is_both : {H : ℕ → ℕ} {answer : Bool} → BackDone lanes flag (first + count) count G H answer → H ≡ both_row lanes flag down F (first * lanes) (feeding * lanes) first count
  unfolding both_row
  is_both back = back.levels ∙ rw (add-mul first count lanes, out.levels)

  pub relaxed_changed : {H : ℕ → ℕ} {fresh answer : Bool} → moved ≡ true → BackDone lanes flag (first + count) count G H answer → RowDone lanes flag down (first * lanes) (feeding * lanes) first count F H fresh true
  relaxed_changed e back = changed (rw out.levels at (out.tells.loud e)) (is_both back)

  pub relaxed_both : {H : ℕ → ℕ} {fresh answer : Bool} → moved ≡ false → fresh ≡ true → BackDone lanes flag (first + count) count G H answer → RowDone lanes flag down (first * lanes) (feeding * lanes) first count F H fresh answer
  relaxed_both {H} {fresh} {answer} e f back =
      let q = out.tells.quiet e in
      let t : Tells answer F H = rw q back.tells in
      rw f (both (q ∙ out.levels) (is_both back) t)

  pub relaxed_kept : {fresh : Bool} → moved ≡ false → fresh ≡ false → RowDone lanes flag down (first * lanes) (feeding * lanes) first count F G fresh false
  relaxed_kept e f = let q = out.tells.quiet e in rw f (kept (q ∙ out.levels) (sym q))
