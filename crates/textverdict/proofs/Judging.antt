-- The program's verdict on a text, in the order of its refusals, and that it is one.
use mathlib.Core.Path.{◌≡◌, refl, sym, ap, ◌∙◌}
use mathlib.Core.Bool.{Bool, true, false}
use mathlib.Core.List.{List}
use Prim.Native.Nat.{ℕ, ◌≤◌}
use native.Mathlib.Omega.{arith}
use lib.IntN.{ℤ}
use lib.ListN.{length, length-append}
use Rattle.decimal.proofs.Digits.{clash}
use Rattle.textlines.specs.Lines.{text_of}
use Rattle.roomlines.proofs.Parts.{text_long}
use Rattle.roomtext.specs.Readings.{RoomFound, room, broken_at, ReadsRoom, reads_room, breaks_at, RoomFits}
use Rattle.roomlimits.specs.Limits.{in_limits}
use Rattle.textverdict.specs.Verdicts.{Verdict, accepted, refused, JudgesText, too_many_bytes, breaks_form, too_large, accepts, TextFits}
use Rattle.roomtext.proofs.One.{breaks_one, taken_one}

-- ---- the verdict
pub room_fits : {text cells : List ℕ} {numbers : List ℤ} → length text ≤ 8192 → TextFits cells numbers → RoomFits text cells numbers
room_fits {text} h f = record { short = h; cells_long = omega (arith, f.cells_long); numbers_long = omega (arith, f.numbers_long) }

module _ {text cells-before cells-after : List ℕ} {numbers-before numbers_after : List ℤ} (h : length text ≤ 8192) where
  pub broken_text : {line told : ℕ} → ReadsRoom text cells-before cells-after numbers-before numbers_after (broken_at line) → told ≡ line → JudgesText text cells-before cells-after numbers-before numbers_after (refused 9 told)
  broken_text (breaks_at b) p = rw p (breaks_form h b)

  pub broken_line : {line : ℕ} → ReadsRoom text cells-before cells-after numbers-before numbers_after (broken_at line) → line ≤ 8193
  broken_line (breaks_at b) = omega (arith, b.number, text_long b.first, ap length b.split, length-append (text_of b.first) b.rest)

  module _ {width height blockers resources : ℕ} where
    pub large_text : ReadsRoom text cells-before cells-after numbers-before numbers_after (room width height blockers resources) → in_limits width height blockers resources ≡ false → JudgesText text cells-before cells-after numbers-before numbers_after (refused 10 0)
    large_text (reads_room t) e = too_large h t e

    pub good_text : ReadsRoom text cells-before cells-after numbers-before numbers_after (room width height blockers resources) → in_limits width height blockers resources ≡ true → JudgesText text cells-before cells-after numbers-before numbers_after (accepted width height blockers resources)
    good_text (reads_room t) e = accepts h t e

-- ---- one verdict for each text
limits_of : RoomFound → Bool
limits_of (room width height blockers resources) = in_limits width height blockers resources
limits_of (broken_at line) = false

verdict_for : RoomFound → Verdict
verdict_for (room width height blockers resources) = accepted width height blockers resources
verdict_for (broken_at line) = refused 9 line

module _ {text cells-before cells-after cells-other : List ℕ} {numbers-before numbers_after numbers-other : List ℤ} where
  pub verdict_one : {verdict other : Verdict} → JudgesText text cells-before cells-after numbers-before numbers_after verdict → JudgesText text cells-before cells-other numbers-before numbers-other other → verdict ≡ other
  unfolding limits_of verdict_for
  verdict_one (too_many_bytes h p q) (too_many_bytes i r s) = refl
  verdict_one (too_many_bytes h p q) (breaks_form i b) = absurd (omega arith)
  verdict_one (too_many_bytes h p q) (too_large i t e) = refl
  verdict_one (too_many_bytes h p q) (accepts i t e) = absurd (omega arith)
  verdict_one (breaks_form h b) (too_many_bytes i p q) = absurd (omega arith)
  verdict_one (breaks_form h b) (breaks_form i d) = ap (refused 9) (breaks_one b d)
  verdict_one (breaks_form h b) (too_large i t e) = absurd (b.unfinished t.is t.formed t.text_is)
  verdict_one (breaks_form h b) (accepts i t e) = absurd (b.unfinished t.is t.formed t.text_is)
  verdict_one (too_large h t e) (too_many_bytes i p q) = refl
  verdict_one (too_large h t e) (breaks_form i b) = absurd (b.unfinished t.is t.formed t.text_is)
  verdict_one (too_large h t e) (too_large i u f) = refl
  verdict_one (too_large h t e) (accepts i u f) = absurd (clash (sym f ∙ sym (ap limits_of (taken_one t u).0) ∙ e))
  verdict_one (accepts h t e) (too_many_bytes i p q) = absurd (omega arith)
  verdict_one (accepts h t e) (breaks_form i b) = absurd (b.unfinished t.is t.formed t.text_is)
  verdict_one (accepts h t e) (too_large i u f) = absurd (clash (sym e ∙ ap limits_of (taken_one t u).0 ∙ f))
  verdict_one (accepts h t e) (accepts i u f) = ap verdict_for (taken_one t u).0
