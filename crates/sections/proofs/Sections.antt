-- A section of rectangles after its count.
use mathlib.Core.Path.{◌≡◌, ◌∙◌}
use mathlib.Core.List.{List}
use Prim.Native.Nat.{ℕ, ◌+◌, ◌≤◌}
use native.Mathlib.Omega.{arith}
use lib.IntN.{ℤ, pos}
use lib.ListN.{length, drop, length-drop}
use Rattle.decimal.specs.Numbers.{decimal_of}
use Rattle.roomlines.specs.Forms.{count, no_count, ReadsCount, refuses_count}
use Rattle.roomlines.proofs.Counting.{one_line}
use Rattle.roomlines.proofs.Counted.{lines_append, lines_past, breaks_short, count_broken, counted_broken, count_most, count_line, count_least}
use Rattle.fourlines.specs.Storing.{BufferFits, up_to, broken, TakesFours, takes_fours, breaks_fours}
use Rattle.fourlines.proofs.Stored.{some_fours}
use Rattle.sections.specs.Storing.{section, section_broken, TakesSection, takes_section, breaks_section}

module _ {lowest highest : ℕ} {text : List ℕ} {at : ℕ} where
  pub section_none : {place : ℕ} {before after : List ℤ} → lowest ≤ highest → ReadsCount lowest highest text at no_count → TakesSection lowest highest text at place before after (section_broken 0)
  section_none h (refuses_count none) = breaks_section (count_broken _ h (some_fours lowest) none)

  module _ {n first : ℕ} (r : ReadsCount lowest highest text at (count n first)) where
    pub section_fits : {numbers : List ℤ} {place : ℕ} → BufferFits text at numbers place → BufferFits text first numbers place
    section_fits b = let i = b.inside in record { inside = (count_line r).inside; behind = omega (arith, b.behind, lines_past (count_line r) i); long = b.long }

    pub section_taken : {place past : ℕ} {before after : List ℤ} → TakesFours text first n place before after (up_to past) → TakesSection lowest highest text at place before after (section n past)
    section_taken (takes_fours t) = takes_section (record { fours = t.fours; fit = t.fit; number = t.number; low = count_least r; high = count_most r; lines = lines_append (count_line r) t.lines; stored = t.stored })

    pub section_breaks : {place passed line : ℕ} {before after : List ℤ} → TakesFours text first n place before after (broken passed) → line ≡ passed + 1 → TakesSection lowest highest text at place before after (section_broken line)
    section_breaks (breaks_fours b) e = rw e (breaks_section (counted_broken n (count_least r) (count_most r) ((count_line r).stands ∙ one_line (decimal_of (pos n)) (drop first text)) b))

    pub broken_short : {place passed : ℕ} {before after : List ℤ} → TakesFours text first n place before after (broken passed) → passed ≤ length text
    broken_short (breaks_fours b) = omega (arith, breaks_short b, length-drop first text)
