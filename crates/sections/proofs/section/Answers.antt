-- `sections::section`: the count, and then the lines.
use mathlib.Core.Path.{◌≡◌}
use native.Mathlib.Omega.{arith}
use borrow.Author.Rules.{rules}
use Rattle.std.specs.Prelude.{◌+◌, Some, None, Ok, Err}
use Rattle.textlines.specs.declared.broken.Broken.{Broken}
use Rattle.roomlines.specs.Forms.{ReadsCount, count}
use Rattle.roomlines.specs.Answers.{count_found}
use Rattle.fourlines.specs.Answers.{lines_found}
use Rattle.sections.specs.Answers.{section_found}
use Rattle.sections.proofs.Sections.{section_none, section_fits, section_taken, section_breaks, broken_short}
use Rattle.sections.proofs.section.Goals.{In_ok-count}
use Rattle.sections.proofs.section.Goals as goal

pub returns-in_err-count : goal.returns-in_err-count
unfolding count_found section_found
returns-in_err-count c =
    let n : c.count_at-number.result ≡ None = search rules in
    let e : c.from_residual.result ≡ Err (record { passed = 0 }) = search rules in
    rw e (section_none c.requires.1 (rw n at c.count_at-number.ensures))

-- the count that was read
counted : (c : In_ok-count) → ReadsCount c.args.lowest c.args.highest c.args.text.now c.args.at (count c.in_ok-count.count c.in_ok-count.first)
unfolding count_found
counted c =
    let n : c.count_at-number.result ≡ Some (c.in_ok-count.count, c.in_ok-count.first) = search rules in
    rw n at c.count_at-number.ensures

pub fours-lines-requires : goal.fours-lines-requires
fours-lines-requires c = section_fits (counted (goal.at.fours-lines-requires c).In_ok-count) c.requires.0

pub map_err-requires : goal.map_err-requires
unfolding lines_found
map_err-requires c = λ e q _ _. let i = broken_short (counted (goal.at.map_err-requires c).In_ok-count) (rw q at c.fours-lines.ensures) in omega arith

pub returns-in_err-past : goal.returns-in_err-past
unfolding lines_found section_found
returns-in_err-past c =
    let f : (e : Broken) × (c.fours-lines.result ≡ Err e) × (c.in_err-past.field-0.0.passed ≡ e.passed + 1) = search rules in
    let e : c.from_residual-in_err-past.result ≡ Err c.in_err-past.field-0.0 = search rules in
    rw e (section_breaks (counted (goal.at.returns-in_err-past c).In_ok-count) {passed = f.0.passed} (rw f.1 at c.fours-lines.ensures) f.2)

pub returns : goal.returns
unfolding lines_found section_found
returns c =
    let n : c.fours-lines.result ≡ Ok c.in_ok-past.past = search rules in
    section_taken (counted (goal.at.returns c).In_ok-count) (rw n at c.fours-lines.ensures)
