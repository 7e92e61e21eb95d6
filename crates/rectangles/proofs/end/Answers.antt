-- `rectangles::end`: the resources, and then the targets, whose count is 1.
use mathlib.Core.Path.{◌≡◌, refl}
use native.Mathlib.Omega.{arith}
use borrow.Author.Rules.{rules}
use Rattle.std.specs.Prelude.{◌+◌, Ok, Err}
use Rattle.textlines.specs.declared.broken.Broken.{Broken}
use Rattle.sections.specs.Storing.{section_broken, SectionTaken}
use Rattle.sections.specs.Answers.{section_found}
use Rattle.rectangles.specs.Answers.{end_found}
use Rattle.rectangles.proofs.Taken.{in_limits_lem, section_taken, section_short, fits_after, end_none, end_breaks, end_taken}
use Rattle.rectangles.proofs.end.Goals.{In_ok-resources}
use Rattle.rectangles.proofs.end.Goals as goal

pub returns-in_err-resources : goal.returns-in_err-resources
unfolding section_found end_found
returns-in_err-resources c =
    let e : c.from_residual.result ≡ Err c.in_err-resources.field-0.0 = search rules in
    rw e (end_none (in_limits_lem (rw c.in_err-resources.was at c.section.ensures) (omega arith) (omega arith)))

-- the resources that were read
first : (c : In_ok-resources) → SectionTaken 0 2147483647 c.args.text.now c.args.at c.args.place c.args.numbers.now c.section.new.numbers c.in_ok-resources.resources c.in_ok-resources.from
unfolding section_found
first c = section_taken (in_limits_lem (rw c.in_ok-resources.was at c.section.ensures) (omega arith) (omega arith))

pub overflow_mul-resources : goal.overflow_mul-resources
overflow_mul-resources c = let i = (first (goal.at.overflow_mul-resources c).In_ok-resources).high in search rules

pub overflow_add-place : goal.overflow_add-place
overflow_add-place c = let f = fits_after (first (goal.at.overflow_add-place c).In_ok-resources) c.requires refl in let i = f.behind in let j = f.inside in search rules

pub section-targets-requires : goal.section-targets-requires
section-targets-requires c = (fits_after (first (goal.at.section-targets-requires c).In_ok-resources) c.requires (omega arith), omega arith, omega arith)

pub map_err-requires : goal.map_err-requires
unfolding section_found
map_err-requires c =
    let i = (first (goal.at.map_err-requires c).In_ok-resources).high in
    λ e q. let j = section_short (rw q at c.section-targets.ensures) in (λ _ _ _ _. omega arith, λ _ _ _ _ _. omega arith)

pub returns-in_err-past : goal.returns-in_err-past
unfolding section_found end_found
returns-in_err-past c =
    let f : (e : Broken) × (c.section-targets.result ≡ Err e) × (c.in_err-past.field-0.0.passed ≡ e.passed + (c.in_ok-resources.resources + 1)) = search rules in
    let e : c.from_residual-in_err-past.result ≡ Err c.in_err-past.field-0.0 = search rules in
    let i = f.2 in
    rw e (end_breaks (first (goal.at.returns-in_err-past c).In_ok-resources) {passed = f.0.passed} (in_limits_lem {found = section_broken f.0.passed} (rw f.1 at c.section-targets.ensures) (omega arith) (omega arith)) (omega (arith, i)))

pub returns : goal.returns
unfolding section_found end_found
returns c =
    let e : (targets : _) × (c.section-targets.result ≡ Ok (targets, c.in_ok-past.past)) = search rules in
    end_taken (first (goal.at.returns c).In_ok-resources) (in_limits_lem (rw e.1 at c.section-targets.ensures) (omega arith) (omega arith)) (omega arith)
