-- `rectangles::tail`: the blockers, and then the resources and the targets.
use mathlib.Core.Path.{◌≡◌}
use native.Mathlib.Omega.{arith}
use borrow.Author.Rules.{rules}
use Rattle.std.specs.Prelude.{◌+◌, Ok, Err}
use Rattle.textlines.specs.declared.broken.Broken.{Broken}
use Rattle.sections.specs.Storing.{SectionTaken}
use Rattle.sections.specs.Answers.{section_found}
use Rattle.rectangles.specs.Answers.{end_found, tail_found}
use Rattle.rectangles.proofs.Taken.{in_limits_lem, section_taken, fits_after, end_short, tail_none, tail_breaks, tail_taken}
use Rattle.rectangles.proofs.tail.Goals.{In_ok-blockers}
use Rattle.rectangles.proofs.tail.Goals as goal

pub returns-in_err-blockers : goal.returns-in_err-blockers
unfolding section_found tail_found
returns-in_err-blockers c =
    let e : c.from_residual.result ≡ Err c.in_err-blockers.field-0.0 = search rules in
    rw e (tail_none (in_limits_lem (rw c.in_err-blockers.was at c.section.ensures) (omega arith) (omega arith)))

-- the blockers that were read
first : (c : In_ok-blockers) → SectionTaken 0 2147483647 c.args.text.now c.args.at 0 c.args.numbers.now c.section.new.numbers c.in_ok-blockers.blockers c.in_ok-blockers.from
unfolding section_found
first c = section_taken (in_limits_lem (rw c.in_ok-blockers.was at c.section.ensures) (omega arith) (omega arith))

pub overflow_mul-blockers : goal.overflow_mul-blockers
overflow_mul-blockers c = let i = (first (goal.at.overflow_mul-blockers c).In_ok-blockers).high in search rules

pub end-rest-requires : goal.end-rest-requires
end-rest-requires c = fits_after (first (goal.at.end-rest-requires c).In_ok-blockers) c.requires (omega arith)

pub map_err-requires : goal.map_err-requires
unfolding end_found
map_err-requires c =
    let i = (first (goal.at.map_err-requires c).In_ok-blockers).high in
    λ e q. let j = end_short (rw q at c.end-rest.ensures) in (λ _ _ _ _. omega arith, λ _ _ _ _ _. omega arith)

pub returns-in_err-resources : goal.returns-in_err-resources
unfolding end_found tail_found
returns-in_err-resources c =
    let f : (e : Broken) × (c.end-rest.result ≡ Err e) × (c.in_err-resources.field-0.0.passed ≡ e.passed + (c.in_ok-blockers.blockers + 1)) = search rules in
    let e : c.from_residual-in_err-resources.result ≡ Err c.in_err-resources.field-0.0 = search rules in
    let i = f.2 in
    rw e (tail_breaks (first (goal.at.returns-in_err-resources c).In_ok-blockers) {passed = f.0.passed} (rw f.1 at c.end-rest.ensures) (omega (arith, i)))

pub returns : goal.returns
unfolding end_found tail_found
returns c =
    let e : c.end-rest.result ≡ Ok (c.in_ok-resources.resources, c.in_ok-resources.past) = search rules in
    tail_taken (first (goal.at.returns c).In_ok-blockers) (rw e at c.end-rest.ensures) (omega arith)
