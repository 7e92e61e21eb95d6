-- `roomtext::room`: the rows, the rectangles, and nothing after them.
use mathlib.Core.Path.{◌≡◌, sym, ◌∙◌}
use native.Mathlib.Omega.{arith}
use borrow.Author.Rules.{rules}
use borrow.Author.Tests.{ltb-true, ltb-false}
use Rattle.std.specs.Prelude.{◌+◌, Ok, Err}
use Rattle.textlines.specs.declared.broken.Broken.{Broken}
use Rattle.roomgrid.specs.Grids.{GridTaken}
use Rattle.roomgrid.specs.Answers.{grid_found}
use Rattle.rectangles.specs.Readings.{TailTaken}
use Rattle.rectangles.specs.Answers.{tail_found}
use Rattle.roomtext.specs.Answers.{room_found}
use Rattle.roomtext.proofs.Read.{room_none, grid_taken, tail_short, tail_taken_of, numbers_fit, room_stops, room_few, room_read, room_goes_on}
use Rattle.roomtext.proofs.room.Goals.{In_ok-map, In_ok-counts}
use Rattle.roomtext.proofs.room.Goals as goal

pub returns-in_err-map : goal.returns-in_err-map
unfolding grid_found room_found
returns-in_err-map c =
    let e : c.from_residual.result ≡ Err c.in_err-map.field-0.0 = search rules in
    rw e (room_none (rw c.in_err-map.was at c.grid.ensures) (omega arith))

-- the rows that were read
map_read : (c : In_ok-map) → GridTaken c.args.text.now 0 c.args.cells.now c.grid.new.cells c.in_ok-map.map.width c.in_ok-map.map.height c.in_ok-map.map.past
unfolding grid_found
map_read c = grid_taken (rw c.in_ok-map.was at c.grid.ensures)

pub tail-rest-requires : goal.tail-rest-requires
tail-rest-requires c = numbers_fit c.requires (map_read (goal.at.tail-rest-requires c).In_ok-map)

pub map_err-requires : goal.map_err-requires
unfolding tail_found
map_err-requires c =
    let i = (map_read (goal.at.map_err-requires c).In_ok-map).high in
    let k = c.requires.short in
    λ e q. let j = tail_short (rw q at c.tail-rest.ensures) in (λ _ _ _ _. omega (arith, i), λ _ _ _ _ _. omega (arith, i, j, k))

pub returns-in_err-counts : goal.returns-in_err-counts
unfolding tail_found room_found
returns-in_err-counts c =
    let f : (e : Broken) × (c.tail-rest.result ≡ Err e) × (c.in_err-counts.field-0.0.passed ≡ e.passed + (c.in_ok-map.map.height + 1)) = search rules in
    let e : c.from_residual-in_err-counts.result ≡ Err c.in_err-counts.field-0.0 = search rules in
    let i = f.2 in
    rw e (room_stops (map_read (goal.at.returns-in_err-counts c).In_ok-map) {passed = f.0.passed} (rw f.1 at c.tail-rest.ensures) (omega (arith, i)))

-- the rectangles that were read
rest_read : (c : In_ok-counts) → TailTaken c.args.text.now c.in_ok-map.map.past c.args.numbers.now c.tail-rest.new.numbers c.in_ok-counts.counts.blockers c.in_ok-counts.counts.resources c.in_ok-counts.counts.past
unfolding tail_found
rest_read c =
    let e : c.tail-rest.result ≡ Ok c.in_ok-counts.counts = search rules in
    tail_taken_of (rw e at c.tail-rest.ensures)

pub overflow_add-result : goal.overflow_add-result
overflow_add-result c = let f = room_few (map_read (goal.at.overflow_add-result c).In_ok-map) (rest_read (goal.at.overflow_add-result c).In_ok-counts) in omega (arith, f)

pub overflow_add-result-then-goes_on : goal.overflow_add-result-then-goes_on
overflow_add-result-then-goes_on c = let f = room_few (map_read (goal.at.overflow_add-result-then-goes_on c).In_ok-map) (rest_read (goal.at.overflow_add-result-then-goes_on c).In_ok-counts) in omega (arith, f)

pub overflow_add-result-then-goes_on-2 : goal.overflow_add-result-then-goes_on-2
overflow_add-result-then-goes_on-2 c = let f = room_few (map_read (goal.at.overflow_add-result-then-goes_on-2 c).In_ok-map) (rest_read (goal.at.overflow_add-result-then-goes_on-2 c).In_ok-counts) in omega (arith, f)

pub returns-then-goes_on : goal.returns-then-goes_on
unfolding room_found
returns-then-goes_on c = room_goes_on (map_read (goal.at.returns-then-goes_on c).In_ok-map) (rest_read (goal.at.returns-then-goes_on c).In_ok-counts) (ltb-true _ _ (sym c.goes_on.ensures ∙ c.if-goes_on.true)) (omega arith)

pub returns : goal.returns
unfolding room_found
returns c = room_read (map_read (goal.at.returns c).In_ok-map) (rest_read (goal.at.returns c).In_ok-counts) (ltb-false _ _ (sym c.goes_on.ensures ∙ c.if-goes_on.false))
