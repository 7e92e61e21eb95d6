-- `textverdict::read`: the bytes, the form, and then the other limits.
use mathlib.Core.Path.{◌≡◌, refl, sym, ◌∙◌}
use native.Mathlib.Omega.{arith}
use borrow.Author.Rules.{rules}
use Rattle.std.specs.Prelude.{◌+◌, Ok, Err}
use Rattle.refusal.specs.declared.Refusal.TheVariants.{Text}
use Rattle.textlines.specs.declared.broken.Broken.{Broken}
use Rattle.roomtext.specs.Readings.{ReadsRoom, room}
use Rattle.roomtext.specs.Answers.{room_found}
use Rattle.textverdict.specs.Verdicts.{too_many_bytes}
use Rattle.textverdict.specs.Answers.{verdict_of}
use Rattle.textverdict.proofs.Judging.{room_fits, broken_text, broken_line, large_text, good_text}
use Rattle.textverdict.proofs.read.Goals.{In_ok-size}
use Rattle.textverdict.proofs.read.Goals as goal

pub returns-then-text-gt8192 : goal.returns-then-text-gt8192
unfolding verdict_of
returns-then-text-gt8192 c = too_many_bytes c.if-text-gt8192.true refl refl

pub room-room-requires : goal.room-room-requires
room-room-requires c = room_fits c.if-text-gt8192.false c.requires

pub map_err-requires : goal.map_err-requires
unfolding room_found
map_err-requires c = λ e q _ _. let i = broken_line c.if-text-gt8192.false (rw q at c.room-room.ensures) in omega (arith, i)

pub returns-in_err-size : goal.returns-in_err-size
unfolding room_found verdict_of
returns-in_err-size c =
    let f : (e : Broken) × (line : _) × (c.room-room.result ≡ Err e) × (c.in_err-size.field-0.0 ≡ Text line) × (line ≡ e.passed + 1) = search rules in
    let e : c.from_residual.result ≡ Err c.in_err-size.field-0.0 = search rules in
    rw (e, f.3) (broken_text c.if-text-gt8192.false {line = f.0.passed + 1} {told = f.1} (rw f.2 at c.room-room.ensures) f.4)

-- the room that was read
read : (c : In_ok-size) → ReadsRoom c.args.text.now c.args.cells.now c.room-room.new.cells c.args.numbers.now c.room-room.new.numbers (room c.in_ok-size.size.width c.in_ok-size.size.height c.in_ok-size.size.blockers c.in_ok-size.size.resources)
unfolding room_found
read c =
    let e : c.room-room.result ≡ Ok c.in_ok-size.size = search rules in
    rw e at c.room-room.ensures

pub returns-then-not-in_limits : goal.returns-then-not-in_limits
unfolding verdict_of
returns-then-not-in_limits c = large_text c.if-text-gt8192.false (read (goal.at.returns-then-not-in_limits c).In_ok-size) (sym c.in_limits.ensures ∙ c.if-not-in_limits.true)

pub returns : goal.returns
unfolding verdict_of
returns c = good_text c.if-text-gt8192.false (read (goal.at.returns c).In_ok-size) (sym c.in_limits.ensures ∙ c.if-not-in_limits.false)
