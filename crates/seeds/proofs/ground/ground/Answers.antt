-- `seeds::ground::ground`: the states that the loop passed are those of their cells.
use native.Mathlib.Omega.{arith}
use Rattle.seeds.proofs.ground.ground.Goals as goal

pub overflow_mul-state : goal.overflow_mul-state
overflow_mul-state c = omega (arith, c.requires.1 c.loop-k.k)

pub returns : goal.returns
returns c = let l = c.loop-k in record { size = l.auto.states; entry = λ j h. l.invariant j (omega arith) }
