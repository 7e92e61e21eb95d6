-- The fields call's promise determines its answer as the code gives it.
use mathlib.Core.Path.{◌≡◌}
use Rattle.walkgraph.specs.FieldsPromise.{JoinInput, JoinLent, FieldsPromise}
use Rattle.walklaws.proofs.FieldsCall.{fields_one}
use Prim.Native.Nat.{ℕ}
use Rattle.std.proofs.Common.{Result}
use Rattle.refusal.specs.declared.Refusal.{Refusal}
use Rattle.countanswer.specs.Answers.{joined_of}
use Rattle.countanswer.proofs.Answers.{same_answer}

-- no two results of a fields call meet its promise: the five buffers are equal, and so are the answers
pub call_once : (i : JoinInput) (before : JoinLent) {d e : JoinLent} {a b : Result ℕ Refusal} → FieldsPromise i before d (joined_of a) → FieldsPromise i before e (joined_of b) → (d ≡ e) × (a ≡ b)
call_once i before {a = a} {b = b} p q = let same = fields_one i before p q in (same.0, same_answer a b same.1)
