-- The promise of the fields call determines its answer and its buffers.
use mathlib.Core.Path.{◌≡◌, refl, ap}
use Prim.Native.Nat.{ℕ}
use native.Mathlib.Omega.{arith}
use Rattle.walkgraph.specs.FieldsPromise.{JoinInput, JoinLent, JoinAnswer, joined, FieldsMade, FieldsPromise, refuses, joins}
use Rattle.walkgraph.proofs.FieldNumbers.{count_le, answers_one}
use Rattle.walklaws.proofs.FieldCall.{used_one}
use Rattle.walklaws.proofs.Promises.{clash, same_number}

joined_one : {i : JoinInput} {b d e : JoinLent} {j k : ℕ} → FieldsMade i b d j → FieldsMade i b e k → (d ≡ e) × (j ≡ k)
joined_one p q =
    let f₁ = used_one p.states q.states in
    let f₂ = used_one p.queue q.queue in
    let f₃ = used_one p.parents q.parents in
    let f₄ = used_one p.ranks q.ranks in
    let f₅ = answers_one p.answers q.answers in
    (λ i. record { states = f₁ i; queue = f₂ i; parents = f₃ i; ranks = f₄ i; answers = f₅ i }, omega (arith, count_le p.answers q.answers, count_le q.answers p.answers))

-- ---- no two different results
pub fields_one : (i : JoinInput) (before : JoinLent) {d e : JoinLent} {a b : JoinAnswer} → FieldsPromise i before d a → FieldsPromise i before e b → (d ≡ e) × (a ≡ b)
fields_one i before (refuses p) (refuses q) = let s = same_number p q in (refl, rw (s.0, s.1) refl)
fields_one i before (refuses p) (joins q g) = clash p q
fields_one i before (joins p f) (refuses q) = clash q p
fields_one i before (joins p f) (joins q g) = let s = joined_one f g in (s.0, ap joined s.1)
