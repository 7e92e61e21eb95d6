-- No two answers of the fields call have the same meaning.
use mathlib.Core.Path.{◌≡◌, refl}
use Prim.Native.Nat.{ℕ}
use Rattle.std.proofs.Common.{Result, Ok, Err}
use Rattle.refusal.specs.declared.Refusal.{Refusal}
use Rattle.refusal.specs.Table.{number_of, place_of}
use Rattle.refusal.proofs.Rows.{same_refusal}
use Rattle.countanswer.specs.Answers.{joined_of}

pub same_answer : (a b : Result ℕ Refusal) → joined_of a ≡ joined_of b → a ≡ b
unfolding joined_of
same_answer (Err r) (Err s) e =
    let same_number : number_of r ≡ number_of s = cc in
    let same_place : place_of r ≡ place_of s = cc in
    rw (same_refusal r s same_number same_place) refl
same_answer (Err r) (Ok count) e = absurd (cc)
same_answer (Ok count) (Err s) e = absurd (cc)
same_answer (Ok count) (Ok count') e = let same_count : count ≡ count' = cc in rw same_count refl
