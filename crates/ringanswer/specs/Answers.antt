-- What is answered once the ring is found.
use Rattle.std.specs.Prelude.{List, ◌++◌, ℕ, ◌≤◌, ◌<◌, length, drop, Result, Ok, Err}
use Rattle.refusal.specs.declared.Refusal.{Refusal}
use Rattle.refusal.specs.declared.Refusal.TheVariants.{Scratch}

-- 7 SCRATCH: "a lent buffer is shorter than needed"; else the places are listed, and entries past them stay
pub data RingListed (places before : List ℕ) : List ℕ → Result ℕ Refusal → Type 0 where
  short : length before < length places → RingListed places before before (Err Scratch)
  fits : length places ≤ length before → RingListed places before (places ++ drop (length places) before) (Ok (length places))
