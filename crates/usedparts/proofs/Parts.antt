-- A used part that is lent on and comes back: the entries past it stay.
use mathlib.Core.Path.{◌≡◌, ◌∙◌, ap}
use mathlib.Core.List.{List, ◌++◌}
use Prim.Native.Nat.{ℕ, ◌+◌, ◌-◌, ◌≤◌, ◌<◌}
use native.Mathlib.Omega.{arith}
use lib.ListN.{get_or, length, drop, length-append, length-drop, get_or-append}
use lib.Seq.{get_or-drop, get_or-append-add}
use Rattle.walkgraph.specs.Links.{Numbered}
use Rattle.walkgraph.specs.Buffers.{UsedPart}
use Rattle.walkgraph.specs.FieldsPromise.{JoinInput, LinkedBy, AnswersAre}
use Rattle.zeros.specs.Zeros.{Zero}

-- the buffer is as long as it was
module _ (n : ℕ) (before part : List ℕ) (fits : n ≤ length before) (long : length (part ++ drop n before) ≡ length before) where
  abbrev after : List ℕ
  after = part ++ drop n before

  part_long : length part ≡ n
  part_long = omega (arith, long, length-append part (drop n before), length-drop n before)

  part_front : (j : ℕ) → j < n → get_or after j 0 ≡ get_or part j 0
  part_front j h = get_or-append part (drop n before) 0 j (omega (arith, part_long))

  part_past : (j : ℕ) → n ≤ j → get_or after j 0 ≡ get_or before j 0
  part_past j h =
      let e : j ≡ length part + (j - n) = omega (arith, part_long) in
      let f : n + (j - n) ≡ j = omega arith in
      ap (λ (k : ℕ). get_or after k 0) e ∙ get_or-append-add part (drop n before) (j - n) 0 ∙ get_or-drop n before (j - n) 0 ∙ ap (λ (k : ℕ). get_or before k 0) f

  -- a part of zeros
  pub zero_part : Zero part → UsedPart n (λ j. 0) before after
  zero_part z = record { long = long; entries = λ j h. part_front j h ∙ z j; stay = part_past }

  -- a part of numbers
  pub number_part : {Link : ℕ → ℕ → Type 0} → Numbered Link n (λ r. get_or part r 0) → Numbered Link n (λ r. get_or after r 0)
  number_part p =
      record {
        same = λ r s h l e. p.same r s h l (omega (arith, e, part_front r h, part_front s l));
        only = λ r s h l j. omega (arith, p.only r s h l j, part_front r h, part_front s l);
        new = λ r h a k l.
            let t = p.new r h a k (omega (arith, part_front r h)) in
            (t.0, t.1, part_front t.0 (omega (arith, t.1)) ∙ t.2);
        high = λ r h a s l. omega (arith, p.high r h a s l, part_front r h, part_front s (omega arith));
      }

-- the answers: a number for each resource
pub answers_part : (i : JoinInput) (before part : List ℕ) {count : ℕ} → length i.ends ≤ length before → length (part ++ drop (length i.ends) before) ≡ length before →
    Numbered (LinkedBy i) (length i.ends) (λ r. get_or part r 0) → ((r : ℕ) → r < length i.ends → get_or part r 0 < count) →
    ((k : ℕ) → k < count → (r : ℕ) × (r < length i.ends) × (get_or part r 0 ≡ k)) → AnswersAre i before (part ++ drop (length i.ends) before) count
answers_part i before part fits long p below used =
    let n = length i.ends in
    let front = part_front n before part fits long in
    record {
      long = long;
      numbered = number_part n before part fits long p;
      below = λ r h. omega (arith, below r h, front r h);
      used = λ k h. let t = used k h in (t.0, t.1, front t.0 t.1 ∙ t.2);
      stay = part_past n before part fits long;
    }
