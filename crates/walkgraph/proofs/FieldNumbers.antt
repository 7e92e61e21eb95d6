-- The numbers of the fields and their count are determined.
use mathlib.Core.Path.{◌≡◌, sym, ◌∙◌}
use mathlib.Core.List.{List}
use Prim.Native.Nat.{ℕ, suc, ◌≤◌}
use native.Mathlib.Omega.{arith}
use native.Mathlib.Decide.{dec_le}
use lib.ListN.{get_or, length}
use lib.Seq.{ext_get_or}
use Rattle.walkgraph.specs.FieldsPromise.{JoinInput, AnswersAre}
use Rattle.walkgraph.proofs.Tests.{by_cases}
use Rattle.walkgraph.proofs.Numbering.{numbered_one}

module _ {i : JoinInput} {b d e : List ℕ} {j k : ℕ} (p : AnswersAre i b d j) (q : AnswersAre i b e k) where
  -- a number below the one count is below the other
  pub count_le : k ≤ j
  count_le =
      by_cases (dec_le k j) (λ h. h)
      (λ h.
      let t = q.used j (omega arith) in
      absurd (omega (arith, t.2, p.below t.0 t.1, numbered_one p.numbered q.numbered t.0 t.1)))

  pub answers_one : d ≡ e
  answers_one = ext_get_or 0 d e (p.long ∙ sym q.long) (λ r h. same r)
    where
      same : (r : ℕ) → get_or d r 0 ≡ get_or e r 0
      same r =
          by_cases (dec_le (suc r) (length i.ends))
          (λ h. numbered_one p.numbered q.numbered r h)
          (λ h. p.stay r (omega arith) ∙ sym (q.stay r (omega arith)))
