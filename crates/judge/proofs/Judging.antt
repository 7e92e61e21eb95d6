-- Tests in order: what a call finds by one of them, and what follows a run of them.
use mathlib.Core.Path.{◌≡◌, refl, sym, ◌∙◌}
use mathlib.Core.Bool.{Bool, true, false, not}
use Prim.Native.Nat.{ℕ}
use native.Mathlib.Omega.{arith}
use borrow.Author.Tests.{not-true, not-false}
use Rattle.walkgraph.specs.Refusals.{Verdict, accepted, refused, judge}

-- ---- one test: refused where it holds, decided by the rest where it does not
pub refuses : {bad : Bool} {number place : ℕ} (next : Verdict) → bad ≡ true → refused number place ≡ judge bad number place next
unfolding judge
refuses next e = rw e

pub passes : {bad : Bool} (number place : ℕ) {v next : Verdict} → bad ≡ false → v ≡ next → v ≡ judge bad number place next
unfolding judge
passes number place e f = rw e f

-- what a call finds by `if !ok`
module _ {ok bad : Bool} (e : ok ≡ not bad) where
  pub found_bad : not ok ≡ true → bad ≡ true
  found_bad t = not-false bad (sym e ∙ not-true ok t)

  pub found_good : not ok ≡ false → bad ≡ false
  found_good t = not-true bad (sym e ∙ not-false ok t)

apart : {number place : ℕ} → accepted ≡ refused number place → ⊥
apart e = let z : ◌≡◌ {A = ℕ} 0 1 = cc in omega arith

pub accepted_parts : (bad : Bool) (number place : ℕ) (next : Verdict) → judge bad number place next ≡ accepted → (bad ≡ false) × (next ≡ accepted)
unfolding judge
accepted_parts true number place next e = absurd (apart (sym e))
accepted_parts false number place next e = (refl, e)

-- ---- tests in order: where none of them holds, what comes next decides; where one does, it is the verdict
pub record Before (tests : Verdict → Verdict) : Type 0 where
  pub accepts : tests accepted ≡ accepted → (next : Verdict) → tests next ≡ next
  pub refuses : {number place : ℕ} → tests accepted ≡ refused number place → (next : Verdict) → tests next ≡ refused number place

pub no_tests : Before (λ next. next)
no_tests = record { accepts = λ e next. refl; refuses = λ e next. absurd (apart e) }

pub one_test : (bad : Bool) (number place : ℕ) (tests : Verdict → Verdict) → Before tests → Before (λ next. judge bad number place (tests next))
unfolding judge
one_test true number place tests b = record { accepts = λ e next. absurd (apart (sym e)); refuses = λ e next. e }
one_test false number place tests b = record { accepts = λ e next. b.accepts e next; refuses = λ e next. b.refuses e next }
