-- There are no more fields than resources: a field's number is at most that of its smallest member.
use mathlib.Core.List.{List}
use Prim.Native.Nat.{ℕ, zero, suc, ◌/◌, ◌≤◌, ◌<◌}
use native.Mathlib.Omega.{arith}
use native.Mathlib.Decide.{dec_le}
use lib.IntN.{ℤ}
use lib.ListN.{length}
use Rattle.walkgraph.specs.Links.{Numbered}
use Rattle.walkgraph.specs.FieldsPromise.{JoinInput, JoinLent, AnswersAre, FieldsPromise, joined, joins}
use Rattle.walkgraph.proofs.Tests.{by_cases}
use Rattle.walkgraph.proofs.Numbering.{seek}
use Rattle.accesslists.proofs.JoinLists.{ends_count}
use Rattle.groups.specs.Groups.{zero_lists, Grouped}

module _ {Link : ℕ → ℕ → Type 0} {n : ℕ} {f : ℕ → ℕ} (numbers : Numbered Link n f) where
  -- a resource's number is at most its place, if that holds of all before it
  step : (r : ℕ) → r < n → ((s : ℕ) → s < r → f s ≤ s) → f r ≤ r
  step r h earlier =
      by_cases (seek f (f r) r)
      (λ j. omega (arith, j.1, j.2, earlier j.0 j.1))
      (λ none.
      by_cases (dec_le (f r) r) (λ k. k)
      (λ more.
      let t = numbers.new r h (λ s i linked. none (s, i, numbers.only s r (omega (arith, i, h)) h linked)) r (omega (arith, more)) in
      absurd (omega (arith, t.1, t.2, earlier t.0 t.1))))

  at_most : (bound r : ℕ) → r < bound → r < n → f r ≤ r
  at_most zero r i h = absurd (omega (arith, i))
  at_most (suc bound) r i h = step r h (λ s j. at_most bound s (omega (arith, i, j)) (omega (arith, j, h)))

answers_few : {i : JoinInput} {before after : List ℕ} {count : ℕ} → AnswersAre i before after count → count ≤ length i.ends
answers_few {count = zero} a = omega arith
answers_few {count = suc k} a =
    let t = a.used k (omega arith) in
    omega (arith, t.1, t.2, at_most a.numbered (suc t.0) t.0 (omega arith) t.1)

fields_few : {i : JoinInput} {before after : JoinLent} {count : ℕ} → FieldsPromise i before after (joined count) → count ≤ length i.ends
fields_few (joins ok made) = answers_few made.answers

pub groups_few : {w h : ℕ} {cells : List ℕ} {l : List ℤ} {before after : List ℕ} {groups : ℕ} → Grouped w h cells l before after groups → groups ≤ length l / 4
groups_few {w} {h} {cells} {l} g = omega (arith, fields_few g.joins.promise, ends_count w h cells l zero_lists g.promise)
