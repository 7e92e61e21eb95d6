-- A room's resources have one number of fields, and one answer each.
use mathlib.Core.Path.{◌≡◌, sym, ap, ◌∙◌}
use mathlib.Core.List.{List}
use Prim.Native.Nat.{ℕ}
use lib.IntN.{ℤ}
use Rattle.walkgraph.specs.FieldsPromise.{JoinInput, JoinLent}
use Rattle.walklaws.proofs.FieldsCall.{fields_one}
use Rattle.accesslists.specs.JoinLists.{join_input}
use Rattle.listspromise.proofs.AccessListsCall.{access_lists_one}
use Rattle.groups.specs.Groups.{zero_lists, zero_join, Joins, Grouped}

module _ {input : JoinInput} {before d e : List ℕ} {j k : ℕ} (p : Joins input before d j) (q : Joins input before e k) where
  joins_one : (d ≡ e) × (j ≡ k)
  joins_one =
      let same = fields_one input (zero_join before) p.promise q.promise in
      let counts : j ≡ k = let f = same.1 in cc in
      (sym p.answers ∙ ap (λ (l : JoinLent). l.answers) same.0 ∙ q.answers, counts)

module _ {w h : ℕ} {cells : List ℕ} {l : List ℤ} {before d e : List ℕ} {j k : ℕ} (p : Grouped w h cells l before d j) (q : Grouped w h cells l before e k) where
  pub groups_one : (d ≡ e) × (j ≡ k)
  groups_one =
      let same = access_lists_one w h cells l zero_lists p.promise q.promise in
      let counts : p.count ≡ q.count = let f = same.1 in cc in
      let inputs : join_input w h cells l p.lists p.count ≡ join_input w h cells l q.lists q.count = rw (same.0, counts) in
      joins_one (rw inputs at p.joins) q.joins
