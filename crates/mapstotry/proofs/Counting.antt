-- The sweep count of a field call, from the tables of its resources' lanes: lanes without a resource never change.
use mathlib.Core.Path.{◌≡◌, sym, ◌∙◌, ap}
use mathlib.Core.Bool.{Bool, ◌&&◌}
use mathlib.Core.List.{List, []}
use Prim.Native.Nat.{ℕ, ◌+◌, ◌-◌, ◌≤◌, ◌<◌}
use native.Mathlib.Omega.{arith}
use native.Mathlib.Decide.{dec_le}
use lib.ListN.{get_or}
use lib.Dec.{T, leb, leb→le}
use Rattle.walkgraph.specs.Lists.{tabulate}
use Rattle.walkgraph.specs.Sweep.{PaddedWindow, value_at, sweeps, Quiet}
use Rattle.walkgraph.specs.Buffers.{Call, resource_count, padded_of, lane_start, CountIs}
use Rattle.walkgraph.proofs.Tests.{and_left, and_right, by_cases}
use Rattle.walkgraph.proofs.Lists.{get_d_tabulate}
use Rattle.walklaws.proofs.FieldCall.{unused_lane}
use Rattle.mapstotry.proofs.Tests.{every, every_at, some, some_at}
use Rattle.mapstotry.proofs.Runs.{history, history_at, same_table, table_is, tables_differ, tables_differ_lem}

-- ---- the tables of all resources

-- for each resource the tables of its lane after 0 .. k sweeps
unfoldable pub histories : Call → ℕ → List (List (List (List ℕ)))
histories c k = let m = padded_of c in tabulate (resource_count c) (λ l. history m (lane_start c l) k)

-- the table of lane l after j sweeps
unfoldable pub table_after : List (List (List (List ℕ))) → ℕ → ℕ → List (List ℕ)
table_after lanes l j = get_or (get_or lanes l []) j []

pub after_is : (c : Call) (k l j : ℕ) → l < resource_count c → j ≤ k → table_after (histories c k) l j ≡ sweeps (padded_of c) (lane_start c l) j
unfolding histories table_after
after_is c k l j h i =
    ap (λ (tables : List (List (List ℕ))). get_or tables j []) (get_d_tabulate (resource_count c) (λ l. history (padded_of c) (lane_start c l) k) [] l h) ∙ history_at (padded_of c) (lane_start c l) k j i

-- ---- the tests

-- sweep number j changes no resource's lane
unfoldable pub quiet_test : List (List (List (List ℕ))) → ℕ → ℕ → Bool
quiet_test lanes n j = every (λ l. same_table (table_after lanes l j) (table_after lanes l (j - 1))) n

-- sweep number j changes the lane of a resource
unfoldable pub loud_test : List (List (List (List ℕ))) → ℕ → ℕ → Bool
loud_test lanes n j = some (λ l. tables_differ (table_after lanes l j) (table_after lanes l (j - 1))) n

-- k is the sweep count
unfoldable pub count_test : Call → List (List (List (List ℕ))) → ℕ → Bool
count_test c lanes k = leb 2 k && leb (resource_count c) c.lanes && quiet_test lanes (resource_count c) k && every (λ i. loud_test lanes (resource_count c) (i + 2)) (k - 2)

-- ---- the laws

module _ (c : Call) where
  abbrev M : PaddedWindow
  M = padded_of c

  -- what the tests say of the sweeps over all lanes
  pub quiet_is : (k j : ℕ) → j ≤ k → T (quiet_test (histories c k) (resource_count c) j) → Quiet M (lane_start c) c.lanes j
  unfolding Quiet quiet_test
  quiet_is k j h t l i x y =
      by_cases (dec_le (l + 1) (resource_count c))
      (λ u.
      let e = table_is (table_after (histories c k) l j) (table_after (histories c k) l (j - 1)) (every_at _ (resource_count c) t l (omega arith)) in
      ap (λ (table : List (List ℕ)). value_at M table x y) (sym (after_is c k l j (omega arith) h) ∙ e ∙ after_is c k l (j - 1) (omega arith) (omega arith)))
      (λ u. unused_lane c l (omega arith) j x y ∙ sym (unused_lane c l (omega arith) (j - 1) x y))

  pub loud_is : (k j : ℕ) → j ≤ k → resource_count c ≤ c.lanes → T (loud_test (histories c k) (resource_count c) j) → ¬ (Quiet M (lane_start c) c.lanes j)
  unfolding Quiet loud_test
  loud_is k j h n t q =
      let r = some_at (λ l. tables_differ (table_after (histories c k) l j) (table_after (histories c k) l (j - 1))) (resource_count c) t in
      let l = r.0 in
      let s : T (tables_differ (table_after (histories c k) l j) (table_after (histories c k) l (j - 1))) = r.2 in
      tables_differ_lem M (sweeps M (lane_start c l) j) (sweeps M (lane_start c l) (j - 1)) (rw (after_is c k l j r.1 h, after_is c k l (j - 1) r.1 (omega arith)) at s)
      (q l (omega (arith, r.1)))

  module _ (k : ℕ) (t : T (count_test c (histories c k) k)) where
    -- the four parts of the test
    abbrev at_least_two : Bool
    at_least_two = leb 2 k

    abbrev fits : Bool
    fits = leb (resource_count c) c.lanes

    abbrev quiet : Bool
    quiet = quiet_test (histories c k) (resource_count c) k

    abbrev loud : Bool
    loud = every (λ i. loud_test (histories c k) (resource_count c) (i + 2)) (k - 2)

    three : T (at_least_two && fits && quiet)
    unfolding count_test
    three = and_left (at_least_two && fits && quiet) loud t

    two : T (at_least_two && fits)
    two = and_left (at_least_two && fits) quiet three

    pub count_fits : resource_count c ≤ c.lanes
    count_fits = leb→le (resource_count c) c.lanes (and_right at_least_two fits two)

    loud_at : (j : ℕ) → 2 ≤ j → j < k → T (loud_test (histories c k) (resource_count c) j)
    unfolding count_test
    loud_at j h i =
        let e : j - 2 + 2 ≡ j = omega arith in
        rw e at (every_at (λ i. loud_test (histories c k) (resource_count c) (i + 2)) (k - 2) (and_right (at_least_two && fits && quiet) loud t) (j - 2) (omega arith))

    pub count_is_lem : CountIs c k
    unfolding CountIs
    count_is_lem =
        record {
          low = leb→le 2 k (and_left at_least_two fits two);
          quiet = quiet_is k k (omega arith) (and_right (at_least_two && fits) quiet three);
          loud = λ j h i. loud_is k j (omega arith) count_fits (loud_at j h i);
        }
