-- What a run of sweeps leaves alone in its version buffers: their lengths, and the entries past their used parts.
use mathlib.Core.Path.{◌≡◌, refl, ◌∙◌}
use mathlib.Core.Bool.{Bool, true, false}
use mathlib.Core.List.{List}
use Prim.Native.Nat.{ℕ, ◌+◌, ◌≤◌, ◌<◌}
use native.Mathlib.Omega.{arith}
use lib.ListN.{get_or, length, set, length-set}
use lib.Seq.{get_or-set_other}
use lib.Dec.{eqb}
use Rattle.row.specs.Visits.{Ground, State, next_versions, Visited, row_at}
use Rattle.sweep.specs.Sweeps.{Run, Turns, begins, leaves, goes_down, Sweeps}

module _ (g : Ground) (height : ℕ) where
  -- a buffer of versions keeps its length and what stands past its used part
  pub record Past (before after : List ℕ) : Type 0 where
    pub long : length after ≡ length before
    pub stay : (j : ℕ) → height + 2 ≤ j → get_or after j 0 ≡ get_or before j 0

  past_same : (l : List ℕ) → Past l l
  past_same l = record { long = refl; stay = λ j h. refl }

  past_then : {a b d : List ℕ} → Past a b → Past b d → Past a d
  past_then p q = record { long = q.long ∙ p.long; stay = λ j h. q.stay j h ∙ p.stay j h }

  past_set : (l : List ℕ) (y v : ℕ) → y ≤ height → Past l (set l y v)
  past_set l y v h = record { long = length-set l y v; stay = λ j k. get_or-set_other l y j v 0 (λ e. omega arith) }

  past_next : (changed : Bool) (l : List ℕ) (y : ℕ) → y ≤ height → Past l (next_versions changed l y)
  past_next true l y h = past_set l y _ h
  past_next false l y h = past_same l

  pub record StateStays (s t : State) : Type 0 where
    pub versions : Past s.versions t.versions
    pub pulled : Past s.pulled t.pulled

  state_same : (s : State) → StateStays s s
  state_same s = record { versions = past_same _; pulled = past_same _ }

  state_then : {s t u : State} → StateStays s t → StateStays t u → StateStays s u
  state_then p q = record { versions = past_then p.versions q.versions; pulled = past_then p.pulled q.pulled }

  visit_stays : (down fresh : Bool) (y z : ℕ) (s t : State) → y ≤ height → Visited g down fresh y z s t → StateStays s t
  visit_stays down fresh y z s t k (Visited.empty e) = state_same s
  visit_stays down fresh y z s t k (Visited.skipped e f) = state_same s
  visit_stays down fresh y z s t k (Visited.done {changed = changed} e f d) =
      record {
        versions = past_next changed s.versions y k;
        pulled = past_set _ y _ k;
      }

  row_high : (down : Bool) (n : ℕ) → n < height → row_at down height n ≤ height
  row_high true n h = omega arith
  row_high false n h = omega arith

  turns_stay : (down fresh : Bool) (s t : State) (n : ℕ) → n ≤ height → Turns g down fresh height s n t → StateStays s t
  turns_stay down fresh s t n h Turns.none = state_same s
  turns_stay down fresh s t n h (Turns.more {n = k} p v) =
      state_then (turns_stay down fresh s _ k (omega arith) p) (visit_stays down fresh _ _ _ t (row_high down k (omega arith)) v)

  -- ---- a run of sweeps
  pub record RunStays (r q : Run) : Type 0 where
    pub versions : Past r.versions q.versions
    pub downs : Past r.pulled_down q.pulled_down
    pub ups : Past r.pulled_up q.pulled_up

  sweep_stays : (down : Bool) (q : Run) (s : State) → StateStays (begins down q) s → RunStays q (leaves down q s)
  sweep_stays true q s p = record { versions = p.versions; downs = p.pulled; ups = past_same _ }
  sweep_stays false q s p = record { versions = p.versions; downs = past_same _; ups = p.pulled }

  pub run_stays : (r q : Run) (n : ℕ) (answer : Bool) → Sweeps g height r n q answer → RunStays r q
  run_stays r q n answer Sweeps.start = record { versions = past_same _; downs = past_same _; ups = past_same _ }
  run_stays r q n answer (Sweeps.next {n = k} {q = m} p c t) =
      let a = run_stays r m k _ p in
      let b = sweep_stays (goes_down k) m _ (turns_stay (goes_down k) (eqb k 0) _ _ height (omega arith) t) in
      record {
        versions = past_then a.versions b.versions;
        downs = past_then a.downs b.downs;
        ups = past_then a.ups b.ups;
      }
