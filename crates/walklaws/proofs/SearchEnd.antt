-- The search over flat indices ends as `Searched` says of cells: what it has joined are exactly the classes under chains of links.
use mathlib.Core.Path.{◌≡◌}
use Prim.Native.Nat.{ℕ, suc, ◌+◌, ◌*◌, ◌/◌, ◌%◌, ◌<◌}
use lib.Dec.{T}
use lib.Arith.{digits_div, digits_mod}
use Rattle.walkgraph.specs.Walk.{Step, Walk, on}
use Rattle.walkgraph.specs.Links.{Linked, Joined}
use Rattle.walkgraph.proofs.LinkSearch.{Searched, search_joined, met_linked}
use Rattle.walkgraph.proofs.Walks.{step_sym, step_over, walk_over}
use Rattle.walklaws.proofs.SearchTurns.{State, Turn, end_spread, end_met}

-- two indices of a map of width w, a step apart and both walkable
pub record Adj (w : ℕ) (Walkable : ℕ → ℕ → Type 0) (c v : ℕ) : Type 0 where
  pub k : ℕ
  pub first : Walkable (c % w) (c / w)
  pub last : Walkable (v % w) (v / w)
  pub step : Step Walkable (c % w) (c / w) (v % w) (v / w) k

-- a walk of d steps from an access cell of r to the cell
pub record Near (w : ℕ) (Walkable : ℕ → ℕ → Type 0) (Access : ℕ → ℕ → ℕ → Type 0) (r c d : ℕ) : Type 0 where
  pub a : ℕ
  pub b : ℕ
  pub e : ℕ
  pub source : Access r a b
  pub walk : Walk Walkable Walkable a b (c % w) (c / w) d e

-- Near is kept by a step
pub near_step : {w : ℕ} {Walkable : ℕ → ℕ → Type 0} {Access : ℕ → ℕ → ℕ → Type 0} {r c v d : ℕ} → Near w Walkable Access r c d → Adj w Walkable c v → Near w Walkable Access r v (suc d)
near_step t a = record { a = t.a; b = t.b; e = t.e + a.k; source = t.source; walk = on t.walk a.step a.last }

-- a join across a step is a link
pub near_linked : {w : ℕ} {Walkable : ℕ → ℕ → Type 0} {Access : ℕ → ℕ → ℕ → Type 0} {r s c v d e : ℕ} → Near w Walkable Access r c d → Adj w Walkable c v → Near w Walkable Access s v e →
    d + e < 32 → Linked Walkable Access r s
near_linked t a u h = met_linked t.source t.walk a.step u.source u.walk h

pub adj_back : {w : ℕ} {Walkable : ℕ → ℕ → Type 0} (c v : ℕ) → Adj w Walkable c v → Adj w Walkable v c
adj_back c v a = record { k = a.k; first = a.last; last = a.first; step = step_sym a.step }

-- the same steps, walks and links where the same cells are walkable, and access cells
module _ {Walkable Walkable' : ℕ → ℕ → Type 0} (f : (x y : ℕ) → Walkable x y → Walkable' x y) where
  pub adj_over : {w c v : ℕ} → Adj w Walkable c v → Adj w Walkable' c v
  adj_over a = record { k = a.k; first = f _ _ a.first; last = f _ _ a.last; step = step_over f a.step }

  module _ {Access Access' : ℕ → ℕ → ℕ → Type 0} (g : (r x y : ℕ) → Access r x y → Access' r x y) where
    pub near_over : {w r c d : ℕ} → Near w Walkable Access r c d → Near w Walkable' Access' r c d
    near_over n = record { a = n.a; b = n.b; e = n.e; source = g _ _ _ n.source; walk = walk_over f n.walk }

    pub linked_over : {r s : ℕ} → Linked Walkable Access r s → Linked Walkable' Access' r s
    linked_over l =
        record { a = l.a; b = l.b; x = l.x; y = l.y; steps = l.steps; cost = l.cost; first = g _ _ _ l.first; last = g _ _ _ l.last; walk = walk_over f l.walk; short = l.short }

module _ (w : ℕ) (Walkable : ℕ → ℕ → Type 0) (Access : ℕ → ℕ → ℕ → Type 0) (in_map : (x y : ℕ) → Walkable x y → x < w) (on-open : (r x y : ℕ) → Access r x y → Walkable x y) where
  adj_of : {x y u v k : ℕ} → Walkable x y → Walkable u v → Step Walkable x y u v k → Adj w Walkable (y * w + x) (v * w + u)
  adj_of {x} {y} {u} {v} {k} o q s =
      let a = digits_mod y (in_map x y o) in
      let b = digits_div y (in_map x y o) in
      let c = digits_mod v (in_map u v q) in
      let d = digits_div v (in_map u v q) in
      record { k = k; first = rw (a, b) o; last = rw (c, d) q; step = rw (a, b, c, d) s }

  module _ {cells : ℕ} {J : ℕ → ℕ → Type 0} {s : State} {head : ℕ} (t : Turn (Adj w Walkable) (Near w Walkable Access) cells J s head) (last : head < s.tail → s.depth (s.q head) ≡ 16)
      (seeds : (r x y : ℕ) → Access r x y → T (s.lab (y * w + x)) × (s.depth (y * w + x) ≡ 0) × J r (s.owner (y * w + x)))
      (jself : (r : ℕ) → J r r) (jback : (r u : ℕ) → J r u → J u r) (jchain : (r u v : ℕ) → J r u → J u v → J r v) where
    searched : Searched Walkable Access (λ x y. T (s.lab (y * w + x)) × Walkable x y) (λ x y. s.owner (y * w + x)) (λ x y. s.depth (y * w + x)) J
    searched =
        record {
          seeds = λ r x y a. let g = seeds r x y a in ((g.0, on-open r x y a), g.1, g.2);
          spread = λ {x} {y} {u} {v} l h st o. let g = end_spread t last adj_back jback (y * w + x) (v * w + u) l.0 h (adj_of l.1 o st) in ((g.0, o), g.1);
          met = λ {x} {y} {u} {v} l k st h. end_met t last adj_back jback (y * w + x) (v * w + u) l.0 k.0 (adj_of l.1 k.1 st) h;
          back = jback _ _;
          chain = jchain _ _ _;
        }

    -- complete
    pub joined : {r u : ℕ} → Joined (Linked Walkable Access) r u → J r u
    joined j = search_joined searched jself j
