-- One move in a turn of the search: what it may assume, and what it leaves.
use mathlib.Core.Path.{◌≡◌, refl, ◌∙◌, ap}
use mathlib.Core.Logic.{◌≢◌}
use mathlib.Core.Bool.{not}
use mathlib.Core.List.{List}
use Prim.Native.Nat.{ℕ, suc, ◌+◌, ◌*◌, ◌-◌, ◌/◌, ◌%◌, ◌≤◌, ◌<◌}
use native.Mathlib.Decide.{ℕ_discrete}
use native.Mathlib.Omega.{arith}
use lib.Dec.{T, ltb, ltb→lt, lt→ltb, T_not}
use lib.ListN.{length, set, length-set}
use lib.Seq.{get_or-set_same, get_or-set_other}
use Rattle.walkgraph.proofs.Tests.{by_cases, and_left, and_right, and_pair}
use Rattle.walkgraph.proofs.Places.{flat_lt}
use Rattle.walkgraph.proofs.DisjointSet.{Same}
use Rattle.walklaws.proofs.SearchTurns.{Turn, Push, push_room, step_turn, join_turn, turn_over}
use Rattle.walklaws.proofs.SearchEnd.{Adj, Near, near_step, near_linked, adj_over, near_over, linked_over}
use Rattle.disjoint.specs.Forest.{of, Forest}
use Rattle.cellstate.specs.Labels.{owner_of, depth_of, Label}
use Rattle.labels.specs.Growth.{Close, Met}
use Rattle.cellstate.specs.Looks.{opens}
use Rattle.visits.specs.Visits.{MayVisit, Visited, shut, labelled, met}
use Rattle.visits.specs.SearchState.{is_label, state_of, Walks, Seeds, Links, Searching, Alike, Moved}
use Rattle.labels.proofs.Growing.{grown_none, grown_more, same_self}
use Rattle.visits.proofs.Moves.{point_next, Inside, open_step}

-- ---- labels
pub label_low : (s : ℕ) → T (is_label s) → 0 < s
unfolding is_label
label_low s t = ltb→lt 0 s (and_left (ltb 0 s) _ t)

pub label_high : (s : ℕ) → T (is_label s) → s < 65535
unfolding is_label
label_high s t = ltb→lt s 65535 (and_right (ltb 0 s) _ t)

pub is_label_lem : (s : ℕ) → 0 < s → s < 65535 → T (is_label s)
unfolding is_label
is_label_lem s h k = and_pair (ltb 0 s) _ (lt→ltb 0 s h) (lt→ltb s 65535 k)

pub no_label : (s : ℕ) → s ≡ 65535 → T (not (is_label s))
unfolding is_label
no_label s e = rw e tt

-- ---- states that leave the same cells walkable
pub alike_self : {width height : ℕ} {states : List ℕ} → Alike width height states states
alike_self = record { on = λ x y w. w; off = λ x y w. w; seeds_on = λ r x y a. a; seeds_off = λ r x y a. a }

pub alike_chain : {width height : ℕ} {s t u : List ℕ} → Alike width height s t → Alike width height t u → Alike width height s u
alike_chain f g =
    record {
      on = λ x y w. g.on x y (f.on x y w);
      off = λ x y w. f.off x y (g.off x y w);
      seeds_on = λ r x y a. g.seeds_on r x y (f.seeds_on r x y a);
      seeds_off = λ r x y a. f.seeds_off r x y (g.seeds_off r x y a);
    }

pub alike_links : {width height : ℕ} {s t : List ℕ} → Alike width height s t → (a b : ℕ) → Links width height s a b → Links width height t a b
alike_links f a b l = linked_over f.on f.seeds_on l

-- ---- a cell that had no label is labelled
module _ (width height : ℕ) (states : List ℕ) (t s : ℕ) (was : of states t ≡ 65535) (in_map : t < length states) (pos : 0 < s) where
  abbrev after : List ℕ
  after = set states t s

  pub at_new : of after t ≡ s
  at_new = get_or-set_same states t s 0 in_map

  pub at_old : (c : ℕ) → c ≢ t → of after c ≡ of states c
  at_old c n = get_or-set_other states t c s 0 n

  pub walks_on : (x y : ℕ) → Walks width height states x y → Walks width height after x y
  walks_on x y w =
      let c = y * width + x in
      record {
        column = w.column;
        row = w.row;
        walks = by_cases (ℕ_discrete c t) (λ e. rw (e, at_new) pos) (λ n. rw (at_old c n) w.walks);
      }

  pub walks_off : (x y : ℕ) → Walks width height after x y → Walks width height states x y
  walks_off x y w =
      let c = y * width + x in
      record {
        column = w.column;
        row = w.row;
        walks = by_cases (ℕ_discrete c t) (λ e. rw (e, was) (omega arith)) (λ n. rw (at_old c n) at w.walks);
      }

  pub seeds_on : (r x y : ℕ) → Seeds width height states r x y → Seeds width height after r x y
  seeds_on r x y a =
      let c = y * width + x in
      by_cases (ℕ_discrete c t)
      (λ e. absurd (omega (arith, a.depth, ap (λ i. depth_of (of states i)) e, ap depth_of was)))
      (λ n. record { walks = walks_on x y a.walks; owner = rw (at_old c n) a.owner; depth = rw (at_old c n) a.depth })

  -- and not as an access cell
  pub seeds_off : (depth_of s ≡ 0 → ⊥) → (r x y : ℕ) → Seeds width height after r x y → Seeds width height states r x y
  seeds_off deep r x y a =
      let c = y * width + x in
      by_cases (ℕ_discrete c t)
      (λ e. absurd (deep (rw (e, at_new) at a.depth)))
      (λ n. record { walks = walks_off x y a.walks; owner = rw (at_old c n) at a.owner; depth = rw (at_old c n) at a.depth })

-- ---- a move in a turn
module _ {width height : ℕ} {states queue parents : List ℕ} {tail head : ℕ} (S : Searching width height states queue parents tail head) (more : head < tail) where
  abbrev point : ℕ
  point = of queue head

  abbrev x : ℕ
  x = point % 1024

  abbrev y : ℕ
  y = point / 1024

  abbrev state : ℕ
  state = of states (y * width + x)

  pub here_label : T (is_label state)
  here_label = (S.turn.queued head more).0

  pub here_in : y * width + x < length states
  here_in = (S.turn.queued head more).1

  module _ {ranks : List ℕ} {a b : ℕ} (forest : Forest parents ranks) (shallow : depth_of state < 16) (m : Inside width height x y a b) where
    abbrev u : ℕ
    u = x + a - 1

    abbrev v : ℕ
    v = y + b - 1

    abbrev next : ℕ
    next = v * width + u

    abbrev to : ℕ
    to = point + (b * 1024 + a) - 1025

    in_column : u < width
    in_column = omega (arith, m.low_x, m.high_x)

    in_row : v < height
    in_row = omega (arith, m.low_y, m.high_y)

    next_in : next < length states
    next_in = omega (arith, flat_lt in_column in_row, S.cells)

    to_is : (to % 1024 ≡ u) × (to / 1024 ≡ v)
    to_is = point_next point a b width S.wide.1 m.low_x m.high_x m.low_y

    step : T (opens states next (v * width + x) (y * width + u)) → Adj width (Walks width height states) (y * width + x) next
    step t = open_step width height states x y a b (S.points head more).0 (S.points head more).1 m (label_low state here_label) t

    open_pos : T (opens states next (v * width + x) (y * width + u)) → 0 < of states next
    unfolding opens
    open_pos t = ltb→lt 0 _ (and_left (ltb 0 (of states next)) _ t)

    met_label : T (opens states next (v * width + x) (y * width + u)) → of states next ≢ 65535 → T (is_label (of states next))
    met_label t n = is_label_lem _ (open_pos t) (omega (arith, S.fits next))

    pub may_visit : MayVisit states queue parents ranks tail state next (v * width + x) (y * width + u)
    may_visit =
        record {
          forest = forest;
          next_in = next_in;
          first_in = omega (arith, flat_lt (S.points head more).0 in_row, S.cells);
          second_in = omega (arith, flat_lt in_column (S.points head more).1, S.cells);
          label = S.labels _ here_label;
          room = λ t e. omega (arith, push_room S.turn next next_in (no_label _ e), S.cells, S.room);
          labels = λ t n. S.labels next (met_label t n);
        }

    moved_shut : T (not (opens states next (v * width + x) (y * width + u))) →
        Moved width height states queue parents tail head state next (opens states next (v * width + x) (y * width + u)) states queue parents ranks tail
    moved_shut n =
        record {
          searching = S;
          grown = grown_none forest;
          alike = alike_self;
          kept = λ c t. refl;
          walks = λ c h. h;
          places = λ i h. refl;
          more = omega arith;
          ends = λ t. absurd (T_not (opens states next (v * width + x) (y * width + u)) n t);
        }

    moved_met : {parents' ranks' : List ℕ} → T (opens states next (v * width + x) (y * width + u)) → of states next ≢ 65535 → Met parents parents' ranks' state (of states next) →
        Moved width height states queue parents tail head state next (opens states next (v * width + x) (y * width + u)) states queue parents' ranks' tail
    moved_met {parents'} t n g =
        let l = met_label t n in
        let size = g.grown.size in
        record {
          searching = record {
            wide = S.wide;
            tall = S.tall;
            cells = S.cells;
            room = S.room;
            few = omega (arith, S.few);
            fits = S.fits;
            labels = λ c i. rw size (S.labels c i);
            points = S.points;
            turn = join_turn g.grown.keeps S.turn;
          };
          grown = grown_more (λ r s c. linked_by r s c) g.grown;
          alike = alike_self;
          kept = λ c t. refl;
          walks = λ c h. h;
          places = λ i h. refl;
          more = omega arith;
          ends = λ _. (l, g.joins);
        }
      where
        linked_by : (r s : ℕ) → Close state (of states next) r s → Links width height states r s
        linked_by r s c =
            rw (c.left, c.right)
            (near_linked (S.turn.sound (y * width + x) here_label) (step t) (S.turn.sound next (met_label t n)) c.short)

    module _ (t : T (opens states next (v * width + x) (y * width + u))) (new : of states next ≡ 65535) where
      own : Label (length parents) state
      own = S.labels _ here_label

      abbrev states' : List ℕ
      states' = set states next (state + 1)

      abbrev queue' : List ℕ
      queue' = set queue tail to

      room : tail < length queue
      room = may_visit.room t new

      deep : depth_of (state + 1) ≡ 0 → ⊥
      deep e = omega arith

      new_at : of states' next ≡ state + 1
      new_at = get_or-set_same states next (state + 1) 0 next_in

      old_at : (c : ℕ) → c ≢ next → of states' c ≡ of states c
      old_at c n = get_or-set_other states next c (state + 1) 0 n

      new_label : T (is_label (state + 1))
      new_label = is_label_lem (state + 1) (omega arith) (omega (arith, own.last, S.few))

      same_owner : owner_of (state + 1) ≡ owner_of state
      same_owner = omega arith

      one_deeper : depth_of (state + 1) ≡ suc (depth_of state)
      one_deeper = omega arith

      push : Push (state_of width states queue tail) (state_of width states' queue' (tail + 1)) (owner_of state) (suc (depth_of state)) next
      push =
          record {
            new = no_label _ new;
            lab = rw new_at new_label;
            labs = λ c n. rw (old_at c n);
            owner = rw new_at same_owner;
            owners = λ c n. rw (old_at c n);
            depth = rw new_at one_deeper;
            depths = λ c n. rw (old_at c n);
            tail = omega arith;
            last = rw (get_or-set_same queue tail to 0 room, to_is.0, to_is.1);
            rest = λ i h. rw (get_or-set_other queue tail i to 0 (λ e. omega arith));
          }

      kept_label : (c : ℕ) → T (is_label (of states c)) → of states' c ≡ of states c
      kept_label c l = old_at c (λ e. T_not (is_label (of states next)) (no_label _ new) (rw e at l))

      turned : Turn (Adj width (Walks width height states')) (Near width (Walks width height states') (Seeds width height states')) (length states') (Same (of parents)) (state_of width states' queue' (tail + 1)) head
      turned =
          rw (length-set states next (state + 1))
          (turn_over
          (λ c v a. adj_over (walks_off width height states next (state + 1) new next_in (omega arith)) a)
          (λ r c d n. near_over (walks_on width height states next (state + 1) new next_in (omega arith)) (seeds_on width height states next (state + 1) new next_in (omega arith)) n)
          (step_turn S.turn more shallow push next_in (near_step (S.turn.sound (y * width + x) here_label) (step t))))

      labels' : (c : ℕ) → T (is_label (of states' c)) → Label (length parents) (of states' c)
      labels' c l =
          by_cases (ℕ_discrete c next)
          (λ e. rw (e, new_at) (record { first = omega (arith, own.first); last = omega (arith, own.last) }))
          (λ n. rw (old_at c n) (S.labels c (rw (old_at c n) at l)))

      points' : (i : ℕ) → i < tail + 1 → (of queue' i % 1024 < width) × (of queue' i / 1024 < height)
      points' i h =
          by_cases (ℕ_discrete i tail)
          (λ e. rw (e, get_or-set_same queue tail to 0 room) (omega (arith, to_is.0, in_column), omega (arith, to_is.1, in_row)))
          (λ n. rw (get_or-set_other queue tail i to 0 n) (S.points i (omega arith)))

      fits' : (c : ℕ) → of states' c ≤ 65535
      fits' c =
          by_cases (ℕ_discrete c next)
          (λ e. rw (e, new_at) (omega (arith, own.last, S.few)))
          (λ n. rw (old_at c n) (S.fits c))

      moved_labelled : Moved width height states queue parents tail head state next (opens states next (v * width + x) (y * width + u)) states' queue' parents ranks (tail + 1)
      moved_labelled =
          record {
            searching = record {
              wide = S.wide;
              tall = S.tall;
              cells = length-set states next (state + 1) ∙ S.cells;
              room = length-set queue tail to ∙ S.room;
              few = S.few;
              fits = fits';
              labels = labels';
              points = points';
              turn = turned;
            };
            grown = grown_none forest;
            alike = record {
              on = walks_on width height states next (state + 1) new next_in (omega arith);
              off = walks_off width height states next (state + 1) new next_in (omega arith);
              seeds_on = seeds_on width height states next (state + 1) new next_in (omega arith);
              seeds_off = seeds_off width height states next (state + 1) new next_in (omega arith) deep;
            };
            kept = kept_label;
            walks = λ c h. by_cases (ℕ_discrete c next) (λ e. rw (e, new) (omega arith)) (λ n. rw (old_at c n) at h);
            places = λ i h. get_or-set_other queue tail i to 0 (λ e. omega arith);
            more = omega arith;
            ends = λ _. (rw new_at new_label, λ h. rw (new_at, same_owner) (same_self forest (owner_of state) (omega (arith, own.first, own.last))));
          }

    pub visit_moved : {states' queue' parents' ranks' : List ℕ} {tail' : ℕ} →
        Visited states queue parents ranks tail state next to (v * width + x) (y * width + u) states' queue' parents' ranks' tail' →
        Moved width height states queue parents tail head state next (opens states next (v * width + x) (y * width + u)) states' queue' parents' ranks' tail'
    visit_moved (shut n) = moved_shut n
    visit_moved (labelled t e) = moved_labelled t e
    visit_moved (met t n g) = moved_met t n g
