-- The moves of one cell, one after another: what holds after j of those that are listed, and that the cell is done after all.
use mathlib.Core.Path.{◌≡◌, refl, ◌∙◌}
use mathlib.Core.Logic.{◌≢◌, ◌⊎◌, ⊎_elim}
use mathlib.Core.Bool.{Bool}
use mathlib.Core.List.{List}
use Prim.Native.Nat.{ℕ, suc, ◌+◌, ◌*◌, ◌-◌, ◌/◌, ◌%◌, ◌≤◌, ◌<◌}
use native.Mathlib.Nat.{div-add-mod', mul-le-mul_right}
use native.Mathlib.Decide.{dec_le, ℕ_discrete}
use native.Mathlib.Omega.{arith}
use mir.Syntax.{w64}
use mir.Val.{Fits}
use lib.Dec.{T, leb, ltb, leb→le, ltb→lt, lt→ltb}
use lib.Arith.{digits_div, digits_mod}
use lib.ListN.{length, take}
use borrow.Author.Tests.{eq-eqb, ne_eqb}
use Rattle.std.proofs.lemmas.Grind.{common_steps}
use Rattle.walkgraph.proofs.Tests.{by_cases, and_left, and_right, and_pair}
use Rattle.walkgraph.proofs.Places.{flat_lt}
use Rattle.walkgraph.proofs.DisjointSet.{Same}
use Rattle.walklaws.proofs.SearchTurns.{next_turn, queue_in}
use Rattle.walklaws.proofs.SearchEnd.{Adj}
use Rattle.disjoint.specs.Forest.{of}
use Rattle.cellstate.specs.Labels.{owner_of, depth_of, cell_of}
use Rattle.labels.specs.Growth.{Grown}
use Rattle.cellstate.specs.Looks.{highest}
use Rattle.picks.specs.Picks.{within, is_inside}
use Rattle.cellstate.specs.Looks.{opens}
use Rattle.visits.specs.Visits.{MoveFits, MayVisit, Visited}
use Rattle.picks.specs.Listed.{Table, OnMap, Listed}
use Rattle.visits.specs.SearchState.{is_label, Walks, Links, Searching, Alike, Moved}
use Rattle.join.specs.Search.{Turning, Expanded}
use Rattle.labels.proofs.Growing.{grown_none, grown_more, grown_chain, same_self}
use Rattle.visits.proofs.Moves.{row_moved, next_is, Inside, Opened, step_opened}
use Rattle.picks.proofs.Listing.{within_is}
use Rattle.visits.proofs.Searching.{is_label_lem, alike_self, alike_chain, alike_links, here_label, here_in, may_visit, visit_moved}

-- the cells of a move from (x, y) by a - 1 columns and b - 1 rows
abbrev pub next_of : ℕ → ℕ → ℕ → ℕ → ℕ → ℕ
next_of width x y a b = (y + b - 1) * width + (x + a - 1)

abbrev pub open_of : ℕ → List ℕ → ℕ → ℕ → ℕ → ℕ → Bool
open_of width states x y a b = opens states (next_of width x y a b) ((y + b - 1) * width + x) (y * width + (x + a - 1))

-- the move is shut, or the next cell is labelled and its label has met the state
abbrev pub Ended : ℕ → List ℕ → List ℕ → ℕ → ℕ → ℕ → ℕ → ℕ → Type 0
Ended width states parents x y s a b =
    T (open_of width states x y a b) →
    T (is_label (of states (next_of width x y a b))) ×
    (depth_of s + depth_of (of states (next_of width x y a b)) < 32 → Same (of parents) (owner_of s) (owner_of (of states (next_of width x y a b))))

pub record Round (width height : ℕ) (states₀ queue₀ parents₀ over down list : List ℕ) (tail₀ head : ℕ) (states queue parents ranks : List ℕ) (tail j : ℕ) : Type 0 where
  pub searching : Searching width height states queue parents tail head
  pub grown : Grown (Links width height states) parents₀ parents ranks
  pub alike : Alike width height states₀ states
  pub kept : (c : ℕ) → T (is_label (of states₀ c)) → of states c ≡ of states₀ c
  pub walks : (c : ℕ) → 0 < of states c → 0 < of states₀ c
  pub places : (i : ℕ) → i < tail₀ → of queue i ≡ of queue₀ i
  pub more : tail₀ ≤ tail
  pub ended : (i : ℕ) → i < j →
      Ended width states parents (of queue₀ head % 1024) (of queue₀ head / 1024) (of states₀ (cell_of width (of queue₀ head))) (of over (of list i)) (of down (of list i))

-- the first entries of a list are those of the list
pub taken : (list : List ℕ) (count j : ℕ) → j < count → of (take count list) j ≡ of list j
taken list count j h = grind (arith, common_steps)

-- what was done by the first entries of a list was done by the list
pub round_taken : {width height : ℕ} {states₀ queue₀ parents₀ over down list : List ℕ} {tail₀ head : ℕ} {states queue parents ranks : List ℕ} {tail count : ℕ} →
    Round width height states₀ queue₀ parents₀ over down (take count list) tail₀ head states queue parents ranks tail count →
    Round width height states₀ queue₀ parents₀ over down list tail₀ head states queue parents ranks tail count
round_taken {list = list} {count = count} R =
    record {
      searching = R.searching;
      grown = R.grown;
      alike = R.alike;
      kept = R.kept;
      walks = R.walks;
      places = R.places;
      more = R.more;
      ended = λ i h. rw (taken list count i h) at (R.ended i h);
    }

-- a test of a move, as facts
pub inside_is : {width height x y : ℕ} {over down steps : List ℕ} → Table width over down steps → (k : ℕ) → k < 8 → T (is_inside width height x y over down k) →
    Inside width height x y (of over k) (of down k)
unfolding is_inside within
inside_is {width} {height} {x} {y} {over} {down} t k h i =
    let p = and_left (within (x + of over k) width) _ i in
    let q = and_right (within (x + of over k) width) _ i in
    record {
      low_x = leb→le 1 _ (and_left (leb 1 (x + of over k)) _ p);
      high_x = leb→le _ width (and_right (leb 1 (x + of over k)) _ p);
      low_y = leb→le 1 _ (and_left (leb 1 (y + of down k)) _ q);
      high_y = leb→le _ height (and_right (leb 1 (y + of down k)) _ q);
      small_a = t.across k h;
      small_b = t.along k h;
      apart = t.moves k h;
    }

-- what is open later was open before
open_before : (width x y a b : ℕ) (states states' : List ℕ) → ((c : ℕ) → 0 < of states' c → 0 < of states c) → T (open_of width states' x y a b) → T (open_of width states x y a b)
unfolding opens
open_before width x y a b states states' f t =
    let n = next_of width x y a b in
    let m = (y + b - 1) * width + x in
    let p = and_left (ltb 0 (of states' n)) _ t in
    let q = and_right (ltb 0 (of states' n)) _ t in
    and_pair (ltb 0 (of states n)) _ (lt→ltb 0 _ (f n (ltb→lt 0 _ p)))
    (and_pair (ltb 0 (of states m)) _ (lt→ltb 0 _ (f m (ltb→lt 0 _ (and_left (ltb 0 (of states' m)) _ q)))) (lt→ltb 0 _ (f _ (ltb→lt 0 _ (and_right (ltb 0 (of states' m)) _ q)))))

module _ {width height : ℕ} {states₀ queue₀ parents₀ ranks₀ over down steps list₀ : List ℕ} {tail₀ head : ℕ}
    (G : Turning width height states₀ queue₀ parents₀ ranks₀ over down steps list₀ tail₀ head) where
  abbrev x : ℕ
  x = of queue₀ head % 1024

  abbrev y : ℕ
  y = of queue₀ head / 1024

  abbrev s : ℕ
  s = of states₀ (y * width + x)

  pub round_none : (list : List ℕ) → Round width height states₀ queue₀ parents₀ over down list tail₀ head states₀ queue₀ parents₀ ranks₀ tail₀ 0
  round_none list =
      record {
        searching = G.searching;
        grown = grown_none G.forest;
        alike = alike_self;
        kept = λ c t. refl;
        walks = λ c h. h;
        places = λ i h. refl;
        more = omega arith;
        ended = λ i h. absurd (omega arith);
      }

  module _ {list states queue parents ranks : List ℕ} {tail j : ℕ} (R : Round width height states₀ queue₀ parents₀ over down list tail₀ head states queue parents ranks tail j) where
    more_now : head < tail
    more_now = omega (arith, G.more, R.more)

    same_point : of queue head ≡ of queue₀ head
    same_point = R.places head G.more

    same_state : of states (y * width + x) ≡ s
    same_state = R.kept (y * width + x) (here_label G.searching G.more)

    module _ {k : ℕ} (here : of list j ≡ k) (low : k < 8) (i : T (is_inside width height x y over down k)) where
      abbrev a : ℕ
      a = of over k

      abbrev b : ℕ
      b = of down k

      m : Inside width height (of queue head % 1024) (of queue head / 1024) a b
      m = rw same_point (inside_is G.table k low i)

      shallow : depth_of (of states (cell_of width (of queue head))) < 16
      shallow = rw (same_point, same_state) G.shallow

      pub round_may : MayVisit states queue parents ranks tail s (next_of width x y a b) ((y + b - 1) * width + x) (y * width + (x + a - 1))
      round_may = rw (same_point, same_state) at (may_visit R.searching more_now R.grown.forest shallow m)

      pub round_moved : {states' queue' parents' ranks' : List ℕ} {tail' : ℕ} →
          Visited states queue parents ranks tail s (next_of width x y a b) (of queue₀ head + (b * 1024 + a) - 1025) ((y + b - 1) * width + x) (y * width + (x + a - 1)) states' queue' parents' ranks' tail' →
          Moved width height states queue parents tail head s (next_of width x y a b) (open_of width states x y a b) states' queue' parents' ranks' tail'
      round_moved v =
          rw (same_point, same_state) at
          (visit_moved R.searching more_now R.grown.forest shallow m (rw (← same_state, ← same_point) at v))

      -- one more move is done
      pub round_on : {states' queue' parents' ranks' : List ℕ} {tail' : ℕ} →
          Visited states queue parents ranks tail s (next_of width x y a b) (of queue₀ head + (b * 1024 + a) - 1025) ((y + b - 1) * width + x) (y * width + (x + a - 1)) states' queue' parents' ranks' tail' →
          Round width height states₀ queue₀ parents₀ over down list tail₀ head states' queue' parents' ranks' tail' (j + 1)
      round_on {states'} {queue'} {parents'} {ranks'} {tail'} v =
          let M = round_moved v in
          record {
            searching = M.searching;
            grown = grown_chain (grown_more (alike_links M.alike) R.grown) M.grown;
            alike = alike_chain R.alike M.alike;
            kept = λ c t. M.kept c (rw (R.kept c t) t) ∙ R.kept c t;
            walks = λ c h. R.walks c (M.walks c h);
            places = λ i h. M.places i (omega (arith, R.more)) ∙ R.places i h;
            more = omega (arith, R.more, M.more);
            ended = ended M;
          }
        where
          ended : Moved width height states queue parents tail head s (next_of width x y a b) (open_of width states x y a b) states' queue' parents' ranks' tail' → (i : ℕ) → i < j + 1 →
              Ended width states' parents' x y s (of over (of list i)) (of down (of list i))
          ended M i h =
              by_cases (ℕ_discrete i j)
              (λ e. rw (e, here) (λ t. M.ends (open_before width x y a b states states' M.walks t)))
              (λ n t.
              let r = R.ended i (omega arith) (open_before width x y (of over (of list i)) (of down (of list i)) states states' M.walks t) in
              let f = M.kept (next_of width x y (of over (of list i)) (of down (of list i))) r.0 in
              rw f (r.0, λ h. M.grown.keeps _ _ (r.1 h)))

  -- ---- the cell is done
  module _ {list states queue parents ranks : List ℕ} {tail count : ℕ} (L : Listed width height states₀ over down steps x y s list count)
      (R : Round width height states₀ queue₀ parents₀ over down list tail₀ head states queue parents ranks tail count) where
    -- a state that is not looked at is a label, and not above the cell's own
    quiet : (o : ℕ) → 0 < o → o ≤ highest s → T (is_label o) × (owner_of o ≤ owner_of s) × (depth_of s ≢ 15)
    unfolding highest
    quiet o h k =
        by_cases (ℕ_discrete (s % 32) 15)
        (λ e. absurd (omega (arith, rw (eq-eqb (s % 32) 15 e) at k)))
        (λ n.
        let l = rw (ne_eqb (s % 32) 15 n) at k in
        let own = G.searching.labels (y * width + x) (here_label G.searching G.more) in
        (is_label_lem o h (omega (arith, own.last, G.searching.few)), omega arith, n))

    -- each open move is listed and done, or its state is not looked at
    looked : (a b : ℕ) → Inside width height x y a b → T (open_of width states x y a b) →
        T (is_label (of states (next_of width x y a b))) ×
        ((owner_of s ≤ owner_of (of states (next_of width x y a b))) ⊎ (depth_of s ≡ 15) → depth_of s + depth_of (of states (next_of width x y a b)) < 32 →
        Same (of parents) (owner_of s) (owner_of (of states (next_of width x y a b))))
    unfolding is_inside opens
    looked a b m t =
        let k = G.table.every a b m.small_a m.small_b m.apart in
        let at-k : (j : ℕ) × (j < count) × (of list j ≡ k.0) → T (is_label (of states (next_of width x y a b))) × ((owner_of s ≤ owner_of (of states (next_of width x y a b))) ⊎ (depth_of s ≡ 15) → depth_of s + depth_of (of states (next_of width x y a b)) < 32 → Same (of parents) (owner_of s) (owner_of (of states (next_of width x y a b)))) =
        λ j. let e = rw (j.2, k.2, k.3) at (R.ended j.0 j.1) in let r = e t in (r.0, λ _ h. r.1 h) in
        let n = next_of width x y a b in
        by_cases (dec_le (suc (highest s)) (of states₀ n))
        (λ h. at-k (L.every k.0 k.1 (inside_test a b m k.0 k.2 k.3) (rw (reached a b m k.0 k.1 k.2 k.3) h)))
        (λ h.
        let q = quiet (of states₀ n) (R.walks n (open_low t)) (omega arith) in
        let e = R.kept n q.0 in
        rw e (q.0, λ o d. ⊎_elim (λ g. same_owner (of states₀ n) q.1 g) (λ g. absurd (q.2 g)) o))
      where
        open_low : T (open_of width states x y a b) → 0 < of states (next_of width x y a b)
        open_low t = ltb→lt 0 _ (and_left (ltb 0 (of states (next_of width x y a b))) _ t)

        inside_test : (a b : ℕ) → Inside width height x y a b → (k : ℕ) → of over k ≡ a → of down k ≡ b → T (is_inside width height x y over down k)
        inside_test a b m k e f =
            and_pair (within (x + of over k) width) _ (rw e (within_is (x + a) width m.low_x m.high_x)) (rw f (within_is (y + b) height m.low_y m.high_y))

        reached : (a b : ℕ) → Inside width height x y a b → (k : ℕ) → k < 8 → of over k ≡ a → of down k ≡ b → (y * width + x) + of steps k - width - 1 ≡ next_of width x y a b
        reached a b m k h e f = rw (G.table.offset k h, e, f) (next_is width x y a b m.low_x m.low_y)

        same_owner : (n : ℕ) → owner_of n ≤ owner_of s → owner_of s ≤ owner_of n → Same (of parents) (owner_of s) (owner_of n)
        same_owner n g h =
            let own = G.searching.labels (y * width + x) (here_label G.searching G.more) in
            let e : owner_of n ≡ owner_of s = omega arith in
            rw e (same_self R.grown.forest (owner_of s) (omega (arith, own.first, own.last, R.grown.size)))

    opened : (v : ℕ) → Adj width (Walks width height states) (y * width + x) v → Opened width height states x y v
    opened v a =
        let h = (G.searching.points head G.more).0 in
        rw (digits_mod y h, digits_div y h, div-add-mod' v width) at (step_opened a.first a.last a.step)

    seen : (v : ℕ) → Adj width (Walks width height states) (y * width + x) v →
        T (is_label (of states v)) ×
        ((owner_of s ≤ owner_of (of states v)) ⊎ (depth_of s ≡ 15) → depth_of s + depth_of (of states v) < 32 → Same (of parents) (owner_of s) (owner_of (of states v)))
    seen v a = let o = opened v a in rw o.cell at (looked o.a o.b o.inside o.opened)

    done : (v : ℕ) → Adj width (Walks width height states) (y * width + x) v → T (is_label (of states v)) × (depth_of (of states v) ≤ suc (depth_of (of states (y * width + x))))
    done v a =
        let l = (seen v a).0 in
        let t = R.searching.turn in
        let i = t.all v l in
        (l, rw (i.2, same_point R) at (t.wave i.0 (more_now R) i.1))

    pub round_done : Expanded width height states₀ parents₀ states queue parents ranks list tail head
    round_done =
        let S = R.searching in
        record {
          searching = record {
            wide = S.wide;
            tall = S.tall;
            cells = S.cells;
            room = S.room;
            few = S.few;
            fits = S.fits;
            labels = S.labels;
            points = S.points;
            turn = next_turn S.turn (more_now R) (rw (same_point R) done) (rw (same_point R, same_state R) (λ v a. (seen v a).1));
          };
          grown = R.grown;
          alike = R.alike;
          long = L.long;
        }

-- ---- the numbers of a move: each fits its type, and no difference stops at 0
pub record Sizes (width p k a b step : ℕ) : Type 0 where
  pub low : k < 8
  pub next : (p / 1024 * width + p % 1024) + step - width - 1 ≡ next_of width (p % 1024) (p / 1024) a b
  pub side : next_of width (p % 1024) (p / 1024) a b + 1 - a ≡ (p / 1024 + b - 1) * width + p % 1024
  pub second : (p / 1024 * width + p % 1024) + a - 1 ≡ p / 1024 * width + (p % 1024 + a - 1)
  pub step_fits : Fits w64 ((p / 1024 * width + p % 1024) + step)
  pub step_low : width ≤ (p / 1024 * width + p % 1024) + step
  pub step_some : 1 ≤ (p / 1024 * width + p % 1024) + step - width
  pub fits : MoveFits (p / 1024 * width + p % 1024) ((p / 1024 * width + p % 1024) + step - width - 1) p a b

module _ {width height : ℕ} {states queue parents ranks over down steps list₀ : List ℕ} {tail head : ℕ}
    (G : Turning width height states queue parents ranks over down steps list₀ tail head) where
  pub head_cell : OnMap width height states (of queue head % 1024) (of queue head / 1024)
  head_cell =
      let S = G.searching in
      let q = S.points head G.more in
      record { column = q.0; row = q.1; wide = S.wide.1; tall = S.tall.1; cells = S.cells }

  pub head_queued : head < length queue
  head_queued = let S = G.searching in omega (arith, G.more, queue_in S.turn, S.cells, S.room)

  few : height * width ≤ 1048576
  few =
      let S = G.searching in
      let h : height * width ≤ 1024 * width = mul-le-mul_right {m = height} {n = 1024} width S.tall.1 in
      omega (arith, S.wide.1)

  pub few_queued : length queue ≤ 1048576
  few_queued = omega (arith, G.searching.room, few)

  pub few_cells : length states ≤ 1048576
  few_cells = omega (arith, G.searching.cells, few)

module _ {width height : ℕ} {states queue parents ranks over down steps list₀ list : List ℕ} {tail head count : ℕ}
    (G : Turning width height states queue parents ranks over down steps list₀ tail head)
    (L : Listed width height states over down steps (of queue head % 1024) (of queue head / 1024) (of states (cell_of width (of queue head))) list count) where
  pub sizes : (j : ℕ) → j < count → Sizes width (of queue head) (of list j) (of over (of list j)) (of down (of list j)) (of steps (of list j))
  sizes j h =
      let o = L.only j h in
      let k = of list j in
      let m = inside_is G.table k o.0 o.1 in
      let p = of queue head in
      let a = of over k in
      let b = of down k in
      let cell = p / 1024 * width + p % 1024 in
      let e = G.table.offset k o.0 in
      let w = G.searching.wide.1 in
      let r = row_moved width (p / 1024) b m.low_y in
      let row : p / 1024 < 1024 = omega (arith, (head_cell G).row, (head_cell G).tall) in
      let few : cell < 1048576 = omega (arith, few_cells G, here_in G.searching G.more) in
      let along : of steps k ≤ 2050 = omega (arith, e, m.small_a, w, mul-le-mul_right {m = b} {n = 2} width m.small_b) in
      let enough : width + 1 ≤ cell + of steps k = omega (arith, e, r, m.low_x) in
      let next : cell + of steps k - width - 1 ≡ next_of width (p % 1024) (p / 1024) a b = rw e (next_is width (p % 1024) (p / 1024) a b m.low_x m.low_y) in
      record {
        low = o.0;
        next = next;
        side = omega (arith, m.low_x);
        second = omega (arith, m.low_x);
        step_fits = omega (arith, few, along);
        step_low = omega (arith, enough);
        step_some = omega (arith, enough);
        fits =
            record {
              across = m.small_a;
              along = m.small_b;
              here = few;
              there = rw next (omega (arith, few_cells G, flat_lt {s = width} {h = height} {x = p % 1024 + a - 1} {y = p / 1024 + b - 1} (omega (arith, m.low_x, m.high_x)) (omega (arith, m.low_y, m.high_y)), G.searching.cells));
              place = omega (arith, row);
              first = rw next (omega (arith, m.low_x));
              second = omega (arith, m.low_x);
              low = omega (arith, m.low_x, m.low_y);
            };
      }

-- a move by the numbers that the code makes is the move
module _ {width p k a b step : ℕ} (z : Sizes width p k a b step) {states queue parents ranks : List ℕ} {tail state : ℕ} where
  pub may_at : MayVisit states queue parents ranks tail state (next_of width (p % 1024) (p / 1024) a b) ((p / 1024 + b - 1) * width + p % 1024) (p / 1024 * width + (p % 1024 + a - 1)) →
      MayVisit states queue parents ranks tail state ((p / 1024 * width + p % 1024) + step - width - 1) ((p / 1024 * width + p % 1024) + step - width - 1 + 1 - a) ((p / 1024 * width + p % 1024) + a - 1)
  may_at m = rw (z.next, z.side, z.second) m

  pub visited_at : {states' queue' parents' ranks' : List ℕ} {tail' : ℕ} →
      Visited states queue parents ranks tail state ((p / 1024 * width + p % 1024) + step - width - 1) (p + (b * 1024 + a) - 1025) ((p / 1024 * width + p % 1024) + step - width - 1 + 1 - a) ((p / 1024 * width + p % 1024) + a - 1)
      states' queue' parents' ranks' tail' →
      Visited states queue parents ranks tail state (next_of width (p % 1024) (p / 1024) a b) (p + (b * 1024 + a) - 1025) ((p / 1024 + b - 1) * width + p % 1024) (p / 1024 * width + (p % 1024 + a - 1))
      states' queue' parents' ranks' tail'
  visited_at v = rw (z.next, z.side, z.second) at v
