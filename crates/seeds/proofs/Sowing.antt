-- One more access cell is labelled, met or left alone.
use mathlib.Core.Path.{◌≡◌, refl, sym, ◌∙◌, ap}
use mathlib.Core.Logic.{◌≢◌, ◌⊎◌, inl, inr, ⊎_elim}
use mathlib.Core.List.{List}
use Prim.Native.Nat.{ℕ, ◌+◌, ◌-◌, ◌*◌, ◌/◌, ◌%◌, ◌≤◌, ◌<◌}
use native.Mathlib.Decide.{ℕ_discrete}
use native.Mathlib.Nat.{mod-lt, mul-le-mul, div-add-mod', div-lt_iff_lt-mul}
use native.Mathlib.Omega.{arith}
use lib.Arith.{digits_div, digits_mod}
use Rattle.std.proofs.lemmas.Grind.{common_steps}
use lib.ListN.{get_or, length, set, take, drop}
use Rattle.walkgraph.specs.Walk.{here}
use Rattle.walkgraph.specs.Links.{Joined, linked}
use Rattle.walkgraph.specs.FieldsPromise.{JoinInput, start_of, WalkableOn, Access, LinkedBy}
use Rattle.walkgraph.proofs.Tests.{by_cases}
use Rattle.walkgraph.proofs.LinkSearch.{joined_by}
use Rattle.walkgraph.proofs.DisjointSet.{Same}
use Rattle.disjoint.specs.Forest.{of}
use Rattle.cellstate.specs.Labels.{owner_of, depth_of, cell_of}
use Rattle.labels.specs.Growth.{Chained, Close, Met}
use Rattle.visits.specs.Plants.{MayPlant, Planted, shut, labelled, met}
use Rattle.visits.specs.SearchState.{Walks, Seeds, Planting}
use Rattle.labels.proofs.Growing.{same_self}
use Rattle.visits.proofs.Searching.{is_label_lem, at_new, at_old, walks_on, walks_off}
use Rattle.visits.proofs.Planting.{may_plant, plant_planted}
use Rattle.accesslabel.specs.AccessLabel.{label_of, point_of}
use Rattle.seeds.specs.Sown.{Sowable, Sown}
use Rattle.seeds.specs.Sowing.{Done, SownTo, OfList, MaySeed}

-- ---- the point of an index
pub point_column : (width index : ℕ) → 1 ≤ width → width ≤ 1024 → point_of width index % 1024 ≡ index % width
point_column width index h k = digits_mod (index / width) (omega (arith, mod-lt index h))

pub point_row : (width index : ℕ) → 1 ≤ width → width ≤ 1024 → point_of width index / 1024 ≡ index / width
point_row width index h k = digits_div (index / width) (omega (arith, mod-lt index h))

point_cell : (width index : ℕ) → 1 ≤ width → width ≤ 1024 → cell_of width (point_of width index) ≡ index
point_cell width index h k = rw (point_column width index h k, point_row width index h k) (div-add-mod' index width)

row_below : (width height index : ℕ) → 1 ≤ width → index < height * width → index / width < height
row_below width height index h k = (div-lt_iff_lt-mul h).1 k

-- ---- place k, of resource r
module _ {i : JoinInput} {r k : ℕ} {states queue parents ranks : List ℕ} {tail : ℕ} (S : Sowable i) (B : SownTo i r k states queue parents ranks tail) (in-ends : r < length i.ends)
    (low : start_of i.ends r ≤ k) (high : k < get_or i.ends r 0) where
  abbrev width : ℕ
  width = i.width

  abbrev height : ℕ
  height = i.height

  abbrev index : ℕ
  index = get_or i.indices k 0

  abbrev label : ℕ
  label = label_of r

  pub in_cells : index < height * width
  in_cells = S.cell k (omega (arith, S.high r in-ends))

  in_map : index < length states
  in_map = omega (arith, B.planting.searching.cells, in_cells)

  in_parents : r < length parents
  in_parents = omega (arith, B.size)

  owner_is : owner_of label ≡ r
  owner_is = omega arith

  pub sow_may : MayPlant states queue parents ranks tail label index
  sow_may = may_plant B.planting in_map in_parents

  planting_more : {states' queue' parents' ranks' : List ℕ} {tail' : ℕ} → Planted states queue parents ranks tail label index (point_of width index) states' queue' parents' ranks' tail' →
      Planting width height states' queue' parents' ranks' tail'
  planting_more p =
      let a = S.wide.0 in
      let b = S.wide.1 in
      let column = point_column width index a b in
      let row = point_row width index a b in
      plant_planted (point_of width index) B.planting in_map in_parents (point_cell width index a b) (rw column (mod-lt index a)) (rw row (row_below width height index a in_cells)) p

  -- a place that is done then was done, or is place k
  done_more : {s x y : ℕ} (a : Access i s x y) → Done r (k + 1) s a.place → Done r k s a.place ⊎ ((s ≡ r) × (index ≡ y * width + x))
  done_more a (inl h) = inl (inl h)
  done_more a (inr h) =
      by_cases (ℕ_discrete a.place k)
      (λ e. inr (h.0, ap (λ p. get_or i.indices p 0) (sym e) ∙ a.index))
      (λ n. inl (inr (h.0, omega (arith, h.1))))

  access_here : (x y : ℕ) → index ≡ y * width + x → WalkableOn i x y → Access i r x y
  access_here x y e w = record { place = k; low = low; high = high; index = e; walks = w }

  -- an unwalkable cell
  module _ (z : of states index ≡ 0) where
    sown_shut : SownTo i r (k + 1) states queue parents ranks tail
    sown_shut =
        record {
          planting = B.planting;
          size = B.size;
          walks_on = B.walks_on;
          walks_off = B.walks_off;
          every = λ s x y a d.
              ⊎_elim
              (λ o. B.every s x y a o)
              (λ e. absurd (omega (arith, (B.walks_on x y a.walks).walks, ap (of states) e.1)))
              (done_more a d);
          only = B.only;
          joined = B.joined;
        }

  -- a cell that had no label
  module _ (new : of states index ≡ 65535) where
    abbrev states' : List ℕ
    states' = set states index label

    new_at : of states' index ≡ label
    new_at = at_new width height states index label new in_map (omega arith)

    old_at : (c : ℕ) → c ≢ index → of states' c ≡ of states c
    old_at = at_old width height states index label new in_map (omega arith)

    off : (x y : ℕ) → Walks width height states' x y → WalkableOn i x y
    off x y w = B.walks_off x y (walks_off width height states index label new in_map (omega arith) x y w)

    every_new : (s x y : ℕ) (a : Access i s x y) → Done r (k + 1) s a.place → (depth_of (of states' (y * width + x)) ≡ 0) × Same (of parents) s (owner_of (of states' (y * width + x)))
    every_new s x y a d =
        let c = y * width + x in
        ⊎_elim
        (λ o.
        let b = B.every s x y a o in
        let n : c ≢ index = λ e. omega (arith, b.0, ap (λ c. depth_of (of states c)) e, ap depth_of new) in
        rw (old_at c n) b)
        (λ e. rw (← e.1, new_at, e.0) (omega arith, rw owner_is (same_self B.planting.forest r in_parents)))
        (done_more a d)

    only_new : (s x y : ℕ) → Seeds width height states' s x y → Access i s x y
    only_new s x y q =
        let c = y * width + x in
        by_cases (ℕ_discrete c index)
        (λ e.
        let f : s ≡ r = sym q.owner ∙ ap owner_of (ap (of states') e ∙ new_at) ∙ owner_is in
        rw f (access_here x y (sym e) (off x y q.walks)))
        (λ n.
        let w = walks_off width height states index label new in_map (omega arith) x y q.walks in
        B.only s x y (record { walks = w; owner = rw (old_at c n) at q.owner; depth = rw (old_at c n) at q.depth }))

    sown_new : SownTo i r (k + 1) states' (set queue tail (point_of width index)) parents ranks (tail + 1)
    sown_new =
        record {
          planting = planting_more (labelled new);
          size = B.size;
          walks_on = λ x y w. walks_on width height states index label new in_map (omega arith) x y (B.walks_on x y w);
          walks_off = off;
          every = every_new;
          only = only_new;
          joined = B.joined;
        }

  -- a cell that had one
  module _ {parents' ranks' : List ℕ} (some : of states index ≢ 0) (old : of states index ≢ 65535) (g : Met parents parents' ranks' label (of states index)) where
    abbrev state : ℕ
    state = of states index

    flat : depth_of state ≡ 0
    flat =
        let P = B.planting in
        let q = P.searching.turn.all index (is_label_lem state (omega arith) (omega (arith, P.searching.fits index))) in
        rw q.2 at (P.flat q.0 q.1)

    -- both resources have the cell
    shared : LinkedBy i r (owner_of state)
    shared =
        let x = index % width in
        let y = index / width in
        let e : y * width + x ≡ index = div-add-mod' index width in
        let w : Walks width height states x y =
        record { column = mod-lt index S.wide.0; row = row_below width height index S.wide.0 in_cells; walks = rw e (omega arith) } in
        let o = B.walks_off x y w in
        record {
          a = x;
          b = y;
          x = x;
          y = y;
          steps = 0;
          cost = 0;
          first = access_here x y (sym e) o;
          last = B.only (owner_of state) x y (record { walks = w; owner = rw e; depth = rw e flat });
          walk = here o;
          short = omega arith;
        }

    link : (u v : ℕ) → Chained parents (Close label state) u v → Joined (LinkedBy i) u v
    link u v t =
        ⊎_elim
        (λ s. B.joined u v t.0 t.1 s)
        (λ c. rw (c.left, c.right, owner_is) (linked shared))
        t.2

    every_met : (s x y : ℕ) (a : Access i s x y) → Done r (k + 1) s a.place → (depth_of (of states (y * width + x)) ≡ 0) × Same (of parents') s (owner_of (of states (y * width + x)))
    every_met s x y a d =
        ⊎_elim
        (λ o. let b = B.every s x y a o in (b.0, g.grown.keeps _ _ b.1))
        (λ e. rw (← e.1, e.0) (flat, rw owner_is at (g.joins (omega (arith, flat)))))
        (done_more a d)

    sown_met : SownTo i r (k + 1) states queue parents' ranks' tail
    sown_met =
        let size = g.grown.size in
        record {
          planting = planting_more (met some old g);
          size = size ∙ B.size;
          walks_on = B.walks_on;
          walks_off = B.walks_off;
          every = every_met;
          only = B.only;
          joined = λ u v h j s. joined_by link (g.grown.only u v (omega arith) (omega arith) s);
        }

  pub sown_more : {states' queue' parents' ranks' : List ℕ} {tail' : ℕ} → Planted states queue parents ranks tail label index (point_of width index) states' queue' parents' ranks' tail' →
      SownTo i r (k + 1) states' queue' parents' ranks' tail'
  sown_more (shut z) = sown_shut z
  sown_more (labelled e) = sown_new e
  sown_more (met n m g) = sown_met n m g

-- ---- a place of a list
module _ {i : JoinInput} {width : ℕ} {indices : List ℕ} {r from to : ℕ} (L : OfList i width indices r from to) where
  pub few_resources : r < 512
  few_resources = omega (arith, L.resource, L.sowable.few)

  -- its places are among the indices
  pub list_end : to ≤ length indices
  list_end = rw (← L.list) (omega (arith, L.high, L.sowable.high r L.resource))

  pub wide_enough : (1 ≤ width) × (width ≤ 1024)
  wide_enough = rw (← L.wide) L.sowable.wide

  module _ {k : ℕ} (h : from ≤ k) (l : k < to) where
    in_lists : k < length i.indices
    in_lists = omega (arith, L.high, L.sowable.high r L.resource)

    pub in_list : k < length indices
    in_list = rw (← L.list) in_lists

    pub index_small : get_or indices k 0 < 1048576
    index_small = let s = L.sowable in rw (← L.list) (omega (arith, s.cell k in_lists, mul-le-mul s.tall.1 s.wide.1))

    module _ {states queue parents ranks : List ℕ} {tail : ℕ} (B : SownTo i r k states queue parents ranks tail) where
      pub place_may : {label : ℕ} → label ≡ label_of r → MayPlant states queue parents ranks tail label (get_or indices k 0)
      place_may e = rw (e, ← L.list) (sow_may L.sowable B L.resource (omega (arith, L.low)) (omega (arith, L.high)))

      pub place_sown : {label : ℕ} {states' queue' parents' ranks' : List ℕ} {tail' : ℕ} →
          Planted states queue parents ranks tail label (get_or indices k 0) (point_of width (get_or indices k 0)) states' queue' parents' ranks' tail' → label ≡ label_of r →
          SownTo i r (k + 1) states' queue' parents' ranks' tail'
      place_sown p e = sown_more L.sowable B L.resource (omega (arith, L.low)) (omega (arith, L.high)) (rw (e, ← L.wide, ← L.list) at p)

-- an index of a part of the indices
pub place_of : (indices : List ℕ) (from to n : ℕ) → from + n < to → get_or (take (to - from) (drop from indices)) n 0 ≡ get_or indices (from + n) 0
place_of indices from to n h = grind (arith, common_steps)

-- the lists keep their lengths
module _ {i : JoinInput} {r s a b : ℕ} {states queue parents ranks states' queue' parents' ranks' : List ℕ} {tail tail' : ℕ} (B : SownTo i r a states queue parents ranks tail)
    (A : SownTo i s b states' queue' parents' ranks' tail') where
  pub long_states : length states' ≡ length states
  long_states = A.planting.searching.cells ∙ sym B.planting.searching.cells

  pub long_queue : length queue' ≡ length queue
  long_queue = A.planting.searching.room ∙ sym B.planting.searching.room

  pub long_parents : length parents' ≡ length parents
  long_parents = A.size ∙ sym B.size

  pub long_ranks : length ranks' ≡ length ranks
  long_ranks = A.planting.forest.long ∙ long_parents ∙ sym B.planting.forest.long

module _ {i : JoinInput} {r a : ℕ} {states queue parents ranks states' queue' parents' ranks' : List ℕ} {tail : ℕ} (M : MaySeed i states queue parents ranks)
    (A : SownTo i r a states' queue' parents' ranks' tail) where
  pub seeded_states : length states' ≡ length states
  seeded_states = A.planting.searching.cells ∙ sym M.cells

  pub seeded_queue : length queue' ≡ length queue
  seeded_queue = A.planting.searching.room ∙ sym M.room

  pub seeded_parents : length parents' ≡ length parents
  seeded_parents = A.size ∙ sym M.members

  pub seeded_ranks : length ranks' ≡ length ranks
  seeded_ranks = A.planting.forest.long ∙ A.size ∙ sym M.long

-- ---- list after list
-- a list is done, and none of the next
pub sown_next : {i : JoinInput} {r : ℕ} {states queue parents ranks : List ℕ} {tail : ℕ} → SownTo i r (get_or i.ends r 0) states queue parents ranks tail →
    SownTo i (r + 1) (start_of i.ends (r + 1)) states queue parents ranks tail
sown_next {i} {r} B =
    record {
      planting = B.planting;
      size = B.size;
      walks_on = B.walks_on;
      walks_off = B.walks_off;
      every = λ s x y a d. B.every s x y a (before s x y a d);
      only = B.only;
      joined = B.joined;
    }
  where
    before : (s x y : ℕ) (a : Access i s x y) → Done (r + 1) (start_of i.ends (r + 1)) s a.place → Done r (get_or i.ends r 0) s a.place
    before s x y a (inl h) =
        by_cases (ℕ_discrete s r)
        (λ q. inr (q, omega (arith, a.high, ap (λ t. get_or i.ends t 0) q)))
        (λ n. inl (omega arith))
    before s x y a (inr h) = absurd (omega (arith, h.1, a.low, ap (start_of i.ends) h.0))

pub sown_all : {i : JoinInput} {lists place : ℕ} {states queue parents ranks : List ℕ} {tail : ℕ} → SownTo i lists place states queue parents ranks tail → Sown i lists states queue parents ranks tail
sown_all B =
    record {
      planting = B.planting;
      size = B.size;
      walks_on = B.walks_on;
      walks_off = B.walks_off;
      every = λ r x y h a. B.every r x y a (inl h);
      only = B.only;
      joined = B.joined;
    }

pub of_list : {i : JoinInput} {r from : ℕ} → Sowable i → r < length i.ends → from ≡ start_of i.ends r → OfList i i.width i.indices r from (get_or i.ends r 0)
of_list {r = r} S h e = record { sowable = S; wide = refl; list = refl; resource = h; low = omega arith; rise = omega (arith, S.rise r h); high = omega arith }
