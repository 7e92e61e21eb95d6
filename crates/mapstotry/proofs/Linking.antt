-- The links of the resources on a map, as a table of marks: resource s is marked in row r exactly where r and s are linked.
use mathlib.Core.Bool.{Bool, ◌&&◌}
use mathlib.Core.List.{List}
use Prim.Native.Nat.{ℕ, ◌+◌, ◌*◌, ◌/◌, ◌<◌}
use lib.ListN.{length, get_or}
use lib.IntN.{ℤ}
use lib.Dec.{T, eqb, ltb, ltb→lt}
use Rattle.walkgraph.specs.Lists.{tabulate}
use Rattle.walkgraph.specs.Map.{walkable}
use Rattle.walkgraph.specs.Painting.{rectangle}
use Rattle.walkgraph.specs.Ring.{ring, access}
use Rattle.walkgraph.proofs.Tests.{and_left, and_right, and_pair}
use Rattle.walkgraph.proofs.Walks.{last_allowed}
use Rattle.mapstotry.specs.Drawing.{Terrain}
use Rattle.mapstotry.specs.Table.{access_of, LinkedOn}
use Rattle.mapstotry.proofs.Tests.{some, some_at, at_some}
use Rattle.mapstotry.proofs.Nearness.{marks, marked, mark, unmark, within, marked_near, near_marked}

-- a marked cell passes the test
unfoldable pub meets : ℕ → ℕ → List (List Bool) → (ℕ → ℕ → Bool) → Bool
meets width height table test = some (λ y. some (λ x. test x y && marked table x y) width) height

-- the walkable cells of the map
unfoldable pub land : Terrain → ℕ → ℕ → Bool
land map = walkable map.width map.height map.cells

pub land_on_map : (map : Terrain) (x y : ℕ) → T (land map x y) → (x < map.width) × (y < map.height)
unfolding land walkable
land_on_map map x y t =
    let width = map.width in
    let height = map.height in
    let a = and_left (ltb x width && ltb y height) (eqb (get_or map.cells (y * width + x) 0) 1) t in
    (ltb→lt x width (and_left (ltb x width) (ltb y height) a), ltb→lt y height (and_right (ltb x width) (ltb y height) a))

-- the cells within 32 steps of an access cell of resource r
unfoldable pub around : Terrain → List ℤ → ℕ → List (List Bool)
around map resources r = within map.width map.height (land map) (access_of map resources r) 32

-- the table of links, a row for each resource
unfoldable pub links : Terrain → List ℤ → List (List Bool)
links map resources =
    let n = length resources / 4 in
    tabulate n (λ r. let table = around map resources r in tabulate n (λ s. meets map.width map.height table (access_of map resources s)))

module _ (map : Terrain) (resources : List ℤ) where
  -- who has an access cell is a resource, and the cell is walkable
  pub access_resource : (r x y : ℕ) → T (access_of map resources r x y) → r < length resources / 4
  unfolding access_of
  access_resource r x y t =
      ltb→lt r (length resources / 4) (and_left (ltb r (length resources / 4)) (access map.width map.height map.cells (rectangle resources r) x y) t)

  access_land : (r x y : ℕ) → T (access_of map resources r x y) → T (land map x y)
  unfolding access_of access land
  access_land r x y t =
      let width = map.width in
      let height = map.height in
      and_right (ring width height (rectangle resources r) x y) (walkable width height map.cells x y)
      (and_right (ltb r (length resources / 4)) (ring width height (rectangle resources r) x y && walkable width height map.cells x y) t)

  -- marked exactly where linked
  pub links_linked : (r s : ℕ) → T (marked (links map resources) s r) → LinkedOn map resources r s
  unfolding links marks meets around land
  links_linked r s t =
      let width = map.width in
      let height = map.height in
      let n = length resources / 4 in
      let table = around map resources r in
      let test : ℕ → ℕ → Bool = λ x y. access_of map resources s x y && marked table x y in
      let m = (unmark n n (λ s r. meets width height (around map resources r) (access_of map resources s)) s r t).2 in
      let p = some_at (λ y. some (λ x. test x y) width) height m in
      let q = some_at (λ x. test x p.0) width p.2 in
      let x = q.0 in
      let y = p.0 in
      let i = marked_near width height (land map) (access_of map resources r) (land_on_map map) (access_land r) 32 x y (and_right (access_of map resources s x y) (marked table x y) q.2) in
      record {
        a = i.a;
        b = i.b;
        x = x;
        y = y;
        steps = i.steps;
        cost = i.cost;
        first = i.first;
        last = and_left (access_of map resources s x y) (marked table x y) q.2;
        walk = i.walk;
        short = i.short;
      }

  pub linked_links : (r s : ℕ) → LinkedOn map resources r s → T (marked (links map resources) s r)
  unfolding links marks meets around land
  linked_links r s l =
      let width = map.width in
      let height = map.height in
      let n = length resources / 4 in
      let table = around map resources r in
      let test : ℕ → ℕ → Bool = λ x y. access_of map resources s x y && marked table x y in
      let i = land_on_map map l.x l.y (last_allowed l.walk) in
      let t = near_marked width height (land map) (access_of map resources r) (land_on_map map) (access_land r) 32 l.first l.walk l.short in
      let p = and_pair (access_of map resources s l.x l.y) (marked table l.x l.y) l.last t in
      let m = at_some (λ y. some (λ x. test x y) width) height l.y i.1 (at_some (λ x. test x l.y) width l.x i.0 p) in
      mark n n (λ s r. meets width height (around map resources r) (access_of map resources s)) s r (access_resource s l.x l.y l.last) (access_resource r l.a l.b l.first) m
