-- Document 01, the table of refusals: each number, exactly when it is given and with which place, and the order in which the library's calls judge.
use Rattle.std.specs.Prelude.{Bool, true, cond, not, ◌&&◌, ◌||◌, List, [], ◌∷◌, ℕ, ◌+◌, ◌*◌, ◌/◌, ◌%◌, length, ℤ, pos, leb, ltb, eqb}
use Rattle.std.specs.Int.Signed.{le_z, lt_z}
use Rattle.walkgraph.specs.Lists.{first_from}
use Rattle.walkgraph.specs.Painting.{Rectangle, rectangle}
use Rattle.walkgraph.specs.Ring.{pixel, access_cells}
use Rattle.walkgraph.specs.Buffers.{Call, padded_of, padded_cells, Lent}

-- a call is accepted, or refused with a number and a place
pub data Verdict : Type 0 where
  accepted : Verdict
  refused : (number place : ℕ) → Verdict

-- refused where the test holds; else what comes next decides
unfoldable pub judge : Bool → ℕ → ℕ → Verdict → Verdict
judge test number place next = cond test (refused number place) next

-- every entry of a list passes the test
unfoldable pub all {ℓ} : {A : Type ℓ} → (A → Bool) → List A → Bool
all test [] = true
all test (a ∷ l) = test a && all test l

-- 1 BAD GRID: "size off its limits, length not width x height, or a byte above 1"
unfoldable pub bad_grid : ℕ → ℕ → List ℕ → Bool
bad_grid width height cells =
    not (leb 1 width && leb width 1024 && leb 1 height && leb height 1024 && eqb (length cells) (width * height) && all (λ byte. leb byte 1) cells)

-- 2 LANES: "lanes not 8 or 16"
unfoldable pub bad_lanes : ℕ → Bool
bad_lanes lanes = not (eqb lanes 8 || eqb lanes 16)

-- numbers in fours, and at most so many of them
unfoldable pub bad_fours : ℕ → List ℤ → Bool
bad_fours most numbers = not (eqb (length numbers % 4) 0 && leb (length numbers / 4) most)

-- 4 BAD RESOURCE: "not 0 <= left < right <= 8 x width, or the same vertically"
unfoldable pub bad_side : ℕ → ℤ → ℤ → Bool
bad_side size low high = not (le_z (pos 0) low && lt_z low high && le_z high (pos (8 * size)))

-- of both sides
unfoldable pub bad_resource : ℕ → ℕ → Rectangle → Bool
bad_resource width height r = bad_side width r.left r.right || bad_side height r.top r.bottom

-- its place: "first such, from 0"; the number of resources where there is none
unfoldable pub first_bad_resource : ℕ → ℕ → List ℤ → ℕ
first_bad_resource width height resources = first_from (λ i. bad_resource width height (rectangle resources i)) 0 (length resources / 4)

-- 6 TARGETS: "box empty or not in the map"
unfoldable pub bad_span : ℕ → ℤ → ℤ → Bool
bad_span size low high = not (le_z (pos 0) low && le_z low high && lt_z high (pos size))

-- ---- the field call

-- what it is given, before anything is known of it; the target box is four signed numbers
pub record FieldInput : Type 0 where
  pub width : ℕ
  pub height : ℕ
  pub cells : List ℕ
  pub lanes : ℕ
  pub blockers : List ℤ
  pub resources : List ℤ
  pub targets : Rectangle

-- the call of an input whose target box is in the map
unfoldable pub call_of : ℕ → FieldInput → Call
call_of reach i =
    record {
      reach = reach;
      width = i.width;
      height = i.height;
      cells = i.cells;
      lanes = i.lanes;
      blockers = i.blockers;
      resources = i.resources;
      targets = record {
        left = pixel i.targets.left;
        top = pixel i.targets.top;
        right = pixel i.targets.right;
        bottom = pixel i.targets.bottom;
      };
    }

-- 7 SCRATCH: "P x lanes i16, P bytes of walk, P bytes of flags, 2H u16 of row intervals (two a row), and three version buffers of H+2 u32"
unfoldable pub short_buffers : Call → Lent → Bool
short_buffers c lent =
    let cells = padded_cells (padded_of c) in
    let rows = (padded_of c).height in
    not
    (leb (cells * c.lanes) (length lent.lanes) && leb cells (length lent.walk) && leb cells (length lent.flags) && leb (2 * rows) (length lent.rows) && leb (rows + 2) (length lent.versions) && leb (rows + 2) (length lent.pulled_down) && leb (rows + 2) (length lent.pulled_up))

-- "Field call order: 1 to 7"; "With no resources [..] no length is needed of any buffer"
unfoldable pub field_verdict : ℕ → FieldInput → Lent → Verdict
field_verdict reach i lent =
    let n = length i.resources / 4 in
    let bad = first_bad_resource i.width i.height i.resources in
    judge (bad_grid i.width i.height i.cells) 1 0
    (judge (bad_lanes i.lanes) 2 0
    (judge (bad_fours i.lanes i.resources) 3 0
    (judge (ltb bad n) 4 bad
    (judge (bad_fours 4096 i.blockers) 5 0
    (judge (bad_span i.width i.targets.left i.targets.right || bad_span i.height i.targets.top i.targets.bottom) 6 0
    (judge (not (eqb n 0) && short_buffers (call_of reach i) lent) 7 0 accepted))))))

-- ---- access of a rectangle: "Access: 1, 4, 7"
unfoldable pub access_verdict : ℕ → ℕ → List ℕ → Rectangle → ℕ → Verdict
access_verdict width height cells r lent =
    judge (bad_grid width height cells) 1 0
    (judge (bad_resource width height r) 4 0
    (judge (ltb lent (length (access_cells width height cells r))) 7 0 accepted))

-- ---- fields

-- the lengths of the buffers that it is lent
pub record JoinLengths : Type 0 where
  pub states : ℕ
  pub queue : ℕ
  pub parents : ℕ
  pub ranks : ℕ
  pub answers : ℕ

-- the ends of n lists never fall, from `before` on
unfoldable pub never_fall : ℕ → List ℕ → Bool
never_fall before [] = true
never_fall before (e ∷ ends) = leb before e && never_fall e ends

-- the last end, or 0 where there is none
unfoldable pub last_end : ℕ → List ℕ → ℕ
last_end before [] = before
last_end before (e ∷ ends) = last_end e ends

-- 8 ACCESS: "ends fall, last end is not the list's length (0 if n = 0), or an index is >= C"
unfoldable pub bad_access : ℕ → List ℕ → List ℕ → Bool
bad_access cells indices ends = not (never_fall 0 ends && eqb (last_end 0 ends) (length indices) && all (λ i. ltb i cells) indices)

-- 7 SCRATCH: "C u16 states, C u32 queue, n u16 parents, n u8 ranks, n u16 answers"
unfoldable pub short_join : ℕ → ℕ → JoinLengths → Bool
short_join cells n lent =
    not (leb cells lent.states && leb cells lent.queue && leb n lent.parents && leb n lent.ranks && leb n lent.answers)

-- "Fields: 1, 3, 8, 7"; 3 COUNT is "for fields, n > 512"
unfoldable pub join_verdict : ℕ → ℕ → List ℕ → List ℕ → List ℕ → JoinLengths → Verdict
join_verdict width height cells indices ends lent =
    judge (bad_grid width height cells) 1 0
    (judge (ltb 512 (length ends)) 3 0
    (judge (bad_access (width * height) indices ends) 8 0
    (judge (short_join (width * height) (length ends) lent) 7 0 accepted)))
