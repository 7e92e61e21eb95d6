-- Document 01, "Fields of resources", "Buffers and numbers given back" and "The promises themselves": what the fields call promises, for every input.
use Rattle.std.specs.Prelude.{◌≡◌, List, ℕ, zero, suc, ◌+◌, ◌*◌, ◌≤◌, ◌<◌, get_or, length, T}
use Rattle.walkgraph.specs.Map.{walkable}
use Rattle.walkgraph.specs.Links.{Linked, Numbered}
use Rattle.walkgraph.specs.Buffers.{UsedPart}
use Rattle.walkgraph.specs.Refusals.{Verdict, accepted, refused, JoinLengths, join_verdict}

-- what it is given: "Access cells come as u32 indices with n u32 ends."
pub record JoinInput : Type 0 where
  pub width : ℕ
  pub height : ℕ
  pub cells : List ℕ
  pub indices : List ℕ
  pub ends : List ℕ

-- what it is lent: "C u16 states, C u32 queue, n u16 parents, n u8 ranks, n u16 answers"
pub record JoinLent : Type 0 where
  pub states : List ℕ
  pub queue : List ℕ
  pub parents : List ℕ
  pub ranks : List ℕ
  pub answers : List ℕ

-- the lengths of the lent buffers
unfoldable pub lengths_of : JoinLent → JoinLengths
lengths_of lent =
    record {
      states = length lent.states;
      queue = length lent.queue;
      parents = length lent.parents;
      ranks = length lent.ranks;
      answers = length lent.answers;
    }

-- the verdict on a call, by what it is given and the lengths of what it is lent
unfoldable pub fields_verdict : JoinInput → JoinLent → Verdict
fields_verdict i lent = join_verdict i.width i.height i.cells i.indices i.ends (lengths_of lent)

-- a refusal's number and place, or how many fields there are
pub data JoinAnswer : Type 0 where
  refusal : (number place : ℕ) → JoinAnswer
  joined : (count : ℕ) → JoinAnswer

-- where the indices of resource r start: at the end of the one before it, and at 0 for the first
unfoldable pub start_of : List ℕ → ℕ → ℕ
start_of ends zero = 0
start_of ends (suc r) = get_or ends r 0

-- "on the terrain without blockers"
abbrev pub WalkableOn : JoinInput → ℕ → ℕ → Type 0
WalkableOn i x y = T (walkable i.width i.height i.cells x y)

-- "a walkable access cell" of resource r: the cell (x, y) is walkable, and one of the indices of r is its index
pub record Access (i : JoinInput) (r x y : ℕ) : Type 0 where
  pub place : ℕ
  pub low : start_of i.ends r ≤ place
  pub high : place < get_or i.ends r 0
  pub index : get_or i.indices place 0 ≡ y * i.width + x
  pub walks : WalkableOn i x y

-- "Two resources are linked if a walk of at most 32 steps joins a walkable access cell of one to one of the other"
abbrev pub LinkedBy : JoinInput → ℕ → ℕ → Type 0
LinkedBy i = Linked (WalkableOn i) (Access i)

-- "Fields are the classes under chains of links, numbered from 0 by their smallest member", one number for each of the n resources, and how many fields there are: each
-- number below the count is some resource's, and no other is. "Entries past the used part stay."
pub record AnswersAre (i : JoinInput) (before after : List ℕ) (count : ℕ) : Type 0 where
  pub long : length after ≡ length before
  pub numbered : Numbered (LinkedBy i) (length i.ends) (λ r. get_or after r 0)
  pub below : (r : ℕ) → r < length i.ends → get_or after r 0 < count
  pub used : (k : ℕ) → k < count → (r : ℕ) × (r < length i.ends) × (get_or after r 0 ≡ k)
  pub stay : (j : ℕ) → length i.ends ≤ j → get_or after j 0 ≡ get_or before j 0

-- what an accepted call leaves: "The first four end as 0 in their used parts."
pub record FieldsMade (i : JoinInput) (before after : JoinLent) (count : ℕ) : Type 0 where
  pub states : UsedPart (i.width * i.height) (λ j. 0) before.states after.states
  pub queue : UsedPart (i.width * i.height) (λ j. 0) before.queue after.queue
  pub parents : UsedPart (length i.ends) (λ j. 0) before.parents after.parents
  pub ranks : UsedPart (length i.ends) (λ j. 0) before.ranks after.ranks
  pub answers : AnswersAre i before.answers after.answers count

-- the answer and every lent buffer after the call, where they held `before`
pub data FieldsPromise (i : JoinInput) (before : JoinLent) : JoinLent → JoinAnswer → Type 0 where
  -- "A refusal returns number and place and writes nothing."
  refuses : {number place : ℕ} → fields_verdict i before ≡ refused number place → FieldsPromise i before before (refusal number place)
  -- the fields, and how many there are
  joins : {after : JoinLent} {count : ℕ} → fields_verdict i before ≡ accepted → FieldsMade i before after count → FieldsPromise i before after (joined count)
