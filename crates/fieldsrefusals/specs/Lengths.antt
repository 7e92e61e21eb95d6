-- The lengths of the lent buffers as the table reads them.
use Rattle.walkgraph.specs.Refusals.{JoinLengths}
use Rattle.fieldsrefusals.specs.declared.Lent.{Lent}

-- "C u16 states, C u32 queue, n u16 parents, n u8 ranks, n u16 answers"
abbrev pub lengths_of : Lent → JoinLengths
lengths_of lent = record { states = lent.states; queue = lent.queue; parents = lent.parents; ranks = lent.ranks; answers = lent.answers }
