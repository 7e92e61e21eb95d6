-- `recordreading::part_by_record`: the record of the five numbers is asked.
use Rattle.recordreading.proofs.part_by_record.Goals as goal

pub returns : goal.returns
returns c = c.cell_part.ensures
