-- `sheettext::sheet`: the lines before the target cells, those of the cells, and those after them, with room for the most that each can be.
use Rattle.sheettext.proofs.Sheets.{sheet_head, sheet_targets, sheet_groups, sheet_all}
use Rattle.sheettext.proofs.sheet.Goals as goal

pub target_cells-requires : goal.target_cells-requires
target_cells-requires c = c.requires.box

pub head-requires : goal.head-requires
head-requires c = rw c.target_cells.ensures (sheet_head c.requires)

pub rows-requires : goal.rows-requires
rows-requires c = sheet_targets c.requires c.args.field.lanes.now (rw c.target_cells.ensures at c.head.ensures)

pub groups-requires : goal.groups-requires
groups-requires c = sheet_groups c.requires c.args.field.lanes.now (rw c.target_cells.ensures at c.head.ensures) c.rows.ensures

pub returns : goal.returns
returns c = sheet_all c.requires c.args.field.lanes.now (rw c.target_cells.ensures at c.head.ensures) c.rows.ensures c.groups.ensures
