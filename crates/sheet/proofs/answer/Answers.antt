-- `sheet::answer`: the buffer is long enough for every sheet.
use Rattle.sheets.proofs.Delivered.{whole}
use Rattle.sheet.proofs.answer.Goals as goal

pub returns : goal.returns
returns c = whole c.requires c.sheet.ensures
