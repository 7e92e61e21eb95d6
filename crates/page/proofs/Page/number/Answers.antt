-- `page::Page::number`: the number's text is written into the buffer.
use mathlib.Core.Path.{refl}
use Rattle.page.proofs.Page.number.Goals as goal

pub natural-self-requires : goal.natural-self-requires
natural-self-requires c = c.requires.room

pub returns : goal.returns
returns c = record { same = refl; ends = c.natural-self.ensures.ends; content = c.natural-self.ensures.content }
