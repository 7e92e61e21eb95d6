-- `page::Page::word`: the part of the buffer from the place on that is as long as the word becomes the word.
use mathlib.Core.Path.{refl}
use Rattle.page.proofs.Putting.{copied}
use Rattle.page.proofs.Page.word.Goals as goal

pub returns : goal.returns
returns c =
    let page = c.args.self.now in
    record { same = refl; ends = refl; content = rw c.copy_from_slice.ensures.after (copied c.args.word.now page.bytes.now page.at c.requires.room) }
