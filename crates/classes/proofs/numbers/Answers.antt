-- `classes::numbers`: the labels, the search from them, and the numbers of the fields.
use mathlib.Core.Path.{refl, sym, ◌∙◌}
use Rattle.classes.proofs.Searched.{sown_seeded, classes_made, fields_found}
use Rattle.classes.proofs.numbers.Goals as goal

pub seed-requires : goal.seed-requires
seed-requires c = c.requires.0

pub search-requires : goal.search-requires
search-requires c = sown_seeded c.seed.ensures.sown refl

pub numbered-requires : goal.numbered-requires
numbered-requires c = let g = c.search.ensures.ran.running.grown in (g.forest, c.requires.1 ∙ sym (g.size ∙ c.seed.ensures.sown.size))

-- what is behind the three slices is what the last call left there
pub returns : goal.returns
returns c =
    let g = c.numbered.ensures in
    let s = c.search.ensures.lent in
    let d = c.seed.ensures.lent in
    let queue = c.queue-1.given.1.1 (sym (s.0 ∙ d.0)) in
    let parents = c.parents-1.given.1.1 (sym (g.lent.0 ∙ s.1.0 ∙ d.1.0)) in
    let ranks = c.ranks-1.given.1.1 (sym (g.lent.1 ∙ s.1.1 ∙ d.1.1)) in
    rw (queue, parents, ranks) (fields_found (classes_made c.seed.ensures.sown c.search.ensures.ran g.made.rooted) g.made.numbers g.made.cleared)
