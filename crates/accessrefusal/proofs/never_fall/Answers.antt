-- `accessrefusal::never_fall`: ends in order are those that never fall.
use lib.Dec.{leb}
use Rattle.std.proofs.Common.{rules, tests}
use Rattle.std.proofs.lemmas.List.Sorted.{answers_always}
use Rattle.accessrefusal.proofs.Ends.{sorted_ends_by}
use Rattle.accessrefusal.proofs.never_fall.Goals as goal

pub returns : goal.returns
returns c = sorted_ends_by c.args.ends.now _ (c.is_sorted_by.ensures.cases leb (answers_always _ _ _ (λ f a r g k. search (rules, tests))))
