-- `accessrefusal::ends_ok`: its two tests are those of the ends.
use mathlib.Core.Path.{◌≡◌, refl, sym, ◌∙◌}
use Prim.Native.Nat.{◌-◌}
use lib.ListN.{length, get_or}
use Rattle.std.proofs.Common.{rules}
use Rattle.accessrefusal.proofs.Ends.{last_end_at}
use Rattle.accessrefusal.proofs.ends_ok.Goals as goal

pub returns-then-never_fall : goal.returns-then-never_fall
returns-then-never_fall c =
    let ends = c.args.ends.now in
    let last : c.unwrap_or.result ≡ get_or ends (length ends - 1) 0 = search rules in
    rw (sym c.never_fall.ensures ∙ c.if-never_fall.true, last_end_at ends, last) refl

pub returns-else-never_fall : goal.returns-else-never_fall
returns-else-never_fall c = rw (sym c.never_fall.ensures ∙ c.if-never_fall.false) c.if-never_fall.false
