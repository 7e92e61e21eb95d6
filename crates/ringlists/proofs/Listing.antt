-- What is listed in a buffer, part after part.
use mathlib.Core.Path.{◌≡◌, refl, sym, ap, ◌∙◌}
use mathlib.Core.List.{List, [], ◌∷◌, ◌++◌}
use Prim.Native.Nat.{ℕ, suc, ◌+◌}
use native.Mathlib.Omega.{arith}
use lib.ListN.{length, set, length-append}
use lib.Seq.{sets, length-sets}
use Rattle.ringlists.specs.Lists.{Listed}

pub listed_none : (before : List ℕ) (used : ℕ) → Listed [] before used before used
listed_none before used = record { ends = omega arith; buffer = refl }

sets_append : (l : List ℕ) (i : ℕ) (p q : List ℕ) → sets l i (p ++ q) ≡ sets (sets l i p) (i + length p) q
sets_append l i [] q = let e : i + 0 ≡ i = omega arith in rw e
sets_append l i (a ∷ p) q = let e : i + suc (length p) ≡ suc i + length p = omega arith in rw e (sets_append (set l i a) (suc i) p q)

-- places listed behind others
pub listed_more : {p q before middle after : List ℕ} {used end last : ℕ} → Listed p before used middle end → Listed q middle end after last → Listed (p ++ q) before used after last
listed_more {p} {q} {before} {middle} {after} {used} {end} {last} l m =
    record {
      ends = omega (arith, l.ends, m.ends, length-append p q);
      buffer = m.buffer ∙ rw (l.buffer, l.ends) (sym (sets_append before used p q));
    }

-- the buffer is as long as before
pub listed_length : {p before after : List ℕ} {used end : ℕ} → Listed p before used after end → length after ≡ length before
listed_length {p} {before} {used = used} l = ap length l.buffer ∙ length-sets before used p
