-- The searches for a row's first inside column and for the last.
use mathlib.Core.Path.{◌≡◌, refl, sym, ◌∙◌}
use mathlib.Core.Bool.{Bool, true, false}
use Prim.Native.Nat.{ℕ, suc, ◌+◌, ◌-◌, ◌≤◌, ◌<◌}
use native.Mathlib.Numerals.{add-one}
use native.Mathlib.Decide.{dec_le, ℕ_discrete}
use native.Mathlib.Omega.{arith}
use lib.Dec.{T}
use Rattle.walkgraph.specs.Lists.{first_from, past_last}
use Rattle.walkgraph.specs.Window.{gap}
use Rattle.walkgraph.proofs.Tests.{by_cases}
use Rattle.walkgraph.proofs.Lists.{first_from_lem, IsPast, nobody, somebody, past_last_lem}
use Rattle.cells.specs.declared.boxes.CellBox.{CellBox}
use Rattle.cells.specs.Boxes.{reach, box_of}
use Rattle.gaps.specs.declared.RowGaps.{RowGaps}
use Rattle.gaps.specs.Inside.{inside_in_row}
use Rattle.gaps.proofs.Gaps.{beside, inside_in_row_lem}
use Rattle.window.specs.declared.record.Window.{Window}
use Rattle.intervals.specs.Intervals.{InRow, inside_gaps, inside_columns, RowEnds}

T_not_false : (b : Bool) → b ≡ false → ¬ (T b)
T_not_false true e t = let z : ◌≡◌ {A = ℕ} 0 1 = cc in absurd (omega arith)
T_not_false false e t = t

true_T : (b : Bool) → b ≡ true → T b
true_T true e = tt
true_T false e = let z : ◌≡◌ {A = ℕ} 0 1 = cc in absurd (omega arith)

module _ (test : ℕ → Bool) where
  first_next : (a n : ℕ) → test a ≡ false → first_from test a (suc n) ≡ first_from test (a + 1) n
  unfolding first_from
  first_next a n e = rw (e, add-one a)

  first_here : (a n : ℕ) → test a ≡ true → first_from test a (suc n) ≡ a
  unfolding first_from
  first_here a n e = rw e

  first_none : (a : ℕ) → first_from test a 0 ≡ a
  unfolding first_from
  first_none a = refl

  module _ (w : ℕ) where
    pub start : first_from test 1 w ≡ first_from test (0 + 1) (w - 0)
    start = let e : w - 0 ≡ w = omega arith in rw e

    -- the search from the left, past a column that is not inside
    pub goes_on : (first c : ℕ) → first ≡ first_from test (c + 1) (w - c) → c < w → test (c + 1) ≡ false → first ≡ first_from test (c + 1 + 1) (w - (c + 1))
    goes_on first c s h e = let f : w - c ≡ suc (w - (c + 1)) = omega arith in s ∙ rw f (first_next (c + 1) (w - (c + 1)) e)

    pub ends_here : (first c : ℕ) → first ≡ first_from test (c + 1) (w - c) → c < w → test (c + 1) ≡ true → c + 1 ≡ first
    ends_here first c s h e = let f : w - c ≡ suc (w - (c + 1)) = omega arith in sym (s ∙ rw f (first_here (c + 1) (w - (c + 1)) e))

    pub ends_past : (first c : ℕ) → first ≡ first_from test (c + 1) (w - c) → c ≡ w → w + 1 ≡ first
    ends_past first c s e = let f : w - c ≡ 0 = omega arith in sym (s ∙ rw (f, e) (first_none (w + 1)))

    -- the first one is in 1 .. w + 1
    pub first_most : (first : ℕ) → first + 1 ≡ first_from test 1 w → first ≤ w
    first_most first e = omega (arith, (first_from_lem test 1 w).high)

    -- none of the columns after the first c passes
    abbrev pub NoneAfter : ℕ → Type 0
    NoneAfter c = (x : ℕ) → c < x → x ≤ w → ¬ (T (test x))

    pub one_more : (c : ℕ) → NoneAfter (c + 1) → test (c + 1) ≡ false → NoneAfter c
    one_more c f e = λ x p q. by_cases (ℕ_discrete x (c + 1)) (λ r. rw r (T_not_false (test (c + 1)) e)) (λ r. f x (omega arith) q)

    past_is : (none p : ℕ) → 1 ≤ p → p ≤ w → T (test p) → ((x : ℕ) → p < x → x ≤ w → ¬ (T (test x))) → p + 1 ≡ past_last test none w
    past_is none p a b t f = found (past_last_lem test none w)
      where
        found : {r : ℕ} → IsPast test none w r → p + 1 ≡ r
        found (nobody e g) = absurd (g p a b t)
        found {r} (somebody last e c d u g) =
            by_cases (dec_le (suc p) last)
            (λ h. absurd (f last h d u))
            (λ h. by_cases (dec_le (suc last) p) (λ k. absurd (g p k b t)) (λ k. omega arith))

    past_none : (none : ℕ) → w + 1 ≡ first_from test 1 w → none ≡ past_last test none w
    past_none none e = found (past_last_lem test none w)
      where
        found : {r : ℕ} → IsPast test none w r → none ≡ r
        found (nobody e g) = sym e
        found (somebody last q c d u g) = absurd ((first_from_lem test 1 w).none last c (omega arith) u)

    -- the search from the right ends at an inside column, or before the first one
    pub last_here : (c : ℕ) → c < w → NoneAfter (c + 1) → test (c + 1) ≡ true → c + 1 + 1 ≡ past_last test (w + 1) w
    last_here c h f e = past_is (w + 1) (c + 1) (omega arith) (omega arith) (true_T (test (c + 1)) e) f

    pub none_here : (first : ℕ) → first + 1 ≡ first_from test 1 w → NoneAfter first → w + 1 ≡ past_last test (w + 1) w
    none_here first s f =
        by_cases (dec_le (suc first) w)
        (λ k. let t = (first_from_lem test 1 w).some (omega arith) in absurd (f (first + 1) (omega arith) (omega arith) (rw s t)))
        (λ k. let q : first ≡ w = omega (arith, first_most first s) in past_none (w + 1) (rw q at s))

-- whether a column is inside, as the code asks
pub tested : (w : Window) (g : RowGaps) (column : ℕ) (r : Bool) → r ≡ inside_in_row reach (box_of g.sources) g.source (box_of g.targets) g.target (w.left + column) → inside_gaps w g (column + 1) ≡ r
unfolding inside_gaps
tested w g column r e = let f : w.left + (column + 1) - 1 ≡ w.left + column = omega arith in rw f (sym e)

-- a row's gaps to the boxes decide its inside columns
pub gaps_columns : (w : Window) (s t : CellBox) (y source target : ℕ) → source ≡ gap (w.top + y) s.top s.bottom → target ≡ gap (w.top + y) t.top t.bottom →
    inside_gaps w (record { sources = s; targets = t; source = source; target = target }) ≡ inside_columns w (box_of s) (box_of t) (y + 1)
unfolding inside_gaps inside_columns
gaps_columns w s t y source target e f =
    λ i x.
    let r : w.top + (y + 1) - 1 ≡ w.top + y = omega arith in
    (inside_in_row_lem reach (box_of s) (box_of t) source target (w.left + x - 1) (w.top + (y + 1) - 1) (rw r e) (rw r f)) i

pub row_in : {w : Window} {s t : CellBox} {rows y source target : ℕ} → RowEnds w s t rows → y < w.height → source ≡ gap (w.top + y) s.top s.bottom →
    target ≡ gap (w.top + y) t.top t.bottom → InRow w (record { sources = s; targets = t; source = source; target = target })
row_in {w} {s} {t} {rows} {y} {source} {target} r h e f =
    let l = r.lines in
    record {
      columns = r.columns;
      sources = rw e (beside 1024 1024 s (w.top + y) (omega arith) (omega arith) r.sources (omega arith));
      targets = rw f (beside 1024 1024 t (w.top + y) (omega arith) (omega arith) r.targets (omega arith));
    }
