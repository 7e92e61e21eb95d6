-- Lines at a place of a text.
use Rattle.std.proofs.Common.{◌≡◌, refl, sym, ap, ℕ, ◌+◌, ◌-◌, ◌≤◌, ◌<◌, ◌==◌, List, length, get_or, slice_range, position, Some, None, not, arith}
use Rattle.std.proofs.lemmas.List.Quantifiers.{position-Some}
use Rattle.std.proofs.lemmas.List.Sums.{prefix_len_passes}
use Rattle.std.proofs.lemmas.Grind.{common_steps}
use Rattle.textlines.specs.Lines.{LineAt, LineFound, ends, unended, FindsLine, line, none}

-- ---- one line at a place
pub line_one : {text : List ℕ} {at end other : ℕ} → LineAt text at end → LineAt text at other → end ≡ other
line_one {text} {at} {end} {other} l m =
    let i = l.from in
    let j = m.from in
    let d = l.ended in
    let e = m.ended in
    grind (arith, l.content other, m.content end)

pub found_one : {text : List ℕ} {at : ℕ} {found other : LineFound} → FindsLine text at found → FindsLine text at other → found ≡ other
found_one (line l) (line m) = ap ends (line_one l m)
found_one (line l) (none no_line) = absurd (no_line _ l)
found_one (none no_line) (line l) = absurd (no_line _ l)
found_one (none no_line) (none other) = refl

-- ---- the first LF from a place on
module _ (text rest : List ℕ) (at : ℕ) (from : rest ≡ slice_range text at (length text)) where
  byte_at : (k : ℕ) → at ≤ k → get_or rest (k - at) 0 ≡ get_or text k 0
  byte_at k h = grind (arith, common_steps)

  pub feed_ends : {size : ℕ} → Some size ≡ position (λ byte. byte == 10) rest → FindsLine text at (ends (at + size))
  feed_ends {size} e =
      let w = position-Some (λ byte. byte == 10) rest size 0 (sym e) in
      line (record {
        from = omega arith;
        inside = grind (arith, common_steps);
        ended = grind (arith, common_steps, byte_at);
        content = λ k i j t. grind (arith, common_steps, byte_at k i, w.2 (k - at));
      })

  pub feed_unended : None ≡ position (λ byte. byte == 10) rest → FindsLine text at unended
  feed_unended e = none (λ end l.
      let i = l.from in
      let j = l.inside in
      let t = l.ended in
      grind (arith, common_steps, byte_at end, prefix_len_passes (λ byte. not (byte == 10)) rest (end - at) 0))

pub past_unended : {text : List ℕ} {at : ℕ} → length text < at → FindsLine text at unended
past_unended h = none (λ end l. omega arith)
