-- Texts of lines without LF: one text is split into lines in one way.
use mathlib.Core.Path.{◌≡◌, refl, sym, ap, ◌∙◌}
use mathlib.Core.List.{List, [], ◌∷◌, ◌++◌, map}
use Prim.Native.Nat.{ℕ, zero, suc, ◌≤◌, ◌<◌}
use native.Mathlib.Omega.{arith}
use native.Mathlib.Decide.{dec_lt}
use lib.IntN.{ℤ, pos, negsuc}
use lib.ListN.{length, get_or, length-append}
use Rattle.decimal.specs.Numbers.{decimal_of}
use Rattle.decimal.proofs.Digits.{by_cases, digit_range, digits_are, clash}
use Rattle.textlines.specs.Lines.{text_of, Plain, AllPlain, nothing, more}
use Rattle.roomlines.specs.Fours.{Four, four_line}
use Rattle.roomlines.proofs.Counting.{line_on}
use Rattle.rowform.specs.Rows.{is_cell, RowOf}
use Rattle.roomrows.specs.Rows.{AllRows}
use Rattle.roomrows.specs.Rows as rows
use Rattle.rowform.proofs.Cells.{line_feed_no_cell}
use Rattle.rectangles.specs.Readings.{counted}
use Rattle.roomtext.specs.Room.{Room, room_lines, Formed}

-- ---- contents without LF
plain_cons : (x : ℕ) {l : List ℕ} → (x ≡ 10 → ⊥) → Plain l → Plain (x ∷ l)
plain_cons x {l} n p = record { each = each }
  where
    each : (k : ℕ) → k < suc (length l) → get_or (x ∷ l) k 0 ≡ 10 → ⊥
    each zero h e = n e
    each (suc k) h e = p.each k (omega arith) e

plain_rest : {x : ℕ} {l : List ℕ} → Plain (x ∷ l) → Plain l
plain_rest {x} {l} p = record { each = λ k h e. p.each (suc k) (omega arith) e }

plain_append : (l : List ℕ) {t : List ℕ} → Plain l → Plain t → Plain (l ++ t)
plain_append [] p q = q
plain_append (x ∷ l) p q = plain_cons x (λ e. p.each 0 (omega arith) e) (plain_append l (plain_rest p) q)

pub decimal_plain : (z : ℤ) → Plain (decimal_of z)
unfolding decimal_of
decimal_plain (pos n) = record { each = λ k h e. omega (arith, (digit_range _ (digits_are n k h)).0, e) }
decimal_plain (negsuc n) = plain_cons 45 (λ e. omega arith) (record { each = λ k h e. omega (arith, (digit_range _ (digits_are (suc n) k h)).0, e) })

four_plain : (f : Four) → Plain (four_line f)
unfolding four_line
four_plain f =
    plain_append (decimal_of f.left) (decimal_plain f.left) (plain_cons 32 (λ e. omega arith)
    (plain_append (decimal_of f.top) (decimal_plain f.top) (plain_cons 32 (λ e. omega arith)
    (plain_append (decimal_of f.right) (decimal_plain f.right) (plain_cons 32 (λ e. omega arith) (decimal_plain f.bottom))))))

fours_plain : (fs : List Four) → AllPlain (map four_line fs)
fours_plain [] = nothing
fours_plain (f ∷ fs) = more (four_plain f) (fours_plain fs)

row_plain : {width : ℕ} {row : List ℕ} → RowOf width row → Plain row
row_plain r = record { each = λ k h e. clash (sym (r.each k h) ∙ ap is_cell e ∙ line_feed_no_cell) }

rows_plain : {width : ℕ} {ls : List (List ℕ)} → AllRows width ls → AllPlain ls
rows_plain rows.nothing = nothing
rows_plain (rows.more r a) = more (row_plain r) (rows_plain a)

plain_lines : {ls ms : List (List ℕ)} → AllPlain ls → AllPlain ms → AllPlain (ls ++ ms)
plain_lines nothing q = q
plain_lines (more l p) q = more l (plain_lines p q)

pub plain_front : (ls ms : List (List ℕ)) → AllPlain (ls ++ ms) → AllPlain ls
plain_front [] ms p = nothing
plain_front (l ∷ ls) ms (more q p) = more q (plain_front ls ms p)

counted_plain : {ls : List (List ℕ)} → AllPlain ls → AllPlain (counted ls)
unfolding counted
counted_plain {ls} p = more (decimal_plain (pos (length ls))) p

pub room_plain : {room : Room} → Formed room → AllPlain (room_lines room)
unfolding room_lines
room_plain {room} f = plain_lines (counted_plain (rows_plain f.equal)) (plain_lines (counted_plain (fours_plain room.blockers)) (plain_lines (counted_plain (fours_plain room.resources)) (counted_plain (more (four_plain room.targets) nothing))))

-- ---- one line off a text
line_split : (l m x y : List ℕ) → Plain l → Plain m → l ++ (10 ∷ x) ≡ m ++ (10 ∷ y) → (l ≡ m) × (x ≡ y)
line_split [] [] x y p q e = (refl, cc)
line_split [] (b ∷ m) x y p q e = absurd (q.each 0 (omega arith) (let h : b ≡ 10 = cc in h))
line_split (a ∷ l) [] x y p q e = absurd (p.each 0 (omega arith) (let h : a ≡ 10 = cc in h))
line_split (a ∷ l) (b ∷ m) x y p q e =
    let t : l ++ (10 ∷ x) ≡ m ++ (10 ∷ y) = cc in
    let w = line_split l m x y (plain_rest p) (plain_rest q) t in
    let s : l ≡ m = w.0 in
    (cc, w.1)

-- what the longer of two lists of lines has more is the start of what follows the shorter
pub record Rest (ls ms : List (List ℕ)) (x y : List ℕ) : Type 0 where
  pub lines : List (List ℕ)
  pub is : ms ≡ ls ++ lines
  pub text : x ≡ text_of lines ++ y

pub text_split : {ls ms : List (List ℕ)} (x y : List ℕ) → AllPlain ls → AllPlain ms → length ls ≤ length ms → text_of ls ++ x ≡ text_of ms ++ y → Rest ls ms x y
unfolding text_of
text_split {ms = ms} x y nothing q h e = record { lines = ms; is = refl; text = e }
text_split x y (more l p) nothing h e = absurd (omega arith)
text_split x y (more {content = l} {lines = ls} p ps) (more {content = m} {lines = ms} q qs) h e =
    let w = line_split l m (text_of ls ++ x) (text_of ms ++ y) p q (sym (line_on l ls x) ∙ e ∙ line_on m ms y) in
    let r = text_split x y ps qs (omega arith) w.1 in
    let s : l ≡ m = w.0 in
    let t = r.is in
    record { lines = r.lines; is = cc; text = r.text }

-- lines that are a whole text go on with those that are at its start
pub whole_split : {ls ms : List (List ℕ)} (x : List ℕ) → AllPlain ls → AllPlain ms → text_of ls ++ x ≡ text_of ms ++ [] → Rest ls ms x []
whole_split {ls} {ms} x p q e =
    by_cases (dec_lt (length ms) (length ls))
    (λ h. absurd (too_long (text_split [] x q p (omega arith) (sym e)) h))
    (λ h. text_split x [] p q (omega (arith, h)) e)
  where
    too_long : Rest ms ls [] x → length ms < length ls → ⊥
    too_long r h = no_text r.lines r.text (omega (arith, ap length r.is, length-append ms r.lines))
      where
        no_text : (ts : List (List ℕ)) → [] ≡ text_of ts ++ x → 0 < length ts → ⊥
        no_text [] f i = omega arith
        no_text (t ∷ ts) f i = omega (arith, ap length (f ∙ line_on t ts x), length-append t (10 ∷ (text_of ts ++ x)))
