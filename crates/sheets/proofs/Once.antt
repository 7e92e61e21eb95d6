-- A text has one sheet, and the promise one result.
use mathlib.Core.Path.{◌≡◌, refl, sym, ap, ◌∙◌}
use mathlib.Core.List.{List}
use Prim.Native.Nat.{ℕ}
use native.Mathlib.Omega.{arith}
use lib.IntN.{ℤ}
use Rattle.walkgraph.specs.Map.{Box}
use Rattle.walkgraph.specs.Buffers.{Lent}
use Rattle.walkgraph.specs.Reading.{WindowRecord}
use Rattle.walkgraph.specs.Refusals.{accepted, FieldInput, field_verdict}
use Rattle.walkgraph.specs.Promise.{FieldPromise, made, nothing, makes}
use Rattle.walklaws.proofs.Promises.{same_number, promise_one}
use Rattle.walklaws.proofs.Promises as promises
use Rattle.cells.specs.Boxes.{reach}
use Rattle.decimal.proofs.Digits.{clash}
use Rattle.groups.proofs.Once.{groups_one}
use Rattle.roomtext.specs.Room.{Room, room_text, Formed}
use Rattle.roomtext.proofs.One.{breaks_one, room_one, widths}
use Rattle.page.specs.Lines.{refusal_line}
use Rattle.delivery.proofs.Once.{delivers_one}
use Rattle.sheets.specs.Shown.{Shown}
use Rattle.sheets.specs.Drawings.{zero_field, Drawn, Drawing, refused_line, drawn}
use Rattle.sheets.specs.SheetText.{inside, field_input, SheetOf, too_many_bytes, breaks_form, too_large, room_sheet}
use Rattle.sheets.specs.Promise.{SheetPromise}

-- ---- a room whose field is made
module _ {w h : ℕ} {cells : List ℕ} {l : List ℤ} {targets : Box} {window : WindowRecord} {sweeps : ℕ} {lanes : List ℤ} {d e : List ℕ} where
  shown_one : Shown w h cells l window sweeps targets lanes d → Shown w h cells l window sweeps targets lanes e → d ≡ e
  shown_one p q = let same = groups_one p.grouped q.grouped in p.is ∙ rw (same.0, same.1) (sym q.is)

-- ---- a room
made_accepted : (i : FieldInput) {before after : Lent} {window : WindowRecord} {sweeps : ℕ} → FieldPromise reach i before after (made window sweeps) → field_verdict reach i before ≡ accepted
made_accepted i (nothing ok none) = ok
made_accepted i (makes ok some f) = ok

module _ (i : FieldInput) where
  drawn_one : {d e : List ℕ} → Drawn i d → Drawn i e → d ≡ e
  drawn_one p q =
      let same = promise_one reach i zero_field p.promise q.promise in
      let windows : p.window ≡ q.window = let f = same.1 in cc in
      let counts : p.sweeps ≡ q.sweeps = let f = same.1 in cc in
      shown_one (rw (windows, counts, same.0) at p.shown) q.shown

  drawing_one : {d e : List ℕ} → Drawing i d → Drawing i e → d ≡ e
  drawing_one (refused_line p) (refused_line q) = let s = same_number p q in rw (s.0, s.1) refl
  drawing_one (refused_line p) (drawn q) = promises.clash p (made_accepted i q.promise)
  drawing_one (drawn p) (refused_line q) = promises.clash q (made_accepted i p.promise)
  drawing_one (drawn p) (drawn q) = drawn_one p q

-- ---- a text
-- one room for a text, as the field call is given it, and within the limits or not
module _ {text : List ℕ} (r s : Room) (f : Formed r) (g : Formed s) (p : text ≡ room_text r) (q : text ≡ room_text s) where
  same_room : r ≡ s
  same_room = room_one f g (sym p ∙ q)

  same_width : f.width ≡ g.width
  same_width = widths f.equal g.equal (ap (λ (o : Room). o.rows) same_room) f.at_least_one

  same_limits : inside r f ≡ inside s g
  same_limits = rw (same_width, same_room)

  same_input : field_input r f ≡ field_input s g
  same_input = rw (same_width, same_room)

sheet_one : {text d e : List ℕ} → SheetOf text d → SheetOf text e → d ≡ e
sheet_one (too_many_bytes h) (too_many_bytes i) = refl
sheet_one (too_many_bytes h) (breaks_form i b) = absurd (omega arith)
sheet_one (too_many_bytes h) (too_large i s g q l) = refl
sheet_one (too_many_bytes h) (room_sheet i s g q l z) = absurd (omega arith)
sheet_one (breaks_form h b) (too_many_bytes i) = absurd (omega arith)
sheet_one (breaks_form h b) (breaks_form i d) = ap (refusal_line 9) (breaks_one b d)
sheet_one (breaks_form h b) (too_large i s g q l) = absurd (b.unfinished s g q)
sheet_one (breaks_form h b) (room_sheet i s g q l z) = absurd (b.unfinished s g q)
sheet_one (too_large h r f p k) (too_many_bytes i) = refl
sheet_one (too_large h r f p k) (breaks_form i b) = absurd (b.unfinished r f p)
sheet_one (too_large h r f p k) (too_large i s g q l) = refl
sheet_one (too_large h r f p k) (room_sheet i s g q l z) = absurd (clash (sym l ∙ sym (same_limits r s f g p q) ∙ k))
sheet_one (room_sheet h r f p k y) (too_many_bytes i) = absurd (omega arith)
sheet_one (room_sheet h r f p k y) (breaks_form i b) = absurd (b.unfinished r f p)
sheet_one (room_sheet h r f p k y) (too_large i s g q l) = absurd (clash (sym k ∙ same_limits r s f g p q ∙ l))
sheet_one (room_sheet h r f p k y) (room_sheet i s g q l z) = drawing_one (field_input s g) (rw (same_input r s f g p q) at y) z

-- ---- no two different results
pub sheet_once : {text before d e : List ℕ} {j k : ℕ} → SheetPromise text before d j → SheetPromise text before e k → (d ≡ e) × (j ≡ k)
sheet_once p q = delivers_one (rw (sheet_one p.is q.is) at p.delivers) q.delivers
