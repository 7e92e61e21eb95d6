-- What is put on a page, text after text, and the room for each.
use mathlib.Core.Path.{◌≡◌, refl, sym, ap, ◌∙◌}
use mathlib.Core.List.{List, [], ◌∷◌, ◌++◌, append_assoc}
use Prim.Native.Nat.{ℕ, suc, ◌+◌, ◌-◌, ◌≤◌}
use native.Mathlib.Omega.{arith}
use lib.ListN.{length, set, take, drop, length-append}
use lib.Seq.{sets, sets-eq, take-append_seam, length-sets, drop-drop}
use borrow.Rule.Slice.PartMut.{put_mid}
use Rattle.page.specs.declared.Page.{Page}
use Rattle.page.specs.Puts.{Puts, Room}

pub puts_none : (page : Page) → Puts [] page page
puts_none page = record { same = refl; ends = omega arith; content = refl }

sets_append : (l : List ℕ) (i : ℕ) (p q : List ℕ) → sets l i (p ++ q) ≡ sets (sets l i p) (i + length p) q
sets_append l i [] q = let e : i + 0 ≡ i = omega arith in rw e
sets_append l i (a ∷ p) q = let e : i + suc (length p) ≡ suc i + length p = omega arith in rw e (sets_append (set l i a) (suc i) p q)

-- a word copied over the part of a buffer that is as long
pub copied : (word buffer : List ℕ) (at : ℕ) → at + length word ≤ length buffer → put_mid at (at + length word - at) buffer word ≡ sets buffer at word
copied word buffer at h =
    let e : at + length word - at ≡ length word = omega arith in
    rw (e, drop-drop (length word) at buffer) (sym (sets-eq word buffer at h ∙ append_assoc (take at buffer) word (drop (at + length word) buffer)))

-- text put after other text
pub puts_more : {p q : List ℕ} {before middle after : Page} → Puts p before middle → Puts q middle after → Puts (p ++ q) before after
puts_more {p} {q} {before} {middle} {after} l m =
    record {
      same = m.same ∙ l.same;
      ends = omega (arith, l.ends, m.ends, length-append p q);
      content = m.content ∙ rw (l.content, l.ends) (sym (sets_append before.bytes.now before.at p q));
    }

-- the page is as long as before
pub puts_length : {p : List ℕ} {before after : Page} → Puts p before after → length after.bytes.now ≡ length before.bytes.now
puts_length {p} {before} l = ap length l.content ∙ length-sets before.bytes.now before.at p

-- text put at the start of a page is what stands there up to the next place
pub puts_shows : {p : List ℕ} {before after : Page} → before.at ≡ 0 → Room p before → Puts p before after → take after.at after.bytes.now ≡ p
puts_shows {p} {before} {after} start r l =
    let e : after.at ≡ length p = omega (arith, l.ends, start) in
    let front = sets-eq p before.bytes.now before.at r.room in
    rw (l.content, front, start, e) (take-append_seam p (drop (0 + length p) before.bytes.now))

-- no two results are what a text put on a page comes to
pub puts_once : {p : List ℕ} {before after other : Page} → Puts p before after → Puts p before other → (after.bytes.now ≡ other.bytes.now) × (after.at ≡ other.at)
puts_once l m = (l.content ∙ sym m.content, l.ends ∙ sym m.ends)

-- where there is room for two texts there is room for the first, and then for the other
pub room_first : (p q : List ℕ) {page : Page} → Room (p ++ q) page → Room p page
room_first p q h = record { room = omega (arith, h.room, length-append p q) }

pub room_more : {p : List ℕ} {before after : Page} (q : List ℕ) → Puts p before after → Room (p ++ q) before → Room q after
room_more {p} q l h = record { room = omega (arith, h.room, length-append p q, l.ends, puts_length l) }

-- room for all of a text is room for its next part
pub room_next : {p all : List ℕ} {before middle : Page} (q : List ℕ) → Puts p before middle → Room all before → length (p ++ q) ≤ length all → Room q middle
room_next {p} q l r h = record { room = omega (arith, r.room, l.ends, puts_length l, length-append p q) }
