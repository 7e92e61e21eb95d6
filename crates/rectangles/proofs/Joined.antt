-- Forms one after another: where a text first breaks them, and that each ends at one place.
use mathlib.Core.Path.{◌≡◌, refl, sym, ap, ◌∙◌}
use mathlib.Core.List.{List, [], ◌∷◌, ◌++◌, append_assoc, append-nil}
use Prim.Native.Nat.{ℕ, ◌+◌, ◌≤◌}
use native.Mathlib.Omega.{arith}
use lib.ListN.{length, length-append}
use Rattle.textlines.specs.Lines.{text_of}
use Rattle.roomlines.specs.Forms.{BreaksIn}
use Rattle.roomlines.proofs.Parts.{text_append}
use Rattle.rectangles.specs.Readings.{Both}

-- lines in a form are the start of no other lines in it
pub record Ending (Form : List (List ℕ) → Type 0) : Type 0 where
  pub one : {a b : List (List ℕ)} (x y : List (List ℕ)) → Form a → Form b → a ++ x ≡ b ++ y → (a ≡ b) × (x ≡ y)

pub carry : (Form : List (List ℕ) → Type 0) {a b : List (List ℕ)} → a ≡ b → Form a → Form b
carry Form p f = rw p at f

-- ---- a list that goes on after two fronts
data Fronts (first : List (List ℕ)) (content : List ℕ) (front : List (List ℕ)) : Type 0 where
  longer : (t : List (List ℕ)) → front ≡ first ++ (content ∷ t) → Fronts first content front
  not_longer : (t : List (List ℕ)) → first ≡ front ++ t → Fronts first content front

fronts : (first : List (List ℕ)) (content : List ℕ) (others front back : List (List ℕ)) → first ++ (content ∷ others) ≡ front ++ back → Fronts first content front
fronts [] content others [] back e = not_longer [] refl
fronts [] content others (l ∷ front) back e = longer front (let h : l ≡ content = cc in ap (λ (x : List ℕ). x ∷ front) h)
fronts (k ∷ first) content others [] back e = not_longer (k ∷ first) refl
fronts (k ∷ first) content others (l ∷ front) back e = on (fronts first content others front back (let t : first ++ (content ∷ others) ≡ front ++ back = cc in t))
  where
    same : k ≡ l
    same = cc

    on : Fronts first content front → Fronts (k ∷ first) content (l ∷ front)
    on (longer t p) = longer t (let s = same in cc)
    on (not_longer t p) = not_longer t (let s = same in cc)

none_left : (l t : List (List ℕ)) → length (l ++ t) ≤ length l → t ≡ []
none_left l [] h = refl
none_left l (x ∷ t) h = absurd (omega (arith, length-append l (x ∷ t)))

-- ---- the first of two breaks
module _ {First : List (List ℕ) → Type 0} {text : List ℕ} {passed : ℕ} (ending : Ending First) (b : BreaksIn First text passed) where
  -- no lines in the first form are at the start of those that were read
  no_front : (front t : List (List ℕ)) → First front → b.first ≡ front ++ t → ⊥
  no_front front t f e =
      let w : (b.first ++ b.more) ++ [] ≡ front ++ (t ++ b.more) = append-nil (b.first ++ b.more) ∙ ap (λ (l : List (List ℕ)). l ++ b.more) e ∙ append_assoc front t b.more in
      let s : b.first ++ b.more ≡ front = (ending.one [] (t ++ b.more) b.starts f w).0 in
      let n : t ≡ [] = none_left front t (omega (arith, ap length e, ap length s, length-append b.first b.more)) in
      b.unfinished (carry First (sym (e ∙ ap (λ (l : List (List ℕ)). front ++ l) n ∙ append-nil front)) f)

  pub first_breaks : {Second : List (List ℕ) → Type 0} (others : List (List ℕ)) → Second others → BreaksIn (Both First Second) text passed
  first_breaks {Second} others s = record {
    first = b.first;
    rest = b.rest;
    split = b.split;
    number = b.number;
    more = b.more ++ others;
    starts = record { front = b.first ++ b.more; back = others; first = b.starts; second = s; is = sym (append_assoc b.first b.more others) };
    stops = λ content after ls e w. stopped content after ls e w (fronts b.first content ls w.front w.back w.is);
    unfinished = λ w. no_front w.front w.back w.first w.is;
  }
    where
      stopped : (content after : List ℕ) (ls : List (List ℕ)) → b.rest ≡ content ++ (10 ∷ after) → (w : Both First Second (b.first ++ (content ∷ ls))) → Fronts b.first content w.front → ⊥
      stopped content after ls e w (longer t p) = b.stops content after t e (carry First p w.first)
      stopped content after ls e w (not_longer t p) = no_front w.front t w.first p

-- ---- the second of two breaks
module _ {First Second : List (List ℕ) → Type 0} (text : List ℕ) {rest : List ℕ} {passed : ℕ} {front : List (List ℕ)} (ending : Ending First) (f : First front) (e : text ≡ text_of front ++ rest) (b : BreaksIn Second rest passed) where
  second_of : (ls : List (List ℕ)) → Both First Second (front ++ ls) → Second ls
  second_of ls w = carry Second (sym (ending.one ls w.back f w.first w.is).1) w.second

  pub second_breaks : BreaksIn (Both First Second) text (length front + passed)
  second_breaks = record {
    first = front ++ b.first;
    rest = b.rest;
    split = e ∙ ap (λ (t : List ℕ). text_of front ++ t) b.split ∙ sym (append_assoc (text_of front) (text_of b.first) b.rest) ∙ ap (λ (t : List ℕ). t ++ b.rest) (sym (text_append front b.first));
    number = sym (length-append front b.first ∙ omega (arith, b.number));
    more = b.more;
    starts = record { front = front; back = b.first ++ b.more; first = f; second = b.starts; is = append_assoc front b.first b.more };
    stops = λ content after ls s w. b.stops content after ls s (second_of (b.first ++ (content ∷ ls)) (carry (Both First Second) (append_assoc front b.first (content ∷ ls)) w));
    unfinished = λ w. b.unfinished (second_of b.first w);
  }

-- ---- two forms end at one place
pub both_ending : {First Second : List (List ℕ) → Type 0} → Ending First → Ending Second → Ending (Both First Second)
both_ending {First} {Second} f s = record { one = one }
  where
    one : {a b : List (List ℕ)} (x y : List (List ℕ)) → Both First Second a → Both First Second b → a ++ x ≡ b ++ y → (a ≡ b) × (x ≡ y)
    one {a} {b} x y v w e =
        let whole : v.front ++ (v.back ++ x) ≡ w.front ++ (w.back ++ y) = sym (append_assoc v.front v.back x) ∙ ap (λ (l : List (List ℕ)). l ++ x) (sym v.is) ∙ e ∙ ap (λ (l : List (List ℕ)). l ++ y) w.is ∙ append_assoc w.front w.back y in
        let p = f.one (v.back ++ x) (w.back ++ y) v.first w.first whole in
        let q = s.one x y v.second w.second p.1 in
        (v.is ∙ both p.0 q.0 ∙ sym w.is, q.1)
      where
        both : {l m r t : List (List ℕ)} → l ≡ m → r ≡ t → l ++ r ≡ m ++ t
        both g h = rw (g, h)
