-- Lists and texts in parts.
use mathlib.Core.Path.{◌≡◌, refl, sym, ap, ◌∙◌}
use mathlib.Core.List.{List, [], ◌∷◌, ◌++◌, map, append_assoc}
use Prim.Native.Nat.{ℕ, suc, ◌+◌, ◌≤◌}
use native.Mathlib.Nat.{add-zero}
use borrow.Rule.Slice.PartMut.{put_mid}
use native.Mathlib.Omega.{arith}
use lib.ListN.{length, take, drop, set, length-append}
use lib.Seq.{sets, sets-eq, drop-drop}
use Rattle.textlines.specs.Lines.{text_of}

pub map_append {ℓ} : {A B : Type ℓ} (g : A → B) (l t : List A) → map g (l ++ t) ≡ map g l ++ map g t
map_append g [] t = refl
map_append g (a ∷ l) t = ap (λ (r : _). g a ∷ r) (map_append g l t)

pub sets_append {ℓ} : {A : Type ℓ} (l : List A) (i : ℕ) (vs ws : List A) → sets l i (vs ++ ws) ≡ sets (sets l i vs) (i + length vs) ws
sets_append l i [] ws = rw (add-zero i)
sets_append l i (v ∷ vs) ws = sets_append (set l i v) (suc i) vs ws ∙ ap (λ (k : ℕ). sets (sets (set l i v) (suc i) vs) k ws) next
  where
    next : suc i + length vs ≡ i + suc (length vs)
    next = omega arith

-- values written over a part of a buffer
pub part_stored : {A : Type 0} (l vs : List A) (i n : ℕ) → length vs ≡ n → i + n ≤ length l → put_mid i n l vs ≡ sets l i vs
part_stored {A} l vs i n e h = ap (λ (t : List A). take i l ++ (vs ++ t)) (drop-drop n i l ∙ ap (λ (m : ℕ). drop (i + m) l) (sym e)) ∙ sym (sets-eq vs l i (omega arith) ∙ append_assoc (take i l) vs (drop (i + length vs) l))

pub text_append : (ls ms : List (List ℕ)) → text_of (ls ++ ms) ≡ text_of ls ++ text_of ms
unfolding text_of
text_append [] ms = refl
text_append (l ∷ ls) ms = ap (λ (t : List ℕ). l ++ (10 ∷ t)) (text_append ls ms) ∙ sym (append_assoc l (10 ∷ text_of ls) (text_of ms))

-- each line has its LF at least
pub text_long : (ls : List (List ℕ)) → length ls ≤ length (text_of ls)
unfolding text_of
text_long [] = omega arith
text_long (l ∷ ls) = omega (arith, text_long ls, length-append l (10 ∷ text_of ls))

pub length_parts {ℓ} : {A : Type ℓ} (a b d e : List A) → length (a ++ (b ++ (d ++ e))) ≡ length a + (length b + (length d + length e))
length_parts a b d e = length-append a (b ++ (d ++ e)) ∙ ap (λ (i : ℕ). length a + i) (length-append b (d ++ e) ∙ ap (λ (i : ℕ). length b + i) (length-append d e))
