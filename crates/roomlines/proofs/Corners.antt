-- Lines of four numbers.
use mathlib.Core.Path.{◌≡◌, refl, sym, ap, ◌∙◌}
use mathlib.Core.Bool.{false}
use mathlib.Core.List.{List, [], ◌∷◌, ◌++◌, append_assoc}
use Prim.Native.Nat.{ℕ}
use native.Mathlib.Omega.{arith}
use lib.Dec.{leb→le}
use lib.IntN.{ℤ, pos, negsuc}
use lib.ListN.{drop}
use mir.Syntax.{w32}
use mir.Val.{SFits}
use Rattle.decimal.specs.Numbers.{is_digit, decimal_of, number, nothing, FollowedAt, ReadsFollowed, accepts_followed}
use Rattle.roomlines.specs.Fours.{Four, four_line, Signed32, four, no_four, ReadsFour, accepts_four, refuses_four}
use Rattle.roomlines.proofs.Spelled.{reads_back, none_stands, number_split}

-- the text of such a line, number by number
four_text : (f : Four) (r : List ℕ) → four_line f ++ r ≡ decimal_of f.left ++ (32 ∷ (decimal_of f.top ++ (32 ∷ (decimal_of f.right ++ (32 ∷ (decimal_of f.bottom ++ r))))))
unfolding four_line
four_text f r = simp append_assoc

-- a number of 32 bits and the byte after it, read at a place, or none
abbrev pub Next : (byte : ℕ) (text : List ℕ) (at : ℕ) (z : ℤ) (past : ℕ) → Type 0
Next byte text at z past = ReadsFollowed byte (negsuc 2147483647) (pos 2147483647) text at (number z past)

abbrev pub NoNext : (byte : ℕ) (text : List ℕ) (at : ℕ) → Type 0
NoNext byte text at = ReadsFollowed byte (negsuc 2147483647) (pos 2147483647) text at nothing

there : {byte : ℕ} {text : List ℕ} {at : ℕ} {z : ℤ} {past : ℕ} → Next byte text at z past → FollowedAt text at z byte past
there (accepts_followed w f) = f

fits : {byte : ℕ} {text : List ℕ} {at : ℕ} {z : ℤ} {past : ℕ} → Next byte text at z past → Signed32 z
fits (accepts_followed w f) = w

-- numbers in those limits have 32 bits
pub signed_fits : {z : ℤ} → Signed32 z → SFits w32 z
signed_fits {z = pos n} w = let i = leb→le n 2147483647 w.high.le in record { sfits = omega arith }
signed_fits {z = negsuc n} w = let i = leb→le n 2147483647 w.low.le in record { sfits = omega arith }

pub next_fits : {byte : ℕ} {text : List ℕ} {at : ℕ} {z : ℤ} {past : ℕ} → Next byte text at z past → SFits w32 z
next_fits n = signed_fits (fits n)

no_digit_space : is_digit 32 ≡ false
unfolding is_digit
no_digit_space = refl

module _ {text : List ℕ} {at : ℕ} where
  pub four_none_1 : NoNext 32 text at → ReadsFour text at no_four
  four_none_1 n = refuses_four (λ f r w e. none_stands text at 32 f.left _ (e ∙ four_text f (10 ∷ r)) n w.left)

  module _ {a : ℤ} {p : ℕ} (one : Next 32 text at a p) where
    past_1 : (f : Four) (r : List ℕ) → drop at text ≡ four_line f ++ (10 ∷ r) → drop p text ≡ decimal_of f.top ++ (32 ∷ (decimal_of f.right ++ (32 ∷ (decimal_of f.bottom ++ (10 ∷ r)))))
    past_1 f r e = (reads_back text at 32 f.left _ (e ∙ four_text f (10 ∷ r)) no_digit_space (there one)).1

    pub four_none_2 : NoNext 32 text p → ReadsFour text at no_four
    four_none_2 n = refuses_four (λ f r w e. none_stands text p 32 f.top _ (past_1 f r e) n w.top)

    module _ {b : ℤ} {q : ℕ} (two : Next 32 text p b q) where
      past_2 : (f : Four) (r : List ℕ) → drop at text ≡ four_line f ++ (10 ∷ r) → drop q text ≡ decimal_of f.right ++ (32 ∷ (decimal_of f.bottom ++ (10 ∷ r)))
      past_2 f r e = (reads_back text p 32 f.top _ (past_1 f r e) no_digit_space (there two)).1

      pub four_none_3 : NoNext 32 text q → ReadsFour text at no_four
      four_none_3 n = refuses_four (λ f r w e. none_stands text q 32 f.right _ (past_2 f r e) n w.right)

      module _ {d : ℤ} {s : ℕ} (three : Next 32 text q d s) where
        pub four_none_4 : NoNext 10 text s → ReadsFour text at no_four
        four_none_4 n = refuses_four (λ f r w e. none_stands text s 10 f.bottom _ (reads_back text q 32 f.right _ (past_2 f r e) no_digit_space (there three)).1 n w.bottom)

        pub four_reads : {z : ℤ} {past : ℕ} → Next 10 text s z past → ReadsFour text at (four (record { left = a; top = b; right = d; bottom = z }) past)
        four_reads {z} {past} last =
            accepts_four (record {
              fits = record { left = fits one; top = fits two; right = fits three; bottom = fits last };
              stands = whole;
              inside = (there last).inside;
            })
          where
            read : Four
            read = record { left = a; top = b; right = d; bottom = z }

            whole : drop at text ≡ four_line read ++ (10 ∷ drop past text)
            whole =
                (there one).stands ∙ ap (λ (t : List ℕ). decimal_of a ++ (32 ∷ t)) ((there two).stands ∙ ap (λ (t : List ℕ). decimal_of b ++ (32 ∷ t)) ((there three).stands ∙ ap (λ (t : List ℕ). decimal_of d ++ (32 ∷ t)) (there last).stands)) ∙ sym (four_text read (10 ∷ drop past text))

-- ---- one line for each rectangle
pub four_one : (f g : Four) → four_line f ≡ four_line g → f ≡ g
unfolding is_digit
four_one f g e =
    let whole = sym (four_text f (10 ∷ [])) ∙ ap (λ (l : List ℕ). l ++ (10 ∷ [])) e ∙ four_text g (10 ∷ []) in
    let one = number_split f.left g.left 32 _ _ refl whole in
    let two = number_split f.top g.top 32 _ _ refl one.1 in
    let three = number_split f.right g.right 32 _ _ refl two.1 in
    let four = number_split f.bottom g.bottom 10 _ _ refl three.1 in
    same one.0 two.0 three.0 four.0
  where
    same : {a b d e w x y z : ℤ} → a ≡ w → b ≡ x → d ≡ y → e ≡ z → ◌≡◌ {A = Four} (record { left = a; top = b; right = d; bottom = e }) (record { left = w; top = x; right = y; bottom = z })
    same p q r s = rw (p, q, r, s)
