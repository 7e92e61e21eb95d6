-- A number and the byte that must follow it.
use mathlib.Core.Path.{◌≡◌, refl, sym, ap, ◌∙◌}
use mathlib.Core.Bool.{false}
use mathlib.Core.List.{List, ◌∷◌, ◌++◌}
use Prim.Native.Nat.{ℕ, suc, ◌+◌, ◌-◌, ◌<◌}
use native.Mathlib.Numerals.{add-one}
use native.Mathlib.Omega.{arith}
use lib.IntN.{ℤ}
use lib.ListN.{length, get_or, take, drop, length-append, length-drop, take-append-drop}
use lib.Seq.{length-take-le, take-add, take-append_seam, drop_at, drop-cons, drop-append-le, get_or-drop, get_or-append_seam}
use Rattle.decimal.specs.Numbers.{is_digit, decimal_of, NumberAt, Within, Found, number, nothing, Reads, accepts, refuses, FollowedAt, ReadsFollowed, accepts_followed, refuses_followed}
use Rattle.decimal.proofs.Places.{number_one, past_is}

module _ {text : List ℕ} {at : ℕ} {z : ℤ} {past byte : ℕ} (n : NumberAt text at z past) where
  goes_on : past < length text → get_or text past 0 ≡ byte → FollowedAt text at z byte (past + 1)
  goes_on h e =
      record {
        stands =
            ap (drop at) (sym (take-append-drop past text)) ∙
            drop-append-le at (take past text) (drop past text) (omega (arith, past_is n, length-take-le past text (omega arith))) ∙
            ap (λ (l : List ℕ). l ++ drop past text) n.spelled ∙
            ap (λ (l : List ℕ). decimal_of z ++ l) (drop-cons text past 0 h ∙ rw (e, add-one past));
        inside = omega arith;
      }

module _ (text : List ℕ) (at : ℕ) (z : ℤ) (past byte : ℕ) (f : FollowedAt text at z byte past) where
  size : length text - at ≡ length (decimal_of z) + suc (length (drop past text))
  size = sym (length-drop at text) ∙ ap length f.stands ∙ length-append (decimal_of z) (byte ∷ drop past text)

  pub follows : past ≡ at + length (decimal_of z) + 1
  follows = let i = f.inside in omega (arith, size, length-drop past text)

  pub byte_there : get_or text (at + length (decimal_of z)) 0 ≡ byte
  byte_there = sym (get_or-drop at text (length (decimal_of z)) 0) ∙ ap (λ (l : List ℕ). get_or l (length (decimal_of z)) 0) f.stands ∙ get_or-append_seam (decimal_of z) byte (drop past text) 0

  pub number_there : is_digit byte ≡ false → NumberAt text at z (at + length (decimal_of z))
  number_there e = record {
    spelled = ap (drop at) (take-add at (length (decimal_of z)) text) ∙ drop_at (take at text) (take (length (decimal_of z)) (drop at text)) at (length-take-le at text (omega (arith, size))) ∙ ap (take (length (decimal_of z))) f.stands ∙ take-append_seam (decimal_of z) (byte ∷ drop past text);
    inside = let i = f.inside in omega (arith, follows);
    ended = ap is_digit byte_there ∙ e;
  }

-- ---- what reading finds
module _ {byte : ℕ} {lowest highest : ℤ} {text : List ℕ} {at : ℕ} (no_digit : is_digit byte ≡ false) where
  pub followed_nothing : Reads lowest highest text at nothing → ReadsFollowed byte lowest highest text at nothing
  followed_nothing (refuses none) = refuses_followed (λ z past w f. none z (at + length (decimal_of z)) w (number_there text at z past byte f no_digit))

  pub followed_reads : {z : ℤ} {past : ℕ} → Reads lowest highest text at (number z past) → past < length text → get_or text past 0 ≡ byte → ReadsFollowed byte lowest highest text at (number z (past + 1))
  followed_reads (accepts w n) h e = accepts_followed w (goes_on n h e)

  -- another byte follows the number, or the text ends with it
  pub followed_other : {z : ℤ} {past : ℕ} → Reads lowest highest text at (number z past) → (past < length text → get_or text past 0 ≡ byte → ⊥) → ReadsFollowed byte lowest highest text at nothing
  followed_other {z} {past} (accepts w n) other = refuses_followed each
    where
      each : (x : ℤ) (q : ℕ) → Within lowest highest x → FollowedAt text at x byte q → ⊥
      each x q v f =
          let e : at + length (decimal_of x) ≡ past = (number_one (number_there text at x q byte f no_digit) n).1 in
          let i = f.inside in
          other (omega (arith, follows text at x q byte f)) (ap (λ (k : ℕ). get_or text k 0) (sym e) ∙ byte_there text at x q byte f)

pub followed_one : {byte : ℕ} {lowest highest : ℤ} {text : List ℕ} {at : ℕ} {found other : Found} → is_digit byte ≡ false → ReadsFollowed byte lowest highest text at found → ReadsFollowed byte lowest highest text at other → found ≡ other
followed_one {byte} {text = text} {at = at} d (accepts_followed {z = x} {past = p} w f) (accepts_followed {z = y} {past = q} v g) =
    let e = number_one (number_there text at x p byte f d) (number_there text at y q byte g d) in
    let i : p ≡ q = omega (arith, e.1, follows text at x p byte f, follows text at y q byte g) in
    same e.0 i
  where
    same : {a b : ℤ} {m n : ℕ} → a ≡ b → m ≡ n → number a m ≡ number b n
    same s t = cc
followed_one d (accepts_followed w f) (refuses_followed none) = absurd (none _ _ w f)
followed_one d (refuses_followed none) (accepts_followed w f) = absurd (none _ _ w f)
followed_one d (refuses_followed none) (refuses_followed other) = refl
