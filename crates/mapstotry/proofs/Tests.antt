-- Tests of all numbers below a bound, and of some; and equality tests of truth values, signed numbers, boxes and rectangles.
use mathlib.Core.Path.{◌≡◌, refl, ap}
use mathlib.Core.Logic.{◌⊎◌, inl, inr}
use mathlib.Core.Bool.{Bool, true, false, not, ◌&&◌, ◌||◌}
use Prim.Native.Nat.{ℕ, zero, suc, ◌<◌}
use native.Mathlib.Omega.{arith}
use native.Mathlib.Decide.{ℕ_discrete}
use lib.IntN.{ℤ, pos, negsuc}
use lib.Dec.{T, eqb, eqb→eq, eqb_refl}
use Rattle.walkgraph.specs.Map.{Box}
use Rattle.walkgraph.specs.Painting.{Rectangle}
use Rattle.walkgraph.proofs.Tests.{and_left, and_right, or_cases, or_left, or_right, by_cases}

pub not_both : (b : Bool) → T (not b) → ¬ (T b)
not_both true t s = t
not_both false t s = s

pub eq→eqb : (a b : ℕ) → a ≡ b → T (eqb a b)
eq→eqb a b e = rw e (eqb_refl b)

-- every number below n passes
unfoldable pub every : (ℕ → Bool) → ℕ → Bool
every test zero = true
every test (suc n) = test n && every test n

pub every_at : (test : ℕ → Bool) (n : ℕ) → T (every test n) → (i : ℕ) → i < n → T (test i)
unfolding every
every_at test zero t i h = absurd (omega arith)
every_at test (suc n) t i h =
    let ih = every_at test n (and_right (test n) (every test n) t) i in
    by_cases (ℕ_discrete i n) (λ e. rw e (and_left (test n) (every test n) t)) (λ e. ih (omega arith))

-- some number below n passes
unfoldable pub some : (ℕ → Bool) → ℕ → Bool
some test zero = false
some test (suc n) = test n || some test n

pub some_at : (test : ℕ → Bool) (n : ℕ) → T (some test n) → (i : ℕ) × (i < n) × T (test i)
unfolding some
some_at test zero t = absurd t
some_at test (suc n) t = go (or_cases (test n) (some test n) t) (some_at test n)
  where
    go : T (test n) ⊎ T (some test n) → (T (some test n) → (i : ℕ) × (i < n) × T (test i)) → (i : ℕ) × (i < suc n) × T (test i)
    go (inl s) ih = (n, omega arith, s)
    go (inr s) ih = let r = ih s in (r.0, omega arith, r.2)

pub at_some : (test : ℕ → Bool) (n i : ℕ) → i < n → T (test i) → T (some test n)
unfolding some
at_some test zero i h t = absurd (omega arith)
at_some test (suc n) i h t =
    let ih : i < n → T (some test n) = λ k. at_some test n i k t in
    by_cases (ℕ_discrete i n) (λ e. or_left (test n) (some test n) (rw e at t)) (λ e. or_right (test n) (some test n) (ih (omega arith)))

-- ---- equality

unfoldable pub same_bool : Bool → Bool → Bool
same_bool true b = b
same_bool false b = not b

pub bool_is : (a b : Bool) → T (same_bool a b) → a ≡ b
unfolding same_bool
bool_is true true t = refl
bool_is true false t = absurd t
bool_is false true t = absurd t
bool_is false false t = refl

unfoldable pub same_signed : ℤ → ℤ → Bool
same_signed (pos a) (pos b) = eqb a b
same_signed (pos a) (negsuc b) = false
same_signed (negsuc a) (pos b) = false
same_signed (negsuc a) (negsuc b) = eqb a b

pub signed_is : (a b : ℤ) → T (same_signed a b) → a ≡ b
unfolding same_signed
signed_is (pos a) (pos b) t = ap pos (eqb→eq a b t)
signed_is (pos a) (negsuc b) t = absurd t
signed_is (negsuc a) (pos b) t = absurd t
signed_is (negsuc a) (negsuc b) t = ap negsuc (eqb→eq a b t)

unfoldable pub same_box : Box → Box → Bool
same_box a b = (eqb a.left b.left && eqb a.top b.top) && (eqb a.right b.right && eqb a.bottom b.bottom)

pub box_is : (a b : Box) → T (same_box a b) → a ≡ b
unfolding same_box
box_is a b t =
    let low = and_left (eqb a.left b.left && eqb a.top b.top) (eqb a.right b.right && eqb a.bottom b.bottom) t in
    let high = and_right (eqb a.left b.left && eqb a.top b.top) (eqb a.right b.right && eqb a.bottom b.bottom) t in
    let left : a.left ≡ b.left = eqb→eq _ _ (and_left (eqb a.left b.left) (eqb a.top b.top) low) in
    let top : a.top ≡ b.top = eqb→eq _ _ (and_right (eqb a.left b.left) (eqb a.top b.top) low) in
    let right : a.right ≡ b.right = eqb→eq _ _ (and_left (eqb a.right b.right) (eqb a.bottom b.bottom) high) in
    let bottom : a.bottom ≡ b.bottom = eqb→eq _ _ (and_right (eqb a.right b.right) (eqb a.bottom b.bottom) high) in
    λ i. record { left = left i; top = top i; right = right i; bottom = bottom i }

unfoldable pub same_rectangle : Rectangle → Rectangle → Bool
same_rectangle a b = (same_signed a.left b.left && same_signed a.top b.top) && (same_signed a.right b.right && same_signed a.bottom b.bottom)

pub rectangle_is : (a b : Rectangle) → T (same_rectangle a b) → a ≡ b
unfolding same_rectangle
rectangle_is a b t =
    let low = and_left (same_signed a.left b.left && same_signed a.top b.top) (same_signed a.right b.right && same_signed a.bottom b.bottom) t in
    let high = and_right (same_signed a.left b.left && same_signed a.top b.top) (same_signed a.right b.right && same_signed a.bottom b.bottom) t in
    let left = signed_is a.left b.left (and_left (same_signed a.left b.left) (same_signed a.top b.top) low) in
    let top = signed_is a.top b.top (and_right (same_signed a.left b.left) (same_signed a.top b.top) low) in
    let right = signed_is a.right b.right (and_left (same_signed a.right b.right) (same_signed a.bottom b.bottom) high) in
    let bottom = signed_is a.bottom b.bottom (and_right (same_signed a.right b.right) (same_signed a.bottom b.bottom) high) in
    λ i. record { left = left i; top = top i; right = right i; bottom = bottom i }
