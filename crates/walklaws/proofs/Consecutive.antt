-- Inside cells of a row are consecutive. The octile gap to a box is the largest of six forms that are linear in the column, each with a slope of a fixed
-- sign: so is the sum of two. Between two columns such a form is at most its value at one of the two.
use mathlib.Core.Path.{◌≡◌}
use mathlib.Core.Logic.{◌⊎◌, inl, inr}
use Prim.Native.Nat.{ℕ, ◌+◌, ◌*◌, ◌≤◌}
use native.Mathlib.Omega.{arith}
use native.Mathlib.Decide.{dec_le}
use Rattle.walkgraph.specs.Map.{Box}
use Rattle.walkgraph.specs.Window.{gap, octile, octile_gap, Inside}
use Rattle.walkgraph.proofs.Tests.{by_cases}
use Rattle.walkgraph.proofs.Distances.{octile_l, octile_r, gap_low, gap_high}

-- what o, the octile gap at the column x, is at least: the six forms, o being octile (gap x l r) g
pub record Above (l r g x o : ℕ) : Type 0 where
  pub flat₁ : 414 * g ≤ o
  pub flat₂ : 1000 * g ≤ o
  pub left₁ : 1000 * l + 414 * g ≤ o + 1000 * x
  pub left₂ : 414 * l + 1000 * g ≤ o + 414 * x
  pub right₁ : 1000 * x + 414 * g ≤ o + 1000 * r
  pub right₂ : 414 * x + 1000 * g ≤ o + 414 * r

-- and it is one of them
pub data One (l r g x o : ℕ) : Type 0 where
  flat : o ≡ 1000 * g → One l r g x o
  left₁ : o + 1000 * x ≡ 1000 * l + 414 * g → One l r g x o
  left₂ : o + 414 * x ≡ 414 * l + 1000 * g → One l r g x o
  right₁ : o + 1000 * r ≡ 1000 * x + 414 * g → One l r g x o
  right₂ : o + 414 * r ≡ 414 * x + 1000 * g → One l r g x o

above : (l r g x : ℕ) → Above l r g x (octile (gap x l r) g)
above l r g x =
    let a = octile_l (gap x l r) g in
    let b = octile_r (gap x l r) g in
    let c = gap_low x l r in
    let d = gap_high x l r in
    omega arith

-- octile is one of its two forms
octile_one : (a g : ℕ) → ((g ≤ a) × (octile a g ≡ 1000 * a + 414 * g)) ⊎ ((a ≤ g) × (octile a g ≡ 414 * a + 1000 * g))
unfolding octile
octile_one a g = by_cases (dec_le g a) (λ h. inl (h, omega arith)) (λ h. inr (omega arith, omega arith))

-- the gap is 0, or the distance to one end
gap_one : (x l r : ℕ) → l ≤ r → (gap x l r ≡ 0) ⊎ ((gap x l r + x ≡ l) ⊎ (gap x l r + r ≡ x))
unfolding gap
gap_one x l r e =
    by_cases (dec_le l x)
    (λ h. by_cases (dec_le x r) (λ k. inl (omega arith)) (λ k. inr (inr (omega arith))))
    (λ h. inr (inl (omega arith)))

one_of : (l r g x a o : ℕ) → (a ≡ 0) ⊎ ((a + x ≡ l) ⊎ (a + r ≡ x)) → ((g ≤ a) × (o ≡ 1000 * a + 414 * g)) ⊎ ((a ≤ g) × (o ≡ 414 * a + 1000 * g)) → One l r g x o
one_of l r g x a o (inl z) (inl i) = flat (omega (arith, i.0, i.1))
one_of l r g x a o (inl z) (inr i) = flat (omega (arith, i.1))
one_of l r g x a o (inr (inl z)) (inl i) = left₁ (omega (arith, i.1))
one_of l r g x a o (inr (inl z)) (inr i) = left₂ (omega (arith, i.1))
one_of l r g x a o (inr (inr z)) (inl i) = right₁ (omega (arith, i.1))
one_of l r g x a o (inr (inr z)) (inr i) = right₂ (omega (arith, i.1))

one : (l r g x : ℕ) → l ≤ r → One l r g x (octile (gap x l r) g)
one l r g x e = one_of l r g x (gap x l r) (octile (gap x l r) g) (gap_one x l r e) (octile_one (gap x l r) g)

-- two boxes
mid : {l r g l' r' g' a m b oa om ob oa' om' ob' k : ℕ} → a ≤ m → m ≤ b → Above l r g a oa → Above l r g b ob → Above l' r' g' a oa' → Above l' r' g' b ob' →
    One l r g m om → One l' r' g' m om' → oa + oa' ≤ k → ob + ob' ≤ k → om + om' ≤ k
mid p q A B A' B' (flat e) (flat e') h i = omega arith
mid p q A B A' B' (flat e) (left₁ e') h i = omega arith
mid p q A B A' B' (flat e) (left₂ e') h i = omega arith
mid p q A B A' B' (flat e) (right₁ e') h i = omega arith
mid p q A B A' B' (flat e) (right₂ e') h i = omega arith
mid p q A B A' B' (left₁ e) (flat e') h i = omega arith
mid p q A B A' B' (left₁ e) (left₁ e') h i = omega arith
mid p q A B A' B' (left₁ e) (left₂ e') h i = omega arith
mid p q A B A' B' (left₁ e) (right₁ e') h i = omega arith
mid p q A B A' B' (left₁ e) (right₂ e') h i = omega arith
mid p q A B A' B' (left₂ e) (flat e') h i = omega arith
mid p q A B A' B' (left₂ e) (left₁ e') h i = omega arith
mid p q A B A' B' (left₂ e) (left₂ e') h i = omega arith
mid p q A B A' B' (left₂ e) (right₁ e') h i = omega arith
mid p q A B A' B' (left₂ e) (right₂ e') h i = omega arith
mid p q A B A' B' (right₁ e) (flat e') h i = omega arith
mid p q A B A' B' (right₁ e) (left₁ e') h i = omega arith
mid p q A B A' B' (right₁ e) (left₂ e') h i = omega arith
mid p q A B A' B' (right₁ e) (right₁ e') h i = omega arith
mid p q A B A' B' (right₁ e) (right₂ e') h i = omega arith
mid p q A B A' B' (right₂ e) (flat e') h i = omega arith
mid p q A B A' B' (right₂ e) (left₁ e') h i = omega arith
mid p q A B A' B' (right₂ e) (left₂ e') h i = omega arith
mid p q A B A' B' (right₂ e) (right₁ e') h i = omega arith
mid p q A B A' B' (right₂ e) (right₂ e') h i = omega arith

pub convex : (reach : ℕ) (s t : Box) → s.left ≤ s.right → t.left ≤ t.right → (a m b y : ℕ) → a ≤ m → m ≤ b → Inside reach s t a y → Inside reach s t b y → Inside reach s t m y
unfolding Inside octile_gap
convex reach s t e f a m b y p q h k =
    mid p q (above s.left s.right _ a) (above s.left s.right _ b) (above t.left t.right _ a) (above t.left t.right _ b)
    (one s.left s.right _ m e) (one t.left t.right _ m f) h k
