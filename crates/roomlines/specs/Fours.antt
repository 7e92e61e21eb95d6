-- Document 01, "Room text and the program": lines of four numbers, and what reading them finds.
use Rattle.std.specs.Prelude.{◌≡◌, List, [], ◌∷◌, ◌++◌, ℕ, ◌≤◌, ℤ, pos, negsuc, length, drop}
use Rattle.decimal.specs.Numbers.{decimal_of, Within}

-- "a rectangle is four i32: left, top, right, bottom"
pub record Four : Type 0 where
  pub left : ℤ
  pub top : ℤ
  pub right : ℤ
  pub bottom : ℤ

-- "Rectangles and the box are four numbers with single spaces": a space is the byte 32
unfoldable pub four_line : Four → List ℕ
four_line f = decimal_of f.left ++ (32 ∷ (decimal_of f.top ++ (32 ∷ (decimal_of f.right ++ (32 ∷ decimal_of f.bottom)))))

-- "Numbers are decimal i32"
abbrev pub Signed32 : ℤ → Type 0
Signed32 z = Within (negsuc 2147483647) (pos 2147483647) z

-- all four are in range
pub record FourFits (f : Four) : Type 0 where
  pub left : Signed32 f.left
  pub top : Signed32 f.top
  pub right : Signed32 f.right
  pub bottom : Signed32 f.bottom

-- and those of each rectangle
pub data AllFit : List Four → Type 0 where
  nothing : AllFit []
  more : {f : Four} {fs : List Four} → FourFits f → AllFit fs → AllFit (f ∷ fs)

-- the numbers of rectangles in their order
unfoldable pub numbers_of : List Four → List ℤ
numbers_of [] = []
numbers_of (f ∷ fs) = f.left ∷ f.top ∷ f.right ∷ f.bottom ∷ numbers_of fs

-- ---- one line
-- what reading a line of four numbers finds: them and the place after the line's LF, or that no such line stands there
pub data FourFound : Type 0 where
  four : Four → (past : ℕ) → FourFound
  no_four : FourFound

-- the line of four numbers that stands at a place, up to the place after its LF
pub record FourAt (text : List ℕ) (at : ℕ) (f : Four) (past : ℕ) : Type 0 where
  pub fits : FourFits f
  pub stands : drop at text ≡ four_line f ++ (10 ∷ drop past text)
  pub inside : past ≤ length text

-- four numbers are found exactly if their line stands at the place
pub data ReadsFour (text : List ℕ) (at : ℕ) : FourFound → Type 0 where
  accepts_four : {f : Four} {past : ℕ} → FourAt text at f past → ReadsFour text at (four f past)
  refuses_four : ((f : Four) (after : List ℕ) → FourFits f → drop at text ≡ four_line f ++ (10 ∷ after) → ⊥) → ReadsFour text at no_four
