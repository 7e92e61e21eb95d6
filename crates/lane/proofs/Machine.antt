-- What the machine does with signed numbers, in terms of `up`: a need reads a number back from its bits, `to_z w (of_z w z)`. Once for every width.
use mathlib.Core.Path.{◌≡◌, refl, sym, ap, ◌∙◌}
use mathlib.Core.Bool.{true, false}
use Prim.Native.Nat.{ℕ, ◌+◌, ◌^◌, ◌≤◌, ◌<◌}
use native.Mathlib.Omega.{arith}
use lib.IntN.{ℤ, ◌+ℤ◌}
use lib.Signed.{lt_z}
use mir.Syntax.{Width}
use mir.Val.{SFits, hbits, to_z, of_z}
use mir.ValLaws.{to_z-of_z}
use Rattle.lane.specs.Levels.{up}
use Rattle.lane.proofs.Signed.{up_under, up_less, up_least, In, sum_in}

-- z fits, and u is its `up`, also when z is read back from its bits
pub record Got (w : Width) (z : ℤ) (u : ℕ) : Type 0 where
  pub fit : SFits w z
  pub is : up (2 ^ hbits w) z ≡ u
  pub back : up (2 ^ hbits w) (to_z w (of_z w z)) ≡ u
  pub under : u < 2 ^ hbits w + 2 ^ hbits w

got : (w : Width) (z : ℤ) (u : ℕ) → In (2 ^ hbits w) z u → Got w z u
got w z u i =
    let f : SFits w z = record { sfits = i.range } in
    record { fit = f; is = i.is; back = ap (up (2 ^ hbits w)) (to_z-of_z w z f) ∙ i.is; under = omega (arith, up_under (2 ^ hbits w) z i.range, i.is) }

-- a value, read back
pub same : (w : Width) (a : ℤ) → SFits w a → Got w a (up (2 ^ hbits w) a)
same w a f = got w a (up (2 ^ hbits w) a) (record { range = f.sfits; is = refl })

module _ (w : Width) (a b : ℤ) (f : SFits w a) (g : SFits w b) where
  pub plus : (u : ℕ) → u + 2 ^ hbits w ≡ up (2 ^ hbits w) a + up (2 ^ hbits w) b → u < 2 ^ hbits w + 2 ^ hbits w → Got w (to_z w (of_z w a) +ℤ to_z w (of_z w b)) u
  plus u e l = rw (to_z-of_z w a f, to_z-of_z w b g) (got w (a +ℤ b) u (sum_in (2 ^ hbits w) a b u f.sfits g.sfits e l))

  pub less : lt_z (to_z w (of_z w a)) (to_z w (of_z w b)) ≡ true → up (2 ^ hbits w) a < up (2 ^ hbits w) b
  less e = up_less (2 ^ hbits w) a b f.sfits g.sfits (rw (to_z-of_z w a f, to_z-of_z w b g) at e)

  pub not_less : lt_z (to_z w (of_z w a)) (to_z w (of_z w b)) ≡ false → up (2 ^ hbits w) b ≤ up (2 ^ hbits w) a
  not_less e = up_least (2 ^ hbits w) a b f.sfits g.sfits (rw (to_z-of_z w a f, to_z-of_z w b g) at e)

  -- `==` compares bits
  pub equal : of_z w a ≡ of_z w b → a ≡ b
  equal e = sym (to_z-of_z w a f) ∙ ap (to_z w) e ∙ to_z-of_z w b g
