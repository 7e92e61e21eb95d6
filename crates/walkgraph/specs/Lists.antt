-- Lists by their entries, and searches among numbers. Document 01 speaks of tables and of first and last ones; these are the forms that compute.
use Rattle.std.specs.Prelude.{Bool, cond, List, [], ◌∷◌, ℕ, zero, suc, ◌+◌, ◌-◌, ltb}

-- f 0 .. f (n - 1)
unfoldable pub tabulate {ℓ} : {A : Type ℓ} → ℕ → (ℕ → A) → List A
tabulate zero f = []
tabulate (suc n) f = f zero ∷ tabulate n (λ i. f (suc i))

-- entry i of a row in which each entry is made from the one before it: `next i` makes entry i + 1 from entry i
unfoldable pub grown {ℓ} : {A : Type ℓ} → A → (ℕ → A → A) → ℕ → A
grown first next zero = first
grown first next (suc i) = next i (grown first next i)

-- the first n entries of that row, as one list
unfoldable pub grow {ℓ} : {A : Type ℓ} → ℕ → A → (ℕ → A → A) → List A
grow zero first next = []
grow (suc n) first next = first ∷ grow n (next zero first) (λ i. next (suc i))

-- the first of the n numbers from a on that passes the test, or a + n where none does
unfoldable pub first_from : (ℕ → Bool) → ℕ → ℕ → ℕ
first_from test a zero = a
first_from test a (suc n) = cond (test a) a (first_from test (suc a) n)

-- one past the last of the numbers 1 .. n that passes the test, or `none` where none does
unfoldable pub past_last : (ℕ → Bool) → ℕ → ℕ → ℕ
past_last test none zero = none
past_last test none (suc n) = cond (test (suc n)) (suc (suc n)) (past_last test none n)

-- a buffer by its entries, after n of them, from index `start` on, became those of `new`; the others stay
unfoldable pub placed : (ℕ → ℕ) → ℕ → ℕ → (ℕ → ℕ) → ℕ → ℕ
placed entries start n new i = cond (ltb i start) (entries i) (cond (ltb i (start + n)) (new (i - start)) (entries i))
