-- Lists by their entries, and first and last numbers that pass a test.
use mathlib.Core.Path.{◌≡◌, refl, ap}
use mathlib.Core.Bool.{Bool, not}
use Prim.Native.Nat.{ℕ, zero, suc, ◌+◌, ◌-◌, ◌≤◌, ◌<◌}
use native.Mathlib.Nat.{le_of_suc-le-suc, not-suc-le-zero}
use native.Mathlib.Decide.{dec_le, ℕ_discrete}
use native.Mathlib.Omega.{arith}
use lib.ListN.{get_or, length}
use lib.Dec.{T, T_not}
use borrow.Author.Tests.{lt-ltb, le-ltb}
use Rattle.walkgraph.specs.Lists.{tabulate, grown, grow, first_from, past_last, placed}
use Rattle.walkgraph.proofs.Tests.{by_cases, cond_ind}

pub get_d_tabulate {ℓ} : {A : Type ℓ} (n : ℕ) (f : ℕ → A) (d : A) (i : ℕ) → i < n → get_or (tabulate n f) i d ≡ f i
unfolding tabulate
get_d_tabulate zero f d i h = absurd (not-suc-le-zero h)
get_d_tabulate (suc n) f d zero h = refl
get_d_tabulate (suc n) f d (suc i) h = get_d_tabulate n (λ i. f (suc i)) d i (le_of_suc-le-suc h)

pub length_tabulate {ℓ} : {A : Type ℓ} (n : ℕ) (f : ℕ → A) → length (tabulate n f) ≡ n
unfolding tabulate
length_tabulate zero f = refl
length_tabulate (suc n) f = ap suc (length_tabulate n (λ i. f (suc i)))

-- a row grown from its second entry on
grown_later {ℓ} : {A : Type ℓ} (first : A) (next : ℕ → A → A) (i : ℕ) → grown (next zero first) (λ i. next (suc i)) i ≡ grown first next (suc i)
unfolding grown
grown_later first next zero = refl
grown_later first next (suc i) = ap (next (suc i)) (grown_later first next i)

-- the list has the row's entries
pub get_or_grow {ℓ} : {A : Type ℓ} (n : ℕ) (first : A) (next : ℕ → A → A) (d : A) (i : ℕ) → i < n → get_or (grow n first next) i d ≡ grown first next i
unfolding grow grown
get_or_grow zero first next d i h = absurd (not-suc-le-zero h)
get_or_grow (suc n) first next d zero h = refl
get_or_grow (suc n) first next d (suc i) h = rw (get_or_grow n (next zero first) (λ i. next (suc i)) d i (le_of_suc-le-suc h)) (grown_later first next i)

-- ---- the first of the n numbers from a on that passes, or a + n
pub record IsFirst (test : ℕ → Bool) (a n r : ℕ) : Type 0 where
  pub low : a ≤ r
  pub high : r ≤ a + n
  pub none : (x : ℕ) → a ≤ x → x < r → ¬ (T (test x))
  pub some : r < a + n → T (test r)

pub first_from_lem : (test : ℕ → Bool) (a n : ℕ) → IsFirst test a n (first_from test a n)
unfolding first_from
first_from_lem test a zero = record { low = omega arith; high = omega arith; none = λ x h k. absurd (omega arith); some = λ h. absurd (omega arith) }
first_from_lem test a (suc n) =
    let ih = first_from_lem test (suc a) n in
    cond_ind (IsFirst test a (suc n)) (test a)
    (λ t. record { low = omega arith; high = omega arith; none = λ x h k. absurd (omega arith); some = λ h. t })
    (λ t.
    record {
      low = omega (arith, ih.low);
      high = omega (arith, ih.high);
      none = λ x h k. by_cases (ℕ_discrete x a) (λ e. rw e (T_not (test a) t)) (λ e. ih.none x (omega arith) k);
      some = λ h. ih.some (omega arith);
    })

-- ---- one past the last of 1 .. n that passes, or `none`
pub data IsPast (test : ℕ → Bool) (none n r : ℕ) : Type 0 where
  nobody : r ≡ none → ((x : ℕ) → 1 ≤ x → x ≤ n → ¬ (T (test x))) → IsPast test none n r
  somebody : (last : ℕ) → r ≡ suc last → 1 ≤ last → last ≤ n → T (test last) → ((x : ℕ) → last < x → x ≤ n → ¬ (T (test x))) → IsPast test none n r

pub past_last_lem : (test : ℕ → Bool) (none n : ℕ) → IsPast test none n (past_last test none n)
unfolding past_last
past_last_lem test none zero = nobody refl (λ x h k. absurd (omega arith))
past_last_lem test none (suc n) =
    cond_ind (IsPast test none (suc n)) (test (suc n))
    (λ t. somebody (suc n) (omega arith) (omega arith) (omega arith) t (λ x h k. absurd (omega arith)))
    (λ t. longer t (past_last_lem test none n))
  where
    fails : T (not (test (suc n))) → (x : ℕ) → x ≤ suc n → ¬ (x ≤ n) → ¬ (T (test x))
    fails t x h k = let e : x ≡ suc n = omega arith in rw e (T_not (test (suc n)) t)

    longer : {r : ℕ} → T (not (test (suc n))) → IsPast test none n r → IsPast test none (suc n) r
    longer t (nobody e f) = nobody e (λ x h k. by_cases (dec_le x n) (f x h) (fails t x k))
    longer t (somebody p e a b s f) = somebody p e a (omega arith) s (λ x h k. by_cases (dec_le x n) (f x h) (fails t x k))

-- ---- entries that were replaced, and those that stay
module _ (entries : ℕ → ℕ) (start n : ℕ) (new : ℕ → ℕ) where
  pub placed_in : (k : ℕ) → k < n → placed entries start n new (start + k) ≡ new k
  unfolding placed
  placed_in k h = rw (le-ltb (start + k) start (omega arith), lt-ltb (start + k) (start + n) (omega arith)) (ap new (omega arith))

  pub placed_below : (j : ℕ) → j < start → placed entries start n new j ≡ entries j
  unfolding placed
  placed_below j h = rw (lt-ltb j start h)

  pub placed_above : (j : ℕ) → start + n ≤ j → placed entries start n new j ≡ entries j
  unfolding placed
  placed_above j h = rw (le-ltb j start (omega arith), le-ltb j (start + n) h)

-- the three places of an index
pub by_place : (P : ℕ → Type 0) (start n j : ℕ) → (j < start → P j) → ((k : ℕ) → k < n → P (start + k)) → (start + n ≤ j → P j) → P j
by_place P start n j f g h =
    by_cases (dec_le start j)
    (λ a. by_cases (dec_le (start + n) j) h (λ b. let e : start + (j - start) ≡ j = omega arith in rw e at (g (j - start) (omega arith))))
    (λ a. f (omega arith))
