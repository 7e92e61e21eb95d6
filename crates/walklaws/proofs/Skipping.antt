-- Skipping a row by versions. A row whose feeding row has the version that it last pulled is quiet, and so its two passes would leave it as it is.
use mathlib.Core.Path.{◌≡◌, refl, sym, ◌∙◌, ap, subst}
use mathlib.Core.Logic.{◌≢◌, ◌⊎◌, ⊎_elim}
use mathlib.Core.List.{List}
use Prim.Native.Nat.{ℕ, suc, ◌+◌, ◌≤◌, ◌<◌}
use native.Mathlib.Decide.{dec_le, ℕ_discrete}
use native.Mathlib.Omega.{arith}
use lib.Dec.{T}
use lib.ListN.{length}
use lib.Seq.{ext_get_or}
use Rattle.walkgraph.specs.Lanes.{unreachable}
use Rattle.walkgraph.specs.Sweep.{PaddedWindow, Direction, down, up, read_row, written, relaxed}
use Rattle.walkgraph.proofs.Tests.{by_cases}
use Rattle.walklaws.proofs.RelaxedRow.{RowQuiet}
use Rattle.walkgraph.proofs.SweepSteps.{PaddingShut, written_in}
use Rattle.walklaws.proofs.RelaxedRow as R

module _ (m : PaddedWindow) (p : PaddingShut m) (y z : ℕ) (feed old : List ℕ) (top : (x : ℕ) → read_row m old x ≤ unreachable m.reach) where
  pub relaxed_top : (x : ℕ) → read_row m (relaxed m y z feed old) x ≤ unreachable m.reach
  relaxed_top x =
      by_cases (dec_le x (m.width + 1))
      (λ h. omega (arith, R.row_fall m y z feed old x h, top x))
      (λ h. omega (arith, R.relaxed_out m y z feed old x (omega arith)))

  -- a relaxed row is quiet
  pub relaxed_quiet : RowQuiet m y z feed (relaxed m y z feed old)
  relaxed_quiet =
      record {
        straight = λ x o. let i = written_in m p (suc x) y o in R.row_straight m y z feed old x (omega arith) o;
        west = λ x o c. let i = written_in m p (suc x) y o in R.row_west m y z feed old x (omega arith) o c;
        east = λ x o c. let i = written_in m p (suc x) y o in R.row_east m y z feed old x (omega arith) o c;
        left = λ x o. let i = written_in m p (suc x) y o in R.row_left m y z feed old x (omega arith) o;
        right = λ x o. let i = written_in m p x y o in R.row_right m y z feed old x (omega arith) o;
        top = relaxed_top;
      }

  -- and stays quiet on its other side
  pub other_quiet : {z' : ℕ} {feed' : List ℕ} → RowQuiet m y z' feed' old → RowQuiet m y z' feed' (relaxed m y z feed old)
  other_quiet q =
      record {
        straight = λ x o. let i = written_in m p (suc x) y o in omega (arith, q.straight x o, R.row_fall m y z feed old (suc x) (omega arith));
        west = λ x o c. let i = written_in m p (suc x) y o in omega (arith, q.west x o c, R.row_fall m y z feed old (suc x) (omega arith));
        east = λ x o c. let i = written_in m p (suc x) y o in omega (arith, q.east x o c, R.row_fall m y z feed old (suc x) (omega arith));
        left = λ x o. let i = written_in m p (suc x) y o in R.row_left m y z feed old x (omega arith) o;
        right = λ x o. let i = written_in m p x y o in R.row_right m y z feed old x (omega arith) o;
        top = relaxed_top;
      }

-- only the values of the feeding row count
quiet_feed : {m : PaddedWindow} {y z : ℕ} {feed feed' old : List ℕ} → ((x : ℕ) → read_row m feed' x ≡ read_row m feed x) → RowQuiet m y z feed old → RowQuiet m y z feed' old
quiet_feed {m} e q =
    record {
      straight = λ x o. rw (e (suc x)) (q.straight x o);
      west = λ x o c. rw (e x) (q.west x o c);
      east = λ x o c. rw (e (suc (suc x))) (q.east x o c);
      left = q.left;
      right = q.right;
      top = q.top;
    }

-- row z feeds row y
abbrev pub Feeds : Direction → ℕ → ℕ → Type 0
Feeds down z y = y ≡ suc z
Feeds up z y = z ≡ suc y

feeds_one : (d : Direction) (z z' y : ℕ) → Feeds d z y → Feeds d z' y → z ≡ z'
feeds_one down z z' y e f = omega arith
feeds_one up z z' y e f = omega arith

feeds_ne : (d : Direction) (z y : ℕ) → Feeds d z y → z ≢ y
feeds_ne down z y e = omega arith
feeds_ne up z y e = omega arith

abbrev IsDown : Direction → Type 0
IsDown down = Unit {0}
IsDown up = ⊥

same_dir : (d e : Direction) → Dec (d ≡ e)
same_dir down down = yes refl
same_dir down up = no (λ e. absurd (subst IsDown e tt))
same_dir up down = no (λ e. absurd (subst IsDown (sym e) tt))
same_dir up up = yes refl

-- what holds of the versions ver and of the versions last pulled, pul, over the rows `cur` of n lanes. `never` is u32's largest.
pub record Fresh (m : PaddedWindow) (n : ℕ) (cur : ℕ → ℕ → List ℕ) (ver : ℕ → ℕ) (pul : Direction → ℕ → ℕ) (never : ℕ) : Type 0 where
  pub small : (y : ℕ) → ver y < never
  pub past : (d : Direction) (z y : ℕ) → Feeds d z y → pul d y ≢ never → pul d y ≤ ver z
  pub quiet : (d : Direction) (z y : ℕ) → Feeds d z y → pul d y ≡ ver z → (l : ℕ) → l < n → RowQuiet m y z (cur l z) (cur l y)
  pub top : (l y x : ℕ) → l < n → read_row m (cur l y) x ≤ unreachable m.reach

-- a row is relaxed: what changes
pub record Relax (m : PaddedWindow) (n : ℕ) (cur cur' : ℕ → ℕ → List ℕ) (ver ver' : ℕ → ℕ) (pul pul' : Direction → ℕ → ℕ) (d : Direction) (z y : ℕ) : Type 0 where
  pub feeds : Feeds d z y
  pub row : (l : ℕ) → l < n → cur' l y ≡ relaxed m y z (cur l z) (cur l y)
  pub rest : (l r : ℕ) → l < n → r ≢ y → cur' l r ≡ cur l r
  pub version : (ver' y ≡ suc (ver y)) ⊎ ((ver' y ≡ ver y) × ((l x : ℕ) → l < n → read_row m (cur' l y) x ≡ read_row m (cur l y) x))
  pub versions : (r : ℕ) → r ≢ y → ver' r ≡ ver r
  pub pulled : pul' d y ≡ ver z
  pub pulls : (e : Direction) (r : ℕ) → ¬ ((e ≡ d) × (r ≡ y)) → pul' e r ≡ pul e r

both : (d e : Direction) (w y : ℕ) → Dec ((e ≡ d) × (w ≡ y))
both d e w y =
    by_cases (same_dir e d)
    (λ a. by_cases (ℕ_discrete w y) (λ b. yes (a, b)) (λ b. no (λ q. b q.1)))
    (λ a. no (λ q. a q.0))

-- relaxing a row keeps what holds of the versions
module _ {m : PaddedWindow} (p : PaddingShut m) {n : ℕ} {cur cur' : ℕ → ℕ → List ℕ} {ver ver' : ℕ → ℕ} {pul pul' : Direction → ℕ → ℕ} {never : ℕ} (f : Fresh m n cur ver pul never)
    {d : Direction} {z y : ℕ} (r : Relax m n cur cur' ver ver' pul pul' d z y) (small : ver' y < never) where
  -- the version of a row never falls
  ver_up : (v : ℕ) → ver v ≤ ver' v
  ver_up v =
      by_cases (ℕ_discrete v y)
      (λ e. rw e (⊎_elim (λ k. omega arith) (λ k. omega arith) r.version))
      (λ e. omega (arith, r.versions v e))

  new_past : (e : Direction) (v w : ℕ) → Feeds e v w → pul' e w ≢ never → pul' e w ≤ ver' v
  new_past e v w g h =
      by_cases (both d e w y)
      (λ a.
      let q : pul' e w ≡ ver z = rw (a.0, a.1) r.pulled in
      let o : v ≡ z = feeds_one d v z y (rw (a.0, a.1) at g) r.feeds in
      omega (arith, q, ap ver o, ver_up v))
      (λ a. omega (arith, r.pulls e w a, f.past e v w g (λ q. h (r.pulls e w a ∙ q)), ver_up v))

  new_quiet : (e : Direction) (v w : ℕ) → Feeds e v w → pul' e w ≡ ver' v → (l : ℕ) → l < n → RowQuiet m w v (cur' l v) (cur' l w)
  new_quiet e v w g h l k =
      by_cases (both d e w y)
      (λ a.
      let o : v ≡ z = feeds_one d v z y (rw (a.0, a.1) at g) r.feeds in
      rw (o, a.1, r.rest l z k (feeds_ne d z y r.feeds), r.row l k) (relaxed_quiet m p y z (cur l z) (cur l y) (λ x. f.top l y x k)))
      (λ a.
      let q : pul e w ≡ ver' v = sym (r.pulls e w a) ∙ h in
      by_cases (ℕ_discrete w y)
      (λ b.
      let c : v ≢ y = λ j. feeds_ne e v w g (j ∙ sym b) in
      let o : RowQuiet m w v (cur l v) (cur l w) = f.quiet e v w g (q ∙ r.versions v c) l k in
      rw (r.rest l v k c, b, r.row l k) (other_quiet m p y z (cur l z) (cur l y) (λ x. f.top l y x k) (rw b at o)))
      (λ b.
      by_cases (ℕ_discrete v y)
      (λ c.
      ⊎_elim
      (λ t. absurd (omega (arith, q, ap ver' c, ap ver c, f.past e v w g (omega (arith, ap ver' c)))))
      (λ t.
      rw (r.rest l w k b)
      (quiet_feed (λ x. rw c (t.1 l x k)) (f.quiet e v w g (omega (arith, ap ver' c, ap ver c)) l k)))
      r.version)
      (λ c. rw (r.rest l w k b, r.rest l v k c) (f.quiet e v w g (q ∙ r.versions v c) l k))))

  new_top : (l v x : ℕ) → l < n → read_row m (cur' l v) x ≤ unreachable m.reach
  new_top l v x k =
      by_cases (ℕ_discrete v y)
      (λ e. rw (e, r.row l k) (relaxed_top m p y z (cur l z) (cur l y) (λ x. f.top l y x k) x))
      (λ e. rw (r.rest l v k e) (f.top l v x k))

  new_small : (v : ℕ) → ver' v < never
  new_small v = by_cases (ℕ_discrete v y) (λ e. rw e small) (λ e. omega (arith, r.versions v e, f.small v))

  pub relax_fresh : Fresh m n cur' ver' pul' never
  relax_fresh = record { small = new_small; past = new_past; quiet = new_quiet; top = new_top }

-- the same as lists, where rows have the window's width and padding
pub quiet_row : {m : PaddedWindow} {y z : ℕ} {feed old : List ℕ} → RowQuiet m y z feed old → length old ≡ m.width + 2 → relaxed m y z feed old ≡ old
quiet_row {m} {y} {z} {feed} {old} q w =
    let a : length (relaxed m y z feed old) ≡ m.width + 2 = R.relaxed_length m y z feed old in
    ext_get_or (unreachable m.reach) (relaxed m y z feed old) old (a ∙ sym w) (λ i j. R.row_quiet m y z feed old q i (omega arith))

pub skip_row : {m : PaddedWindow} {n : ℕ} {cur : ℕ → ℕ → List ℕ} {ver : ℕ → ℕ} {pul : Direction → ℕ → ℕ} {never : ℕ} → Fresh m n cur ver pul never →
    (d : Direction) (z y : ℕ) → Feeds d z y → pul d y ≡ ver z → (l : ℕ) → l < n → length (cur l y) ≡ m.width + 2 → relaxed m y z (cur l z) (cur l y) ≡ cur l y
skip_row f d z y e h l k w = quiet_row (f.quiet d z y e h l k) w

-- only the rows of the lanes below n count
pub fresh_same : {m : PaddedWindow} {n : ℕ} {cur cur' : ℕ → ℕ → List ℕ} {ver : ℕ → ℕ} {pul : Direction → ℕ → ℕ} {never : ℕ} → ((l v : ℕ) → l < n → cur' l v ≡ cur l v) →
    Fresh m n cur ver pul never → Fresh m n cur' ver pul never
fresh_same e f =
    record {
      small = f.small;
      past = f.past;
      quiet = λ d z y g h l k. rw (e l z k, e l y k) (f.quiet d z y g h l k);
      top = λ l y x k. rw (e l y k) (f.top l y x k);
    }

-- before the first sweep all versions are 0; a row has pulled nothing, or counts as having pulled version 0 where that would change nothing
pub fresh_start : {m : PaddedWindow} {n : ℕ} {cur : ℕ → ℕ → List ℕ} {pul : Direction → ℕ → ℕ} (never : ℕ) → 0 < never →
    ((l y x : ℕ) → l < n → read_row m (cur l y) x ≤ unreachable m.reach) →
    ((d : Direction) (y : ℕ) → (pul d y ≡ never) ⊎ (pul d y ≡ 0)) →
    ((d : Direction) (z y : ℕ) → Feeds d z y → pul d y ≡ 0 → (l : ℕ) → l < n → RowQuiet m y z (cur l z) (cur l y)) → Fresh m n cur (λ y. 0) pul never
fresh_start never h t e q =
    record {
      small = λ y. h;
      past = λ d z y f n. ⊎_elim (λ g. absurd (n g)) (λ g. omega arith) (e d y);
      quiet = λ d z y f g l k. q d z y f g l k;
      top = t;
    }

-- a row with no cell to write stays as it is
pub empty_quiet : {m : PaddedWindow} {y z : ℕ} {feed old : List ℕ} → ((x : ℕ) → ¬ (T (written m x y))) → ((x : ℕ) → read_row m old x ≤ unreachable m.reach) → RowQuiet m y z feed old
empty_quiet n t =
    record {
      straight = λ x o. absurd (n (suc x) o);
      west = λ x o c. absurd (n (suc x) o);
      east = λ x o c. absurd (n (suc x) o);
      left = λ x o. absurd (n (suc x) o);
      right = λ x o. absurd (n x o);
      top = t;
    }
