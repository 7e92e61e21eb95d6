-- The search that labels cells, by its queue: what holds at each turn, and that it ends as `Searched` says.
use mathlib.Core.Path.{◌≡◌, sym, ◌∙◌, ap}
use mathlib.Core.Logic.{◌≢◌, ◌⊎◌, inl, inr}
use mathlib.Core.Bool.{Bool, not}
use Prim.Native.Nat.{ℕ, suc, ◌+◌, ◌≤◌, ◌<◌}
use native.Mathlib.Decide.{dec_le, ℕ_discrete}
use native.Mathlib.Omega.{arith}
use lib.Dec.{T, T_not}
use Rattle.walkgraph.proofs.Tests.{by_cases}
use Rattle.walkgraph.proofs.Tally.{tally, tally_le, tally_flip, tally_lt}

-- a state of the search: which cells are labelled, by which resource and how deep; the queue, its head and its tail
pub record State : Type 0 where
  pub lab : ℕ → Bool
  pub owner : ℕ → ℕ
  pub depth : ℕ → ℕ
  pub q : ℕ → ℕ
  pub tail : ℕ

-- A cell looks at a neighbour whose label is not below its own; at depth 15, where a neighbour may be too deep to be taken from the queue, at each neighbour.
abbrev pub Looks : State → ℕ → ℕ → Type 0
Looks s c v = (s.owner c ≤ s.owner v) ⊎ (s.depth c ≡ 15)

-- Adj: the steps between cells. Near r c d: a walk of d steps from an access cell of r to c. J: what is joined. Room for `cells` cells.
pub record Turn (Adj : ℕ → ℕ → Type 0) (Near : ℕ → ℕ → ℕ → Type 0) (cells : ℕ) (J : ℕ → ℕ → Type 0) (s : State) (head : ℕ) : Type 0 where
  pub queued : (i : ℕ) → i < s.tail → T (s.lab (s.q i)) × (s.q i < cells)
  pub all : (c : ℕ) → T (s.lab c) → (i : ℕ) × (i < s.tail) × (s.q i ≡ c)
  pub room : s.tail ≡ tally s.lab cells
  pub head≤ : head ≤ s.tail
  pub order : (i j : ℕ) → i ≤ j → j < s.tail → s.depth (s.q i) ≤ s.depth (s.q j)
  pub wave : (j : ℕ) → head < s.tail → j < s.tail → s.depth (s.q j) ≤ suc (s.depth (s.q head))
  pub done : (i v : ℕ) → i < head → Adj (s.q i) v → T (s.lab v) × (s.depth v ≤ suc (s.depth (s.q i)))
  pub met : (i v : ℕ) → i < head → Adj (s.q i) v → Looks s (s.q i) v → s.depth (s.q i) + s.depth v < 32 → J (s.owner (s.q i)) (s.owner v)
  pub sound : (c : ℕ) → T (s.lab c) → Near (s.owner c) c (s.depth c)
  pub deep : (c : ℕ) → T (s.lab c) → s.depth c ≤ 16

-- ---- the end: no cell is left, or the next one has depth 16
module _ {Adj : ℕ → ℕ → Type 0} {Near : ℕ → ℕ → ℕ → Type 0} {cells : ℕ} {J : ℕ → ℕ → Type 0} {s : State} {head : ℕ} (t : Turn Adj Near cells J s head)
    (last : head < s.tail → s.depth (s.q head) ≡ 16) (back : (a b : ℕ) → Adj a b → Adj b a) (jback : (r u : ℕ) → J r u → J u r) where
  -- a labelled cell that is not of depth 16 has been taken from the queue
  taken : (c : ℕ) → T (s.lab c) → s.depth c < 16 → (i : ℕ) × (i < head) × (s.q i ≡ c)
  taken c l h =
      let i = t.all c l in
      let d = ap s.depth i.2 in
      by_cases (dec_le (suc i.0) head)
      (λ k. (i.0, k, i.2))
      (λ k. absurd (omega (arith, d, last (omega (arith, i.1)), t.order head i.0 (omega arith) i.1)))

  pub end_spread : (c v : ℕ) → T (s.lab c) → s.depth c < 16 → Adj c v → T (s.lab v) × (s.depth v ≤ suc (s.depth c))
  end_spread c v l h a =
      let i = taken c l h in
      let e = i.2 in
      let r = t.done i.0 v i.1 (rw e a) in
      (r.0, rw e at r.1)

  end_looks : (c v : ℕ) → T (s.lab c) → s.depth c < 16 → Adj c v → Looks s c v → s.depth c + s.depth v < 32 → J (s.owner c) (s.owner v)
  end_looks c v l h a o k =
      let i = taken c l h in
      let e = i.2 in
      rw e at (t.met i.0 v i.1 (rw e a) (rw e o) (rw e k))

  -- an edge is looked at from its end with the smaller label, or from the end of depth 15 where that one has depth 16
  end_up : (c v : ℕ) → T (s.lab c) → T (s.lab v) → Adj c v → s.depth c + s.depth v < 32 → s.owner c ≤ s.owner v → J (s.owner c) (s.owner v)
  end_up c v l k a h o =
      by_cases (dec_le (suc (s.depth c)) 16)
      (λ e. end_looks c v l e a (inl o) h)
      (λ e.
      by_cases (ℕ_discrete (s.depth v) 15)
      (λ f. jback _ _ (end_looks v c k (omega arith) (back c v a) (inr f) (omega arith)))
      (λ f. absurd (omega (arith, (end_spread v c k (omega arith) (back c v a)).1))))

  pub end_met : (c v : ℕ) → T (s.lab c) → T (s.lab v) → Adj c v → s.depth c + s.depth v < 32 → J (s.owner c) (s.owner v)
  end_met c v l k a h =
      by_cases (dec_le (s.owner c) (s.owner v))
      (λ e. end_up c v l k a h e)
      (λ e. jback _ _ (end_up v c k l (back c v a) (omega arith) (omega arith)))

-- ---- a cell is labelled with a resource and a depth, and put into the queue
pub record Push (s s' : State) (r d v : ℕ) : Type 0 where
  pub new : T (not (s.lab v))
  pub lab : T (s'.lab v)
  pub labs : (c : ℕ) → c ≢ v → s.lab c ≡ s'.lab c
  pub owner : s'.owner v ≡ r
  pub owners : (c : ℕ) → c ≢ v → s'.owner c ≡ s.owner c
  pub depth : s'.depth v ≡ d
  pub depths : (c : ℕ) → c ≢ v → s'.depth c ≡ s.depth c
  pub tail : s'.tail ≡ suc s.tail
  pub last : s'.q s.tail ≡ v
  pub rest : (i : ℕ) → i < s.tail → s'.q i ≡ s.q i

-- the queue has room for it
pub push_room : {Adj : ℕ → ℕ → Type 0} {Near : ℕ → ℕ → ℕ → Type 0} {cells : ℕ} {J : ℕ → ℕ → Type 0} {s : State} {head : ℕ} → Turn Adj Near cells J s head →
    (v : ℕ) → v < cells → T (not (s.lab v)) → s.tail < cells
push_room {cells = cells} {s = s} t v h n = omega (arith, t.room, tally_lt s.lab cells v h n)

-- and holds no more than the map's cells
pub queue_in : {Adj : ℕ → ℕ → Type 0} {Near : ℕ → ℕ → ℕ → Type 0} {cells : ℕ} {J : ℕ → ℕ → Type 0} {s : State} {head : ℕ} → Turn Adj Near cells J s head → s.tail ≤ cells
queue_in {cells = cells} {s = s} t = omega (arith, t.room, tally_le s.lab cells)

-- it is no shallower than what is in the queue, and at most one deeper than the head
module _ {Adj : ℕ → ℕ → Type 0} {Near : ℕ → ℕ → ℕ → Type 0} {cells : ℕ} {J : ℕ → ℕ → Type 0} {s s' : State} {head r d v : ℕ} (t : Turn Adj Near cells J s head)
    (p : Push s s' r d v) (in_map : v < cells) (near : Near r v d) (low : d ≤ 16) (after : (i : ℕ) → i < s.tail → s.depth (s.q i) ≤ d)
    (soon : head < s.tail → d ≤ suc (s.depth (s.q head))) where
  -- a labelled cell is not the new one, and keeps its label
  old_ne : (c : ℕ) → T (s.lab c) → c ≢ v
  old_ne c l e = T_not (s.lab v) p.new (rw e at l)

  old_lab : (c : ℕ) → T (s.lab c) → T (s'.lab c)
  old_lab c l = rw (p.labs c (old_ne c l)) at l

  cell_ne : (i : ℕ) → i < s.tail → s.q i ≢ v
  cell_ne i h = old_ne (s.q i) (t.queued i h).0

  keep_depth : (i : ℕ) → i < s.tail → s'.depth (s'.q i) ≡ s.depth (s.q i)
  keep_depth i h = ap s'.depth (p.rest i h) ∙ p.depths (s.q i) (cell_ne i h)

  keep_owner : (i : ℕ) → i < s.tail → s'.owner (s'.q i) ≡ s.owner (s.q i)
  keep_owner i h = ap s'.owner (p.rest i h) ∙ p.owners (s.q i) (cell_ne i h)

  last_depth : s'.depth (s'.q s.tail) ≡ d
  last_depth = ap s'.depth p.last ∙ p.depth

  -- a place of the new queue is an old one or the last
  place_ind : (P : ℕ → Type 0) (i : ℕ) → i < s'.tail → ((i : ℕ) → i < s.tail → P i) → P s.tail → P i
  place_ind P i h f g =
      let k = p.tail in
      by_cases (dec_le (suc i) s.tail) (λ l. f i l) (λ l. let e : i ≡ s.tail = omega arith in rw e g)

  push_queued : (i : ℕ) → i < s'.tail → T (s'.lab (s'.q i)) × (s'.q i < cells)
  push_queued i h =
      place_ind (λ i. T (s'.lab (s'.q i)) × (s'.q i < cells)) i h
      (λ i l. rw (p.rest i l) (old_lab (s.q i) (t.queued i l).0, (t.queued i l).1))
      (rw p.last (p.lab, in_map))

  push_all : (c : ℕ) → T (s'.lab c) → (i : ℕ) × (i < s'.tail) × (s'.q i ≡ c)
  push_all c l =
      by_cases (ℕ_discrete c v)
      (λ e. (s.tail, omega (arith, p.tail), p.last ∙ sym e))
      (λ e.
      let i = t.all c (rw (← (p.labs c e)) at l) in
      (i.0, omega (arith, p.tail, i.1), p.rest i.0 i.1 ∙ i.2))

  push_order : (i j : ℕ) → i ≤ j → j < s'.tail → s'.depth (s'.q i) ≤ s'.depth (s'.q j)
  push_order i j k h =
      let e = p.tail in
      by_cases (dec_le (suc j) s.tail)
      (λ l. omega (arith, keep_depth i (omega arith), keep_depth j l, t.order i j k l))
      (λ l.
      let f : j ≡ s.tail = omega arith in
      by_cases (dec_le (suc i) s.tail)
      (λ o. rw f (omega (arith, keep_depth i o, last_depth, after i o)))
      (λ o. let g : i ≡ j = omega arith in rw g (omega arith)))

  push_wave : (j : ℕ) → head < s'.tail → j < s'.tail → s'.depth (s'.q j) ≤ suc (s'.depth (s'.q head))
  push_wave j k h =
      by_cases (dec_le (suc head) s.tail)
      (λ more.
      place_ind (λ j. s'.depth (s'.q j) ≤ suc (s'.depth (s'.q head))) j h
      (λ i l. omega (arith, keep_depth i l, keep_depth head more, t.wave i more l))
      (omega (arith, last_depth, keep_depth head more, soon more)))
      (λ none.
      let e : head ≡ s.tail = omega (arith, t.head≤) in
      place_ind (λ j. s'.depth (s'.q j) ≤ suc (s'.depth (s'.q head))) j h
      (λ i l. rw e (omega (arith, keep_depth i l, last_depth, after i l)))
      (rw e (omega arith)))

  push_done : (i w : ℕ) → i < head → Adj (s'.q i) w → T (s'.lab w) × (s'.depth w ≤ suc (s'.depth (s'.q i)))
  push_done i w h a =
      let l : i < s.tail = omega (arith, t.head≤) in
      let e = keep_depth i l in
      let r = t.done i w h (rw (p.rest i l) at a) in
      (old_lab w r.0, omega (arith, e, r.1, p.depths w (old_ne w r.0)))

  push_met : (i w : ℕ) → i < head → Adj (s'.q i) w → Looks s' (s'.q i) w → s'.depth (s'.q i) + s'.depth w < 32 → J (s'.owner (s'.q i)) (s'.owner w)
  push_met i w h a o b =
      let l : i < s.tail = omega (arith, t.head≤) in
      let g = rw (p.rest i l) at a in
      let n = old_ne w (t.done i w h g).0 in
      let e = keep_depth i l in
      let f = p.depths w n in
      let x = keep_owner i l in
      let y = p.owners w n in
      rw (x, y) (t.met i w h g (rw (x, y, e) at o) (omega arith))

  push_sound : (c : ℕ) → T (s'.lab c) → Near (s'.owner c) c (s'.depth c)
  push_sound c l =
      by_cases (ℕ_discrete c v)
      (λ e. rw (e, p.owner, p.depth) near)
      (λ e. rw (p.owners c e, p.depths c e) (t.sound c (rw (← (p.labs c e)) at l)))

  push_deep : (c : ℕ) → T (s'.lab c) → s'.depth c ≤ 16
  push_deep c l =
      by_cases (ℕ_discrete c v)
      (λ e. omega (arith, ap s'.depth e, p.depth))
      (λ e. omega (arith, p.depths c e, t.deep c (rw (← (p.labs c e)) at l)))

  push_turn : Turn Adj Near cells J s' head
  push_turn =
      record {
        queued = push_queued;
        all = push_all;
        room = p.tail ∙ ap suc t.room ∙ sym (tally_flip s.lab s'.lab cells v in_map p.new p.lab p.labs);
        head≤ = omega (arith, p.tail, t.head≤);
        order = push_order;
        wave = push_wave;
        done = push_done;
        met = push_met;
        sound = push_sound;
        deep = push_deep;
      }

-- a neighbour of the head's cell is labelled from it
pub step_turn : {Adj : ℕ → ℕ → Type 0} {Near : ℕ → ℕ → ℕ → Type 0} {cells : ℕ} {J : ℕ → ℕ → Type 0} {s s' : State} {head v : ℕ} → Turn Adj Near cells J s head → head < s.tail →
    s.depth (s.q head) < 16 → Push s s' (s.owner (s.q head)) (suc (s.depth (s.q head))) v → v < cells → Near (s.owner (s.q head)) v (suc (s.depth (s.q head))) →
    Turn Adj Near cells J s' head
step_turn t more shallow p h near = push_turn t p h near (omega arith) (λ i k. t.wave i more k) (λ k. omega arith)

-- an access cell is labelled, while only access cells are
pub seed_turn : {Adj : ℕ → ℕ → Type 0} {Near : ℕ → ℕ → ℕ → Type 0} {cells : ℕ} {J : ℕ → ℕ → Type 0} {s s' : State} {r v : ℕ} → Turn Adj Near cells J s 0 →
    ((i : ℕ) → i < s.tail → s.depth (s.q i) ≡ 0) → Push s s' r 0 v → v < cells → Near r v 0 → Turn Adj Near cells J s' 0
seed_turn t flat p h near = push_turn t p h near (omega arith) (λ i k. omega (arith, flat i k)) (λ k. omega arith)

-- ---- more is joined
pub join_turn : {Adj : ℕ → ℕ → Type 0} {Near : ℕ → ℕ → ℕ → Type 0} {cells : ℕ} {J J' : ℕ → ℕ → Type 0} {s : State} {head : ℕ} → ((r s : ℕ) → J r s → J' r s) →
    Turn Adj Near cells J s head → Turn Adj Near cells J' s head
join_turn f t =
    record {
      queued = t.queued;
      all = t.all;
      room = t.room;
      head≤ = t.head≤;
      order = t.order;
      wave = t.wave;
      done = t.done;
      met = λ i v h a o b. f _ _ (t.met i v h a o b);
      sound = t.sound;
      deep = t.deep;
    }

-- the same steps and walks by other names
pub turn_over : {Adj Adj' : ℕ → ℕ → Type 0} {Near Near' : ℕ → ℕ → ℕ → Type 0} {cells : ℕ} {J : ℕ → ℕ → Type 0} {s : State} {head : ℕ} → ((c v : ℕ) → Adj' c v → Adj c v) →
    ((r c d : ℕ) → Near r c d → Near' r c d) → Turn Adj Near cells J s head → Turn Adj' Near' cells J s head
turn_over f g t =
    record {
      queued = t.queued;
      all = t.all;
      room = t.room;
      head≤ = t.head≤;
      order = t.order;
      wave = t.wave;
      done = λ i v h a. t.done i v h (f _ _ a);
      met = λ i v h a o b. t.met i v h (f _ _ a) o b;
      sound = λ c l. g _ _ _ (t.sound c l);
      deep = t.deep;
    }

-- ---- the head's cell is done: each neighbour is labelled, and what it looks at is joined
pub next_turn : {Adj : ℕ → ℕ → Type 0} {Near : ℕ → ℕ → ℕ → Type 0} {cells : ℕ} {J : ℕ → ℕ → Type 0} {s : State} {head : ℕ} → Turn Adj Near cells J s head → head < s.tail →
    ((v : ℕ) → Adj (s.q head) v → T (s.lab v) × (s.depth v ≤ suc (s.depth (s.q head)))) →
    ((v : ℕ) → Adj (s.q head) v → Looks s (s.q head) v → s.depth (s.q head) + s.depth v < 32 → J (s.owner (s.q head)) (s.owner v)) →
    Turn Adj Near cells J s (suc head)
next_turn {Adj} {Near} {cells} {J} {s} {head} t more d m =
    record {
      queued = t.queued;
      all = t.all;
      room = t.room;
      head≤ = more;
      order = t.order;
      wave = λ j h k. omega (arith, t.wave j more k, t.order head (suc head) (omega arith) h);
      done = done;
      met = met;
      sound = t.sound;
      deep = t.deep;
    }
  where
    done : (i v : ℕ) → i < suc head → Adj (s.q i) v → T (s.lab v) × (s.depth v ≤ suc (s.depth (s.q i)))
    done i v h =
        by_cases (ℕ_discrete i head)
        (λ e. rw e (d v))
        (λ e. t.done i v (omega arith))

    met : (i v : ℕ) → i < suc head → Adj (s.q i) v → Looks s (s.q i) v → s.depth (s.q i) + s.depth v < 32 → J (s.owner (s.q i)) (s.owner v)
    met i v h =
        by_cases (ℕ_discrete i head)
        (λ e. rw e (m v))
        (λ e. t.met i v (omega arith))
