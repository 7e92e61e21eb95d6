-- The two-sided search to depth 16 joins the same resources as the links.
use mathlib.Core.Path.{◌≡◌}
use Prim.Native.Nat.{ℕ, suc, ◌+◌, ◌≤◌, ◌<◌}
use native.Mathlib.Omega.{arith}
use native.Mathlib.Decide.{dec_le}
use Rattle.walkgraph.specs.Walk.{Step, Walk, here, on}
use Rattle.walkgraph.specs.Links.{Linked, Joined, alone, linked, back, chain}
use Rattle.walkgraph.proofs.Tests.{by_cases}
use Rattle.walkgraph.proofs.Walks.{last_allowed, step_sym}

-- a walk, and another to its end taken backwards
pub turn_back : {Walkable Allowed : ℕ → ℕ → Type 0} {p q a b x y m e n c : ℕ} → Walk Walkable Allowed p q x y m e → Walk Walkable Allowed a b x y n c →
    (k : ℕ) × Walk Walkable Allowed p q a b (m + n) k
turn_back {m = m} {e} v (here o) = let f : m ≡ m + 0 = omega arith in (e, rw f at v)
turn_back {m = m} v (on {n = n} w s o) =
    let r = turn_back (on v (step_sym s) (last_allowed w)) w in
    let f : suc m + n ≡ m + suc n = omega arith in
    (r.0, rw f at r.1)

-- chains of links that are themselves chains
pub joined_by : {Link More : ℕ → ℕ → Type 0} → ((r s : ℕ) → Link r s → Joined More r s) → {r s : ℕ} → Joined Link r s → Joined More r s
joined_by f alone = alone
joined_by f (linked l) = f _ _ l
joined_by f (back j) = back (joined_by f j)
joined_by f (chain j k) = chain (joined_by f j) (joined_by f k)

-- what the search leaves: which cells it labels, with which resource, at which depth, and J, what it joins
pub record Searched (Walkable : ℕ → ℕ → Type 0) (Access : ℕ → ℕ → ℕ → Type 0) (Labelled : ℕ → ℕ → Type 0) (owner depth : ℕ → ℕ → ℕ) (J : ℕ → ℕ → Type 0) : Type 0 where
  pub seeds : (r x y : ℕ) → Access r x y → Labelled x y × (depth x y ≡ 0) × J r (owner x y)
  pub spread : {x y u v k : ℕ} → Labelled x y → depth x y < 16 → Step Walkable x y u v k → Walkable u v → Labelled u v × (depth u v ≤ suc (depth x y))
  pub met : {x y u v k : ℕ} → Labelled x y → Labelled u v → Step Walkable x y u v k → depth x y + depth u v < 32 → J (owner x y) (owner u v)
  pub back : {r s : ℕ} → J r s → J s r
  pub chain : {r s t : ℕ} → J r s → J s t → J r t

module _ {Walkable : ℕ → ℕ → Type 0} {Access : ℕ → ℕ → ℕ → Type 0} {Labelled : ℕ → ℕ → Type 0} {owner depth : ℕ → ℕ → ℕ} {J : ℕ → ℕ → Type 0}
    (S : Searched Walkable Access Labelled owner depth J) where
  -- a cell within 16 steps of an access cell is labelled no deeper
  near : {r a b x y n c : ℕ} → Access r a b → Walk Walkable Walkable a b x y n c → n ≤ 16 → Labelled x y × (depth x y ≤ n)
  near f (here o) h = let t = S.seeds _ _ _ f in (t.0, omega arith)
  near f (on w s o) h =
      let t = near f w (omega arith) in
      let u = S.spread t.0 (omega arith) s o in
      (u.0, omega arith)

  -- a step of a walk of at most 32 steps between two access cells is met
  edge : {r s a b p q x y u v n m c e k : ℕ} → Access r a b → Walk Walkable Walkable a b x y n c → Step Walkable x y u v k → Access s p q → Walk Walkable Walkable p q u v m e →
      suc n + m ≤ 32 → Labelled x y × Labelled u v × (depth x y + depth u v < 32)
  edge {x = x} {y = y} {u = u} {v = v} {n = n} {m = m} f w t g b h =
      by_cases (dec_le n 16)
      (λ i.
      let j = near f w i in
      by_cases (dec_le m 16)
      (λ k. let l = near g b k in (j.0, l.0, omega arith))
      (λ k. let l = near f (on w t (last_allowed b)) (omega arith) in (j.0, l.0, omega arith)))
      (λ i.
      let j = near g (on b (step_sym t) (last_allowed w)) (omega arith) in
      let l = near g b (omega arith) in
      (j.0, l.0, omega arith))

  along : {r s a b p q x y n m c e : ℕ} → Access r a b → Walk Walkable Walkable a b x y n c → Access s p q → Walk Walkable Walkable p q x y m e → n + m ≤ 32 → J r (owner x y)
  along f (here o) g b h = (S.seeds _ _ _ f).2
  along f (on w t o) g b h =
      let i = edge f w t g b (omega arith) in
      let j = along f w g (on b (step_sym t) (last_allowed w)) (omega arith) in
      S.chain j (S.met i.0 i.1 t i.2)

  -- complete: each link is joined
  pub search_links : (r s : ℕ) → Linked Walkable Access r s → J r s
  search_links r s l =
      S.chain (along l.first l.walk l.last (here (last_allowed l.walk)) (omega (arith, l.short))) (S.back (S.seeds s l.x l.y l.last).2)

  pub search_joined : ((r : ℕ) → J r r) → {r s : ℕ} → Joined (Linked Walkable Access) r s → J r s
  search_joined i alone = i _
  search_joined i (linked l) = search_links _ _ l
  search_joined i (back j) = S.back (search_joined i j)
  search_joined i (chain j k) = S.chain (search_joined i j) (search_joined i k)

-- sound: labels at the two ends of a step, no deeper than 31 together, are linked
pub met_linked : {Walkable : ℕ → ℕ → Type 0} {Access : ℕ → ℕ → ℕ → Type 0} {r s a b p q x y u v n m c e k : ℕ} →
    Access r a b → Walk Walkable Walkable a b x y n c → Step Walkable x y u v k → Access s p q → Walk Walkable Walkable p q u v m e → n + m < 32 → Linked Walkable Access r s
met_linked {a = a} {b} {p} {q} {n = n} {m} f w t g v h =
    let z = turn_back (on w t (last_allowed v)) v in
    record { a = a; b = b; x = p; y = q; steps = suc n + m; cost = z.0; first = f; last = g; walk = z.1; short = omega arith }
