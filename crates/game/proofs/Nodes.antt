-- The node of a position. Assumes nothing.
use mathlib.Core.Path.{◌≡◌, ap}
use mathlib.Core.Bool.{Bool, ◌&&◌}
use mathlib.Core.List.{List}
use mathlib.Core.Logic.{⊎_elim}
use Prim.Native.Nat.{ℕ, zero, suc, ◌+◌, ◌-◌, ◌<◌, ◌≤◌}
use native.Mathlib.Omega.{arith}
use borrow.Author.Tests.{eq-eqb, ne_eqb, lt-ltb, le-ltb, le-leb, lt-leb, ltb-true, ltb-false}
use lib.Dec.{eqb, ltb, leb}
use lib.ListN.{length, get_or}
use Rattle.statements.specs.Sets.{first}
use Rattle.sets.proofs.Tests.{same_number}
use Rattle.sets.proofs.First.{first_holds, first_least, first_before}
use Rattle.game.specs.Walked.{nodes, node_at}
use Rattle.game.specs.Steps.{Index}
use Rattle.game.proofs.Counts.{lt_or_le, and_off}

module _ (rev starts gs : List ℕ) (x : Index rev starts gs) where
  up_by : (a d : ℕ) → a + d ≤ nodes starts → get_or starts a 0 ≤ get_or starts (a + d) 0
  up_by a zero l = omega (arith, ap (λ (k : ℕ). get_or starts k 0) (let e : a + 0 ≡ a = omega arith in e))
  up_by a (suc d) l =
      let e : a + suc d ≡ a + d + 1 = omega arith in
      omega (arith, up_by a d (omega arith), x.up (a + d) (omega arith), ap (λ (k : ℕ). get_or starts k 0) e)

  -- the starts rise
  pub starts_rise : (a b : ℕ) → a ≤ b → b ≤ nodes starts → get_or starts a 0 ≤ get_or starts b 0
  starts_rise a b l k =
      let e : a + (b - a) ≡ b = omega arith in
      omega (arith, up_by a (b - a) (omega arith), ap (λ (z : ℕ). get_or starts z 0) e)

  -- a node's positions are among all
  pub in_range : (t j : ℕ) → t < nodes starts → j < get_or starts (t + 1) 0 → j < length rev
  in_range t j tn h = omega (arith, starts_rise (t + 1) (nodes starts) (omega arith) (omega arith), x.last_is)

  -- each position's node is the one in whose range it is
  pub node_is : (t j : ℕ) → t < nodes starts → get_or starts t 0 ≤ j → j < get_or starts (t + 1) 0 → node_at starts j ≡ t
  unfolding node_at
  node_is t j l a b =
      let test : ℕ → Bool = λ (k : ℕ). ltb j (get_or starts (k + 1) 0) in
      let most = first_least (nodes starts) 0 test t (omega arith) (omega arith) (lt-ltb j (get_or starts (t + 1) 0) b) in
      let holds = first_holds (nodes starts) 0 test (omega arith) in
      ⊎_elim
      (λ low.
      let past = ltb-true j (get_or starts (first (nodes starts) 0 test + 1) 0) holds in
      absurd (omega (arith, starts_rise (first (nodes starts) 0 test + 1) t (omega arith) (omega arith))))
      (λ high. let e : first (nodes starts) 0 test ≡ t = omega arith in e)
      (lt_or_le (first (nodes starts) 0 test) t)

  pub node_has : (j : ℕ) → j < length rev
      → (node_at starts j < nodes starts)
      × ((get_or starts (node_at starts j) 0 ≤ j) × (j < get_or starts (node_at starts j + 1) 0))
  unfolding node_at
  node_has j l =
      let test : ℕ → Bool = λ (k : ℕ). ltb j (get_or starts (k + 1) 0) in
      let n : ℕ = nodes starts in
      let some : 0 < n =
      ⊎_elim
      (λ e. absurd (omega (arith, x.last_is, x.zero_is, ap (λ (k : ℕ). get_or starts k 0) e)))
      (λ d. omega (arith, d))
      (same_number (nodes starts) 0) in
      let last : n - 1 + 1 ≡ n = omega arith in
      let end : j < get_or starts (n - 1 + 1) 0 = omega (arith, x.last_is, ap (λ (k : ℕ). get_or starts k 0) last) in
      let most = first_least n 0 test (n - 1) (omega arith) (omega arith) (lt-ltb j (get_or starts (n - 1 + 1) 0) end) in
      let past = ltb-true j (get_or starts (first n 0 test + 1) 0) (first_holds n 0 test (omega arith)) in
      let from : get_or starts (first n 0 test) 0 ≤ j =
      ⊎_elim
      (λ e. omega (arith, x.zero_is, ap (λ (k : ℕ). get_or starts k 0) e))
      (λ d.
      let e : first n 0 test - 1 + 1 ≡ first n 0 test = omega (arith, d) in
      let no = first_before n 0 test (first n 0 test - 1) (omega arith) (omega (arith, d)) in
      omega (arith, ltb-false j (get_or starts (first n 0 test - 1 + 1) 0) no, ap (λ (k : ℕ). get_or starts k 0) e))
      (same_number (first n 0 test) 0) in
      (omega arith, (from, past))

  -- the positions of a node, by their range
  pub node_iff : (t j : ℕ) → t < nodes starts → j < length rev
      → (leb (get_or starts t 0) j && ltb j (get_or starts (t + 1) 0)) ≡ eqb (node_at starts j) t
  node_iff t j h l =
      let has = node_has j l in
      ⊎_elim
      (λ q.
      let a : get_or starts t 0 ≤ j = rw q at has.1.0 in
      let b : j < get_or starts (t + 1) 0 = rw q at has.1.1 in
      rw (eq-eqb (node_at starts j) t q, le-leb (get_or starts t 0) j a, lt-ltb j (get_or starts (t + 1) 0) b))
      (λ q. rw (ne_eqb (node_at starts j) t q)
      (⊎_elim
      (λ a.
      ⊎_elim
      (λ b. rw (lt-leb (get_or starts t 0) j b))
      (λ b. absurd (q (node_is t j h b a)))
      (lt_or_le j (get_or starts t 0)))
      (λ a. rw (le-ltb j (get_or starts (t + 1) 0) a) (and_off (leb (get_or starts t 0) j)))
      (lt_or_le j (get_or starts (t + 1) 0))))
      (same_number (node_at starts j) t)
