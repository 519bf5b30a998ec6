-- What the loops over nodes leave: what each offers the goals, the nodes that a list leaves out, and a list cut down to
-- the nodes with a wait for each goal. Assumes nothing.
use Rattle.std.specs.Prelude.{◌≡◌, Bool, not, List, ℕ, ◌+◌, ◌*◌, ◌<◌, eqb, ltb, get_or}
use Rattle.statements.specs.Sets.{bit, pick, numbers, every, is_in, filter}

-- what a node offers the goals, bit 1 + i for goal i: all where a run is over, and otherwise its label's bits where it is
-- marked by 0
unfoldable pub offered : ℕ → ℕ → ℕ
offered label out = pick (bit 15 label) 65535 (pick (ltb out 1) label 0)

-- that of the first n nodes
abbrev pub Offers : List ℕ → List ℕ → ℕ → List ℕ → Type 0
Offers labels member n bits = (x : ℕ) → x < n → get_or bits x 0 ≡ offered (get_or labels x 0) (get_or member x 0)

-- the nodes below n that a list leaves out, rising
unfoldable pub others : ℕ → List ℕ → List ℕ
others n list = filter (λ x. not (is_in x list)) (numbers n 0)

-- node x has no mark in place of a wait for any of the goals
unfoldable pub waits_all : List ℕ → ℕ → ℕ → ℕ → Bool
waits_all waits n goals x = every goals 0 (λ i. not (eqb (get_or waits (i * n + x) 0) 65535))
