-- Kept states, stages and waits, as a solver computes them: by growing and shrinking sets. A state is kept when it is in
-- the winning region of the game with the goal "always allowed, and each goal again and again" (generalized Büchi), and
-- in a plant that settles "from some moment on settled" besides; its wait for a goal is its rank in the attractor of that
-- goal's kept states. Demands.antt ties them to strategies.
use Rattle.std.specs.Prelude.{Bool, false, ◌&&◌, ◌||◌, List, [], ℕ, zero, suc, eqb, ltb, length}
use Rattle.statements.specs.Sets.{pick, numbers, first, iterate, is_in, filter}
use Rattle.statements.specs.Plants.{Plant, in_goal, settled, move_into, can}

-- Sets of this file are worked out with some states at which a run is over, those of the test `done`: such a state is as
-- good as one in every goal. In a plant that does not settle there are none
abbrev pub nowhere : ℕ → Bool
nowhere x = false

-- a set grown by one step within another: its states, and those with a move wholly into it
unfoldable pub grown : Plant → ℕ → List ℕ → List ℕ → List ℕ
grown p mask all ys = filter (λ x. is_in x ys || can p mask ys x) all

-- the states of a set at which a run is over, and those in goal i that can go on within the set
unfoldable pub target : Plant → ℕ → (ℕ → Bool) → List ℕ → ℕ → List ℕ
target p mask done all i = filter (λ x. done x || (in_goal p i x && can p mask all x)) all

-- the states of a set from which such a state can be forced without leaving the set (its attractor); it has grown to
-- its full size after as many steps as the set has states
unfoldable pub forced : Plant → ℕ → (ℕ → Bool) → List ℕ → ℕ → List ℕ
forced p mask done all i = iterate (length all) (grown p mask all) (target p mask done all i)

-- those from which this holds for each of the first n goals
unfoldable pub forced_all : ℕ → Plant → ℕ → (ℕ → Bool) → List ℕ → List ℕ
forced_all zero p mask done all = all
forced_all (suc i) p mask done all =
    let ys = forced p mask done all i in
    filter (λ x. is_in x ys) (forced_all i p mask done all)

-- the states held after n rounds: round 0 holds those at which the test holds, and each next round those of the round
-- before from which every goal can be forced within it
unfoldable pub held_round : ℕ → Plant → ℕ → (ℕ → Bool) → (ℕ → Bool) → List ℕ
held_round n p mask done within =
    iterate n (forced_all p.goals p mask done) (filter within (numbers p.states 0))

-- the states held without leaving those at which a test holds; after as many rounds as there are states no more are cut
unfoldable pub held_within : Plant → ℕ → (ℕ → Bool) → (ℕ → Bool) → List ℕ
held_within p mask done within = held_round p.states p mask done within

-- in a plant that settles: the states of one stage more, and of the earlier ones. A run is over at its exits, the states
-- with a move wholly into earlier stages; it may come to one, settled or not, through settled states alone
unfoldable pub next_stage : Plant → ℕ → (ℕ → Bool) → List ℕ → List ℕ
next_stage p mask within earlier =
    let exits = can p mask earlier in
    held_within p mask exits (λ x. within x && (settled p x || exits x))

-- the states of the first k stages
unfoldable pub stages_to : ℕ → Plant → ℕ → (ℕ → Bool) → List ℕ
stages_to k p mask within = iterate k (next_stage p mask within) []

-- the states kept without leaving those at which a test holds; there are no more stages than states
unfoldable pub kept_within : Plant → ℕ → (ℕ → Bool) → List ℕ
kept_within p mask within =
    pick p.settles (stages_to p.states p mask within) (held_within p mask nowhere within)

-- how many stages come before that of a kept state; its stage, counted from 1
unfoldable pub stages_before : Plant → ℕ → List ℕ → ℕ → ℕ
stages_before p mask kept x = first p.states 0 (λ k. is_in x (stages_to (suc k) p mask (λ y. is_in y kept)))

unfoldable pub stage_of : Plant → ℕ → List ℕ → ℕ → ℕ
stage_of p mask kept x = suc (stages_before p mask kept x)

-- what a kept state's entries are worked out from: the states of earlier stages, the test for a move wholly into these,
-- and the states of no later stage. In a plant that does not settle all kept states are of one stage
pub record Stage : Type 0 where
  pub earlier : List ℕ
  pub exits : ℕ → Bool
  pub through : List ℕ

-- that of the states of stage k + 1
unfoldable pub stage_after : ℕ → Plant → ℕ → List ℕ → Stage
stage_after k p mask kept =
    let earlier = stages_to k p mask (λ y. is_in y kept) in
    record {
      earlier = earlier;
      exits = can p mask earlier;
      through = stages_to (suc k) p mask (λ y. is_in y kept);
    }

-- that of a kept state
unfoldable pub stage_for : Plant → ℕ → List ℕ → ℕ → Stage
stage_for p mask kept x =
    pick p.settles (stage_after (stages_before p mask kept x) p mask kept)
    (record { earlier = []; exits = nowhere; through = kept })

-- the states of a stage from which goal i, or a state with a move wholly into earlier stages, is reached within n steps
unfoldable pub level : Plant → ℕ → (ℕ → Bool) → List ℕ → ℕ → ℕ → List ℕ
level p mask done all i n = iterate n (grown p mask all) (filter (λ x. done x || in_goal p i x) all)

-- the number of these steps: 0 in the goal, and where there is such a move
unfoldable pub wait_in : Plant → ℕ → (ℕ → Bool) → List ℕ → ℕ → ℕ → ℕ
wait_in p mask done all i x = first (length all) 0 (λ n. is_in x (level p mask done all i n))

-- a kept state's wait for goal i
unfoldable pub wait_of : Plant → ℕ → List ℕ → ℕ → ℕ → ℕ
wait_of p mask kept i x = let s = stage_for p mask kept x in wait_in p mask s.exits s.through i x

-- where the listed move of an entry with this wait may end: in a state of no later stage, above wait 0 in one with a
-- smaller wait, which those of earlier stages have
unfoldable pub nearer : Plant → ℕ → (ℕ → Bool) → List ℕ → ℕ → ℕ → List ℕ
nearer p mask done all i w = filter (λ y. eqb w 0 || ltb (wait_in p mask done all i y) w) all

-- that of a state with a move wholly into earlier stages: there
unfoldable pub landing : Plant → ℕ → Stage → ℕ → ℕ → List ℕ
landing p mask s i x =
    pick (s.exits x) s.earlier
    (nearer p mask s.exits s.through i (wait_in p mask s.exits s.through i x))

-- the listed move: the lowest available one all of whose arrows end there
unfoldable pub listed_move : Plant → ℕ → List ℕ → ℕ → ℕ → ℕ
listed_move p mask kept i x = move_into p mask (landing p mask (stage_for p mask kept x) i x) x
