-- Request (xiii), stated: the rounds in which the kept states of a plant that does not settle are worked out, how many
-- there are, and the plants that take most. Not claimed yet: no call cites it. Of `Rounds` crate kept has all parts but
-- `every_size`, which is not proved; they are not put together.
use Rattle.std.specs.Prelude.{◌≡◌, ◌↔◌, Bool, true, false, ◌&&◌, List, [], ◌∷◌, ℕ, suc, ◌≤◌, ◌<◌, length}
use Rattle.statements.specs.Sets.{bit, pick, numbers, every, first, iterate, is_in, all_in, filter}
use Rattle.statements.specs.Plants.{Plant, plant_of, allowed, in_goal, ends, available, can}
use Rattle.statements.specs.Kept.{grown, kept_within}
use Rattle.statements.specs.Books.{book_long, book_mask, mask_ok, less_mask, kept_before}
use Rattle.statements.specs.Calls.{make_fault, Ask, makes, withdraws, withdraws_list, returns, makes_by, withdraws_by}

-- the states of round 0 that are in goal i and have an available move wholly into the round before
unfoldable pub target_into : Plant → ℕ → List ℕ → List ℕ → ℕ → List ℕ
target_into p mask start before i = filter (λ x. in_goal p i x && can p mask before x) start

-- the states of round 0 from which such a state can be forced through states of round 0, such states among them
unfoldable pub forced_into : Plant → ℕ → List ℕ → List ℕ → ℕ → List ℕ
forced_into p mask start before i = iterate (length start) (grown p mask start) (target_into p mask start before i)

-- the next round: the states of round 0 from which every goal, taken alone, can be so forced
unfoldable pub next_round : Plant → ℕ → List ℕ → List ℕ → List ℕ
next_round p mask start before =
    filter (λ x. every p.goals 0 (λ i. is_in x (forced_into p mask start before i))) start

-- round n, when round 0 is a set of states
unfoldable pub round_from : Plant → ℕ → List ℕ → ℕ → List ℕ
round_from p mask start n = iterate n (next_round p mask start) start

-- two rounds have the same states
unfoldable pub same_states : List ℕ → List ℕ → Bool
same_states xs ys = all_in xs ys && all_in ys xs

-- the first round that equals its successor
unfoldable pub rounds_from : Plant → ℕ → List ℕ → ℕ
rounds_from p mask start =
    first p.states 0 (λ n. same_states (round_from p mask start n) (round_from p mask start (suc n)))

-- round n and the round count, when round 0 holds the states at which a test holds
abbrev pub round_of : Plant → ℕ → (ℕ → Bool) → ℕ → List ℕ
round_of p mask within n = round_from p mask (filter within (numbers p.states 0)) n

abbrev pub round_count : Plant → ℕ → (ℕ → Bool) → ℕ
round_count p mask within = rounds_from p mask (filter within (numbers p.states 0))

-- what a call counts: round 0 of a make holds all allowed states, that of a withdrawal those of them that the book
-- handed in keeps; other calls count none
abbrev pub count_for : Plant → List ℕ → Ask → ℕ
count_for p b (makes mask) = round_count p mask (allowed p)
count_for p b (withdraws gone) = round_count p (less_mask (book_mask b) gone) (kept_before p b)
count_for p b (withdraws_list masks) = 0
count_for p b (returns back) = 0
count_for p b (makes_by index mask) = 0
count_for p b (withdraws_by index gone) = 0

-- what an accepted call returns: that count, and 0 where the plant settles
unfoldable pub rounds_of : List ℕ → List ℕ → Ask → ℕ
rounds_of s b ask = pick (plant_of s).settles 0 (count_for (plant_of s) b ask)

-- in a state a state with a property can be forced through states with another: it is one, or some available move leads
-- only to states in which it can be forced
pub data Forced (p : Plant) (mask : ℕ) (through aim : ℕ → Type 0) : ℕ → Type 0 where
  there : (x : ℕ) → aim x → Forced p mask through aim x
  by_move : (x u : ℕ) → through x → u < p.moves → available p mask x u ≡ true →
      ((y : ℕ) → is_in y (ends p x u) ≡ true → Forced p mask through aim y) → Forced p mask through aim x

-- a state of round 0 in goal i with an available move wholly into the round before
pub record Aim (p : Plant) (mask : ℕ) (start before : List ℕ) (i x : ℕ) : Type 0 where
  pub in_start : is_in x start ≡ true
  pub in_goal_lem : in_goal p i x ≡ true
  pub move : ℕ
  pub low : move < p.moves
  pub is_available : available p mask x move ≡ true
  pub wholly : (y : ℕ) → is_in y (ends p x move) ≡ true → is_in y before ≡ true

-- the rounds are those of document 02, word for word
pub record Rounded (p : Plant) (mask : ℕ) (within : ℕ → Bool) : Type 0 where
  pub begins : (x : ℕ) → (is_in x (round_of p mask within 0) ≡ true) ↔ ((x < p.states) × (within x ≡ true))
  pub next : (n x : ℕ) → let start = round_of p mask within 0 in
      (is_in x (round_of p mask within (suc n)) ≡ true) ↔
      ((is_in x start ≡ true) × ((i : ℕ) → i < p.goals →
      Forced p mask (λ y. is_in y start ≡ true) (Aim p mask start (round_of p mask within n) i) x))

-- round n is the first that equals its successor, and n is at most S
pub record Counts (p : Plant) (mask : ℕ) (within : ℕ → Bool) (n : ℕ) : Type 0 where
  pub stands : round_of p mask within (suc n) ≡ round_of p mask within n
  pub no_earlier : (k : ℕ) → k < n → round_of p mask within (suc k) ≡ round_of p mask within k → ⊥
  pub at_most : n ≤ p.states

-- the chain: every state is allowed and in the one goal, each has, by moves in service, arrows only to the next, and the
-- last has none
pub record Chain (p : Plant) (mask : ℕ) : Type 0 where
  pub one_goal : p.goals ≡ 1
  pub labels : (x : ℕ) → x < p.states → (allowed p x ≡ true) × (in_goal p 0 x ≡ true)
  pub next : (x : ℕ) → suc x < p.states →
      (u : ℕ) × (u < p.moves) × (bit u mask ≡ true) × (ends p x u ≡ suc x ∷ [])
  pub only : (x u y : ℕ) → bit u mask ≡ true → is_in y (ends p x u) ≡ true → (y ≡ suc x) × (y < p.states)

-- a plant's bytes that make accepts with a mask: a chain of n states that does not settle
pub record ChainBytes (n mask : ℕ) (s : List ℕ) : Type 0 where
  pub accepted : make_fault s mask (book_long false n 1) ≡ 0
  pub plain : (plant_of s).settles ≡ false
  pub states : (plant_of s).states ≡ n
  pub chain : Chain (plant_of s) mask

pub record Rounds : Type 0 where
  -- the rounds are document 02's, whatever plant, mask and round 0
  pub rounded : (p : Plant) (mask : ℕ) (within : ℕ → Bool) → Rounded p mask within
  -- the count is the first round that equals its successor, and no other number is
  pub counted : (p : Plant) (mask : ℕ) (within : ℕ → Bool) → 0 < p.goals →
      Counts p mask within (round_count p mask within)
  pub alone : (p : Plant) (mask : ℕ) (within : ℕ → Bool) (n : ℕ) → 0 < p.goals → Counts p mask within n →
      n ≡ round_count p mask within
  -- that round holds the kept states
  pub holds_kept : (p : Plant) (mask : ℕ) (within : ℕ → Bool) → 0 < p.goals → p.settles ≡ false →
      round_of p mask within (round_count p mask within) ≡ kept_within p mask within
  -- a chain takes as many rounds to make as it has states
  pub worst : (p : Plant) (mask : ℕ) → Chain p mask → round_count p mask (allowed p) ≡ p.states
  -- and there is one for every S, with any of up to 32 moves in service
  pub every_size : (n moves u mask : ℕ) → 1 ≤ n → n ≤ 1024 → u < moves → moves ≤ 32 → bit u mask ≡ true →
      mask_ok moves mask ≡ true → (s : List ℕ) × ChainBytes n mask s
