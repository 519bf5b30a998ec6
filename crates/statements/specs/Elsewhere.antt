-- Request (x), stated: what happens elsewhere on the line. A state's row depends on nothing but the states that can be
-- reached from it by moves in service, in plants of both sorts. It is about rows: K may differ, and so the books. The
-- proof is in crate demands.
use Rattle.std.specs.Prelude.{◌≡◌, ◌↔◌, ◌⊎◌, true, List, ℕ, ◌<◌, get_or}
use Rattle.statements.specs.Sets.{bit, is_in}
use Rattle.statements.specs.Plants.{Plant, plant_of, plant_fault, ends}
use Rattle.statements.specs.Books.{made_book}
use Rattle.statements.specs.Calls.{make_fault, row_part, Call, standing, in_service}

-- the states reachable from one by moves in service, itself included; through states that are not allowed too
pub data Reachable (p : Plant) (mask start : ℕ) : ℕ → Type 0 where
  itself : Reachable p mask start start
  further : (x u y : ℕ) → Reachable p mask start x → bit u mask ≡ true → is_in y (ends p x u) ≡ true →
      Reachable p mask start y

-- two plants agree on a state: it has the same label in both, and each move in service has the same ends there
pub record Agree (p q : Plant) (mask x : ℕ) : Type 0 where
  pub label : get_or p.labels x 0 ≡ get_or q.labels x 0
  pub arrows : (u y : ℕ) → bit u mask ≡ true → is_in y (ends p x u) ≡ is_in y (ends q x u)

-- they agree on every state reachable from one
abbrev pub AgreeFrom : Plant → Plant → ℕ → ℕ → Type 0
AgreeFrom p q mask x = (y : ℕ) → Reachable p mask x y → Agree p q mask y

-- two plants have equal S, U, N and last header number, which for accepted ones is their sort
pub record SameFigures (p q : Plant) : Type 0 where
  pub states : p.states ≡ q.states
  pub moves : p.moves ≡ q.moves
  pub goals : p.goals ≡ q.goals
  pub settles : p.settles ≡ q.settles

-- two such plants whose making with one mask is accepted, each with a buffer of some length
pub record BothMade (s t : List ℕ) (mask : ℕ) : Type 0 where
  pub room : ℕ
  pub other_room : ℕ
  pub made : make_fault s mask room ≡ 0
  pub other_made : make_fault t mask other_room ≡ 0
  pub figures : SameFigures (plant_of s) (plant_of t)

-- the row of a state is the same in the books of the two makings
abbrev pub SameRow : List ℕ → List ℕ → ℕ → ℕ → Type 0
SameRow s t mask x = row_part (made_book (plant_of s) mask) x ≡ row_part (made_book (plant_of t) mask) x

pub record Elsewhere : Type 0 where
  -- a state has the same row in both if they agree on every state reachable from it
  pub same_row : (s t : List ℕ) (mask x : ℕ) → BothMade s t mask → x < (plant_of s).states →
      AgreeFrom (plant_of s) (plant_of t) mask x → SameRow s t mask x
  -- and so has every state that may be met from there on
  pub onward : (s t : List ℕ) (mask x y : ℕ) → BothMade s t mask → x < (plant_of s).states →
      AgreeFrom (plant_of s) (plant_of t) mask x → Reachable (plant_of s) mask x y → SameRow s t mask y
  -- it does not matter in which of the two one looks for what is reachable
  pub same_reach : (p q : Plant) (mask x : ℕ) → AgreeFrom p q mask x → (y : ℕ) →
      Reachable p mask x y ↔ Reachable q mask x y
  -- what is reachable from a state of an accepted plant is a state of it
  pub inside : (s : List ℕ) (mask x y : ℕ) → plant_fault s ≡ 0 → x < (plant_of s).states →
      Reachable (plant_of s) mask x y → y < (plant_of s).states
  -- so a state that cannot be reached may be remodelled in any way: it is enough that each of the others is as it was
  pub untouched : (s t : List ℕ) (mask x : ℕ) → BothMade s t mask → x < (plant_of s).states →
      ((y : ℕ) → y < (plant_of s).states →
      Agree (plant_of s) (plant_of t) mask y ⊎ (Reachable (plant_of s) mask x y → ⊥)) →
      SameRow s t mask x
  -- after any two lists of calls, each following an accepted make of its plant, that leave the same moves in service:
  -- the row is the same in the standing books
  pub after_calls : (s t : List ℕ) (mask room other_mask other_room x : ℕ) (calls other_calls : List Call) →
      make_fault s mask room ≡ 0 → make_fault t other_mask other_room ≡ 0 →
      let p = plant_of s in
      let q = plant_of t in
      SameFigures p q → in_service p mask calls ≡ in_service q other_mask other_calls → x < p.states →
      AgreeFrom p q (in_service p mask calls) x →
      row_part (standing s (made_book p mask) calls) x ≡ row_part (standing t (made_book q other_mask) other_calls) x
