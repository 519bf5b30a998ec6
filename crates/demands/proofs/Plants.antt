-- What an accepted call gives of its plant, its moves in service and the states it may not leave, and that the numbers
-- of its book then fit: waits are below the number of kept states, and listed moves are available. Assumes nothing.
use mathlib.Core.Path.{◌≡◌}
use mathlib.Core.Bool.{Bool, true, not}
use mathlib.Core.List.{List}
use Prim.Native.Nat.{ℕ, ◌<◌}
use native.Mathlib.Omega.{arith}
use Rattle.statements.specs.Sets.{is_in}
use Rattle.statements.specs.Plants.{Plant, plant_of, ends, allowed, move_into}
use Rattle.statements.specs.Kept.{kept_within, stage_for, wait_of, landing, listed_move}
use Rattle.statements.specs.Books.{is_lost, book_mask, mask_ok, less_mask, kept_before}
use Rattle.statements.specs.Calls.{make_fault, withdraw_fault}
use Rattle.sets.proofs.Tests.{and_left}
use Rattle.sets.proofs.Iterate.{sifted_few}
use Rattle.kept.proofs.Moves.{MovesBelow, available_bit, into_available}
use Rattle.kept.proofs.Kept.{kept_sifted, for_sound, for_through, through_sifted, stage_range}
use Rattle.kept.proofs.Waits.{wait_short, landing_move}
use Rattle.decoding.proofs.Fits.{Fits}
use Rattle.decoding.proofs.Masks.{less_ok}
use Rattle.decoding.proofs.Faults.{PlantOk, plant_ok, arrow_range, allowed_below, make_ok, LentOk, withdraw_ok}

-- an accepted plant, a mask of its moves, and a test that holds at states alone
pub record Given (p : Plant) (mask : ℕ) (within : ℕ → Bool) : Type 0 where
  pub plant : PlantOk p
  pub mask_ok_lem : mask_ok p.moves mask ≡ true
  pub below : (x : ℕ) → within x ≡ true → x < p.states

-- every arrow of an accepted plant has one of its moves
pub moves_below : (p : Plant) → PlantOk p → MovesBelow p
unfolding ends
moves_below p ok x u y h = (arrow_range p.arrows p.states p.moves 0 x u y ok.arrows_ok_lem h).0

-- and starts in one of its states
pub from_below : (p : Plant) → PlantOk p → (x u y : ℕ) → is_in y (ends p x u) ≡ true → x < p.states
unfolding ends
from_below p ok x u y h = (arrow_range p.arrows p.states p.moves 0 x u y ok.arrows_ok_lem h).2

-- and ends in one
pub to_below : (p : Plant) → PlantOk p → (x u y : ℕ) → is_in y (ends p x u) ≡ true → y < p.states
unfolding ends
to_below p ok x u y h = (arrow_range p.arrows p.states p.moves 0 x u y ok.arrows_ok_lem h).1

-- what a withdrawal may not leave is allowed
pub before_allowed : (p : Plant) (b : List ℕ) (x : ℕ) → kept_before p b x ≡ true → allowed p x ≡ true
unfolding kept_before
before_allowed p b x h = and_left (allowed p x) (not (is_lost b x)) h

-- making for an accepted plant, with a mask of its moves
pub given_allowed : (p : Plant) (mask : ℕ) → PlantOk p → mask_ok p.moves mask ≡ true → Given p mask (allowed p)
given_allowed p mask ok m = record { plant = ok; mask_ok_lem = m; below = allowed_below p ok }

-- an accepted make
pub given_made : (s : List ℕ) (mask room : ℕ) → make_fault s mask room ≡ 0
    → Given (plant_of s) mask (allowed (plant_of s))
given_made s mask room h =
    let ok = make_ok s mask room h in
    given_allowed (plant_of s) mask (plant_ok s ok.plant) ok.mask_ok_lem

-- withdrawing moves from a book that is accepted with the plant
pub given_before : (s b : List ℕ) (gone : ℕ) → LentOk s b
    → Given (plant_of s) (less_mask (book_mask b) gone) (kept_before (plant_of s) b)
given_before s b gone ok =
    let p = plant_of s in
    let plant_is_ok = plant_ok s ok.plant in
    record {
      plant = plant_is_ok;
      mask_ok_lem = less_ok p.moves (book_mask b) gone ok.mask_ok_lem;
      below = λ x w. allowed_below p plant_is_ok x (before_allowed p b x w);
    }

-- an accepted withdrawal
pub given_withdrawn : (s b : List ℕ) (gone room drops : ℕ) → withdraw_fault s b gone room drops ≡ 0
    → Given (plant_of s) (less_mask (book_mask b) gone) (kept_before (plant_of s) b)
given_withdrawn s b gone room drops h = given_before s b gone (withdraw_ok s b gone room drops h).lent

module _ {p : Plant} {mask : ℕ} {within : ℕ → Bool} (given : Given p mask within) where
  -- there is a goal
  pub some_goal : 0 < p.goals
  some_goal = omega arith

  -- the numbers of the book fit its bytes
  pub given_fits : Fits p mask (kept_within p mask within)
  unfolding wait_of listed_move
  given_fits =
      let kept = kept_within p mask within in
      record {
        sizes = given.plant.sizes;
        mask_ok_lem = given.mask_ok_lem;
        kept_set = kept_sifted p mask within;
        stages = λ e x h. stage_range p mask within some_goal x h e;
        waits = λ x i h hi.
            let s = stage_for p mask kept x in
            omega (
              arith,
              wait_short p mask s some_goal (for_sound p mask within some_goal x h) i hi x
                  (for_through p mask within some_goal x h),
              sifted_few p.states s.through (through_sifted p mask within some_goal x h),
            );
        moves_ok = λ x i h hi.
            let land = landing p mask (stage_for p mask kept x) i x in
            let u = move_into p mask land x in
            let r =
            landing_move p mask (stage_for p mask kept x) some_goal (for_sound p mask within some_goal x h) i hi x
            (for_through p mask within some_goal x h) in
            (r.0, available_bit p mask x u (into_available p mask land x u r.1));
      }
