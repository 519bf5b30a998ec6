-- What a book comes to for one who follows it: from what demand 2 says of it, as the calls' contracts have it. Assumes
-- nothing.
use mathlib.Core.Path.{◌≡◌, ◌∙◌}
use mathlib.Core.Bool.{Bool, true, false, ◌&&◌, ◌||◌, not}
use mathlib.Core.List.{List}
use native.Mathlib.Omega.{arith}
use Prim.Native.Nat.{ℕ, zero, suc, ◌≤◌, ◌<◌}
use lib.Dec.{leb}
use lib.ListN.{length}
use borrow.Author.Tests.{eq-eqb}
use Rattle.statements.specs.Sets.{is_in}
use Rattle.statements.specs.Plants.{first_of, when, plant_of, head_ok, labels_ok, arrows_ok, plant_fault, ends}
use Rattle.statements.specs.Books.{book_states, book_goals, move_at, is_lost, book_head_ok, rows_ok, book_fault, arrive}
use Rattle.statements.specs.Calls.{alike, lent_fault, consult_fault, number_fault, moves_fault}
use Rattle.statements.specs.Demands.{Meets, Right}
use Rattle.statements.specs.Strategies.{Wins}
use Rattle.sets.proofs.Tests.{and_true}
use Rattle.winning.proofs.Goals.{arrive_below}
use Rattle.decoding.proofs.Faults.{plant_ok, arrow_range, make_ok, lent_ok, lent_fine, withdraw_ok, list_parts, first_iff}
use Rattle.decoding.proofs.Indexed.{by_parts}
use Rattle.decoding.proofs.Asked as asked
use Rattle.promises.specs.Says.{step_fault}
use Rattle.promises.specs.Steps.{WrittenFor, standing, withdrawn, withdrawn_list_lem, returned, made_by, withdrawn_by}
use Rattle.promises.specs.Steps.{Guides, Steps}
use Rattle.promises.proofs.Read.{no_fault}
use Rattle.promises.proofs.Traces.{fault_zero, demand_3_traced}
use Rattle.promises.proofs.Written.{demand_2_written}

-- the end of an arrow of an accepted plant is one of its states
pub end_low : (s : List ℕ) → plant_fault s ≡ 0 → (x u y : ℕ) → is_in y (ends (plant_of s) x u) ≡ true →
    y < (plant_of s).states
unfolding ends
end_low s plant x u y leads =
    let p = plant_of s in
    (arrow_range p.arrows p.states p.moves 0 x u y (plant_ok s plant).arrows_ok_lem leads).1

-- a book that is right for an accepted plant
module _ (s : List ℕ) {b : List ℕ} {mask : ℕ} {within : ℕ → Type 0} (plant : plant_fault s ≡ 0)
    (right : Right (plant_of s) mask within b) where
  module _ {x i : ℕ} (state : x < (plant_of s).states) (goal : i < (plant_of s).goals) where
    -- the calls are accepted for its states and goals
    pub consult_accepted : consult_fault b x i ≡ 0
    consult_accepted =
        asked.is_fine b x i right.accepted (rw right.is_book.states state) (rw right.is_book.goals goal)

    number_accepted : number_fault b x i ≡ 0
    unfolding consult_fault
    number_accepted = ((first_iff (book_fault b) _).0 consult_accepted).1

    pub moves_accepted : moves_fault s b x i ≡ 0
    unfolding moves_fault alike
    moves_accepted =
        let same =
        and_true (eq-eqb _ _ right.is_book.states)
        (and_true (eq-eqb _ _ right.is_book.moves)
        (and_true (eq-eqb _ _ right.is_book.goals)
        (eq-eqb _ _ (right.is_book.total ∙ right.is_book.size)))) in
        (first_iff (lent_fault s b) _).1 (lent_fine s b plant right.accepted same, number_accepted)

    -- a kept state is won, and its listed move leads to states that are
    module _ (kept : is_lost b x ≡ false) where
      won : Wins (plant_of s) mask within x
      won = (right.is_book.kept x state).0 kept

      listed_meets : Meets (plant_of s) mask x (Wins (plant_of s) mask within) (move_at b x i)
      listed_meets = right.safe x i (move_at b x i) state goal (right.listed x i state goal kept).0

  step_accepted : (x i y : ℕ) → x < (plant_of s).states → i < (plant_of s).goals → y < (plant_of s).states →
      step_fault s b x i y ≡ 0
  unfolding step_fault
  step_accepted x i y hx hi hy =
      (first_iff (moves_fault s b x i) (number_fault b y 0)).1
      (moves_accepted hx hi, number_accepted hy (omega (arith, hi)))

  guided : Guides s b
  guided =
      record {
        goals = right.is_book.goals;
        some_goal = (plant_ok s plant).sizes.goals_least;
        consulted = λ x i hx hi. moves_accepted hx hi;
        stepped = step_accepted;
        goes_on = λ x i hx hi k. rw right.is_book.mask_is (listed_meets hx hi k).is_available;
        stays = λ x i y hx hi k leads.
            let low = end_low s plant x (move_at b x i) y leads in
            (low, (right.is_book.kept y low).1 ((listed_meets hx hi k).ends_well y leads));
        short = λ x i hx hi k. right.short x i hx hi (won hx hi k);
        served = λ e x i hx hi k. right.served e x i hx hi (won hx hi k);
        nearer = λ e x i y hx hi k w leads.
            ((right.is_book.move e x i hx hi (won hx hi k)).meets.ends_well y leads).1 w;
      }

-- a book written for a plant is right for it, and the plant is accepted
pub by_right :
    (s b : List ℕ) {Q : Type 0} → WrittenFor s b →
    ((mask : ℕ) (within : ℕ → Type 0) → plant_fault s ≡ 0 → Right (plant_of s) mask within b → Q) → Q
by_right s b (standing t) go =
    go _ _ (make_ok s t.mask (length t.o) (fault_zero s t)).plant (demand_3_traced.right s t)
by_right s b (withdrawn {b = c} {o} {d = d} {gone = gone} says z) go =
    go _ _ (withdraw_ok s c gone (length o) (length d) (no_fault says.writes z)).lent.plant
    (demand_2_written.withdrawn says z)
by_right s b (withdrawn_list_lem {b = c} {masks} {o} {d = d} says z) go =
    go _ _ (lent_ok s c (list_parts s c masks (length o) (length d) (no_fault says.writes z)).0).plant
    (demand_2_written.withdrawn_list_lem says z)
by_right s b (returned {b = c} {o} {d = d} {back = back} says z) go =
    go _ _ (withdraw_ok s c back (length o) (length d) (no_fault says.writes z)).lent.plant
    (demand_2_written.returned says z)
by_right s b (made_by {index} says z) go =
    go _ _ (by_parts s index _ (no_fault says.writes z)).0 (demand_2_written.made_by says z)
by_right s b (withdrawn_by {index} says z) go =
    go _ _ (by_parts s index _ (no_fault says.writes z)).0 (demand_2_written.withdrawn_by says z)

-- where plant and book are accepted for a state and a goal, so is the book by itself
pub alone : (s b : List ℕ) (x i : ℕ) → moves_fault s b x i ≡ 0 → consult_fault b x i ≡ 0
unfolding moves_fault consult_fault
alone s b x i e =
    let parts = (first_iff (lent_fault s b) (number_fault b x i)).0 e in
    (first_iff (book_fault b) (number_fault b x i)).1 ((lent_ok s b parts.0).book, parts.1)

-- and where a step is accepted, so is its end for the goal arrived at
onward : (s b : List ℕ) (x i y : ℕ) → step_fault s b x i y ≡ 0 →
    (moves_fault s b x i ≡ 0) × (consult_fault b y (arrive b x i) ≡ 0)
unfolding step_fault consult_fault
onward s b x i y e =
    let parts = (first_iff (moves_fault s b x i) (number_fault b y 0)).0 e in
    let book = ((first_iff (book_fault b) (number_fault b x i)).0 (alone s b x i parts.0)).0 in
    let held = asked.fine b x i (alone s b x i parts.0) in
    let end = asked.fine b y 0 ((first_iff (book_fault b) (number_fault b y 0)).1 (book, parts.1)) in
    (parts.0, asked.is_fine b y (arrive b x i) book end.state (arrive_below b x i held.goal))

-- the numbers of a step are at most 8
first_low : (a b : ℕ) → a ≤ 8 → b ≤ 8 → first_of a b ≤ 8
first_low zero b ha hb = hb
first_low (suc a) b ha hb = ha

when_low : (t : Bool) (n : ℕ) → n ≤ 8 → when t n ≤ 8
when_low true n h = h
when_low false n h = omega arith

plant_low : (s : List ℕ) → plant_fault s ≤ 8
unfolding plant_fault
plant_low s =
    let p = plant_of s in
    first_low (when (not (head_ok s)) 1) _ (when_low (not (head_ok s)) 1 (omega arith))
    (first_low (when (not (labels_ok p.settles p.goals p.labels)) 2) _
    (when_low (not (labels_ok p.settles p.goals p.labels)) 2 (omega arith))
    (when_low (not (arrows_ok p.states p.moves 0 p.arrows)) 3 (omega arith)))

book_low : (b : List ℕ) → book_fault b ≤ 8
unfolding book_fault
book_low b =
    first_low (when (not (book_head_ok b)) 4) _ (when_low (not (book_head_ok b)) 4 (omega arith))
    (when_low (not (rows_ok b)) 5 (omega arith))

lent_low : (s b : List ℕ) → lent_fault s b ≤ 8
unfolding lent_fault
lent_low s b =
    first_low (plant_fault s) _ (plant_low s)
    (first_low (when (not (book_head_ok b && alike (plant_of s) b)) 4) _
    (when_low (not (book_head_ok b && alike (plant_of s) b)) 4 (omega arith)) (book_low b))

number_low : (b : List ℕ) (x i : ℕ) → number_fault b x i ≤ 8
unfolding number_fault
number_low b x i = when_low (leb (book_states b) x || leb (book_goals b) i) 8 (omega arith)

step_low : (s b : List ℕ) (x i y : ℕ) → step_fault s b x i y ≤ 8
unfolding step_fault moves_fault
step_low s b x i y =
    first_low (moves_fault s b x i) (number_fault b y 0)
    (first_low (lent_fault s b) (number_fault b x i) (lent_low s b) (number_low b x i)) (number_low b y 0)

pub steps : Steps
steps =
    record {
      guides = λ s b w. by_right s b w (λ mask within plant right. guided s plant right);
      alone = alone;
      onward = onward;
      numbers = step_low;
    }
