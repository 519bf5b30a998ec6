-- Moves taken straight from the calls: by their contracts each step of a walk is a pick from the set of the goal arrived
-- at. So it leads to a kept state, and what is said of picks holds of a walk without end. Assumes nothing.
use mathlib.Core.Path.{◌≡◌, sym, ◌∙◌}
use mathlib.Core.Logic.{inl, inr}
use mathlib.Core.Bool.{true, false}
use mathlib.Core.List.{List}
use native.Mathlib.Omega.{arith}
use Prim.Native.Nat.{ℕ, zero, suc, ◌<◌}
use borrow.Author.Tests.{eq-eqb}
use Rattle.statements.specs.Sets.{bit, lowest, is_in}
use Rattle.statements.specs.Plants.{plant_of, plant_fault, ends, available}
use Rattle.statements.specs.Books.{book_mask, wait_at, move_at, is_lost, book_fault, arrive, good_moves}
use Rattle.statements.specs.Calls.{consult_fault, number_fault, moves_fault}
use Rattle.statements.specs.Strategies.{Picks, Serves}
use Rattle.statements.specs.Demands.{Right}
use Rattle.winning.proofs.Goals.{arrive_below, arrive_again}
use Rattle.sets.proofs.Tests.{not_both}
use Rattle.sets.proofs.Bits.{bit_none}
use Rattle.decoding.proofs.Faults.{first_iff}
use Rattle.decoding.proofs.Asked as asked
use Rattle.promises.specs.Answers.{Advice}
use Rattle.promises.specs.Answers.{Mask}
use Rattle.promises.specs.Says.{accepted, keeps, ConsultSays, MovesSays}
use Rattle.promises.specs.Walks.{Taken, WalksTo, Answered, Walk, Walked, Walking, Walks}
use Rattle.promises.specs.Steps.{WrittenFor, standing, withdrawn, withdrawn_list_lem, returned, made_by, withdrawn_by}
use Rattle.promises.proofs.Determined.{determined}
use Rattle.promises.proofs.Steps.{end_low, consult_accepted as consult_taken, moves_accepted as moves_taken}
use Rattle.promises.proofs.Steps.{by_right}

-- what consult answers for a kept state, once it is accepted
module _ {b : List ℕ} {x i : ℕ} {r : Advice} (says : ConsultSays b x i r) (fine : consult_fault b x i ≡ 0)
    (kept : is_lost b x ≡ false) where
  kept_call : keeps b x i ≡ true
  unfolding keeps accepted
  kept_call = rw (fine, kept)

  not_lost_lem : r.lost ≡ false
  unfolding accepted
  not_lost_lem = says.lost ∙ rw (fine, kept)

  action_is : r.action ≡ move_at b x (arrive b x i)
  action_is = rw kept_call at says.action

  wait_is : r.wait ≡ wait_at b x (arrive b x i)
  wait_is = rw kept_call at says.wait

  seek_is : r.seek ≡ arrive b x i
  seek_is = rw kept_call at says.seek

-- what the call for all good moves answers, once it is accepted
module _ {s b : List ℕ} {x i : ℕ} {m : Mask} (says : MovesSays s b x i m) (fine : moves_fault s b x i ≡ 0) where
  number_is : m.number ≡ 0
  number_is = says.number ∙ fine

  mask_is : m.mask ≡ good_moves (plant_of s) b x (arrive b x i)
  mask_is = rw (eq-eqb m.number 0 number_is) at says.mask

-- a book that is right for an accepted plant
module _ (s : List ℕ) {b : List ℕ} {mask : ℕ} {within : ℕ → Type 0} (plant : plant_fault s ≡ 0)
    (right : Right (plant_of s) mask within b) where
  -- where a walk is: in a kept state, seeking a goal
  record At (x i : ℕ) : Type 0 where
    state : x < (plant_of s).states
    kept : is_lost b x ≡ false
    goal : i < (plant_of s).goals

  module _ {x i : ℕ} (at : At x i) where
    -- the calls are accepted there
    consult_accepted : consult_fault b x i ≡ 0
    consult_accepted = consult_taken s plant right at.state at.goal

    moves_accepted : moves_fault s b x i ≡ 0
    moves_accepted = moves_taken s plant right at.state at.goal

    -- the goal arrived at is one of the plant's
    arrived : arrive b x i < (plant_of s).goals
    arrived = rw right.is_book.goals at (arrive_below b x i (rw right.is_book.goals at.goal))

    -- the listed move is good, and the lowest of the good ones
    listed : let at_goal = arrive b x i in
        (bit (move_at b x at_goal) (good_moves (plant_of s) b x at_goal) ≡ true) ×
        (move_at b x at_goal ≡ lowest (plant_of s).moves (good_moves (plant_of s) b x at_goal))
    listed = right.listed x (arrive b x i) at.state arrived at.kept

    -- a good move is available
    good_available : (u : ℕ) → bit u (good_moves (plant_of s) b x (arrive b x i)) ≡ true →
        available (plant_of s) (book_mask b) x u ≡ true
    good_available u h =
        rw right.is_book.mask_is (right.safe x (arrive b x i) u at.state arrived h).is_available

    -- what the calls answer
    answered : Answered s b x i
    answered =
        record {
          state = at.state;
          goal = at.goal;
          advised = λ says. (
            says.number ∙ consult_accepted,
            not_lost_lem says consult_accepted at.kept,
            rw (action_is says consult_accepted at.kept) (good_available _ listed.0),
          );
          masked = λ says. (
            number_is says moves_accepted,
            λ e. not_both (rw (sym (mask_is says moves_accepted) ∙ e) at listed.0) (bit_none _),
          );
        }

    -- a step of the walk
    module _ {r : Advice} (says : ConsultSays b x i r) {u : ℕ} (taken : Taken s b x i r u) where
      -- the move taken is good
      good_taken : bit u (good_moves (plant_of s) b x (arrive b x i)) ≡ true
      good_taken =
          elim taken [
            | inl e ↦ rw (e ∙ action_is says consult_accepted at.kept) listed.0
            | inr m ↦ rw (mask_is m.1 moves_accepted) at m.2
          ]

      -- and leads to a kept state; the goal sought there is the one arrived at
      next : (y : ℕ) → is_in y (ends (plant_of s) x u) ≡ true → At y r.seek
      next y leads =
          let meets = right.safe x (arrive b x i) u at.state arrived good_taken in
          let state = end_low s plant x u y leads in
          record {
            state = state;
            kept = (right.is_book.kept y state).1 (meets.ends_well y leads);
            goal = rw (seek_is says consult_accepted at.kept) arrived;
          }

  -- where a walk of some steps has come to
  comes_to : (n x i y j : ℕ) → At x i → WalksTo s b n x i y j → At y j
  comes_to zero x i y j at w = rw (w.0, w.1) at
  comes_to (suc n) x i y j at w = comes_to n w.2 w.0.seek y j (next at w.3 w.4 w.2 w.5) w.6

  module _ (states goals moves : ℕ → ℕ) (advice : ℕ → Advice) (walk : Walk s b states goals moves advice)
      (begun : At (states 0) (goals 0)) where
    -- where a walk without end is at each moment
    always : (n : ℕ) → At (states n) (goals n)
    always zero = begun
    always (suc n) =
        rw (walk.seeks n) (next (always n) (walk.consulted n) (walk.taken n) (states (suc n)) (walk.leads n))

    -- what consult answers there
    fine_at : (n : ℕ) → consult_fault b (states n) (goals n) ≡ 0
    fine_at n = consult_accepted (always n)

    seeks_at : (n : ℕ) → (advice n).seek ≡ arrive b (states n) (goals n)
    seeks_at n = seek_is (walk.consulted n) (fine_at n) (always n).kept

    -- each move is a pick from the set
    picks : Picks (plant_of s) b states goals moves
    picks =
        record {
          good = λ n. good_taken (always n) (walk.consulted n) (walk.taken n);
          leads = walk.leads;
          seeks = λ n. walk.seeks n ∙ seeks_at n;
        }

    serves : Serves (plant_of s) b states goals
    serves = right.picks states goals moves begun.goal picks

    walked : Walked s b states goals advice
    walked =
        record {
          answered = λ n. let a = (answered (always n)).advised (walk.consulted n) in (a.0, a.1);
          goes_on = λ n. ((answered (always n)).advised (walk.consulted n)).2;
          masked = λ n m says. (
            ((answered (always n)).masked says).0,
            rw (mask_is says (moves_accepted (always n)))
                (action_is (walk.consulted n) (fine_at n) (always n).kept ∙ (listed (always n)).1),
          );
          passed = serves.passed;
          in_time = λ n.
              rw (wait_is (walk.consulted n) (fine_at n) (always n).kept, seeks_at n) (serves.in_time n);
          again = serves.again;
          one_stage = λ e n m l.
              omega (
                arith,
                l,
                right.is_book.one_stage e (states (suc m)),
                right.is_book.one_stage e (states n),
              );
          no_later = serves.no_later;
          few = serves.few;
        }

-- an accepted consult, and one for the goal arrived at
module _ (b : List ℕ) (x i : ℕ) (fine : consult_fault b x i ≡ 0) where
  -- both are accepted
  fault_again : consult_fault b x (arrive b x i) ≡ consult_fault b x i
  unfolding consult_fault
  fault_again =
      let f = asked.fine b x i fine in
      let book = ((first_iff (book_fault b) _).0 fine).0 in
      asked.is_fine b x (arrive b x i) book f.state (arrive_below b x i f.goal) ∙ sym fine

  number_again : number_fault b x (arrive b x i) ≡ number_fault b x i
  unfolding consult_fault
  number_again =
      ((first_iff (book_fault b) _).0 (fault_again ∙ fine)).1 ∙ sym ((first_iff (book_fault b) _).0 fine).1

  -- and answer the same
  consult_again : {r : Advice} → ConsultSays b x (arrive b x i) r → ConsultSays b x i r
  unfolding accepted keeps
  consult_again says =
      let again = arrive_again b x i (asked.fine b x i fine).goal in
      record {
        number = says.number ∙ fault_again;
        lost = rw fault_again at says.lost;
        action = rw (fault_again, again) at says.action;
        wait = rw (fault_again, again) at says.wait;
        seek = rw (fault_again, again) at says.seek;
      }

  moves_again : {s : List ℕ} {m : Mask} → MovesSays s b x (arrive b x i) m → MovesSays s b x i m
  unfolding moves_fault
  moves_again says =
      let again = arrive_again b x i (asked.fine b x i fine).goal in
      record { number = rw number_again at says.number; mask = rw again at says.mask }

-- a consult that says that the state is not lost
module _ {b : List ℕ} {x i : ℕ} {r : Advice} (says : ConsultSays b x i r) (zero_is : r.number ≡ 0)
    (kept : r.lost ≡ false) where
  fine_said : consult_fault b x i ≡ 0
  fine_said = sym says.number ∙ zero_is

  kept_said : is_lost b x ≡ false
  unfolding accepted
  kept_said = rw fine_said at (sym says.lost ∙ kept)

  seek_said : r.seek ≡ arrive b x i
  seek_said = seek_is says fine_said kept_said

-- by a book that is right for an accepted plant every walk comes to what is said of it
walking :
    (s : List ℕ) {b : List ℕ} {mask : ℕ} {within : ℕ → Type 0} → plant_fault s ≡ 0 →
    Right (plant_of s) mask within b → Walking s b
walking s plant right =
    record {
      after = λ n x i y j hx kept hi w.
          answered s plant right
          (comes_to s plant right n x i y j (record { state = hx; kept = kept; goal = hi }) w);
      for_ever = λ states goals moves advice hx kept hi walk.
          walked s plant right states goals moves advice walk (record { state = hx; kept = kept; goal = hi });
    }

walking_by : (s : List ℕ) {b : List ℕ} → WrittenFor s b → Walking s b
walking_by s {b} written = by_right s b written (λ mask within plant right. walking s plant right)

pub walks : Walks
walks =
    record {
      standing = λ s t. walking_by s (standing t);
      withdrawn = λ {s} says z. walking_by s (withdrawn says z);
      withdrawn_list_lem = λ {s} says z. walking_by s (withdrawn_list_lem says z);
      returned = λ {s} says z. walking_by s (returned says z);
      made_by = λ {s} says z. walking_by s (made_by says z);
      withdrawn_by = λ {s} says z. walking_by s (withdrawn_by says z);
      same_advice = λ {b} {x} {i} says z k again.
          determined.consult (consult_again b x i (fine_said says z k) (rw (seek_said says z k) at again)) says;
      same_mask = λ {s} {b} {x} {i} says z k asked again.
          determined.moves (moves_again b x i (fine_said says z k) (rw (seek_said says z k) at again)) asked;
    }
