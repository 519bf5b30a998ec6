-- Demands 2 and 3, and what requests (i), (ii) and (iv) to (vii) say of the books written, of drop lists, of the goals
-- sought, of lists of withdrawals and of returns, stated: these records are what the product claims of its books. The
-- proofs are in crate demands.
use Rattle.std.specs.Prelude.{◌≡◌, ◌↔◌, ◌⊎◌, true, false, List, [], ◌∷◌, ◌++◌, ℕ, suc, ◌+◌, ◌*◌, ◌/◌, ◌≤◌, ◌<◌, length, get_or}
use Rattle.std.specs.Int.Bits.{bit_or}
use Rattle.statements.specs.Sets.{bit, lowest, is_in}
use Rattle.statements.specs.Plants.{word, Plant, plant_of, allowed, ends, available}
use Rattle.statements.specs.Books.{book_long, book_states, book_moves, book_goals, book_count, book_mask, book_total}
use Rattle.statements.specs.Books.{wait_at, move_at, stage_at, is_lost, book_kept, book_fault, goal_after, passes}
use Rattle.statements.specs.Books.{arrive, good_moves}
use Rattle.statements.specs.Books.{less_mask, made_book, withdrawn_book, masks_of, union_of, withdrawn_list}
use Rattle.statements.specs.Books.{returned_book, dropped_states, gained_states}
use Rattle.statements.specs.Calls.{make_fault, withdraw_fault, withdraw_list_fault, return_fault, Call, makes}
use Rattle.statements.specs.Calls.{withdraws, withdraws_list, returns, makes_by, withdraws_by, standing, answers}
use Rattle.statements.specs.Calls.{number_told, told, in_service, singles}
use Rattle.statements.specs.Strategies.{Run, WinsBy, Wins, Forces, InGoal, Stays, unsettled, following}
use Rattle.statements.specs.Strategies.{Picks, Serves}

-- move u is available in x, and all its arrows end in states with a property
pub record Meets (p : Plant) (mask x : ℕ) (good : ℕ → Type 0) (u : ℕ) : Type 0 where
  pub is_available : available p mask x u ≡ true
  pub ends_well : (y : ℕ) → is_in y (ends p x u) ≡ true → good y

-- it is the lowest such move
pub record Lowest (p : Plant) (mask x : ℕ) (good : ℕ → Type 0) (u : ℕ) : Type 0 where
  pub meets : Meets p mask x good u
  pub none_lower : (v : ℕ) → v < u → Meets p mask x good v → ⊥

-- document 01's rule of the entry of x and goal i in a book b, for the ends of a move: kept states, above wait 0 those
-- with a smaller wait
abbrev pub Nearer : Plant → ℕ → (ℕ → Type 0) → List ℕ → ℕ → ℕ → ℕ → Type 0
Nearer p mask within b x i y = Wins p mask within y × (0 < wait_at b x i → wait_at b y i < wait_at b x i)

-- request (ix): b keeps y, in a stage below k
abbrev pub Below : Plant → ℕ → (ℕ → Type 0) → List ℕ → ℕ → ℕ → Type 0
Below p mask within b k y = Wins p mask within y × (stage_at b y < k)

-- a state with an available move wholly into stages below k
abbrev pub Exits : Plant → ℕ → (ℕ → Type 0) → List ℕ → ℕ → ℕ → Type 0
Exits p mask within b k x = (u : ℕ) × Meets p mask x (Below p mask within b k) u

-- what the wait of x for goal i is for: the goal, an earlier stage than that of x, or a state of the same stage with an
-- available move wholly into earlier ones
abbrev pub Arrived : Plant → ℕ → (ℕ → Type 0) → List ℕ → ℕ → ℕ → ℕ → Type 0
Arrived p mask within b x i y =
    InGoal p i y ⊎
    (Below p mask within b (stage_at b x) y ⊎
    (Wins p mask within y × (stage_at b y ≡ stage_at b x) × Exits p mask within b (stage_at b x) y))

-- the rule of the entry of x and goal i where x has no such move: no later stage, above wait 0 an earlier one or a
-- smaller wait
abbrev pub Onward : Plant → ℕ → (ℕ → Type 0) → List ℕ → ℕ → ℕ → ℕ → Type 0
Onward p mask within b x i y =
    Below p mask within b (suc (stage_at b x)) y ×
    (0 < wait_at b x i → (stage_at b y < stage_at b x) ⊎ (wait_at b y i < wait_at b x i))

-- request (ix) in its own words, of the rows of a plant that settles
pub record HasStages (p : Plant) (mask : ℕ) (within : ℕ → Type 0) (b : List ℕ) : Type 0 where
  -- stages run from 1 to S
  pub range : (x : ℕ) → x < p.states → Wins p mask within x → (1 ≤ stage_at b x) × (stage_at b x ≤ p.states)
  -- a state has the least stage k for which a strategy never gets stuck, stays in the set and, on every run, passes only
  -- settled states and either meets every goal again and again or comes to a state, settled or not, with an available
  -- move wholly into stages below k
  pub stage : (x k : ℕ) → x < p.states → 0 < k →
      (Wins p mask within x × (stage_at b x ≤ k)) ↔ Stays p mask within (Exits p mask within b k) x
  -- a state with an available move wholly into stages below its own takes the lowest such move, with wait 0 for every
  -- goal
  pub exit_wait : (x i : ℕ) → x < p.states → i < p.goals → Wins p mask within x →
      Exits p mask within b (stage_at b x) x → wait_at b x i ≡ 0
  pub exit_move : (x i : ℕ) → x < p.states → i < p.goals → Wins p mask within x →
      Exits p mask within b (stage_at b x) x → Lowest p mask x (Below p mask within b (stage_at b x)) (move_at b x i)
  -- a kept state's wait is the least number of moves that forces, through no later stage, the goal, an earlier stage or
  -- a state of its own stage with such a move. So it is 0 in the goal
  pub wait : (x i n : ℕ) → x < p.states → i < p.goals → Wins p mask within x →
      (wait_at b x i ≤ n) ↔
      Forces p mask (Below p mask within b (suc (stage_at b x))) x (Arrived p mask within b x i) n
  -- any other state's move is the lowest available one into no later stage, above wait 0 into an earlier one or its own
  -- with a smaller wait
  pub move : (x i : ℕ) → x < p.states → i < p.goals → Wins p mask within x →
      (Exits p mask within b (stage_at b x) x → ⊥) → Lowest p mask x (Onward p mask within b x i) (move_at b x i)

-- document 01, "The book's bytes", in its own words: b is the book for a plant, the moves in service and the set that
-- strategies may not leave. A state is kept when a strategy wins from it. For a plant that settles, request (ix)
pub record IsBook (p : Plant) (mask : ℕ) (within : ℕ → Type 0) (b : List ℕ) : Type 0 where
  -- a list of bytes, as many as the header says
  pub bytes : (k : ℕ) → get_or b k 0 < 256
  pub size : length b ≡ book_long p.settles p.states p.goals
  -- the header's eight numbers
  pub states : book_states b ≡ p.states
  pub moves : book_moves b ≡ p.moves
  pub goals : book_goals b ≡ p.goals
  pub count : book_count b ≡ length (book_kept b)
  pub mask_is : book_mask b ≡ mask
  pub rows_at : word 6 b ≡ 16
  pub total : book_total b ≡ length b
  -- a lost state has the mark in both places of every entry, and in place of a stage, and only a lost state has
  pub kept : (x : ℕ) → x < p.states → (is_lost b x ≡ false) ↔ Wins p mask within x
  -- a kept state's wait is the least number of moves in which the goal can be forced within kept states
  pub wait : p.settles ≡ false → (x i n : ℕ) → x < p.states → i < p.goals → Wins p mask within x →
      (wait_at b x i ≤ n) ↔ Forces p mask (Wins p mask within) x (InGoal p i) n
  -- its move is the lowest available one into kept states, above wait 0 into those with a smaller wait
  pub move : p.settles ≡ false → (x i : ℕ) → x < p.states → i < p.goals → Wins p mask within x →
      Lowest p mask x (Nearer p mask within b x i) (move_at b x i)
  -- where the plant does not settle all rows count as of stage 1; where it does they have stages
  pub one_stage : p.settles ≡ false → (x : ℕ) → stage_at b x ≡ 1
  pub has_stages : p.settles ≡ true → HasStages p mask within b

-- the sets that strategies may not leave: in a making the allowed states, in a withdrawal the plant's states that are
-- allowed and not lost in the book handed in
abbrev pub Allowed : Plant → ℕ → Type 0
Allowed p x = allowed p x ≡ true

abbrev pub KeptBefore : Plant → List ℕ → ℕ → Type 0
KeptBefore p b x = (x < p.states) × (allowed p x ≡ true) × (is_lost b x ≡ false)

-- the numbers of a list strictly rise, so that each stands there once
abbrev pub Rising : List ℕ → Type 0
Rising xs = (j k : ℕ) → j < k → k < length xs → get_or xs j 0 < get_or xs k 0

-- what demand 2 and requests (i) and (v) say of the book b written for a plant with moves in service and a set not to
-- be left
pub record Right (p : Plant) (mask : ℕ) (within : ℕ → Type 0) (b : List ℕ) : Type 0 where
  pub is_book : IsBook p mask within b
  -- and of no other list of bytes
  pub no_other : (other : List ℕ) → IsBook p mask within other → other ≡ b
  -- every call that it is lent to accepts it
  pub accepted : book_fault b ≡ 0
  -- a wait is at most 1,023
  pub short : (x i : ℕ) → x < p.states → i < p.goals → Wins p mask within x → wait_at b x i ≤ 1023
  -- it is 0 exactly in the goal
  pub served : p.settles ≡ false → (x i : ℕ) → x < p.states → i < p.goals → Wins p mask within x →
      (wait_at b x i ≡ 0) ↔ InGoal p i x
  -- where the plant settles: exactly there and in states with an available move wholly into stages below their own
  pub exit_served : p.settles ≡ true → (x i : ℕ) → x < p.states → i < p.goals → Wins p mask within x →
      (wait_at b x i ≡ 0) ↔ (InGoal p i x ⊎ Exits p mask within b (stage_at b x) x)
  -- following the book from a kept state and any first goal wins without leaving kept states
  pub follows : (x goal : ℕ) → x < p.states → goal < p.goals → is_lost b x ≡ false →
      WinsBy p mask (Wins p mask within) x (following b goal)
  -- its runs have fewer states that are not settled than the first one's stage says
  pub few : p.settles ≡ true → (x goal : ℕ) → x < p.states → goal < p.goals → is_lost b x ≡ false →
      (states moves : ℕ → ℕ) → Run p mask (following b goal) x states moves → (n : ℕ) →
      unsettled p states n < stage_at b x
  -- every move of the set of an entry is available, and leads to kept states alone
  pub safe : (x i u : ℕ) → x < p.states → i < p.goals → bit u (good_moves p b x i) ≡ true →
      Meets p mask x (Wins p mask within) u
  -- the set of an entry has exactly the moves that meet its rule, and none in a lost state
  pub set : p.settles ≡ false → (x i u : ℕ) → x < p.states → i < p.goals →
      (bit u (good_moves p b x i) ≡ true) ↔ (Wins p mask within x × Meets p mask x (Nearer p mask within b x i) u)
  -- where the plant settles: the moves wholly into earlier stages, if any; otherwise those that meet the rule
  pub exit_set : p.settles ≡ true → (x i u : ℕ) → x < p.states → i < p.goals →
      Exits p mask within b (stage_at b x) x →
      (bit u (good_moves p b x i) ≡ true) ↔
      (Wins p mask within x × Meets p mask x (Below p mask within b (stage_at b x)) u)
  pub stage_set : p.settles ≡ true → (x i u : ℕ) → x < p.states → i < p.goals →
      (Exits p mask within b (stage_at b x) x → ⊥) →
      (bit u (good_moves p b x i) ≡ true) ↔ (Wins p mask within x × Meets p mask x (Onward p mask within b x i) u)
  -- the set of a kept state is not empty, and the listed move is its lowest
  pub listed : (x i : ℕ) → x < p.states → i < p.goals → is_lost b x ≡ false →
      (bit (move_at b x i) (good_moves p b x i) ≡ true) × (move_at b x i ≡ lowest p.moves (good_moves p b x i))
  -- any pick from the set of the goal arrived at, made anew at each step, serves, from any first goal
  pub picks : (states goals moves : ℕ → ℕ) → goals 0 < p.goals → Picks p b states goals moves →
      Serves p b states goals

-- request (v), of any book, any state and any goal sought of the book's: every goal that the state serves is passed,
-- from the sought one onward in turn, until one that it does not serve; if it serves all of them, the sought one stays
pub record Arriving : Type 0 where
  -- in turn, of any number of goals and any number of places on: first the goal itself, then always the next one, and
  -- after the last the first
  pub itself : (n i : ℕ) → i < n → goal_after n i 0 ≡ i
  pub next : (n i k : ℕ) → suc (goal_after n i k) < n → goal_after n i (suc k) ≡ suc (goal_after n i k)
  pub after_last : (n i k : ℕ) → suc (goal_after n i k) ≡ n → goal_after n i (suc k) ≡ 0
  -- it is a goal, and each goal is some places on
  pub in_range : (n i k : ℕ) → i < n → goal_after n i k < n
  pub each : (n i j : ℕ) → i < n → j < n → (k : ℕ) × (k < n) × (goal_after n i k ≡ j)
  -- if k goals from the sought one on are served, and the next is not, that is the goal arrived at
  pub until : (b : List ℕ) (x i k : ℕ) → i < book_goals b → k < book_goals b →
      ((j : ℕ) → j < k → wait_at b x (goal_after (book_goals b) i j) ≡ 0) →
      0 < wait_at b x (goal_after (book_goals b) i k) → arrive b x i ≡ goal_after (book_goals b) i k
  -- if all are served, it is the sought one
  pub stays : (b : List ℕ) (x i : ℕ) → i < book_goals b → ((j : ℕ) → j < book_goals b → wait_at b x j ≡ 0) →
      arrive b x i ≡ i
  -- it is a goal, and those passed are served
  pub goal : (b : List ℕ) (x i : ℕ) → i < book_goals b → arrive b x i < book_goals b
  pub passed : (b : List ℕ) (x i k : ℕ) → k < passes b x i → wait_at b x (goal_after (book_goals b) i k) ≡ 0
  -- it is served only if all goals are
  pub all_served : (b : List ℕ) (x i j : ℕ) → i < book_goals b → j < book_goals b → wait_at b x (arrive b x i) ≡ 0 →
      wait_at b x j ≡ 0
  -- where the sought goal is served, a goal some places after it is served too, or comes sooner after the one arrived at
  pub sooner : (b : List ℕ) (x i j k : ℕ) → i < book_goals b → k < book_goals b → goal_after (book_goals b) i k ≡ j →
      wait_at b x i ≡ 0 →
      (wait_at b x j ≡ 0) ⊎ ((m : ℕ) × (m < k) × (goal_after (book_goals b) (arrive b x i) m ≡ j))
  -- to arrive again from the goal arrived at changes nothing
  pub idempotent : (b : List ℕ) (x i : ℕ) → i < book_goals b → arrive b x (arrive b x i) ≡ arrive b x i

-- demand 2: kept states, waits and moves are those of strategies over whole histories
pub record Demand2 : Type 0 where
  -- for the book of a making
  pub made : (s : List ℕ) (mask room : ℕ) → make_fault s mask room ≡ 0 →
      Right (plant_of s) mask (Allowed (plant_of s)) (made_book (plant_of s) mask)
  -- and for that of a withdrawal from any book, also one that nobody made
  pub withdrawn : (s b : List ℕ) (gone room drops : ℕ) → withdraw_fault s b gone room drops ≡ 0 →
      Right (plant_of s) (less_mask (book_mask b) gone) (KeptBefore (plant_of s) b) (withdrawn_book (plant_of s) b gone)
  -- a move is in its mask exactly when it is in the mask of the book handed in and not in the one withdrawn
  pub less : (s b : List ℕ) (gone room drops : ℕ) → withdraw_fault s b gone room drops ≡ 0 → (u : ℕ) →
      (bit u (book_mask (withdrawn_book (plant_of s) b gone)) ≡ true) ↔
      ((bit u (book_mask b) ≡ true) × (bit u gone ≡ false))
  -- the drop list: the states kept before and lost now
  pub dropped : (s b : List ℕ) (gone room drops : ℕ) → withdraw_fault s b gone room drops ≡ 0 → (x : ℕ) →
      let after = withdrawn_book (plant_of s) b gone in
      (is_in x (dropped_states b after) ≡ true) ↔
      ((x < (plant_of s).states) × (is_lost b x ≡ false) × (is_lost after x ≡ true))
  -- by rising number, as request (ii) says, and so each once
  pub rising : (b after : List ℕ) → Rising (dropped_states b after)
  -- the states dropped and those still kept are together those kept before
  pub adds_up : (s b : List ℕ) (gone room drops : ℕ) → withdraw_fault s b gone room drops ≡ 0 →
      let after = withdrawn_book (plant_of s) b gone in
      length (dropped_states b after) + book_count after ≡ book_count b

-- request (vi), of any list of withdrawals that is accepted, from any book, also one that nobody made
pub record InTurn : Type 0 where
  -- its masks are its bytes, four by four, the low one first; an empty list acts as one mask of 0
  pub masks_are : (masks : List ℕ) (k : ℕ) → k < length masks / 4 →
      get_or (masks_of masks) k 0 ≡ word (2 * k) masks + 65536 * word (2 * k + 1) masks
  pub masks_count : (masks : List ℕ) → 0 < length masks → length (masks_of masks) ≡ length masks / 4
  pub no_masks : masks_of [] ≡ 0 ∷ []
  -- each of its single withdrawals would be accepted in turn
  pub each_accepted : (s b masks : List ℕ) (room drops : ℕ) → withdraw_list_fault s b masks room drops ≡ 0 →
      (number : ℕ) → is_in number (answers s b (singles (masks_of masks) room drops)) ≡ true → number ≡ 0
  -- and the book that then stands is that of the list
  pub stands : (s b masks : List ℕ) (room drops : ℕ) → withdraw_list_fault s b masks room drops ≡ 0 →
      standing s b (singles (masks_of masks) room drops) ≡ withdrawn_list (plant_of s) b masks
  -- one withdrawal of all moves that its masks name would be accepted, and gives the same book
  pub at_once : (s b masks : List ℕ) (room drops : ℕ) → withdraw_list_fault s b masks room drops ≡ 0 →
      let gone = union_of (masks_of masks) in
      (withdraw_fault s b gone room drops ≡ 0) × (withdrawn_list (plant_of s) b masks ≡ withdrawn_book (plant_of s) b gone)
  -- those are the moves that one of them names
  pub named : (masks : List ℕ) (u : ℕ) →
      (bit u (union_of masks) ≡ true) ↔ ((gone : ℕ) × (is_in gone masks ≡ true) × (bit u gone ≡ true))
  -- so that demand 2 and requests (i) and (v) hold of the book
  pub right : (s b masks : List ℕ) (room drops : ℕ) → withdraw_list_fault s b masks room drops ≡ 0 →
      Right (plant_of s) (less_mask (book_mask b) (union_of (masks_of masks))) (KeptBefore (plant_of s) b)
      (withdrawn_list (plant_of s) b masks)
  -- the drop list, which rises as every one does: the states kept at the start and lost at the end
  pub dropped : (s b masks : List ℕ) (room drops : ℕ) → withdraw_list_fault s b masks room drops ≡ 0 → (x : ℕ) →
      let after = withdrawn_list (plant_of s) b masks in
      (is_in x (dropped_states b after) ≡ true) ↔
      ((x < (plant_of s).states) × (is_lost b x ≡ false) × (is_lost after x ≡ true))
  -- these and those still kept are together those kept at the start
  pub adds_up : (s b masks : List ℕ) (room drops : ℕ) → withdraw_list_fault s b masks room drops ≡ 0 →
      let after = withdrawn_list (plant_of s) b masks in
      length (dropped_states b after) + book_count after ≡ book_count b

-- request (vii), of any return that is accepted
pub record Returning : Type 0 where
  -- to any book, also one that nobody made: a making with the moves of that book and those returned would be accepted,
  -- and gives the same book
  pub afresh : (s b : List ℕ) (back room gained : ℕ) → return_fault s b back room gained ≡ 0 →
      let mask = bit_or (book_mask b) back in
      (make_fault s mask room ≡ 0) × (returned_book (plant_of s) b back ≡ made_book (plant_of s) mask)
  -- those are the moves that one mask names or the other
  pub named : (mask back u : ℕ) → (bit u (bit_or mask back) ≡ true) ↔ ((bit u mask ≡ true) ⊎ (bit u back ≡ true))
  -- so that demand 2 and requests (i) and (v) hold of the book
  pub right : (s b : List ℕ) (back room gained : ℕ) → return_fault s b back room gained ≡ 0 →
      Right (plant_of s) (bit_or (book_mask b) back) (Allowed (plant_of s)) (returned_book (plant_of s) b back)
  -- the list: the states kept now and not before, and no others
  pub gained : (s b : List ℕ) (back room gained : ℕ) → return_fault s b back room gained ≡ 0 → (x : ℕ) →
      let after = returned_book (plant_of s) b back in
      (is_in x (gained_states b after) ≡ true) ↔
      ((x < (plant_of s).states) × (is_lost b x ≡ true) × (is_lost after x ≡ false))
  -- by rising number, and so each once
  pub rising : (b after : List ℕ) → Rising (gained_states b after)
  -- to a book of a making: what is kept before is kept now, and with the states listed that is all
  pub still_kept : (s : List ℕ) (mask room back next_room gained : ℕ) → make_fault s mask room ≡ 0 →
      let before = made_book (plant_of s) mask in
      return_fault s before back next_room gained ≡ 0 → (x : ℕ) → x < (plant_of s).states → is_lost before x ≡ false →
      is_lost (returned_book (plant_of s) before back) x ≡ false
  pub adds_up : (s : List ℕ) (mask room back next_room gained : ℕ) → make_fault s mask room ≡ 0 →
      let before = made_book (plant_of s) mask in
      let after = returned_book (plant_of s) before back in
      return_fault s before back next_room gained ≡ 0 →
      book_count before + length (gained_states before after) ≡ book_count after
  -- moves in service withdrawn from such a book and returned: it is as it was, and the states listed are those dropped
  pub undone : (s : List ℕ) (mask room gone : ℕ) → make_fault s mask room ≡ 0 → bit_or mask gone ≡ mask →
      let before = made_book (plant_of s) mask in
      let after = withdrawn_book (plant_of s) before gone in
      let again = returned_book (plant_of s) after gone in
      (again ≡ before) × (gained_states after again ≡ dropped_states before after)

-- document 01, "Books after many calls", and request (vii): the moves in service, told from the calls alone, move by
-- move, after one call more
pub record InService : Type 0 where
  -- two masks are equal exactly when they have the same moves
  pub same : (mask other : ℕ) → (mask ≡ other) ↔ ((u : ℕ) → bit u mask ≡ bit u other)
  -- before any call they are those of the first make
  pub first : (p : Plant) (mask : ℕ) → in_service p mask [] ≡ mask
  -- a refused call leaves them
  pub refused : (p : Plant) (mask : ℕ) (calls : List Call) (c : Call) → (number_told p c ≡ 0 → ⊥) →
      in_service p mask (calls ++ (c ∷ [])) ≡ in_service p mask calls
  -- an accepted make sets them to its mask
  pub made : (p : Plant) (mask new room drops : ℕ) (calls : List Call) →
      let c : Call = record { ask = makes new; room = room; drops = drops } in
      number_told p c ≡ 0 → (u : ℕ) →
      (bit u (in_service p mask (calls ++ (c ∷ []))) ≡ true) ↔ (bit u new ≡ true)
  -- an accepted withdrawal takes out those that its mask names
  pub withdrawn : (p : Plant) (mask gone room drops : ℕ) (calls : List Call) →
      let c : Call = record { ask = withdraws gone; room = room; drops = drops } in
      number_told p c ≡ 0 → (u : ℕ) →
      (bit u (in_service p mask (calls ++ (c ∷ []))) ≡ true) ↔
      ((bit u (in_service p mask calls) ≡ true) × (bit u gone ≡ false))
  -- an accepted list of withdrawals those that a mask of it names
  pub withdrawn_list_lem : (p : Plant) (mask room drops : ℕ) (masks : List ℕ) (calls : List Call) →
      let c : Call = record { ask = withdraws_list masks; room = room; drops = drops } in
      number_told p c ≡ 0 → (u : ℕ) →
      (bit u (in_service p mask (calls ++ (c ∷ []))) ≡ true) ↔
      ((bit u (in_service p mask calls) ≡ true) ×
      ((gone : ℕ) → is_in gone (masks_of masks) ≡ true → bit u gone ≡ false))
  -- an accepted return puts its moves back
  pub returned : (p : Plant) (mask back room drops : ℕ) (calls : List Call) →
      let c : Call = record { ask = returns back; room = room; drops = drops } in
      number_told p c ≡ 0 → (u : ℕ) →
      (bit u (in_service p mask (calls ++ (c ∷ []))) ≡ true) ↔
      ((bit u (in_service p mask calls) ≡ true) ⊎ (bit u back ≡ true))
  -- by an index they are put and taken as without one
  pub made_by : (p : Plant) (mask new room drops : ℕ) (index : List ℕ) (calls : List Call) →
      let c : Call = record { ask = makes_by index new; room = room; drops = drops } in
      number_told p c ≡ 0 → (u : ℕ) →
      (bit u (in_service p mask (calls ++ (c ∷ []))) ≡ true) ↔ (bit u new ≡ true)
  pub withdrawn_by : (p : Plant) (mask gone room drops : ℕ) (index : List ℕ) (calls : List Call) →
      let c : Call = record { ask = withdraws_by index gone; room = room; drops = drops } in
      number_told p c ≡ 0 → (u : ℕ) →
      (bit u (in_service p mask (calls ++ (c ∷ []))) ≡ true) ↔
      ((bit u (in_service p mask calls) ≡ true) × (bit u gone ≡ false))

-- demand 3: after any list of calls that follows an accepted make
pub record Demand3 : Type 0 where
  -- what a call puts in service and takes out
  pub service : InService
  -- the standing book is that of a making afresh with the moves in service
  pub as_afresh : (s : List ℕ) (mask room : ℕ) (calls : List Call) → make_fault s mask room ≡ 0 →
      standing s (made_book (plant_of s) mask) calls ≡ made_book (plant_of s) (in_service (plant_of s) mask calls)
  -- so that demand 2 and requests (i) and (v) hold of it
  pub right : (s : List ℕ) (mask room : ℕ) (calls : List Call) → make_fault s mask room ≡ 0 →
      Right (plant_of s) (in_service (plant_of s) mask calls) (Allowed (plant_of s))
      (standing s (made_book (plant_of s) mask) calls)
  -- each call's answer is told from the calls alone
  pub told_alone : (s : List ℕ) (mask room : ℕ) (calls : List Call) → make_fault s mask room ≡ 0 →
      answers s (made_book (plant_of s) mask) calls ≡ told (plant_of s) calls
  -- two such books are equal exactly when the same moves are in service
  pub equal_books : (s : List ℕ) (mask room other_mask other_room : ℕ) (calls other_calls : List Call) →
      make_fault s mask room ≡ 0 → make_fault s other_mask other_room ≡ 0 →
      (standing s (made_book (plant_of s) mask) calls ≡ standing s (made_book (plant_of s) other_mask) other_calls) ↔
      (in_service (plant_of s) mask calls ≡ in_service (plant_of s) other_mask other_calls)
