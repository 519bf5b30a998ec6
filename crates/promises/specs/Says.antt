-- What the public calls promise, field by field, in the definitions of crate statements.
use Rattle.std.specs.Prelude.{◌≡◌, ◌↔◌, Bool, true, false, ◌&&◌, not, List, [], ℕ, ◌+◌, ◌*◌, ◌<◌, eqb, length, take, drop}
use Rattle.std.specs.Prelude.{Option, Result}
use Rattle.refusal.specs.declared.Refusal.{Refusal}
use Rattle.promises.specs.declared.Wrote.{Wrote}
use Rattle.promises.specs.declared.Preview.{Preview}
use Rattle.promises.specs.declared.NextMove.{NextMove}
use Rattle.promises.specs.declared.Step.{Step}
use Rattle.promises.specs.Answers.{Advice, advice_of}
use Rattle.promises.specs.Answers.{Answer, answer_of}
use Rattle.promises.specs.Answers.{Cost, cost_of}
use Rattle.promises.specs.Answers.{Mask, mask_of}
use Rattle.promises.specs.Answers.{Stepped, stepped_of}
use Rattle.statements.specs.Sets.{pick, over, is_in}
use Rattle.statements.specs.Plants.{first_of, words, plant_of, ends}
use Rattle.statements.specs.Books.{bytes_of, book_count, row_place, wait_at, move_at, is_lost, arrive, good_moves}
use Rattle.statements.specs.Books.{withdrawn_book, dropped_states}
use Rattle.statements.specs.Index.{index_bytes}
use Rattle.statements.specs.Calls.{indexing_fault, number_fault, consult_fault, moves_fault, preview_fault, row_part, Ask}
use Rattle.statements.specs.Calls.{makes, withdraws, withdraws_list, returns, makes_by, withdraws_by, effect_of}
use Rattle.statements.specs.Demands.{Rising}

-- a call on a book is accepted
unfoldable pub accepted : List ℕ → ℕ → ℕ → Bool
accepted b x i = eqb (consult_fault b x i) 0

-- it is accepted, and the state is kept
unfoldable pub keeps : List ℕ → ℕ → ℕ → Bool
keeps b x i = accepted b x i && not (is_lost b x)

-- consulting a book b for a state x and the goal i sought: the number is 4, 5, 8 or 0; an accepted call says lost, or
-- gives the move and the wait of the goal arrived at, and that goal; every field that is not given is 0
pub record ConsultSays (b : List ℕ) (x i : ℕ) (r : Advice) : Type 0 where
  pub number : r.number ≡ consult_fault b x i
  pub lost : r.lost ≡ (accepted b x i && is_lost b x)
  pub action : r.action ≡ pick (keeps b x i) (move_at b x (arrive b x i)) 0
  pub wait : r.wait ≡ pick (keeps b x i) (wait_at b x (arrive b x i)) 0
  pub seek : r.seek ≡ pick (keeps b x i) (arrive b x i) 0

-- asking for all good moves with a plant's bytes s, a book b, a state x and the goal i sought: the number is 1 to 5, 8
-- or 0; an accepted call gives the moves that meet the rule of the entry of the goal arrived at, as a mask; a refused
-- one 0
pub record MovesSays (s b : List ℕ) (x i : ℕ) (r : Mask) : Type 0 where
  pub number : r.number ≡ moves_fault s b x i
  pub mask : r.mask ≡ pick (eqb r.number 0) (good_moves (plant_of s) b x (arrive b x i)) 0

-- advice for a state x of a book b and the goal i sought, from a call with a number of its own: accepted, it says lost,
-- or gives the move and the wait of the goal arrived at, and that goal; every field that is not given is 0
pub record Advises (number_is : ℕ) (b : List ℕ) (x i : ℕ) (r : Advice) : Type 0 where
  pub number : r.number ≡ number_is
  pub lost : r.lost ≡ (eqb number_is 0 && is_lost b x)
  pub action : r.action ≡ pick (eqb number_is 0 && not (is_lost b x)) (move_at b x (arrive b x i)) 0
  pub wait : r.wait ≡ pick (eqb number_is 0 && not (is_lost b x)) (wait_at b x (arrive b x i)) 0
  pub seek : r.seek ≡ pick (eqb number_is 0 && not (is_lost b x)) (arrive b x i) 0

-- consulting with the plant's bytes s lent too: plant and book are checked as in withdraw, so the number is 1 to 5, 8 or
-- 0; the advice is that of consult
abbrev pub ConsultPlantSays : List ℕ → List ℕ → ℕ → ℕ → Advice → Type 0
ConsultPlantSays s b x i r = Advises (moves_fault s b x i) b x i r

-- what consulting a step answers: 1 to 5, 8 for the state x and the goal i sought in it, 8 for the state y that followed,
-- or 0
unfoldable pub step_fault : List ℕ → List ℕ → ℕ → ℕ → ℕ → ℕ
step_fault s b x i y = first_of (moves_fault s b x i) (number_fault b y 0)

-- consulting a step with the plant's bytes s and a book b: the advice for x and the goal i sought; whether y is the end
-- of an arrow of the move that it gives, which a lost state has not; and the advice for y, where the goal that the first
-- gives is sought
pub record StepSays (s b : List ℕ) (x i y : ℕ) (r : Stepped) : Type 0 where
  pub here : Advises (moves_fault s b x i) b x i r.here
  pub leads : r.leads ≡
      (eqb (step_fault s b x i y) 0 && (not (is_lost b x) && is_in y (ends (plant_of s) x (move_at b x (arrive b x i)))))
  pub next : Advises (step_fault s b x i y) b y r.here.seek r.next

-- where in a book b the row of state x starts; 0 when refused
unfoldable pub row_start : List ℕ → ℕ → ℕ
row_start b x = pick (accepted b x 0) (row_place b x) 0

-- handing back the row of state x as a part of a book that is lent with bytes b: its bytes; it is in the book's block
-- of memory, as far behind the book's start as the row is; and it is empty exactly when refused. A pointer is a block
-- and a place in it
pub record RowSays (b : List ℕ) (x : ℕ) (lent : ℕ × ℕ) (row : List ℕ) (part : ℕ × ℕ) : Type 0 where
  pub bytes : row ≡ row_part b x
  pub block : part.0 ≡ lent.0
  pub place : part.1 ≡ lent.1 + row_start b x
  pub empty : eqb (length row) 0 ≡ not (accepted b x 0)

-- a call that answers a number, and if that is 0 writes a book and a list of states, each from its buffer's first byte
-- on, and returns the book's length and how many states are listed; a refused one writes nothing and has 0 in every
-- other field. The book buffer holds o before and o' after, the buffer for the list, which is the drop buffer, d before
-- and d' after
pub record Writes (number_is : ℕ) (after listed o o' d d' : List ℕ) (r : Answer) : Type 0 where
  pub number : r.number ≡ number_is
  pub length_is : r.length ≡ pick (eqb r.number 0) (length after) 0
  pub drops : r.drops ≡ pick (eqb r.number 0) (length listed) 0
  pub book : o' ≡ pick (eqb r.number 0) (over after o) o
  pub list : d' ≡ pick (eqb r.number 0) (over (bytes_of listed) d) d

-- what a call that writes a book promises: the effect of what it asks for, on a plant's bytes s and a book b
pub record Says (s b : List ℕ) (ask : Ask) (o o' d d' : List ℕ) (r : Answer) : Type 0 where
  pub writes :
      let does = effect_of s b ask in
      Writes (does.number (length o) (length d)) does.book does.list o o' d d' r

-- a make has no book handed in and no buffer for a list: its number is 1, 2, 3, 6, 7 or 0
abbrev pub MakeSays : List ℕ → ℕ → List ℕ → List ℕ → Answer → Type 0
MakeSays s mask o o' r = Says s [] (makes mask) o o' [] [] r

-- a withdrawal, of a mask and of a list, and a return: 1 to 7, 1 to 5, 9, 6, 7, and 1 to 7, or 0
abbrev pub WithdrawSays : List ℕ → List ℕ → ℕ → List ℕ → List ℕ → List ℕ → List ℕ → Answer → Type 0
WithdrawSays s b gone o o' d d' r = Says s b (withdraws gone) o o' d d' r

abbrev pub WithdrawListSays : List ℕ → List ℕ → List ℕ → List ℕ → List ℕ → List ℕ → List ℕ → Answer → Type 0
WithdrawListSays s b masks o o' d d' r = Says s b (withdraws_list masks) o o' d d' r

abbrev pub ReturnSays : List ℕ → List ℕ → ℕ → List ℕ → List ℕ → List ℕ → List ℕ → Answer → Type 0
ReturnSays s b back o o' d d' r = Says s b (returns back) o o' d d' r

-- building a plant's index, with no buffer for a list: 1, 2, 3, 7 or 0; accepted, its bytes stand in the buffer
abbrev pub IndexSays : List ℕ → List ℕ → List ℕ → Answer → Type 0
IndexSays s o o' r = Writes (indexing_fault s (length o)) (index_bytes (plant_of s)) [] o o' [] [] r

-- a make and a withdrawal by an index: 1, 2, 3, 10, 6, 7, and 1, 2, 3, 10, 4 to 7, or 0
abbrev pub MakeIndexedSays : List ℕ → List ℕ → ℕ → List ℕ → List ℕ → Answer → Type 0
MakeIndexedSays s index mask o o' r = Says s [] (makes_by index mask) o o' [] [] r

abbrev pub WithdrawIndexedSays :
    List ℕ → List ℕ → List ℕ → ℕ → List ℕ → List ℕ → List ℕ → List ℕ → Answer → Type 0
WithdrawIndexedSays s index b gone o o' d d' r = Says s b (withdraws_by index gone) o o' d d' r

-- previewing a withdrawal: the number is 1 to 7 or 0; an accepted call writes the states that the withdrawal would
-- drop, as it would, and returns their number and K of the book that it would write; a refused one writes nothing and
-- has 0 in every other field
pub record PreviewSays (s b : List ℕ) (gone : ℕ) (d d' : List ℕ) (c : Cost) : Type 0 where
  pub number : c.number ≡ preview_fault s b gone (length d)
  pub drops : c.drops ≡ pick (eqb c.number 0) (length (dropped_states b (withdrawn_book (plant_of s) b gone))) 0
  pub kept : c.kept ≡ pick (eqb c.number 0) (book_count (withdrawn_book (plant_of s) b gone)) 0
  pub list : d' ≡
      pick (eqb c.number 0) (over (bytes_of (dropped_states b (withdrawn_book (plant_of s) b gone))) d) d

-- a list of states as it is read: n two-byte numbers of the drop buffer are the states kept in the one book and lost in
-- the other; they strictly rise; and past them the buffer is as it was. When moves are withdrawn the one is the book
-- handed in and the other the book written; when moves are returned it is the other way round
pub record Lists (s one other d d' : List ℕ) (n : ℕ) : Type 0 where
  pub listed : (x : ℕ) → (is_in x (words n d') ≡ true) ↔
      ((x < (plant_of s).states) × (is_lost one x ≡ false) × (is_lost other x ≡ true))
  pub rising : Rising (words n d')
  pub size : length d' ≡ length d
  pub past : drop (2 * n) d' ≡ drop (2 * n) d

-- the drop list of every accepted withdrawal, by an index or without one, is such a list
pub record Listed : Type 0 where
  pub dropped : {s b o o' d d' : List ℕ} {gone : ℕ} {r : Answer} → WithdrawSays s b gone o o' d d' r →
      r.number ≡ 0 → Lists s b (take r.length o') d d' r.drops
  pub dropped_by : {s index b o o' d d' : List ℕ} {gone : ℕ} {r : Answer} →
      WithdrawIndexedSays s index b gone o o' d d' r → r.number ≡ 0 →
      Lists s b (take r.length o') d d' r.drops

-- nothing is left open: what is handed in, the buffers' bytes included, fixes each answer and the buffers' bytes
-- afterwards
pub record Determined : Type 0 where
  pub consult : {b : List ℕ} {x i : ℕ} {r r' : Advice} → ConsultSays b x i r → ConsultSays b x i r' → r ≡ r'
  -- of advice that comes with a number of its own, as from consult with the plant
  pub advice : {n : ℕ} {b : List ℕ} {x i : ℕ} {r r' : Advice} → Advises n b x i r → Advises n b x i r' → r ≡ r'
  pub step : {s b : List ℕ} {x i y : ℕ} {r r' : Stepped} → StepSays s b x i y r → StepSays s b x i y r' → r ≡ r'
  pub moves : {s b : List ℕ} {x i : ℕ} {r r' : Mask} → MovesSays s b x i r → MovesSays s b x i r' → r ≡ r'
  pub writes : {s b : List ℕ} {ask : Ask} {o o' o'' d d' d'' : List ℕ} {r r' : Answer} →
      Says s b ask o o' d d' r → Says s b ask o o'' d d'' r' → (r ≡ r') × (o' ≡ o'') × (d' ≡ d'')
  pub index : (s : List ℕ) {o o' o'' : List ℕ} {r r' : Answer} → IndexSays s o o' r → IndexSays s o o'' r' →
      (r ≡ r') × (o' ≡ o'')
  pub preview : {s b d d' d'' : List ℕ} {gone : ℕ} {c c' : Cost} →
      PreviewSays s b gone d d' c → PreviewSays s b gone d d'' c' → (c ≡ c') × (d' ≡ d'')
  -- of a row its bytes and its place
  pub row : {b row row' : List ℕ} {x : ℕ} {lent part part' : ℕ × ℕ} →
      RowSays b x lent row part → RowSays b x lent row' part' → (row ≡ row') × (part ≡ part')
  -- the fields fix what a call hands back, the refusal or what it gives
  pub answers : (r r' : Result Wrote Refusal) → answer_of r ≡ answer_of r' → r ≡ r'
  pub costs : (r r' : Result Preview Refusal) → cost_of r ≡ cost_of r' → r ≡ r'
  pub advices : (r r' : Result (Option NextMove) Refusal) → advice_of r ≡ advice_of r' → r ≡ r'
  pub masks : (r r' : Result ℕ Refusal) → mask_of r ≡ mask_of r' → r ≡ r'
  pub steps : (r r' : Step) → stepped_of r ≡ stepped_of r' → r ≡ r'
