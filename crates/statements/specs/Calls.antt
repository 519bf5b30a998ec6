-- The calls' refusals, 1 to 10, and lists of calls: the standing book, and the moves in service as told from the calls.
use Rattle.std.specs.Prelude.{Bool, ◌&&◌, ◌||◌, not, List, [], ◌∷◌, ℕ, ◌*◌, ◌%◌, eqb, leb, length, take, drop}
use Rattle.std.specs.Int.Bits.{bit_or}
use Rattle.statements.specs.Sets.{pick}
use Rattle.statements.specs.Plants.{first_of, when, Plant, plant_of, plant_fault}
use Rattle.statements.specs.Books.{book_long, book_states, book_moves, book_goals, book_total, row_place, row_long}
use Rattle.statements.specs.Books.{mask_ok, each_ok, book_head_ok}
use Rattle.statements.specs.Books.{book_fault, less_mask, made_book, withdrawn_book, masks_of, union_of, withdrawn_list}
use Rattle.statements.specs.Books.{returned_book, dropped_states, gained_states}
use Rattle.statements.specs.Index.{index_long, index_fault}

-- answer 6: the mask given has a bit at U or above
unfoldable pub mask_fault : Plant → ℕ → ℕ
mask_fault p mask = when (not (mask_ok p.moves mask)) 6

-- answers 9 and 6 of a list of masks: its bytes are not four for each of up to 16 masks; a mask of it has a bit at U or
-- above
unfoldable pub whole_masks : List ℕ → Bool
whole_masks m = eqb (length m % 4) 0 && leb (length m) 64

unfoldable pub masks_fault : Plant → List ℕ → ℕ
masks_fault p m = first_of (when (not (whole_masks m)) 9) (when (not (each_ok p.moves (masks_of m))) 6)

-- answer 7: a book buffer under the book's length, or a drop buffer under 2S bytes
unfoldable pub book_room : Plant → ℕ → Bool
book_room p room = leb (book_long p.settles p.states p.goals) room

unfoldable pub drop_room : Plant → ℕ → Bool
drop_room p drops = leb (2 * p.states) drops

unfoldable pub room_fault : Plant → ℕ → ℕ → ℕ
room_fault p room drops = when (not (book_room p room && drop_room p drops)) 7

-- what make answers for a plant's bytes, a mask and a buffer's length: 1, 2, 3, 6, 7, or 0 when it is accepted
unfoldable pub make_fault : List ℕ → ℕ → ℕ → ℕ
make_fault s mask room =
    let p = plant_of s in
    first_of (plant_fault s) (first_of (mask_fault p mask) (when (not (book_room p room)) 7))

-- a book for as many states, moves and goals as the plant has, and of its sort: as long as its books are
unfoldable pub alike : Plant → List ℕ → Bool
alike p b =
    eqb (book_states b) p.states &&
    (eqb (book_moves b) p.moves &&
    (eqb (book_goals b) p.goals && eqb (book_total b) (book_long p.settles p.states p.goals)))

-- what every call that is lent a plant and a book answers to these, first of all: 1 to 5, or 0
unfoldable pub lent_fault : List ℕ → List ℕ → ℕ
lent_fault s b = first_of (plant_fault s) (first_of (when (not (book_head_ok b && alike (plant_of s) b)) 4) (book_fault b))

-- what withdraw answers for a mask and its buffers' lengths: 1 to 7, or 0
unfoldable pub withdraw_fault : List ℕ → List ℕ → ℕ → ℕ → ℕ → ℕ
withdraw_fault s b gone room drops =
    let p = plant_of s in
    first_of (lent_fault s b) (first_of (mask_fault p gone) (room_fault p room drops))

-- what a list of withdrawals answers for its masks' bytes and its buffers' lengths: 1 to 5, 9, 6, 7, or 0
unfoldable pub withdraw_list_fault : List ℕ → List ℕ → List ℕ → ℕ → ℕ → ℕ
withdraw_list_fault s b m room drops =
    let p = plant_of s in
    first_of (lent_fault s b) (first_of (masks_fault p m) (room_fault p room drops))

-- what a return answers for a mask and its buffers' lengths: as withdraw, the buffer for its list being the drop buffer
abbrev pub return_fault : List ℕ → List ℕ → ℕ → ℕ → ℕ → ℕ
return_fault s b back room gained = withdraw_fault s b back room gained

-- what a call by an index answers, from what it answers without one: 10 straight after 3
unfoldable pub by_index : List ℕ → List ℕ → ℕ → ℕ
by_index s index plain = first_of (plant_fault s) (first_of (index_fault (plant_of s) index) plain)

-- what the call that builds an index answers for a plant's bytes and a buffer's length: 1, 2, 3, 7, or 0
unfoldable pub indexing_fault : List ℕ → ℕ → ℕ
indexing_fault s room = first_of (plant_fault s) (when (not (leb (index_long (length (plant_of s).arrows)) room)) 7)

-- what preview answers: 1 to 7, or 0, 7 being for the drop buffer alone
unfoldable pub preview_fault : List ℕ → List ℕ → ℕ → ℕ → ℕ
preview_fault s b gone drops =
    let p = plant_of s in
    first_of (lent_fault s b) (first_of (mask_fault p gone) (when (not (drop_room p drops)) 7))

-- answer 8: a state not below S, or a goal not below N
unfoldable pub number_fault : List ℕ → ℕ → ℕ → ℕ
number_fault b x i = when (leb (book_states b) x || leb (book_goals b) i) 8

-- what consult answers for a book, a state and a goal: 4, 5, 8, or 0
unfoldable pub consult_fault : List ℕ → ℕ → ℕ → ℕ
consult_fault b x i = first_of (book_fault b) (number_fault b x i)

-- what the call for all good moves answers for a plant's bytes, a book, a state and a goal: 1 to 5, 8, or 0
unfoldable pub moves_fault : List ℕ → List ℕ → ℕ → ℕ → ℕ
moves_fault s b x i = first_of (lent_fault s b) (number_fault b x i)

-- the part of a book that row hands back; empty when refused
unfoldable pub row_part : List ℕ → ℕ → List ℕ
row_part b x =
    pick (eqb (consult_fault b x 0) 0) (take (row_long b) (drop (row_place b x) b)) []

-- what a call that writes a book asks for: a mask to make with, moves to withdraw, a list of masks' bytes, moves to
-- return; and a making and a withdrawal by an index, with its bytes
pub data Ask : Type 0 where
  makes : (mask : ℕ) → Ask
  withdraws : (gone : ℕ) → Ask
  withdraws_list : (masks : List ℕ) → Ask
  returns : (back : ℕ) → Ask
  makes_by : (index : List ℕ) (mask : ℕ) → Ask
  withdraws_by : (index : List ℕ) (gone : ℕ) → Ask

-- a call on the standing book: what it asks for, and the lengths of its book buffer and of its buffer for a list, which
-- has no part in a make
pub record Call : Type 0 where
  pub ask : Ask
  pub room : ℕ
  pub drops : ℕ

-- what a call does on a plant's bytes s when b is the standing book: the number it returns for its buffers' lengths,
-- and, accepted, the book that it writes and the states that it lists
pub record Effect : Type 0 where
  pub number : ℕ → ℕ → ℕ
  pub book : List ℕ
  pub list : List ℕ

abbrev pub effect_of : List ℕ → List ℕ → Ask → Effect
effect_of s b (makes mask) =
    record { number = λ room drops. make_fault s mask room; book = made_book (plant_of s) mask; list = [] }
effect_of s b (withdraws gone) =
    let after = withdrawn_book (plant_of s) b gone in
    record { number = withdraw_fault s b gone; book = after; list = dropped_states b after }
effect_of s b (withdraws_list masks) =
    let after = withdrawn_list (plant_of s) b masks in
    record { number = withdraw_list_fault s b masks; book = after; list = dropped_states b after }
effect_of s b (returns back) =
    let after = returned_book (plant_of s) b back in
    record { number = return_fault s b back; book = after; list = gained_states b after }
effect_of s b (makes_by index mask) =
    record {
      number = λ room drops. by_index s index (make_fault s mask room);
      book = made_book (plant_of s) mask;
      list = [];
    }
effect_of s b (withdraws_by index gone) =
    let after = withdrawn_book (plant_of s) b gone in
    record {
      number = λ room drops. by_index s index (withdraw_fault s b gone room drops);
      book = after;
      list = dropped_states b after;
    }

-- what is told from the plant and the call alone: the number, 10 for an index, 6 for a mask, 9 or 6 for a list of them,
-- 7 for a buffer, otherwise 0; and, accepted, the moves in service after it, from those before
pub record Told : Type 0 where
  pub number : ℕ → ℕ → ℕ
  pub put : ℕ → ℕ

unfoldable pub told_of : Plant → Ask → Told
told_of p (makes new) =
    record { number = λ room drops. first_of (mask_fault p new) (when (not (book_room p room)) 7); put = λ mask. new }
told_of p (withdraws gone) =
    record {
      number = λ room drops. first_of (mask_fault p gone) (room_fault p room drops);
      put = λ mask. less_mask mask gone;
    }
told_of p (withdraws_list masks) =
    record {
      number = λ room drops. first_of (masks_fault p masks) (room_fault p room drops);
      put = λ mask. less_mask mask (union_of (masks_of masks));
    }
told_of p (returns back) =
    record {
      number = λ room drops. first_of (mask_fault p back) (room_fault p room drops);
      put = λ mask. bit_or mask back;
    }
told_of p (makes_by index new) =
    record {
      number = λ room drops.
          first_of (index_fault p index) (first_of (mask_fault p new) (when (not (book_room p room)) 7));
      put = λ mask. new;
    }
told_of p (withdraws_by index gone) =
    record {
      number = λ room drops.
          first_of (index_fault p index) (first_of (mask_fault p gone) (room_fault p room drops));
      put = λ mask. less_mask mask gone;
    }

-- the number a call returns, and the standing book after it: a refused call leaves it as it was
unfoldable pub answer_of : List ℕ → List ℕ → Call → ℕ
answer_of s b c = (effect_of s b c.ask).number c.room c.drops

unfoldable pub standing_after : List ℕ → List ℕ → Call → List ℕ
standing_after s b c = pick (eqb (answer_of s b c) 0) (effect_of s b c.ask).book b

-- the standing book after a list of calls, and the numbers that they return, one after the other
unfoldable pub standing : List ℕ → List ℕ → List Call → List ℕ
standing s b [] = b
standing s b (c ∷ cs) = standing s (standing_after s b c) cs

unfoldable pub answers : List ℕ → List ℕ → List Call → List ℕ
answers s b [] = []
answers s b (c ∷ cs) = answer_of s b c ∷ answers s (standing_after s b c) cs

-- the numbers, and the moves in service, told from the calls alone
unfoldable pub number_told : Plant → Call → ℕ
number_told p c = (told_of p c.ask).number c.room c.drops

unfoldable pub told : Plant → List Call → List ℕ
told p [] = []
told p (c ∷ cs) = number_told p c ∷ told p cs

unfoldable pub put_after : Plant → ℕ → Call → ℕ
put_after p mask c = pick (eqb (number_told p c) 0) ((told_of p c.ask).put mask) mask

unfoldable pub in_service : Plant → ℕ → List Call → ℕ
in_service p mask [] = mask
in_service p mask (c ∷ cs) = in_service p (put_after p mask c) cs

-- the single withdrawals of some masks, one after the other, with buffers of these lengths
unfoldable pub singles : List ℕ → ℕ → ℕ → List Call
singles [] room drops = []
singles (gone ∷ more) room drops =
    record { ask = withdraws gone; room = room; drops = drops } ∷ singles more room drops
