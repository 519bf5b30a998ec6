-- Parts of the check of a book: the entry that starts at a place, and a row's entries in a book with stages or without.
-- But for `lost_in` only functions inside this crate promise them. The other public functions promise the definitions of
-- crate statements.
use Rattle.std.specs.Prelude.{Bool, true, ◌&&◌, List, ℕ, suc, ◌+◌, ◌*◌, eqb, ltb, leb, drop}
use Rattle.statements.specs.Sets.{pick, bit, every}
use Rattle.statements.specs.Plants.{word}
use Rattle.statements.specs.Books.{lost_mark, book_states, book_moves, book_goals, book_mask, stage_at}

-- both numbers of the entry are the mark
unfoldable pub lost_at : List ℕ → ℕ → Bool
lost_at b at = eqb (word 0 (drop at b)) lost_mark && eqb (word 1 (drop at b)) lost_mark

-- the wait is at most 1,023, and the move is one of so many and in the mask
unfoldable pub held_at : List ℕ → ℕ → ℕ → ℕ → Bool
held_at b moves mask at =
    leb (word 0 (drop at b)) 1023 && (ltb (word 1 (drop at b)) moves && bit (word 1 (drop at b)) mask)

-- where the entry of a state and a goal is in a book with stages, or in one without
unfoldable pub entry_in : Bool → List ℕ → ℕ → ℕ → ℕ
entry_in stages b x i =
    pick stages (16 + (2 * suc x + 4 * (x * book_goals b + i))) (16 + 4 * (x * book_goals b + i))

-- every entry of a row is lost in such a book; and so is the state: its stage, if there are stages, is the mark
unfoldable pub entries_lost : Bool → List ℕ → ℕ → Bool
entries_lost stages b x = every (book_goals b) 0 (λ i. lost_at b (entry_in stages b x i))

unfoldable pub lost_in : Bool → List ℕ → ℕ → Bool
lost_in stages b x = pick stages (eqb (stage_at b x) lost_mark) true && entries_lost stages b x

-- every entry of a row is held in such a book; and so is the state: its stage, if there are stages, is from 1 to S
unfoldable pub entries_held : Bool → List ℕ → ℕ → Bool
entries_held stages b x = every (book_goals b) 0 (λ i. held_at b (book_moves b) (book_mask b) (entry_in stages b x i))

unfoldable pub held_in : Bool → List ℕ → ℕ → Bool
held_in stages b x =
    pick stages (leb 1 (stage_at b x) && leb (stage_at b x) (book_states b)) true && entries_held stages b x
