-- A control book (a strategy table): its bytes, what is read from any book's bytes, and refusals 4 and 5.
use Rattle.std.specs.Prelude.{Bool, true, false, ◌&&◌, ◌||◌, not, List, [], ◌∷◌, ◌++◌, ℕ, zero, suc, ◌+◌, ◌-◌, ◌*◌, ◌/◌, ◌%◌, ◌^◌, eqb, ltb, leb, length, drop}
use Rattle.std.specs.Int.Bits.{bit_and, bit_or}
use Rattle.statements.specs.Sets.{pick, bit, numbers, every, first, joined, is_in, filter}
use Rattle.statements.specs.Plants.{word, first_of, when, Plant, allowed, moves_into, can}
use Rattle.statements.specs.Kept.{kept_within, stage_of, wait_of, listed_move}

-- a two-byte number's bytes, the low one first
unfoldable pub two : ℕ → List ℕ
two v = v % 256 ∷ (v / 256 ∷ [])

-- the bytes of a list of two-byte numbers
unfoldable pub bytes_of : List ℕ → List ℕ
bytes_of [] = []
bytes_of (v ∷ vs) = two v ++ bytes_of vs

-- marks a lost state, and nothing else
abbrev pub lost_mark : ℕ
lost_mark = 65535

-- the length of a book for s states and n goals, without stages and with them
unfoldable pub book_long : Bool → ℕ → ℕ → ℕ
book_long false s n = 16 + 4 * (s * n)
book_long true s n = 16 + (2 * s + 4 * (s * n))

-- an entry: wait, then move
unfoldable pub entry_of : Plant → ℕ → List ℕ → ℕ → ℕ → List ℕ
entry_of p mask kept x i =
    pick (is_in x kept) (two (wait_of p mask kept i x) ++ two (listed_move p mask kept i x))
    (two lost_mark ++ two lost_mark)

-- what a row opens with: in a plant that settles the stage, or the mark
unfoldable pub stage_part : Plant → ℕ → List ℕ → ℕ → List ℕ
stage_part p mask kept x =
    pick p.settles (two (pick (is_in x kept) (stage_of p mask kept x) lost_mark)) []

-- a state's row: then one entry per goal
unfoldable pub row_of : Plant → ℕ → List ℕ → ℕ → List ℕ
row_of p mask kept x = stage_part p mask kept x ++ joined p.goals 0 (entry_of p mask kept x)

unfoldable pub head_of : Plant → ℕ → List ℕ → List ℕ
head_of p mask kept =
    two p.states ++
    (two p.moves ++ (two p.goals ++
    (two (length kept) ++ (two (mask % 65536) ++
    (two (mask / 65536) ++ (two 16 ++ two (book_long p.settles p.states p.goals)))))))

-- the book's bytes for a plant, the moves in service and the kept states
unfoldable pub book_bytes : Plant → ℕ → List ℕ → List ℕ
book_bytes p mask kept = head_of p mask kept ++ joined p.states 0 (row_of p mask kept)

-- the figures in any book
unfoldable pub book_states : List ℕ → ℕ
book_states b = word 0 b

unfoldable pub book_moves : List ℕ → ℕ
book_moves b = word 1 b

unfoldable pub book_goals : List ℕ → ℕ
book_goals b = word 2 b

unfoldable pub book_count : List ℕ → ℕ
book_count b = word 3 b

unfoldable pub book_mask : List ℕ → ℕ
book_mask b = word 4 b + 65536 * word 5 b

unfoldable pub book_total : List ℕ → ℕ
book_total b = word 7 b

-- its length tells that a book has stages
unfoldable pub staged : List ℕ → Bool
staged b = eqb (book_total b) (book_long true (book_states b) (book_goals b))

-- mask k of a list of masks, four bytes each
unfoldable pub mask_at : List ℕ → ℕ → ℕ
mask_at m k = word (2 * k) m + 65536 * word (2 * k + 1) m

-- where the row of a state starts, and its entry for a goal; how long a row is
unfoldable pub row_place : List ℕ → ℕ → ℕ
row_place b x = pick (staged b) (16 + (2 * x + 4 * (x * book_goals b))) (16 + 4 * (x * book_goals b))

unfoldable pub entry_place : List ℕ → ℕ → ℕ → ℕ
entry_place b x i =
    pick (staged b) (16 + (2 * suc x + 4 * (x * book_goals b + i))) (16 + 4 * (x * book_goals b + i))

unfoldable pub row_long : List ℕ → ℕ
row_long b = pick (staged b) (2 + 4 * book_goals b) (4 * book_goals b)

unfoldable pub wait_at : List ℕ → ℕ → ℕ → ℕ
wait_at b x i = word 0 (drop (entry_place b x i) b)

unfoldable pub move_at : List ℕ → ℕ → ℕ → ℕ
move_at b x i = word 1 (drop (entry_place b x i) b)

-- a row's stage; in a book without stages all rows are of stage 1
unfoldable pub stage_at : List ℕ → ℕ → ℕ
stage_at b x = pick (staged b) (word 0 (drop (row_place b x) b)) 1

-- a state is lost in a book when both places of every entry of its row have the mark, and its stage if there are stages
unfoldable pub stage_lost : List ℕ → ℕ → Bool
stage_lost b x = pick (staged b) (eqb (stage_at b x) lost_mark) true

unfoldable pub is_lost : List ℕ → ℕ → Bool
is_lost b x =
    stage_lost b x && every (book_goals b) 0 (λ i. eqb (wait_at b x i) lost_mark && eqb (move_at b x i) lost_mark)

-- a row with a stage from 1 to S, every wait at most 1,023 and every move in the book's mask
unfoldable pub stage_held : List ℕ → ℕ → Bool
stage_held b x = pick (staged b) (leb 1 (stage_at b x) && leb (stage_at b x) (book_states b)) true

unfoldable pub is_held : List ℕ → ℕ → Bool
is_held b x =
    stage_held b x &&
    every (book_goals b) 0
    (λ i. leb (wait_at b x i) 1023 && (ltb (move_at b x i) (book_moves b) && bit (move_at b x i) (book_mask b)))

-- the states kept in a book
unfoldable pub book_kept : List ℕ → List ℕ
book_kept b = filter (λ x. not (is_lost b x)) (numbers (book_states b) 0)

-- no bit of a mask at u or above; the same of each mask of a list
unfoldable pub mask_ok : ℕ → ℕ → Bool
mask_ok u mask = ltb mask (2 ^ u)

unfoldable pub each_ok : ℕ → List ℕ → Bool
each_ok u [] = true
each_ok u (mask ∷ more) = mask_ok u mask && each_ok u more

-- the header is as document 01 says, with the length of a book without stages or with them, and the bytes lent are as
-- many as it says
unfoldable pub book_head_ok : List ℕ → Bool
book_head_ok b =
    let s = book_states b in
    let u = book_moves b in
    let n = book_goals b in
    leb 16 (length b) &&
    (leb 1 s && (leb s 1024 &&
    (leb 1 u && (leb u 32 &&
    (leb 1 n && (leb n 8 &&
    (eqb (word 6 b) 16 && ((eqb (book_total b) (book_long false s n) || staged b) &&
    (mask_ok u (book_mask b) && eqb (length b) (book_total b))))))))))

-- every row is wholly lost or held, and as many are not lost as the header counts
unfoldable pub rows_ok : List ℕ → Bool
rows_ok b =
    every (book_states b) 0 (λ x. is_lost b x || is_held b x) && eqb (book_count b) (length (book_kept b))

-- answers 4 and 5, or 0 for a book that is accepted
unfoldable pub book_fault : List ℕ → ℕ
book_fault b = first_of (when (not (book_head_ok b)) 4) (when (not (rows_ok b)) 5)

-- the goal that comes k places after goal i of n, in turn: after the last the first
unfoldable pub goal_after : ℕ → ℕ → ℕ → ℕ
goal_after n i k = (i + k) % n

-- a goal is served in a state when its wait there is 0
unfoldable pub served : List ℕ → ℕ → ℕ → Bool
served b x i = eqb (wait_at b x i) 0

-- how many goals are passed in state x, from the sought one, i, onward in turn: those served, until one that is not
unfoldable pub passes : List ℕ → ℕ → ℕ → ℕ
passes b x i = first (book_goals b) 0 (λ k. not (served b x (goal_after (book_goals b) i k)))

-- the goal arrived at: the next in turn after those passed. If all are, that is the sought one again, which so stays
unfoldable pub arrive : List ℕ → ℕ → ℕ → ℕ
arrive b x i = goal_after (book_goals b) i (passes b x i)

-- where a move may lead by the rule of the entry of state x and goal i, read on a book's own rows. Without stages: to
-- the states that it keeps, above wait 0 to those with a smaller wait
unfoldable pub nearer_in : List ℕ → ℕ → ℕ → List ℕ
nearer_in b x i = filter (λ y. eqb (wait_at b x i) 0 || ltb (wait_at b y i) (wait_at b x i)) (book_kept b)

-- with stages: to those of earlier stages, if a move leads wholly there; otherwise to those of no later stage, above
-- wait 0 to those of an earlier stage or of its own with a smaller wait
unfoldable pub earlier_in : List ℕ → ℕ → List ℕ
earlier_in b x = filter (λ y. ltb (stage_at b y) (stage_at b x)) (book_kept b)

unfoldable pub onward_in : List ℕ → ℕ → ℕ → List ℕ
onward_in b x i =
    filter
    (λ y. ltb (stage_at b y) (stage_at b x) ||
    (eqb (stage_at b y) (stage_at b x) && (eqb (wait_at b x i) 0 || ltb (wait_at b y i) (wait_at b x i))))
    (book_kept b)

unfoldable pub rule_in : Plant → List ℕ → ℕ → ℕ → List ℕ
rule_in p b x i =
    pick (staged b) (pick (can p (book_mask b) (earlier_in b x) x) (earlier_in b x) (onward_in b x i)) (nearer_in b x i)

-- all moves of a book's mask that meet the rule, as a mask (a permissive strategy); none in a lost state
unfoldable pub good_moves : Plant → List ℕ → ℕ → ℕ → ℕ
good_moves p b x i = pick (is_lost b x) 0 (moves_into p (book_mask b) (rule_in p b x i) x)

-- the bits of a mask that are not in another
unfoldable pub less_mask : ℕ → ℕ → ℕ
less_mask a b = a - bit_and a b

-- the book for the moves in service when strategies may not leave the states at which a test holds
unfoldable pub book_within : Plant → ℕ → (ℕ → Bool) → List ℕ
book_within p mask within = book_bytes p mask (kept_within p mask within)

-- the book of a making
unfoldable pub made_book : Plant → ℕ → List ℕ
made_book p mask = book_within p mask (allowed p)

-- the book of a withdrawal from any book b: within the allowed states that b keeps
unfoldable pub kept_before : Plant → List ℕ → ℕ → Bool
kept_before p b x = allowed p x && not (is_lost b x)

unfoldable pub withdrawn_book : Plant → List ℕ → ℕ → List ℕ
withdrawn_book p b gone = book_within p (less_mask (book_mask b) gone) (kept_before p b)

-- the masks of a list of them: its first n masks, four bytes each; as many as it has, an empty list acting as one mask
-- of 0
unfoldable pub masks_in : ℕ → List ℕ → List ℕ
masks_in zero m = []
masks_in (suc n) m = mask_at m 0 ∷ masks_in n (drop 4 m)

unfoldable pub masks_of : List ℕ → List ℕ
masks_of m = pick (eqb (length m) 0) (0 ∷ []) (masks_in (length m / 4) m)

-- all moves that a mask of a list names (the union)
unfoldable pub union_of : List ℕ → ℕ
union_of [] = 0
union_of (gone ∷ more) = bit_or gone (union_of more)

-- the last book of single withdrawals made in turn, each from the book of the one before
unfoldable pub withdrawn_in_turn : Plant → List ℕ → List ℕ → List ℕ
withdrawn_in_turn p b [] = b
withdrawn_in_turn p b (gone ∷ more) = withdrawn_in_turn p (withdrawn_book p b gone) more

-- the book of a list of withdrawals: that of its single ones in turn
unfoldable pub withdrawn_list : Plant → List ℕ → List ℕ → List ℕ
withdrawn_list p b m = withdrawn_in_turn p b (masks_of m)

-- the book of moves returned to any book b: that of a making with the moves of b and those returned. Which states b
-- keeps has no part in it
unfoldable pub returned_book : Plant → List ℕ → ℕ → List ℕ
returned_book p b back = made_book p (bit_or (book_mask b) back)

-- the states kept in one book and lost in the next, rising; and those lost in the one and kept in the next
unfoldable pub dropped_states : List ℕ → List ℕ → List ℕ
dropped_states before after = filter (is_lost after) (book_kept before)

unfoldable pub gained_states : List ℕ → List ℕ → List ℕ
gained_states before after = filter (is_lost before) (book_kept after)
