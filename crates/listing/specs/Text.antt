-- The texts that `planbook` prints, as ASCII codes: a book's listing, a refusal, `bad masks`. Every line ends in a
-- newline (10). Document 01 gives the form by an example.
use Rattle.std.specs.Prelude.{true, false, List, [], ◌∷◌, ◌++◌, ℕ, zero, suc, ◌+◌, ◌/◌, ◌%◌, eqb, ltb}
use Rattle.std.specs.Int.Count.{ones}
use Rattle.statements.specs.Sets.{pick, joined}
use Rattle.statements.specs.Books.{book_states, book_goals, book_count, book_mask, wait_at, move_at, is_lost, book_fault}

-- the code of a number's last decimal digit
unfoldable pub last_digit : ℕ → List ℕ
last_digit v = (48 + v % 10) ∷ []

-- a number's decimal digits, with at most so many before the last one
unfoldable pub digits_within : ℕ → ℕ → List ℕ
digits_within zero v = last_digit v
digits_within (suc more) v = elim (ltb v 10) [ true ↦ last_digit v | false ↦ digits_within more (v / 10) ++ last_digit v ]

-- a number's decimal digits, the most significant first, with no zero in front; 0 is `0`. The laws `digits_one` and
-- `digits_more` of proofs/Digits.antt say it without a count.
unfoldable pub digits : ℕ → List ℕ
digits v = digits_within v v

-- a number and the text that follows it
unfoldable pub figure : ℕ → List ℕ → List ℕ
figure v text = digits v ++ text

-- ` of `
unfoldable pub of_text : List ℕ
of_text = 32 ∷ 111 ∷ 102 ∷ 32 ∷ []

-- ` kept, `
unfoldable pub kept_text : List ℕ
kept_text = 32 ∷ 107 ∷ 101 ∷ 112 ∷ 116 ∷ 44 ∷ 32 ∷ []

-- ` moves in service` and a newline
unfoldable pub moves_text : List ℕ
moves_text =
    32 ∷ 109 ∷ 111 ∷ 118 ∷ 101 ∷ 115 ∷ 32 ∷ 105 ∷ 110 ∷ 32 ∷ 115 ∷ 101 ∷ 114 ∷ 118 ∷ 105 ∷ 99 ∷ 101 ∷ 10 ∷ []

-- a space
unfoldable pub space : List ℕ
space = 32 ∷ []

-- a newline
unfoldable pub newline : List ℕ
newline = 10 ∷ []

-- ` lost` and a newline
unfoldable pub lost_text : List ℕ
lost_text = 32 ∷ 108 ∷ 111 ∷ 115 ∷ 116 ∷ 10 ∷ []

-- the first line: kept states, states, and the number of moves in service, the ones of the mask
unfoldable pub head_text : List ℕ → List ℕ
head_text b = figure (book_count b) of_text ++ (figure (book_states b) kept_text ++ figure (ones (book_mask b)) moves_text)

-- the line of a state and a goal: state, goal, wait, move
unfoldable pub line_text : List ℕ → ℕ → ℕ → List ℕ
line_text b x i = figure x space ++ (figure i space ++ (figure (wait_at b x i) space ++ figure (move_at b x i) newline))

-- the lines of a state: one for each goal, or one that says it is lost
unfoldable pub state_text : List ℕ → ℕ → List ℕ
state_text b x = pick (is_lost b x) (figure x lost_text) (joined (book_goals b) 0 (line_text b x))

-- the listing of a book: the first line, then each state's lines, the states rising
unfoldable pub book_text : List ℕ → List ℕ
book_text b = head_text b ++ joined (book_states b) 0 (state_text b)

-- what is listed: an accepted book's text, and nothing of a refused one
unfoldable pub listing : List ℕ → List ℕ
listing b = pick (eqb (book_fault b) 0) (book_text b) []

-- `refused `, the number and a newline
unfoldable pub refused_text : ℕ → List ℕ
refused_text n = (114 ∷ 101 ∷ 102 ∷ 117 ∷ 115 ∷ 101 ∷ 100 ∷ 32 ∷ []) ++ figure n newline

-- `bad masks` and a newline
unfoldable pub bad_masks_text : List ℕ
bad_masks_text = 98 ∷ 97 ∷ 100 ∷ 32 ∷ 109 ∷ 97 ∷ 115 ∷ 107 ∷ 115 ∷ 10 ∷ []
