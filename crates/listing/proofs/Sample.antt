-- Document 01's sample: the listing of strip plant P's book after a making with mask 7 and a withdrawal of mask 4,
-- code by code; and that of a book with stages. Leans on the marked examples M1 and M2.
use mathlib.Core.Path.{◌≡◌, refl, ap, ◌∙◌}
use mathlib.Core.List.{List, [], ◌∷◌}
use Prim.Native.Nat.{ℕ}
use lib.Count.{ones_in, ones}
use Rattle.statements.specs.Sets.{every, joined}
use Rattle.statements.specs.Plants.{word, plant_of}
use Rattle.statements.specs.Books.{two, bytes_of, book_long, book_states, book_goals, book_count, book_mask, book_total, staged}
use Rattle.statements.specs.Books.{entry_place, row_place, wait_at, move_at, stage_at, stage_lost, is_lost, made_book, withdrawn_book}
use Rattle.statements.specs.Marked.{plant_p, book_p, lost_row, book_m2}
use Rattle.statements.specs.MarkedStages.{book_detour}
use Rattle.statements.proofs.Examples.{marked}
use Rattle.listing.specs.Text.{last_digit, digits_within, digits, figure, of_text, kept_text, moves_text, space}
use Rattle.listing.specs.Text.{newline, lost_text, head_text, line_text, state_text, book_text}

-- the sample's codes
unfoldable pub sample_text : List ℕ
sample_text =
    51 ∷ 32 ∷ 111 ∷ 102 ∷ 32 ∷ 52 ∷ 32 ∷ 107 ∷ 101 ∷ 112 ∷ 116 ∷ 44 ∷ 32 ∷ 50 ∷ 32 ∷ 109 ∷ 111 ∷ 118 ∷ 101 ∷ 115 ∷
    32 ∷ 105 ∷ 110 ∷ 32 ∷ 115 ∷ 101 ∷ 114 ∷ 118 ∷ 105 ∷ 99 ∷ 101 ∷ 10 ∷ 48 ∷ 32 ∷ 48 ∷ 32 ∷ 48 ∷ 32 ∷ 48 ∷ 10 ∷ 48 ∷
    32 ∷ 49 ∷ 32 ∷ 50 ∷ 32 ∷ 48 ∷ 10 ∷ 49 ∷ 32 ∷ 48 ∷ 32 ∷ 50 ∷ 32 ∷ 48 ∷ 10 ∷ 49 ∷ 32 ∷ 49 ∷ 32 ∷ 49 ∷ 32 ∷ 48 ∷ 10
    ∷ 50 ∷ 32 ∷ 48 ∷ 32 ∷ 49 ∷ 32 ∷ 48 ∷ 10 ∷ 50 ∷ 32 ∷ 49 ∷ 32 ∷ 48 ∷ 32 ∷ 48 ∷ 10 ∷ 51 ∷ 32 ∷ 108 ∷ 111 ∷ 115 ∷
    116 ∷ 10 ∷ []

-- P with masks 7 and 4 prints the sample
pub sample : book_text (withdrawn_book (plant_of plant_p) (made_book (plant_of plant_p) 7) 4) ≡ sample_text
unfolding book_p lost_row book_m2 two bytes_of word every joined book_states book_goals book_count book_mask book_total book_long staged entry_place wait_at move_at stage_lost is_lost
    ones ones_in last_digit digits_within digits figure of_text kept_text moves_text space newline lost_text head_text
    line_text state_text book_text sample_text
sample =
    ap (λ (b : List ℕ). book_text (withdrawn_book (plant_of plant_p) b 4)) marked.m1.book
    ∙ ap book_text marked.m2.book

-- the codes for a book with stages: it has them nowhere
unfoldable pub stages_text : List ℕ
stages_text =
    52 ∷ 32 ∷ 111 ∷ 102 ∷ 32 ∷ 52 ∷ 32 ∷ 107 ∷ 101 ∷ 112 ∷ 116 ∷ 44 ∷ 32 ∷ 50 ∷ 32 ∷ 109 ∷ 111 ∷ 118 ∷ 101 ∷ 115 ∷
    32 ∷ 105 ∷ 110 ∷ 32 ∷ 115 ∷ 101 ∷ 114 ∷ 118 ∷ 105 ∷ 99 ∷ 101 ∷ 10 ∷ 48 ∷ 32 ∷ 48 ∷ 32 ∷ 50 ∷ 32 ∷ 49 ∷ 10 ∷
    49 ∷ 32 ∷ 48 ∷ 32 ∷ 48 ∷ 32 ∷ 48 ∷ 10 ∷ 50 ∷ 32 ∷ 48 ∷ 32 ∷ 49 ∷ 32 ∷ 48 ∷ 10 ∷ 51 ∷ 32 ∷ 48 ∷ 32 ∷ 48 ∷ 32 ∷
    48 ∷ 10 ∷ []

-- the listing leaves stages out
pub sample_stages : book_text book_detour ≡ stages_text
unfolding book_detour two bytes_of word every joined book_states book_goals book_count book_mask book_total book_long staged entry_place row_place wait_at move_at stage_at stage_lost is_lost
    ones ones_in last_digit digits_within digits figure of_text kept_text moves_text space newline lost_text head_text
    line_text state_text book_text stages_text
sample_stages = refl
