-- The length of a book's bytes, and the eight numbers of its header read back. Assumes nothing.
use mathlib.Core.Path.{◌≡◌, refl, sym, ◌∙◌, ap}
use mathlib.Core.Logic.{inl, inr}
use mathlib.Core.Bool.{Bool, true, false}
use mathlib.Core.List.{List}
use Prim.Native.Nat.{ℕ, ◌+◌, ◌*◌, ◌<◌}
use native.Mathlib.Omega.{arith}
use lib.ListN.{length, length-append}
use Rattle.statements.specs.Sets.{pick, is_in, joined}
use Rattle.statements.specs.Plants.{word, Plant}
use Rattle.statements.specs.Kept.{kept_within}
use Rattle.statements.specs.Books.{two, book_long, entry_of, stage_part, row_of, head_of, book_bytes, book_states, book_moves}
use Rattle.statements.specs.Books.{book_goals, book_total, staged}
use Rattle.statements.specs.Books.{book_count, book_mask, less_mask, book_within, kept_before, withdrawn_book}
use Rattle.sets.proofs.Tests.{decided}
use Rattle.sets.proofs.Joined.{joined_length}
use Rattle.decoding.proofs.Sizes.{opening, long_is, staged_of}

pick_length : (t : Bool) (xs ys : List ℕ) (n : ℕ) → length xs ≡ n → length ys ≡ n → length (pick t xs ys) ≡ n
pick_length true xs ys n h g = h
pick_length false xs ys n h g = g

module _ (p : Plant) (mask : ℕ) (kept : List ℕ) where
  pub entry_length : (x i : ℕ) → length (entry_of p mask kept x i) ≡ 4
  unfolding entry_of two
  entry_length x i = pick_length (is_in x kept) _ _ 4 refl refl

  pub stage_length : (x : ℕ) → length (stage_part p mask kept x) ≡ opening p.settles
  unfolding stage_part opening two
  stage_length x =
      elim (decided p.settles) [
        | inl e ↦ rw e refl
        | inr e ↦ rw e refl
      ]

  pub row_length : (x : ℕ) → length (row_of p mask kept x) ≡ opening p.settles + p.goals * 4
  unfolding row_of
  row_length x =
      rw (
        length-append (stage_part p mask kept x) (joined p.goals 0 (entry_of p mask kept x)),
        stage_length x,
        joined_length (entry_of p mask kept x) 4 (entry_length x) p.goals 0,
      ) refl

  pub book_length : length (book_bytes p mask kept) ≡ book_long p.settles p.states p.goals
  unfolding book_bytes head_of two
  book_length =
      omega (
        arith,
        long_is p.settles p.states p.goals,
        joined_length (row_of p mask kept) (opening p.settles + p.goals * 4) row_length p.states 0,
      )

  pub read_states : book_states (book_bytes p mask kept) ≡ p.states
  unfolding book_states book_bytes head_of two word
  read_states = omega arith

  pub read_moves : book_moves (book_bytes p mask kept) ≡ p.moves
  unfolding book_moves book_bytes head_of two word
  read_moves = omega arith

  pub read_goals : book_goals (book_bytes p mask kept) ≡ p.goals
  unfolding book_goals book_bytes head_of two word
  read_goals = omega arith

  pub read_count : book_count (book_bytes p mask kept) ≡ length kept
  unfolding book_count book_bytes head_of two word
  read_count = omega arith

  pub read_mask : book_mask (book_bytes p mask kept) ≡ mask
  unfolding book_mask book_bytes head_of two word
  read_mask = omega arith

  pub read_rows_at : word 6 (book_bytes p mask kept) ≡ 16
  unfolding book_bytes head_of two word
  read_rows_at = refl

  pub read_total : book_total (book_bytes p mask kept) ≡ book_long p.settles p.states p.goals
  unfolding book_total book_bytes head_of two word
  read_total = omega arith

  -- the sort of the plant is that of its books
  pub read_staged : 0 < p.states → staged (book_bytes p mask kept) ≡ p.settles
  read_staged l =
      let b = book_bytes p mask kept in
      staged_of b p.settles (rw (read_states, read_goals) read_total) (omega (arith, read_states))

-- the length of the book within a set, and of that of a withdrawal
pub within_length : (p : Plant) (mask : ℕ) (test : ℕ → Bool)
    → length (book_within p mask test) ≡ book_long p.settles p.states p.goals
unfolding book_within
within_length p mask test = book_length p mask (kept_within p mask test)

pub withdrawn_length : (p : Plant) (b : List ℕ) (gone : ℕ)
    → length (withdrawn_book p b gone) ≡ book_long p.settles p.states p.goals
unfolding withdrawn_book
withdrawn_length p b gone = within_length p (less_mask (book_mask b) gone) (kept_before p b)

-- equal books have the same moves in service
pub same_mask : (p : Plant) (mask other : ℕ) (kept others : List ℕ)
    → book_bytes p mask kept ≡ book_bytes p other others → mask ≡ other
same_mask p mask other kept others e = sym (read_mask p mask kept) ∙ ap book_mask e ∙ read_mask p other others
