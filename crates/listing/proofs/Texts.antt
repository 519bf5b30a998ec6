-- The texts part by part, as their writers go through them, and the most bytes that an accepted book's listing has.
-- Assumes nothing.
use mathlib.Core.Path.{◌≡◌}
use mathlib.Core.Bool.{true, false}
use mathlib.Core.Logic.{inl, inr}
use mathlib.Core.List.{List, []}
use Prim.Native.Nat.{ℕ, zero, suc, ◌+◌, ◌*◌, ◌≤◌, ◌<◌}
use native.Mathlib.Omega.{arith}
use lib.Count.{ones, ones-le}
use lib.ListN.{length, get_or, drop, length-append}
use lib.Seq.{get_or-drop}
use borrow.Author.Tests.{eq-eqb, ne_eqb}
use Rattle.statements.specs.Sets.{joined}
use Rattle.statements.specs.Plants.{word}
use Rattle.statements.specs.Books.{book_states, book_goals, book_count, book_mask, entry_place, wait_at, move_at, is_lost}
use Rattle.statements.specs.Books.{book_fault}
use Rattle.sets.proofs.Tests.{decided}
use Rattle.decoding.proofs.Faults.{book_ok}
use Rattle.listing.specs.Text.{figure, of_text, kept_text, moves_text, space, newline, lost_text}
use Rattle.listing.specs.Text.{head_text, line_text, state_text, book_text, listing}
use Rattle.listing.proofs.Digits.{figure_few}

-- a line is as long as its four figures
pub line_long : (b : List ℕ) (x i : ℕ) → length (line_text b x i) ≡ length (figure x space)
    + (length (figure i space) + (length (figure (wait_at b x i) space) + length (figure (move_at b x i) newline)))
unfolding line_text
line_long b x i = simp length-append

-- the first line is as long as its three figures
pub head_long : (b : List ℕ) → length (head_text b) ≡ length (figure (book_count b) of_text)
    + (length (figure (book_states b) kept_text) + length (figure (ones (book_mask b)) moves_text))
unfolding head_text
head_long b = simp length-append

-- a lost state's text
pub state_lost : (b : List ℕ) (x : ℕ) → is_lost b x ≡ true → state_text b x ≡ figure x lost_text
unfolding state_text
state_lost b x h = rw h

-- the text of a state that is not lost, in a book for n goals
pub state_held : (b : List ℕ) (x n : ℕ) → is_lost b x ≡ false → n ≡ book_goals b
    → state_text b x ≡ joined n 0 (line_text b x)
unfolding state_text
state_held b x n h e = rw (h, e)

-- the length of the whole text, in a book for n states
pub book_long_lem : (b : List ℕ) (n : ℕ) → n ≡ book_states b
    → length (book_text b) ≡ length (head_text b) + length (joined n 0 (state_text b))
unfolding book_text
book_long_lem b n e = rw e (length-append (head_text b) (joined (book_states b) 0 (state_text b)))

-- parts of at most so many bytes
joined_few : (part : ℕ → List ℕ) (size n x : ℕ) → ((k : ℕ) → x ≤ k → k < x + n → length (part k) ≤ size)
    → length (joined n x part) ≤ n * size
unfolding joined
joined_few part size zero x h = omega arith
joined_few part size (suc n) x h =
    let here = h x (omega arith) (omega arith) in
    let rest = joined_few part size n (suc x) (λ k low high. h k (omega arith) (omega arith)) in
    rw length-append (omega arith)

module _ (b : List ℕ) (bytes : (k : ℕ) → get_or b k 0 < 256) where
  -- a two-byte number of a book's header is below 65,536
  word_few : (i : ℕ) → word i b < 65536
  unfolding word
  word_few i = omega (arith, bytes (2 * i), bytes (2 * i + 1))

  -- and so is one that starts at any place
  place_few : (at i : ℕ) → word i (drop at b) < 65536
  unfolding word
  place_few at i = simp get_or-drop (omega (arith, bytes (at + 2 * i), bytes (at + (2 * i + 1))))

  -- a line has at most 24 bytes
  line_few : (x i : ℕ) → x < 65536 → i < 65536 → length (line_text b x i) ≤ 24
  unfolding space newline wait_at move_at
  line_few x i hx hi =
      let place = entry_place b x i in
      omega (
        arith,
        line_long b x i,
        figure_few x space hx,
        figure_few i space hi,
        figure_few (wait_at b x i) space (place_few place 0),
        figure_few (move_at b x i) newline (place_few place 1),
      )

  -- a state's lines have at most 192
  state_few : (x : ℕ) → x < 65536 → book_goals b ≤ 8 → length (state_text b x) ≤ 192
  unfolding state_text lost_text
  state_few x hx few =
      elim (decided (is_lost b x)) [
        | inl h ↦ rw h (omega (arith, figure_few x lost_text hx))
        | inr h ↦
            let lines = joined_few (line_text b x) 24 (book_goals b) 0 (λ k low high. line_few x k hx (omega arith)) in
            rw h (omega arith)
      ]

  -- the first line has at most 64
  head_few : length (head_text b) ≤ 64
  unfolding of_text kept_text moves_text book_count book_states book_mask
  head_few =
      let in_service_lem = ones-le 32 (book_mask b) (omega (arith, word_few 4, word_few 5)) in
      omega (
        arith,
        head_long b,
        figure_few (book_count b) of_text (word_few 3),
        figure_few (book_states b) kept_text (word_few 0),
        figure_few (ones (book_mask b)) moves_text (omega arith),
      )

  -- a buffer of 200,000 bytes holds the listing of any accepted book
  pub text_most : book_fault b ≡ 0 → length (book_text b) ≤ 200000
  unfolding book_text
  text_most h =
      let ok = book_ok b h in
      let states = joined_few (state_text b) 192 (book_states b) 0
      (λ k low high. state_few k (omega arith) ok.sizes.goals_most) in
      rw length-append (omega (arith, head_few))

-- what is listed of an accepted book
pub listed : (b : List ℕ) → book_fault b ≡ 0 → listing b ≡ book_text b
unfolding listing
listed b h = rw (eq-eqb (book_fault b) 0 h)

-- nothing is listed of a refused book
pub not_listed : (b : List ℕ) → (book_fault b ≡ 0 → ⊥) → listing b ≡ []
unfolding listing
not_listed b h = rw (ne_eqb (book_fault b) 0 h)
