-- The list of dropped states, as a loop over the states writes it: so far, the states passed at which the test holds.
-- Assumes nothing.
use mathlib.Core.Path.{◌≡◌, refl, sym, ap, ◌∙◌}
use mathlib.Core.Bool.{Bool, true, false, ◌&&◌, not}
use mathlib.Core.List.{List, [], ◌∷◌, ◌++◌, append-nil}
use Prim.Native.Nat.{ℕ, ◌+◌, ◌*◌, ◌/◌, ◌≤◌, ◌<◌}
use native.Mathlib.Omega.{arith}
use lib.ListN.{length, length-append}
use borrow.Author.Tests.{le-leb, lt-leb}
use Rattle.statements.specs.Sets.{cons_if, numbers, filter, over}
use Rattle.statements.specs.Books.{bytes_of, book_states, is_lost, book_kept, dropped_states}
use Rattle.sets.proofs.Members.{filter_filter, filter_length, filter_snoc, length_numbers, numbers_more}
use Rattle.sets.proofs.Over.{over_none, over_length}
use Rattle.decoding.proofs.Sizes.{bytes_length}
use Rattle.writing.specs.Written.{listable, dropped_count, written_drops}
use Rattle.format.proofs.Stores.{After, fits, bytes_more, put_more}

-- kept in one book and lost in another
unfoldable pub is_dropped : List ℕ → List ℕ → ℕ → Bool
is_dropped before after x = not (is_lost before x) && is_lost after x

-- the numbers below n at which a test holds
unfoldable pub passed : (ℕ → Bool) → ℕ → List ℕ
passed f n = filter f (numbers n 0)

module _ (f : ℕ → Bool) (n : ℕ) where
  -- the next number: with it, without it
  passed_turn : passed f (n + 1) ≡ passed f n ++ cons_if (f n) n []
  unfolding passed
  passed_turn = rw (numbers_more n, filter_snoc f (numbers n 0) n)

  passed_more : f n ≡ true → passed f (n + 1) ≡ passed f n ++ (n ∷ [])
  passed_more t = passed_turn ∙ rw t

  passed_same : f n ≡ false → passed f (n + 1) ≡ passed f n
  passed_same t = passed_turn ∙ rw (t, append-nil)

  -- no more than n
  passed_few : length (passed f n) ≤ n
  unfolding passed
  passed_few = omega (arith, filter_length f (numbers n 0), length_numbers n 0)

-- the dropped states are those of all at which the test holds
dropped_passed : (before after : List ℕ)
    → dropped_states before after ≡ passed (is_dropped before after) (book_states before)
unfolding dropped_states book_kept is_dropped passed
dropped_passed before after = filter_filter (is_lost after) (λ x. not (is_lost before x)) (numbers (book_states before) 0)

module _ (before after d : List ℕ) where
  -- without room for every state: 0, and the buffer stays
  pub short_unlisted : length d < 2 * book_states before
      → (0 ≡ dropped_count before after d) × (d ≡ written_drops before after d)
  unfolding dropped_count written_drops listable
  short_unlisted h = let e = lt-leb _ _ h in (rw e, rw e)

  -- with it: their number, and the buffer with them written
  pub room_listed : 2 * book_states before ≤ length d
      → (dropped_count before after d ≡ length (dropped_states before after))
      × (written_drops before after d ≡ over (bytes_of (dropped_states before after)) d)
  unfolding dropped_count written_drops listable
  room_listed h = let e = le-leb _ _ h in (rw e, rw e)

-- a loop over n states: state x is next, and what was written so far ends at byte at
pub record DropsSoFar (before after d d' : List ℕ) (n x at : ℕ) : Type 0 where
  pub states : n ≡ book_states before
  pub few : n < 65536
  pub room : 2 * n ≤ length d
  pub within : x ≤ n
  pub place : at ≡ 2 * length (passed (is_dropped before after) x)
  pub bytes : d' ≡ over (bytes_of (passed (is_dropped before after) x)) d

-- where the loop begins
pub drops_start : (before after d : List ℕ) (n : ℕ) → n ≡ book_states before → n < 65536 → 2 * n ≤ length d
    → DropsSoFar before after d d n 0 0
unfolding passed numbers filter bytes_of
drops_start before after d n e few h =
    record { states = e; few = few; room = h; within = omega arith; place = refl; bytes = over_none d }

module _ {before after d d' : List ℕ} {n x at : ℕ} (r : DropsSoFar before after d d' n x at) where
  abbrev Dropped : List ℕ
  Dropped = passed (is_dropped before after) x

  -- no more bytes than two for each state passed
  pub drops_place : at ≤ 2 * x
  drops_place = omega (arith, passed_few (is_dropped before after) x)

  -- the buffer keeps its length
  drops_length : length d' ≡ length d
  drops_length =
      ap length r.bytes ∙ over_length (bytes_of Dropped) d (rw bytes_length (omega (arith, drops_place)))

  -- the next state is dropped
  pub drops_more : {d'' : List ℕ} → x < n → not (is_lost before x) && is_lost after x ≡ true → d'' ≡ After d' at x
      → DropsSoFar before after d d'' n (x + 1) (at + 2)
  unfolding is_dropped
  drops_more h t w =
      let one = passed_more (is_dropped before after) x t in
      record {
        states = r.states;
        few = r.few;
        room = r.room;
        within = omega arith;
        place = rw (one, length-append) (omega arith);
        bytes =
            rw (one, bytes_more)
            (put_more (bytes_of Dropped) d at x r.bytes (rw bytes_length r.place) (omega (arith, drops_place))
            (w ∙ fits d' at x (omega (arith, drops_place, drops_length))));
      }

  -- it is not
  pub drops_same : x < n → not (is_lost before x) && is_lost after x ≡ false
      → DropsSoFar before after d d' n (x + 1) at
  unfolding is_dropped
  drops_same h t =
      let none = passed_same (is_dropped before after) x t in
      record {
        states = r.states;
        few = r.few;
        room = r.room;
        within = omega arith;
        place = rw none r.place;
        bytes = rw none r.bytes;
      }

  -- no state is left
  module _ (done : n ≤ x) where
    all_dropped : Dropped ≡ dropped_states before after
    all_dropped =
        let all : x ≡ book_states before = omega arith in
        rw all (sym (dropped_passed before after))

    pub drops_end : (at / 2 ≡ dropped_count before after d) × (d' ≡ written_drops before after d)
    drops_end =
        let listed = room_listed before after d (omega arith) in
        let count : at / 2 ≡ length Dropped = omega arith in (
          count ∙ ap length all_dropped ∙ sym listed.0,
          r.bytes ∙ ap (λ (xs : List ℕ). over (bytes_of xs) d) all_dropped ∙ sym listed.1,
        )
