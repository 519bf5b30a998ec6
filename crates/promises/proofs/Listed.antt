-- A list of states as it is read: the drop buffer has the states dropped, or gained, two bytes each, and past them what
-- it had. Assumes nothing.
use mathlib.Core.Path.{◌≡◌, refl, ap, ap₂, ◌∙◌}
use mathlib.Core.Bool.{true}
use mathlib.Core.List.{List, [], ◌∷◌, ◌++◌}
use Prim.Native.Nat.{ℕ, ◌+◌, ◌*◌, ◌/◌, ◌%◌}
use native.Mathlib.Omega.{arith}
use lib.ListN.{length, take, drop}
use lib.Seq.{drop_at}
use Rattle.statements.specs.Sets.{over}
use Rattle.statements.specs.Plants.{word, words, plant_of}
use Rattle.statements.specs.Books.{two, bytes_of, book_states, withdrawn_book, returned_book, dropped_states}
use Rattle.statements.specs.Calls.{drop_room}
use Rattle.sets.proofs.Over.{over_length}
use Rattle.decoding.proofs.Sizes.{bytes_length, dropped_few, drops_fit}
use Rattle.decoding.proofs.Faults.{withdraw_ok}
use Rattle.demands.proofs.Demand2.{dropped_iff, dropped_rising}
use Rattle.demands.proofs.Returning.{gained_dropped, returning}
use Rattle.promises.specs.Answers.{Answer}
use Rattle.promises.specs.Says.{WithdrawSays, ReturnSays, Lists}
use Rattle.promises.proofs.Read.{no_fault, book_read, drops_are, list_is}

-- numbers read back from their bytes
read_back : (xs rest : List ℕ) → words (length xs) (bytes_of xs ++ rest) ≡ xs
unfolding words bytes_of two word
read_back [] rest = refl
read_back (x ∷ xs) rest =
    let here : x % 256 + 256 * (x / 256) ≡ x = omega arith in
    ap₂ (λ (y : ℕ) (ys : List ℕ). y ∷ ys) here (read_back xs rest)

module _ (xs d : List ℕ) where
  -- and from the buffer that these were written over
  over_read : words (length xs) (over (bytes_of xs) d) ≡ xs
  unfolding over
  over_read = read_back xs (drop (length (bytes_of xs)) d)

  -- which past them is as it was
  over_past : drop (2 * length xs) (over (bytes_of xs) d) ≡ drop (2 * length xs) d
  unfolding over
  over_past = drop_at (bytes_of xs) _ (2 * length xs) (bytes_length xs) ∙ rw bytes_length

-- numbers written over the first of a buffer, and how many they are: read back
pub list_read : (xs d d' : List ℕ) (n : ℕ) → n ≡ length xs → d' ≡ over (bytes_of xs) d → words n d' ≡ xs
list_read xs d d' n count list = rw (count, list) (over_read xs d)

-- the states kept in one book and lost in another, so written with room for every state
module _ (s one other d d' : List ℕ) (n : ℕ) (states : book_states one ≡ (plant_of s).states)
    (room : drop_room (plant_of s) (length d) ≡ true) (count : n ≡ length (dropped_states one other))
    (list : d' ≡ over (bytes_of (dropped_states one other)) d) where
  pub lists : Lists s one other d d' n
  lists =
      let dropped = dropped_states one other in
      let fits = drops_fit (plant_of s) (length d) room in
      let read = list_read dropped d d' n count list in
      record {
        listed = λ x. rw read (rw states at (dropped_iff one other x));
        rising = rw read (dropped_rising one other);
        size =
            ap length list
            ∙ over_length (bytes_of dropped) d (rw bytes_length (omega (arith, dropped_few one other, states)));
        past = rw (count, list) (over_past dropped d);
      }

-- the list of an accepted withdrawal as it is read
pub lists_dropped : {s b : List ℕ} {gone : ℕ} {o o' d d' : List ℕ} {r : Answer}
    → WithdrawSays s b gone o o' d d' r → r.number ≡ 0 → Lists s b (take r.length o') d d' r.drops
lists_dropped {s} {b} {gone} {o} {o'} {d} {d'} {r} says z =
    let w = says.writes in
    let ok = withdraw_ok s b gone (length o) (length d) (no_fault w z) in
    rw (book_read w z)
    (lists s b (withdrawn_book (plant_of s) b gone) d d' r.drops ok.lent.states ok.drops_ok (drops_are w z)
    (list_is w z))

-- and that of an accepted return
pub lists_gained : {s b : List ℕ} {back : ℕ} {o o' d d' : List ℕ} {r : Answer}
    → ReturnSays s b back o o' d d' r → r.number ≡ 0 → Lists s (take r.length o') b d d' r.drops
lists_gained {s} {b} {back} {o} {o'} {d} {d'} {r} says z =
    let w = says.writes in
    let fine = no_fault w z in
    let after = returned_book (plant_of s) b back in
    let same = gained_dropped b after in
    rw (book_read w z)
    (lists s after b d d' r.drops (returning.right s b back (length o) (length d) fine).is_book.states
    (withdraw_ok s b back (length o) (length d) fine).drops_ok (rw same at (drops_are w z)) (rw same at (list_is w z)))
