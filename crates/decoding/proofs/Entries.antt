-- The entries of a book's bytes read back: a kept state's wait and move, and a lost state's marks. Assumes nothing.
use mathlib.Core.Path.{◌≡◌, refl, ap, ◌∙◌}
use mathlib.Core.Bool.{Bool, true, false, ◌&&◌}
use mathlib.Core.List.{List, [], ◌++◌, append_assoc}
use Prim.Native.Nat.{ℕ, suc, ◌+◌, ◌-◌, ◌*◌, ◌≤◌, ◌<◌}
use native.Mathlib.Omega.{arith}
use native.Mathlib.Nat.{zero-add}
use borrow.Author.Tests.{eqb-true}
use lib.Dec.{eqb}
use lib.ListN.{length, take, drop}
use lib.Seq.{drop-drop, drop-append-le, drop-append-add, take-append_seam}
use Rattle.statements.specs.Sets.{pick, is_in, joined}
use Rattle.statements.specs.Plants.{word, Plant}
use Rattle.statements.specs.Kept.{stage_of, wait_of, listed_move}
use Rattle.statements.specs.Books.{two, lost_mark, entry_of, stage_part, row_of, head_of, book_bytes, book_goals, row_place}
use Rattle.statements.specs.Books.{entry_place, row_long, staged, wait_at, move_at, stage_at, stage_lost, is_lost}
use Rattle.sets.proofs.Tests.{and_left, and_right}
use Rattle.sets.proofs.Numbers.{every_at}
use Rattle.sets.proofs.Joined.{joined_drop}
use Rattle.decoding.proofs.Sizes.{opening, row_place_lem, entry_place_lem, row_long_lem}
use Rattle.decoding.proofs.Header.{entry_length, stage_length, row_length, read_goals, read_staged}

module _ (p : Plant) (mask : ℕ) (kept : List ℕ) where
  head_drop : (n : ℕ) → drop (16 + n) (book_bytes p mask kept) ≡ drop n (joined p.states 0 (row_of p mask kept))
  unfolding book_bytes head_of two
  head_drop n = drop-append-add (head_of p mask kept) (joined p.states 0 (row_of p mask kept)) n

  abbrev below : ℕ → List ℕ
  below x = joined (p.states - suc x) (suc x) (row_of p mask kept)

  -- the row of state x stands where it is looked for
  row_there : (x : ℕ) → x < p.states
      → drop (x * (opening p.settles + p.goals * 4)) (joined p.states 0 (row_of p mask kept))
      ≡ row_of p mask kept x ++ below x
  row_there x hx =
      rw zero-add at (joined_drop (row_of p mask kept) (opening p.settles + p.goals * 4) (row_length p mask kept)
      p.states 0 x hx)

  row_drop : (x : ℕ) → x < p.states
      → let b = book_bytes p mask kept in
      drop (row_place b x) b ≡ row_of p mask kept x ++ below x
  row_drop x hx =
      let b = book_bytes p mask kept in
      rw (row_place_lem b x, read_staged p mask kept (omega arith), read_goals, head_drop, row_there x hx)

  -- and is as long as rows are
  pub row_at : (x : ℕ) → x < p.states
      → let b = book_bytes p mask kept in
      take (row_long b) (drop (row_place b x) b) ≡ row_of p mask kept x
  row_at x hx =
      let b = book_bytes p mask kept in
      rw (row_long_lem b, read_staged p mask kept (omega arith), read_goals, ← row_length p mask kept x, row_drop x hx)
      (take-append_seam (row_of p mask kept x) (below x))

  -- the entry of state x and goal i stands where it is looked for
  entry_there : (x i : ℕ) → x < p.states → i < p.goals
      → let b = book_bytes p mask kept in
      (end : List ℕ) × (drop (entry_place b x i) b ≡ entry_of p mask kept x i ++ end)
  unfolding row_of
  entry_there x i hx hi =
      let b = book_bytes p mask kept in
      let o = opening p.settles in
      let entries = joined p.goals 0 (entry_of p mask kept x) in
      let more = joined (p.goals - suc i) (suc i) (entry_of p mask kept x) in
      let entry : drop (i * 4) entries ≡ entry_of p mask kept x i ++ more =
      rw zero-add at (joined_drop (entry_of p mask kept x) 4 (entry_length p mask kept x) p.goals 0 i hi) in
      let after_stage : drop (o + i * 4) (row_of p mask kept x) ≡ drop (i * 4) entries =
      rw (← stage_length p mask kept x) (drop-append-add (stage_part p mask kept x) entries (i * 4)) in
      let inside : o + i * 4 ≤ length (row_of p mask kept x) = omega (arith, row_length p mask kept x) in (
        more ++ below x,
        rw (
          entry_place_lem b x i,
          read_staged p mask kept (omega arith),
          read_goals,
          head_drop,
          ← drop-drop,
          row_there x hx,
          drop-append-le (o + i * 4),
          after_stage,
          entry,
          append_assoc,
        ),
      )

  -- and so does its stage
  stage_there : (x : ℕ) → x < p.states
      → let b = book_bytes p mask kept in
      (end : List ℕ) × (drop (row_place b x) b ≡ stage_part p mask kept x ++ end)
  unfolding row_of
  stage_there x hx = (joined p.goals 0 (entry_of p mask kept x) ++ below x, rw (row_drop x hx, append_assoc))

  -- in a book without stages all count as of stage 1
  pub stage_plain : p.settles ≡ false → 0 < p.states → (x : ℕ) → stage_at (book_bytes p mask kept) x ≡ 1
  unfolding stage_at
  stage_plain e l x = rw (read_staged p mask kept l, e) refl

  module _ (e : p.settles ≡ true) (x : ℕ) (hx : x < p.states) where
    with_stages : staged (book_bytes p mask kept) ≡ true
    with_stages = read_staged p mask kept (omega arith) ∙ e

    stage_part_lem : stage_part p mask kept x ≡ two (pick (is_in x kept) (stage_of p mask kept x) lost_mark)
    unfolding stage_part
    stage_part_lem = ap (λ t. pick t (two (pick (is_in x kept) (stage_of p mask kept x) lost_mark)) []) e

    pub stage_kept : is_in x kept ≡ true → stage_at (book_bytes p mask kept) x ≡ stage_of p mask kept x
    unfolding stage_at two word
    stage_kept h = rw (with_stages, (stage_there x hx).1, stage_part_lem, h) (omega arith)

    pub stage_lost_lem : is_in x kept ≡ false → stage_at (book_bytes p mask kept) x ≡ lost_mark
    unfolding stage_at two word
    stage_lost_lem h = rw (with_stages, (stage_there x hx).1, stage_part_lem, h)

  module _ (x i : ℕ) (hx : x < p.states) (hi : i < p.goals) where
    pub wait_kept : is_in x kept ≡ true → wait_at (book_bytes p mask kept) x i ≡ wait_of p mask kept i x
    unfolding wait_at entry_of two word
    wait_kept h = rw ((entry_there x i hx hi).1, h) (omega arith)

    pub move_kept : is_in x kept ≡ true → move_at (book_bytes p mask kept) x i ≡ listed_move p mask kept i x
    unfolding move_at entry_of two word
    move_kept h = rw ((entry_there x i hx hi).1, h) (omega arith)

    pub wait_lost : is_in x kept ≡ false → wait_at (book_bytes p mask kept) x i ≡ lost_mark
    unfolding wait_at entry_of two word
    wait_lost h = rw ((entry_there x i hx hi).1, h)

    pub move_lost : is_in x kept ≡ false → move_at (book_bytes p mask kept) x i ≡ lost_mark
    unfolding move_at entry_of two word
    move_lost h = rw ((entry_there x i hx hi).1, h)

-- any book's entries of a lost state
pub lost_marks : (b : List ℕ) (x i : ℕ) → is_lost b x ≡ true → i < book_goals b
    → (wait_at b x i ≡ lost_mark) × (move_at b x i ≡ lost_mark)
unfolding is_lost
lost_marks b x i h hi =
    let marked : ℕ → Bool = λ i. eqb (wait_at b x i) lost_mark && eqb (move_at b x i) lost_mark in
    let here = every_at (book_goals b) 0 marked (and_right (stage_lost b x) _ h) i (omega arith) (omega arith) in
    let wait_mark = and_left (eqb (wait_at b x i) lost_mark) _ here in
    let move_mark = and_right (eqb (wait_at b x i) lost_mark) _ here in
    omega (arith, eqb-true)

-- and its stage, where there are stages
pub lost_stage : (b : List ℕ) (x : ℕ) → staged b ≡ true → is_lost b x ≡ true → stage_at b x ≡ lost_mark
unfolding is_lost stage_lost
lost_stage b x e h = eqb-true _ _ (rw e at (and_left (stage_lost b x) _ h))
