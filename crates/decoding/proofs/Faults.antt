-- What it gives that a plant, a book or a call is accepted, and what a call answers once the plant and book are.
-- Assumes nothing.
use mathlib.Core.Path.{◌≡◌, refl, sym, ap, ◌∙◌}
use mathlib.Core.Logic.{◌↔◌, inl, inr}
use mathlib.Core.Bool.{Bool, true, false, ◌&&◌, ◌||◌, not, true≢false}
use mathlib.Core.List.{List, [], ◌∷◌}
use Prim.Native.Nat.{ℕ, zero, suc, ◌*◌, ◌≤◌, ◌<◌}
use native.Mathlib.Omega.{arith}
use native.Mathlib.Decide.{dec_lt}
use lib.Dec.{eqb, ltb, leb}
use lib.ListN.{length, drop, get_or-eq_default}
use lib.Bits.{bit_or}
use borrow.Author.Tests.{ltb-true, leb-true, le-leb, eqb-true}
use Rattle.statements.specs.Sets.{every, bit, is_in}
use Rattle.statements.specs.Plants.{word, Arrow, Plant, words, plant_of, head_ok, labels_ok, arrows_ok, rank}
use Rattle.statements.specs.Plants.{first_of, when, plant_fault, allowed, ends_in}
use Rattle.statements.specs.Books.{book_long, book_states, book_moves, book_goals, book_mask, mask_ok, book_head_ok, rows_ok}
use Rattle.statements.specs.Books.{book_count, book_total, staged, is_lost, is_held, book_kept, book_fault, each_ok}
use Rattle.statements.specs.Books.{masks_of, union_of}
use Rattle.statements.specs.Calls.{mask_fault, whole_masks, masks_fault, book_room, drop_room, room_fault, make_fault, alike}
use Rattle.statements.specs.Calls.{lent_fault, withdraw_fault, withdraw_list_fault, preview_fault, makes, withdraws}
use Rattle.statements.specs.Calls.{return_fault, withdraws_list, returns, told_of}
use Rattle.sets.proofs.Tests.{decided, not_both, same_number, and_left, and_right, and_iff, or_cases}
use Rattle.sets.proofs.Members.{is_in_none, is_in_cons_if}
use Rattle.decoding.proofs.Masks.{or_ok, union_ok}
use Rattle.decoding.proofs.Sizes.{Sizes, entries_most, long_most, staged_of, staged_total}

pub first_iff : (a b : ℕ) → (first_of a b ≡ 0) ↔ ((a ≡ 0) × (b ≡ 0))
first_iff zero b = (λ h. (refl, h), λ h. h.1)
first_iff (suc a) b = (λ h. absurd (omega arith), λ h. h.0)

-- the first answer stands if it is not 0
pub first_given : (a b : ℕ) → (a ≡ 0 → ⊥) → first_of a b ≡ a
first_given zero b h = absurd (h refl)
first_given (suc a) b h = refl

-- and if it is, the second does
pub first_passed : (a b : ℕ) → a ≡ 0 → first_of a b ≡ b
first_passed zero b h = refl
first_passed (suc a) b h = absurd (omega arith)

-- a refusal when a test fails
pub when_iff : (t : Bool) (n : ℕ) → (when (not t) (suc n) ≡ 0) ↔ (t ≡ true)
when_iff true n = (λ h. refl, λ h. refl)
when_iff false n = (λ h. absurd (omega arith), λ h. absurd (true≢false (sym h)))

-- the sizes of an accepted plant, and its arrows
pub record PlantOk (p : Plant) : Type 0 where
  pub sizes : Sizes p.states p.moves p.goals
  pub labels_long : length p.labels ≡ p.states
  pub labels_ok_lem : labels_ok p.settles p.goals p.labels ≡ true
  pub arrows_ok_lem : arrows_ok p.states p.moves 0 p.arrows ≡ true

-- as many numbers are read as are asked for
pub words_length : (n : ℕ) (s : List ℕ) → length (words n s) ≡ n
unfolding words
words_length zero s = refl
words_length (suc n) s = ap suc (words_length n (drop 2 s))

-- an accepted plant's three tests
pub plant_tests : (s : List ℕ) → plant_fault s ≡ 0
    → let p = plant_of s in
    (head_ok s ≡ true) × (labels_ok p.settles p.goals p.labels ≡ true)
    × (arrows_ok p.states p.moves 0 p.arrows ≡ true)
unfolding plant_fault
plant_tests s h =
    let p = plant_of s in
    let rest = (first_iff (when (not (head_ok s)) 1) _).0 h in
    let last = (first_iff (when (not (labels_ok p.settles p.goals p.labels)) 2) _).0 rest.1 in
    ((when_iff (head_ok s) 0).0 rest.0, (when_iff _ 1).0 last.0, (when_iff _ 2).0 last.1)

pub plant_ok : (s : List ℕ) → plant_fault s ≡ 0 → PlantOk (plant_of s)
unfolding plant_of head_ok
plant_ok s h =
    let tests = plant_tests s h in
    let head = simp and_iff at tests.0 in
    record {
      sizes = omega (arith, leb-true);
      labels_long = words_length (word 0 s) (drop 16 s);
      labels_ok_lem = tests.1;
      arrows_ok_lem = tests.2;
    }

-- its states are few, and so are the entries and the bytes of its books
module _ (s : List ℕ) (fine : plant_fault s ≡ 0) where
  pub states_few : (plant_of s).states ≤ 1024
  states_few = (plant_ok s fine).sizes.states_most

  pub entries_few : (plant_of s).states * (plant_of s).goals ≤ 1024 * 8
  entries_few = entries_most (plant_ok s fine).sizes

  pub long_few : book_long (plant_of s).settles (plant_of s).states (plant_of s).goals ≤ 34832
  long_few = long_most (plant_ok s fine).sizes (plant_of s).settles

-- arrows in range start, move and end in range
pub arrow_range : (arrows : List Arrow) (s u least x v y : ℕ) → arrows_ok s u least arrows ≡ true
    → is_in y (ends_in arrows x v) ≡ true → (v < u) × (y < s) × (x < s)
unfolding arrows_ok ends_in
arrow_range [] s u least x v y ok h = absurd (is_in_none y h)
arrow_range (a ∷ rest) s u least x v y ok h =
    let from_ok = and_left (ltb a.from s) _ ok in
    let after_from = and_right (ltb a.from s) _ ok in
    let move_ok = and_left (ltb a.move u) _ after_from in
    let after_move = and_right (ltb a.move u) _ after_from in
    let to_ok = and_left (ltb a.to s) _ after_move in
    let after_to = and_right (ltb a.to s) _ after_move in
    let rest_ok = and_right (leb least (rank a)) _ after_to in
    elim (is_in_cons_if (eqb a.from x && eqb a.move v) y a.to (ends_in rest x v) h) [
      | inl e ↦
          let is_from = and_left (eqb a.from x) _ e.1 in
          let is_move = and_right (eqb a.from x) _ e.1 in
          let to_is = e.0 in
          omega (arith, ltb-true, eqb-true)
      | inr m ↦ arrow_range rest s u (suc (rank a)) x v y rest_ok m
    ]

-- a label is 0 past the last state
pub allowed_below : (p : Plant) → PlantOk p → (x : ℕ) → allowed p x ≡ true → x < p.states
unfolding allowed bit
allowed_below p ok x h =
    elim (dec_lt x p.states) [
      | yes l ↦ l
      | no l ↦
          let past : length p.labels ≤ x = omega arith in
          absurd (true≢false (sym (rw (get_or-eq_default p.labels 0 past) at h)))
    ]

-- an accepted book's header
pub record BookOk (b : List ℕ) : Type 0 where
  pub sizes : Sizes (book_states b) (book_moves b) (book_goals b)
  pub rows_at : word 6 b ≡ 16
  pub total : book_total b ≡ length b
  pub size : length b ≡ book_long (staged b) (book_states b) (book_goals b)
  pub mask_ok_lem : mask_ok (book_moves b) (book_mask b) ≡ true
  pub head : book_head_ok b ≡ true
  pub rows : rows_ok b ≡ true
  pub count : book_count b ≡ length (book_kept b)

-- the length is that of its sort
pub sort_size : (b : List ℕ) → book_total b ≡ length b →
    (eqb (book_total b) (book_long false (book_states b) (book_goals b)) || staged b) ≡ true →
    length b ≡ book_long (staged b) (book_states b) (book_goals b)
sort_size b e h =
    elim (decided (staged b)) [
      | inl t ↦ sym e ∙ staged_total b t ∙ ap (λ (s : Bool). book_long s (book_states b) (book_goals b)) (sym t)
      | inr f ↦
          elim (or_cases (eqb (book_total b) (book_long false (book_states b) (book_goals b))) (staged b) h) [
            | inl k ↦ sym e ∙ eqb-true _ _ k ∙ ap (λ (s : Bool). book_long s (book_states b) (book_goals b)) (sym f)
            | inr t ↦ absurd (not_both t f)
          ]
    ]

pub book_ok : (b : List ℕ) → book_fault b ≡ 0 → BookOk b
unfolding book_fault book_head_ok rows_ok
book_ok b h =
    let parts = (first_iff (when (not (book_head_ok b)) 4) _).0 h in
    let head_ok = (when_iff (book_head_ok b) 3).0 parts.0 in
    let rows_ok = (when_iff (rows_ok b) 4).0 parts.1 in
    let tests = simp and_iff at head_ok in
    record {
      sizes = omega (arith, leb-true);
      rows_at = omega (arith, eqb-true);
      total = omega (arith, eqb-true);
      size = sort_size b (omega (arith, eqb-true)) (search);
      mask_ok_lem = search;
      head = head_ok;
      rows = rows_ok;
      count = eqb-true _ _ (and_right (every (book_states b) 0 (λ x. is_lost b x || is_held b x)) _ rows_ok);
    }

-- an accepted make
pub record MakeOk (s : List ℕ) (mask room : ℕ) : Type 0 where
  pub plant : plant_fault s ≡ 0
  pub mask_ok_lem : mask_ok (plant_of s).moves mask ≡ true
  pub room_ok : book_room (plant_of s) room ≡ true

pub make_ok : (s : List ℕ) (mask room : ℕ) → make_fault s mask room ≡ 0 → MakeOk s mask room
unfolding make_fault mask_fault
make_ok s mask room h =
    let p = plant_of s in
    let all = (first_iff (plant_fault s) _).0 h in
    let later = (first_iff (when (not (mask_ok p.moves mask)) 6) _).0 all.1 in
    record { plant = all.0; mask_ok_lem = (when_iff _ 5).0 later.0; room_ok = (when_iff _ 6).0 later.1 }

-- a plant and a book for it that are accepted
pub record LentOk (s b : List ℕ) : Type 0 where
  pub plant : plant_fault s ≡ 0
  pub book : book_fault b ≡ 0
  pub states : book_states b ≡ (plant_of s).states
  pub moves : book_moves b ≡ (plant_of s).moves
  pub goals : book_goals b ≡ (plant_of s).goals
  pub sort : staged b ≡ (plant_of s).settles
  pub mask_ok_lem : mask_ok (plant_of s).moves (book_mask b) ≡ true

pub lent_ok : (s b : List ℕ) → lent_fault s b ≡ 0 → LentOk s b
unfolding lent_fault alike
lent_ok s b h =
    let p = plant_of s in
    let all = (first_iff (plant_fault s) _).0 h in
    let later = (first_iff (when (not (book_head_ok b && alike p b)) 4) _).0 all.1 in
    let same = and_right (book_head_ok b) (alike p b) ((when_iff (book_head_ok b && alike p b) 3).0 later.0) in
    let sizes = simp and_iff at same in
    let moves_same : book_moves b ≡ p.moves = omega (arith, eqb-true) in
    let states_same : book_states b ≡ p.states = omega (arith, eqb-true) in
    let goals_same : book_goals b ≡ p.goals = omega (arith, eqb-true) in
    let total_same : book_total b ≡ book_long p.settles p.states p.goals = omega (arith, eqb-true) in
    let some_state : 0 < book_states b = (book_ok b later.1).sizes.states_least in
    record {
      plant = all.0;
      book = later.1;
      states = states_same;
      moves = moves_same;
      goals = goals_same;
      sort = staged_of b p.settles (rw (states_same, goals_same) total_same) some_state;
      mask_ok_lem = rw moves_same at (book_ok b later.1).mask_ok_lem;
    }

-- what it takes for that
pub lent_fine : (s b : List ℕ) → plant_fault s ≡ 0 → book_fault b ≡ 0 → alike (plant_of s) b ≡ true → lent_fault s b ≡ 0
unfolding lent_fault
lent_fine s b h hb same = rw (h, (book_ok b hb).head, same, hb)

-- an accepted withdrawal
pub record WithdrawOk (s b : List ℕ) (gone room drops : ℕ) : Type 0 where
  pub lent : LentOk s b
  pub gone_ok : mask_ok (plant_of s).moves gone ≡ true
  pub room_ok : book_room (plant_of s) room ≡ true
  pub drops_ok : drop_room (plant_of s) drops ≡ true

pub withdraw_ok : (s b : List ℕ) (gone room drops : ℕ) → withdraw_fault s b gone room drops ≡ 0
    → WithdrawOk s b gone room drops
unfolding withdraw_fault mask_fault room_fault
withdraw_ok s b gone room drops h =
    let p = plant_of s in
    let all = (first_iff (lent_fault s b) _).0 h in
    let later = (first_iff (when (not (mask_ok p.moves gone)) 6) _).0 all.1 in
    let rooms = (and_iff (book_room p room) (drop_room p drops)).0 ((when_iff _ 6).0 later.1) in
    record {
      lent = lent_ok s b all.0;
      gone_ok = (when_iff _ 5).0 later.0;
      room_ok = rooms.0;
      drops_ok = rooms.1;
    }

-- it is accepted only where a make with the book's own moves is
pub withdraw_make : (s b : List ℕ) (gone room drops : ℕ) → withdraw_fault s b gone room drops ≡ 0
    → make_fault s (book_mask b) room ≡ 0
unfolding make_fault mask_fault
withdraw_make s b gone room drops h =
    let ok = withdraw_ok s b gone room drops h in
    rw (ok.lent.plant, ok.lent.mask_ok_lem, ok.room_ok)

-- to return moves is accepted only where a make with them and the book's own is
pub return_make : (s b : List ℕ) (back room gained : ℕ) → return_fault s b back room gained ≡ 0
    → make_fault s (bit_or (book_mask b) back) room ≡ 0
unfolding make_fault mask_fault
return_make s b back room gained h =
    let ok = withdraw_ok s b back room gained h in
    rw (ok.lent.plant, or_ok (plant_of s).moves (book_mask b) back, ok.lent.mask_ok_lem, ok.gone_ok, ok.room_ok)

-- a list of withdrawals
module _ (s b m : List ℕ) (room drops : ℕ) where
  -- a whole one is answered as one withdrawal of all moves that its masks name
  pub list_as : whole_masks m ≡ true
      → withdraw_list_fault s b m room drops ≡ withdraw_fault s b (union_of (masks_of m)) room drops
  unfolding withdraw_list_fault withdraw_fault masks_fault mask_fault
  list_as h = rw (h, union_ok (plant_of s).moves (masks_of m))

  module _ (h : withdraw_list_fault s b m room drops ≡ 0) where
    -- an accepted one has no fault in what is lent, its masks and its buffers
    pub list_parts : (lent_fault s b ≡ 0) × (masks_fault (plant_of s) m ≡ 0) × (room_fault (plant_of s) room drops ≡ 0)
    unfolding withdraw_list_fault
    list_parts =
        let all = (first_iff (lent_fault s b) _).0 h in
        let later = (first_iff (masks_fault (plant_of s) m) _).0 all.1 in
        (all.0, later.0, later.1)

    -- it is whole, and each mask names moves of the plant alone
    pub list_masks : (whole_masks m ≡ true) × (each_ok (plant_of s).moves (masks_of m) ≡ true)
    unfolding masks_fault
    list_masks =
        let parts = (first_iff (when (not (whole_masks m)) 9) _).0 list_parts.1 in
        ((when_iff _ 8).0 parts.0, (when_iff _ 5).0 parts.1)

    -- so that one withdrawal of all moves that they name is accepted
    pub list_at_once : withdraw_fault s b (union_of (masks_of m)) room drops ≡ 0
    list_at_once = sym (list_as list_masks.0) ∙ h

-- a preview answers as the withdrawal does with a book buffer that is long enough; 34,832 bytes are, unless the plant
-- is refused
module _ (s b : List ℕ) (gone room drops : ℕ) where
  pub preview_as : book_long (plant_of s).settles (plant_of s).states (plant_of s).goals ≤ room
      → preview_fault s b gone drops ≡ withdraw_fault s b gone room drops
  unfolding preview_fault withdraw_fault room_fault book_room
  preview_as h = rw (le-leb _ _ h)

  pub preview_as_longest : room ≡ 34832 → preview_fault s b gone drops ≡ withdraw_fault s b gone room drops
  unfolding preview_fault withdraw_fault
  preview_as_longest e =
      elim (same_number (lent_fault s b) 0) [
        | inl z ↦ preview_as (omega (arith, long_few s (lent_ok s b z).plant))
        | inr h ↦ first_given (lent_fault s b) _ h ∙ sym (first_given (lent_fault s b) _ h)
      ]

-- once the plant is accepted, a make answers as told from the call alone
pub make_told : (s : List ℕ) (mask room drops : ℕ) → plant_fault s ≡ 0
    → make_fault s mask room ≡ (told_of (plant_of s) (makes mask)).number room drops
unfolding make_fault told_of
make_told s mask room drops h = rw h

-- and so do a withdrawal, a list of them and a return, once the book is accepted with the plant
module _ (s b : List ℕ) (room drops : ℕ) (h : lent_fault s b ≡ 0) where
  pub withdraw_told : (gone : ℕ)
      → withdraw_fault s b gone room drops ≡ (told_of (plant_of s) (withdraws gone)).number room drops
  unfolding withdraw_fault told_of
  withdraw_told gone = rw h

  pub list_told : (m : List ℕ)
      → withdraw_list_fault s b m room drops ≡ (told_of (plant_of s) (withdraws_list m)).number room drops
  unfolding withdraw_list_fault told_of
  list_told m = rw h

  pub return_told : (back : ℕ)
      → return_fault s b back room drops ≡ (told_of (plant_of s) (returns back)).number room drops
  unfolding withdraw_fault told_of
  return_told back = rw h
