-- Request (x): what is reachable from a state is a part that moves in service do not leave, and plants that agree there
-- have the same kept states, stages, waits and listed moves there; so the rows are the same, byte for byte. Assumes
-- nothing.
use mathlib.Core.Path.{◌≡◌, refl, sym, subst, ◌∙◌, ap, ap₂}
use mathlib.Core.Logic.{⊎_elim}
use mathlib.Core.Bool.{Bool, true, false}
use mathlib.Core.List.{List, [], ◌++◌}
use Prim.Native.Nat.{ℕ, ◌<◌}
use native.Mathlib.Omega.{arith}
use Rattle.statements.specs.Sets.{pick, is_in, joined}
use Rattle.statements.specs.Plants.{Plant, plant_of, allowed}
use Rattle.statements.specs.Kept.{kept_within, wait_of, listed_move}
use Rattle.statements.specs.Books.{two, lost_mark, entry_of, stage_part, row_of, book_within, made_book}
use Rattle.statements.specs.Calls.{make_fault, row_part, Call, in_service}
use Rattle.statements.specs.Elsewhere.{Reachable, itself, further, AgreeFrom, SameFigures, BothMade, SameRow, Elsewhere}
use Rattle.sets.proofs.Joined.{joined_same}
use Rattle.kept.proofs.Alike.{Alike, allowed_is, kept_is, stage_is}
use Rattle.kept.proofs.AlikeWaits.{wait_is, listed_is}
use Rattle.decoding.proofs.Header.{read_states, read_goals}
use Rattle.decoding.proofs.Entries.{row_at}
use Rattle.decoding.proofs.Asked.{is_fine}
use Rattle.decoding.proofs.Faults.{PlantOk, plant_ok, make_ok}
use Rattle.demands.proofs.Plants.{Given, to_below, given_allowed, given_made, some_goal}
use Rattle.demands.proofs.Books.{accepted}
use Rattle.demands.proofs.Demand3.{service_ok, demand_3}

-- what is reachable from a state of an accepted plant is one of its states
reach_below : (p : Plant) (mask x : ℕ) → PlantOk p → x < p.states → {y : ℕ} → Reachable p mask x y → y < p.states
reach_below p mask x ok l itself = l
reach_below p mask x ok l (further z u y r b e) = to_below p ok z u y e

-- what is reachable in one plant is so in another that agrees with it
reach_to : (p q : Plant) (mask x : ℕ) → AgreeFrom p q mask x → {y : ℕ} → Reachable p mask x y → Reachable q mask x y
reach_to p q mask x agree itself = itself
reach_to p q mask x agree (further z u y r b e) =
    further z u y (reach_to p q mask x agree r) b (sym ((agree z r).arrows u y b) ∙ e)

-- and the other way
reach_from : (p q : Plant) (mask x : ℕ) → AgreeFrom p q mask x → {y : ℕ} → Reachable q mask x y → Reachable p mask x y
reach_from p q mask x agree itself = itself
reach_from p q mask x agree (further z u y r b e) =
    let before = reach_from p q mask x agree r in
    further z u y before b ((agree z before).arrows u y b ∙ e)

-- the part that row hands back of a book that is made
row_part_lem : {p : Plant} {mask : ℕ} {within : ℕ → Bool} → Given p mask within → (x : ℕ) → x < p.states →
    row_part (book_within p mask within) x ≡ row_of p mask (kept_within p mask within) x
unfolding row_part book_within
row_part_lem {p} {mask} {within} given x hx =
    let kept = kept_within p mask within in
    rw (is_fine (book_within p mask within) x 0 (accepted given) (omega (arith, read_states p mask kept))
    (omega (arith, read_goals p mask kept, some_goal given)))
    (row_at p mask kept x hx)

-- one list if a test holds and another if not: the one counts only where it does
pick_same : (t : Bool) (xs ys zs : List ℕ) → (t ≡ true → xs ≡ ys) → pick t xs zs ≡ pick t ys zs
pick_same true xs ys zs same = same refl
pick_same false xs ys zs same = refl

-- the rows of plants that are alike on a part
module _ (p q : Plant) (mask : ℕ) (goal : 0 < p.goals) (C : ℕ → Type 0) (a : Alike p q mask C) (x : ℕ) (c : C x) where
  abbrev Here : List ℕ
  Here = kept_within p mask (allowed p)

  abbrev There : List ℕ
  There = kept_within q mask (allowed q)

  both : is_in x Here ≡ is_in x There
  both = kept_is p q mask C a (allowed p) (allowed q) (allowed_is p q mask C a) x c

  entry_is : (i : ℕ) → i < p.goals → entry_of p mask Here x i ≡ entry_of q mask There x i
  unfolding entry_of
  entry_is i l =
      let alike = allowed_is p q mask C a in
      let marks = two lost_mark ++ two lost_mark in
      let other = two (wait_of q mask There i x) ++ two (listed_move q mask There i x) in
      pick_same (is_in x Here) (two (wait_of p mask Here i x) ++ two (listed_move p mask Here i x)) other marks
      (λ h. ap₂ (λ wait move. two wait ++ two move)
      (wait_is p q mask C a goal (allowed p) (allowed q) alike i l x c h)
      (listed_is p q mask C a goal (allowed p) (allowed q) alike i l x c h)) ∙
      ap (λ t. pick t other marks) both

  opening_is : stage_part p mask Here x ≡ stage_part q mask There x
  unfolding stage_part
  opening_is =
      let same = kept_is p q mask C a (allowed p) (allowed q) (allowed_is p q mask C a) in
      ap₂ (λ sort stage. pick sort (two stage) []) a.settles_are
      (ap₂ (λ kept stage. pick kept stage lost_mark) both (stage_is p q mask C a Here There same x c))

  row_is : row_of p mask Here x ≡ row_of q mask There x
  unfolding row_of
  row_is =
      ap₂ (λ start entries. start ++ entries) opening_is
      (joined_same (entry_of p mask Here x) (entry_of q mask There x) p.goals 0 (λ i l h. entry_is i (omega arith)) ∙
      ap (λ n. joined n 0 (entry_of q mask There x)) a.goals_are)

-- plants that agree on what is reachable from a state are alike there
alike_from : (p q : Plant) (mask x : ℕ) → SameFigures p q → AgreeFrom p q mask x → Alike p q mask (Reachable p mask x)
alike_from p q mask x figures agree =
    record {
      states_are = figures.states;
      moves_are = figures.moves;
      goals_are = figures.goals;
      settles_are = figures.settles;
      label = λ y r. (agree y r).label;
      arrows = λ y u z r b. (agree y r).arrows u z b;
      closed = λ y u z r b e. further y u z r b e;
    }

-- the rows of two books that are made, of the state and of what is reachable from it
rows_are : (p q : Plant) (mask x y : ℕ) → Given p mask (allowed p) → Given q mask (allowed q) → SameFigures p q →
    x < p.states → AgreeFrom p q mask x → Reachable p mask x y →
    row_part (made_book p mask) y ≡ row_part (made_book q mask) y
unfolding made_book
rows_are p q mask x y given other figures l agree r =
    let below = reach_below p mask x given.plant l r in
    row_part_lem given y below ∙
    row_is p q mask (some_goal given) (Reachable p mask x) (alike_from p q mask x figures agree) y r ∙
    sym (row_part_lem other y (let e = figures.states in omega arith))

pub elsewhere : Elsewhere
elsewhere =
    record {
      same_row = λ s t mask x both l agree. made s t mask x x both l agree itself;
      onward = made;
      same_reach = λ p q mask x agree y. (reach_to p q mask x agree, reach_from p q mask x agree);
      inside = λ s mask x y fine l r. reach_below (plant_of s) mask x (plant_ok s fine) l r;
      untouched = λ s t mask x both l each.
          made s t mask x x both l
          (λ y r.
          ⊎_elim (λ same. same) (λ far. absurd (far r))
          (each y (reach_below (plant_of s) mask x (given_made s mask both.room both.made).plant l r)))
          itself;
      after_calls = λ s t mask room other_mask other_room x calls other_calls fine other_fine figures same l agree.
          let p = plant_of s in
          let q = plant_of t in
          let now_in = in_service p mask calls in
          let other : Given q now_in (allowed q) =
          subst (λ (n : ℕ). Given q n (allowed q)) (sym same) (after t other_mask other_room other_calls other_fine) in
          rw (
            demand_3.as_afresh s mask room calls fine,
            demand_3.as_afresh t other_mask other_room other_calls other_fine,
            ← same,
          )
          (rows_are p q now_in x x (after s mask room calls fine) other figures l agree itself);
    }
  where
    -- what lists of calls leave in service is a mask of the plant's moves
    after : (s : List ℕ) (mask room : ℕ) (calls : List Call) → make_fault s mask room ≡ 0 →
        Given (plant_of s) (in_service (plant_of s) mask calls) (allowed (plant_of s))
    after s mask room calls fine =
        let ok = make_ok s mask room fine in
        given_allowed (plant_of s) (in_service (plant_of s) mask calls) (plant_ok s ok.plant)
        (service_ok s ok.plant mask calls ok.mask_ok_lem)

    made : (s t : List ℕ) (mask x y : ℕ) → BothMade s t mask → x < (plant_of s).states →
        AgreeFrom (plant_of s) (plant_of t) mask x → Reachable (plant_of s) mask x y → SameRow s t mask y
    made s t mask x y both l agree r =
        rows_are (plant_of s) (plant_of t) mask x y (given_made s mask both.room both.made)
        (given_made t mask both.other_room both.other_made) both.figures l agree r
