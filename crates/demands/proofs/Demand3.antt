-- Demand 3: after any list of calls the standing book is that of a making afresh. The book of a making is accepted, so
-- that each call answers as told from the calls alone, and what it writes is such a book again. Assumes nothing.
use mathlib.Core.Path.{◌≡◌, refl, sym, ◌∙◌, ap}
use mathlib.Core.Logic.{inl, inr}
use mathlib.Core.Bool.{true}
use mathlib.Core.List.{List, [], ◌∷◌}
use Prim.Native.Nat.{ℕ}
use lib.Dec.{eqb}
use borrow.Author.Tests.{eqb-true}
use Rattle.statements.specs.Plants.{plant_of, plant_fault}
use Rattle.statements.specs.Books.{mask_ok, made_book, masks_of, union_of, withdrawn_list}
use Rattle.statements.specs.Calls.{make_fault, lent_fault, Ask, Call, makes, withdraws, withdraws_list, returns, makes_by}
use Rattle.statements.specs.Calls.{withdraws_by, effect_of, answer_of, standing_after, standing, answers, told_of}
use Rattle.statements.specs.Calls.{number_told, told, put_after, in_service}
use Rattle.statements.specs.Demands.{Allowed, Right, Demand3}
use Rattle.sets.proofs.Tests.{decided, and_true}
use Rattle.decoding.proofs.Masks.{less_ok, or_ok}
use Rattle.decoding.proofs.Faults.{plant_ok, make_ok, lent_fine, withdraw_ok, make_told, withdraw_told, list_told}
use Rattle.decoding.proofs.Faults.{return_told}
use Rattle.decoding.proofs.Indexed.{by_parts, make_by_told, withdraw_by_told}
use Rattle.demands.proofs.Plants.{given_allowed}
use Rattle.demands.proofs.Books.{right}
use Rattle.demands.proofs.Service.{in_service_lem}
use Rattle.demands.proofs.Afresh.{made_same, made_alike, made_accepted, withdrawn_afresh, in_turn_afresh}
use Rattle.demands.proofs.Afresh.{returned_afresh}

-- what demand 3 needs of a call on the book of a making: it answers as told from the call alone; what it writes is the
-- book of a making afresh; and accepted, it puts a mask of the plant's moves in service
pub record Lawful (s : List ℕ) (mask : ℕ) (ask : Ask) : Type 0 where
  pub answers_told : (room drops : ℕ) →
      (effect_of s (made_book (plant_of s) mask) ask).number room drops ≡ (told_of (plant_of s) ask).number room drops
  pub writes_afresh :
      (effect_of s (made_book (plant_of s) mask) ask).book ≡ made_book (plant_of s) ((told_of (plant_of s) ask).put mask)
  pub puts_moves : (room drops : ℕ) → (told_of (plant_of s) ask).number room drops ≡ 0 →
      mask_ok (plant_of s).moves ((told_of (plant_of s) ask).put mask) ≡ true

module _ (s : List ℕ) (accepted : plant_fault s ≡ 0) where
  module _ (mask : ℕ) (ok : mask_ok (plant_of s).moves mask ≡ true) where
    -- the book of a making is accepted with its plant
    pub made_lent : lent_fault s (made_book (plant_of s) mask) ≡ 0
    made_lent =
        lent_fine s (made_book (plant_of s) mask) accepted (made_accepted (plant_of s) (plant_ok s accepted) mask ok)
        (made_alike (plant_of s) mask)

    -- so that every call on it is lawful
    pub lawful : (ask : Ask) → Lawful s mask ask
    unfolding told_of withdrawn_list
    lawful (makes new) =
        record {
          answers_told = λ room drops. make_told s new room drops accepted;
          writes_afresh = refl;
          puts_moves = λ room drops e. (make_ok s new room (make_told s new room drops accepted ∙ e)).mask_ok_lem;
        }
    lawful (withdraws gone) =
        record {
          answers_told = λ room drops. withdraw_told s (made_book (plant_of s) mask) room drops made_lent gone;
          writes_afresh = withdrawn_afresh (plant_of s) (plant_ok s accepted) mask ok gone;
          puts_moves = λ room drops e. less_ok (plant_of s).moves mask gone ok;
        }
    lawful (withdraws_list masks) =
        record {
          answers_told = λ room drops. list_told s (made_book (plant_of s) mask) room drops made_lent masks;
          writes_afresh = in_turn_afresh (plant_of s) (plant_ok s accepted) mask ok (masks_of masks);
          puts_moves = λ room drops e. less_ok (plant_of s).moves mask (union_of (masks_of masks)) ok;
        }
    lawful (returns back) =
        record {
          answers_told = λ room drops. return_told s (made_book (plant_of s) mask) room drops made_lent back;
          writes_afresh = returned_afresh (plant_of s) (plant_ok s accepted) mask ok back;
          puts_moves = λ room drops e.
              let b = made_book (plant_of s) mask in
              let back_ok = (withdraw_ok s b back room drops (return_told s b room drops made_lent back ∙ e)).gone_ok in
              or_ok (plant_of s).moves mask back ∙ and_true ok back_ok;
        }
    lawful (makes_by index new) =
        record {
          answers_told = λ room drops. make_by_told s index new room drops accepted;
          writes_afresh = refl;
          puts_moves = λ room drops e.
              let plain = (by_parts s index _ (make_by_told s index new room drops accepted ∙ e)).2 in
              (make_ok s new room plain).mask_ok_lem;
        }
    lawful (withdraws_by index gone) =
        record {
          answers_told = λ room drops.
              withdraw_by_told s (made_book (plant_of s) mask) index gone room drops accepted made_lent;
          writes_afresh = withdrawn_afresh (plant_of s) (plant_ok s accepted) mask ok gone;
          puts_moves = λ room drops e. less_ok (plant_of s).moves mask gone ok;
        }

    pub answer_told : (c : Call) → answer_of s (made_book (plant_of s) mask) c ≡ number_told (plant_of s) c
    unfolding answer_of number_told
    answer_told c = (lawful c.ask).answers_told c.room c.drops

    -- any call leaves one there
    pub after_ok : (c : Call) → mask_ok (plant_of s).moves (put_after (plant_of s) mask c) ≡ true
    unfolding put_after number_told
    after_ok c =
        elim (decided (eqb (number_told (plant_of s) c) 0)) [
          | inl e ↦ rw e ((lawful c.ask).puts_moves c.room c.drops (eqb-true (number_told (plant_of s) c) 0 e))
          | inr e ↦ rw e ok
        ]

    -- and the book of a making afresh standing
    pub after_afresh :
        (c : Call) →
        standing_after s (made_book (plant_of s) mask) c ≡ made_book (plant_of s) (put_after (plant_of s) mask c)
    unfolding standing_after put_after
    after_afresh c =
        rw (answer_told c)
        (elim (decided (eqb (number_told (plant_of s) c) 0)) [
          | inl e ↦ rw e (lawful c.ask).writes_afresh
          | inr e ↦ rw e refl
        ])

  -- after any list of calls the moves in service are the plant's
  pub service_ok :
      (mask : ℕ) (calls : List Call) → mask_ok (plant_of s).moves mask ≡ true →
      mask_ok (plant_of s).moves (in_service (plant_of s) mask calls) ≡ true
  unfolding in_service
  service_ok mask [] ok = ok
  service_ok mask (c ∷ cs) ok = service_ok (put_after (plant_of s) mask c) cs (after_ok mask ok c)

  -- the standing book is that of a making afresh
  pub standing_afresh :
      (mask : ℕ) (calls : List Call) → mask_ok (plant_of s).moves mask ≡ true →
      standing s (made_book (plant_of s) mask) calls ≡ made_book (plant_of s) (in_service (plant_of s) mask calls)
  unfolding standing in_service
  standing_afresh mask [] ok = refl
  standing_afresh mask (c ∷ cs) ok =
      rw (after_afresh mask ok c) (standing_afresh (put_after (plant_of s) mask c) cs (after_ok mask ok c))

  -- so that it is right
  pub standing_right :
      (mask : ℕ) (calls : List Call) → mask_ok (plant_of s).moves mask ≡ true →
      Right (plant_of s) (in_service (plant_of s) mask calls) (Allowed (plant_of s))
      (standing s (made_book (plant_of s) mask) calls)
  unfolding made_book
  standing_right mask calls ok =
      let p = plant_of s in
      rw (standing_afresh mask calls ok)
      (right (given_allowed p (in_service p mask calls) (plant_ok s accepted) (service_ok mask calls ok)))

  -- and each call answers as told from the calls alone
  pub answers_told :
      (mask : ℕ) (calls : List Call) → mask_ok (plant_of s).moves mask ≡ true →
      answers s (made_book (plant_of s) mask) calls ≡ told (plant_of s) calls
  unfolding answers told
  answers_told mask [] ok = refl
  answers_told mask (c ∷ cs) ok =
      rw (answer_told mask ok c, after_afresh mask ok c)
      (ap (λ l. number_told (plant_of s) c ∷ l) (answers_told (put_after (plant_of s) mask c) cs (after_ok mask ok c)))

-- demand 3
pub demand_3 : Demand3
demand_3 =
    record {
      service = in_service_lem;
      as_afresh = afresh;
      right = λ s mask room calls h.
          let ok = make_ok s mask room h in
          standing_right s ok.plant mask calls ok.mask_ok_lem;
      told_alone = λ s mask room calls h.
          let ok = make_ok s mask room h in
          answers_told s ok.plant mask calls ok.mask_ok_lem;
      equal_books = λ s mask room other_mask other_room calls other_calls h g.
          let p = plant_of s in
          let one = afresh s mask room calls h in
          let two = afresh s other_mask other_room other_calls g in (
            λ e. made_same p (in_service p mask calls) (in_service p other_mask other_calls) (sym one ∙ e ∙ two),
            λ e. one ∙ ap (made_book p) e ∙ sym two,
          );
    }
  where
    afresh :
        (s : List ℕ) (mask room : ℕ) (calls : List Call) → make_fault s mask room ≡ 0 →
        standing s (made_book (plant_of s) mask) calls ≡ made_book (plant_of s) (in_service (plant_of s) mask calls)
    afresh s mask room calls h =
        let ok = make_ok s mask room h in
        standing_afresh s ok.plant mask calls ok.mask_ok_lem
