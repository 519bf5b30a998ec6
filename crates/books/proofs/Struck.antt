-- A loop that writes each number of a list's front to its place among those that pass a test, and counts off the ones
-- that fail: what is left at the front. And what the labels say of the states. Assumes nothing.
use mathlib.Core.Path.{◌≡◌, refl, sym, ap, ◌∙◌}
use mathlib.Core.Logic.{⊎_elim}
use mathlib.Core.Bool.{Bool, true, false}
use mathlib.Core.List.{List, [], ◌∷◌, ◌++◌, append-nil}
use Prim.Native.Nat.{ℕ, ◌+◌, ◌-◌, ◌*◌, ◌≤◌, ◌<◌}
use native.Mathlib.Nat.{add-zero}
use native.Mathlib.Numerals.{add-one}
use native.Mathlib.Omega.{arith}
use lib.Dec.{ltb}
use lib.ListN.{length, get_or, take, drop, set, replicate, length-set, length-replicate, get_or-replicate}
use lib.ListN.{get_or-eq_default}
use lib.Seq.{take-suc, take-suc-set, take-set-le, drop-set-lt, drop-drop, get_or-drop, length-take-le}
use borrow.Author.Tests.{ltb-true, ltb-false, le-ltb}
use Rattle.statements.specs.Sets.{bit, pick, cons_if, filter, over}
use Rattle.statements.specs.Plants.{word, plant_of, head_ok, allowed}
use Rattle.sets.proofs.Tests.{decided}
use Rattle.sets.proofs.Over.{over_first, over_at_lem}
use Rattle.sets.proofs.Members.{filter_snoc}
use Rattle.format.specs.Checks.{labels_fit}
use Rattle.format.proofs.Header.{plant_head}

-- k of the first `count` numbers are read, and `kept` is how many passed together with those not read yet: the ones that
-- passed stand at the front, and those not read yet are as they were
pub record Struck (f : ℕ → Bool) (count : ℕ) (old new : List ℕ) (kept k : ℕ) : Type 0 where
  pub within : k ≤ count
  pub room : count ≤ length old
  pub size : length new ≡ length old
  pub most : kept ≤ count
  pub least : count ≤ kept + k
  pub front : take (k - (count - kept)) new ≡ filter f (take k old)
  pub rest : drop k new ≡ drop k old

-- nothing is read yet, and all are kept
pub strike_start : (f : ℕ → Bool) (count : ℕ) (old : List ℕ) → count ≤ length old → Struck f count old old count 0
unfolding filter
strike_start f count old h =
    let none : 0 - (count - count) ≡ 0 = omega arith in
    record {
      within = omega arith;
      room = h;
      size = refl;
      most = omega arith;
      least = omega arith;
      front = rw none;
      rest = refl;
    }

module _ {f : ℕ → Bool} {count : ℕ} {old new : List ℕ} {kept k : ℕ} (r : Struck f count old new kept k) where
  -- all are read: those that passed stand at the front, and the number kept is exactly theirs
  pub strike_end : k ≡ count
      → (kept ≡ length (filter f (take count old))) × (take kept new ≡ filter f (take count old))
  strike_end e =
      let all : k - (count - kept) ≡ kept = omega (arith, r.most) in
      let here : take kept new ≡ filter f (take count old) =
      ap (λ (n : ℕ). take n new) (sym all) ∙ r.front ∙ ap (λ (n : ℕ). filter f (take n old)) e in
      (sym (length-take-le kept new (omega (arith, r.most, r.room, r.size))) ∙ ap length here, here)

  module _ (more : k < count) where
    -- the next number is as it was, and is read with those before it
    next_same : get_or new k 0 ≡ get_or old k 0
    next_same =
        ap (λ (i : ℕ). get_or new i 0) (sym (add-zero k)) ∙ sym (get_or-drop k new 0 0)
        ∙ ap (λ (l : List ℕ). get_or l 0 0) r.rest
        ∙ get_or-drop k old 0 0 ∙ ap (λ (i : ℕ). get_or old i 0) (add-zero k)

    next_filter : filter f (take (k + 1) old) ≡ filter f (take k old) ++ cons_if (f (get_or new k 0)) (get_or new k 0) []
    next_filter =
        rw (next_same, add-one, take-suc old k 0 (omega (arith, r.room))) (filter_snoc f (take k old) (get_or old k 0))

    -- it is written to its place, and those after it are as they were
    abbrev Put : List ℕ
    Put = set new (k - (count - kept)) (get_or new k 0)

    put_rest : drop (k + 1) Put ≡ drop (k + 1) old
    put_rest =
        drop-set-lt (k + 1) new (k - (count - kept)) (get_or new k 0) (omega arith)
        ∙ sym (drop-drop 1 k new) ∙ ap (drop 1) r.rest ∙ drop-drop 1 k old

    -- one that passes is kept there
    pub strike_yes : f (get_or new k 0) ≡ true → Struck f count old Put kept (k + 1)
    strike_yes t =
        let m = k - (count - kept) in
        let x = get_or new k 0 in
        let both : filter f (take (k + 1) old) ≡ filter f (take k old) ++ (x ∷ []) = rw t at next_filter in
        let place : k + 1 - (count - kept) ≡ m + 1 = omega (arith, r.least, r.most) in
        record {
          within = omega arith;
          room = r.room;
          size = length-set new m x ∙ r.size;
          most = r.most;
          least = omega (arith, r.least);
          front =
              ap (λ (n : ℕ). take n Put) (place ∙ add-one m)
              ∙ take-suc-set new m x (omega (arith, r.size, r.room))
              ∙ ap (λ (l : List ℕ). l ++ (x ∷ [])) r.front ∙ sym both;
          rest = put_rest;
        }

    -- one that fails is counted off, and its place is the next one's
    pub strike_no : f (get_or new k 0) ≡ false → Struck f count old Put (kept - 1) (k + 1)
    strike_no t =
        let m = k - (count - kept) in
        let x = get_or new k 0 in
        let same : filter f (take (k + 1) old) ≡ filter f (take k old) =
        rw t at next_filter ∙ append-nil (filter f (take k old)) in
        let place : k + 1 - (count - (kept - 1)) ≡ m = omega (arith, r.least, r.most) in
        record {
          within = omega arith;
          room = r.room;
          size = length-set new m x ∙ r.size;
          most = omega (arith, r.most);
          least = omega (arith, r.least);
          front =
              ap (λ (n : ℕ). take n Put) place ∙ take-set-le m new m x (omega arith) ∙ r.front ∙ sym same;
          rest = put_rest;
        }

-- zeros have zeros at every place
zero_at : (n x : ℕ) → get_or (replicate {A = ℕ} n 0) x 0 ≡ 0
zero_at n x =
    ⊎_elim
    (λ t. get_or-replicate n x 0 0 (ltb-true x n t))
    (λ f. get_or-eq_default (replicate {A = ℕ} n 0) 0 {n = x} (omega (arith, ltb-false x n f, length-replicate {A = ℕ} n 0)))
    (decided (ltb x n))

-- the labels of a plant over zeros say which states are allowed
pub labels_say : (s new : List ℕ) → head_ok s ≡ true
    → new ≡ pick (labels_fit s (replicate 1024 0)) (over (plant_of s).labels (replicate 1024 0)) (replicate 1024 0)
    → (x : ℕ) → bit 0 (get_or new x 0) ≡ allowed (plant_of s) x
unfolding labels_fit allowed
labels_say s new h e x =
    let zeros : List ℕ = replicate 1024 0 in
    let labels = (plant_of s).labels in
    let head = plant_head s h in
    let bytes : 16 + 2 * word 0 s ≤ length s = omega (arith, head.long) in
    let room : word 0 s ≤ length zeros = omega (arith, head.sizes.states_most, length-replicate {A = ℕ} 1024 0) in
    let fit : labels_fit s zeros ≡ true = rw (le-ltb _ _ bytes, le-ltb _ _ room) in
    let is : new ≡ over labels zeros = e ∙ ap (λ (b : Bool). pick b (over labels zeros) zeros) fit in
    let same : get_or (over labels zeros) x 0 ≡ get_or labels x 0 = ⊎_elim
    (λ t. over_first labels zeros x (ltb-true x (length labels) t))
    (λ f. let past = ltb-false x (length labels) f in
    over_at_lem labels zeros x past ∙ zero_at 1024 x ∙ sym (get_or-eq_default labels 0 {n = x} past))
    (decided (ltb x (length labels))) in
    ap (bit 0) (ap (λ (ys : List ℕ). get_or ys x 0) is ∙ same)
