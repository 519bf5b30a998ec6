-- A list whose front is written over number by number, and sieved from what is read. Assumes nothing.
use mathlib.Core.Path.{◌≡◌, refl, sym, ap, ap₂, ◌∙◌}
use mathlib.Core.Bool.{Bool, true, false}
use mathlib.Core.List.{List, [], ◌∷◌, ◌++◌, append-nil}
use Prim.Native.Nat.{ℕ, ◌+◌, ◌-◌, ◌≤◌, ◌<◌}
use native.Mathlib.Numerals.{add-one}
use native.Mathlib.Omega.{arith}
use lib.ListN.{length, get_or, take, set, length-append, length-set}
use lib.Seq.{take-suc, length-take-le}
use Rattle.statements.specs.Sets.{cons_if, filter, over}
use Rattle.sets.proofs.Members.{filter_length, filter_snoc}
use Rattle.sets.proofs.Over.{over_none, over_at_lem, over_back, over_one}

-- a loop that strikes out of the first `count` numbers of a list those that fail a test: k are read, the ones that
-- passed stand at the front, and `kept` is how many they are together with those not read yet
pub record Sieved (f : ℕ → Bool) (count : ℕ) (old new : List ℕ) (kept k : ℕ) : Type 0 where
  pub within : k ≤ count
  pub room : count ≤ length old
  pub size : length new ≡ length old
  pub most : kept ≤ count
  pub least : count ≤ kept + k
  pub list : new ≡ over (filter f (take k old)) old
  pub number : kept + k ≡ count + length (filter f (take k old))

-- nothing is read yet, and all are kept
pub sieve_start : (f : ℕ → Bool) (count : ℕ) (old : List ℕ) → count ≤ length old → Sieved f count old old count 0
unfolding filter
sieve_start f count old h =
    record {
      within = omega arith;
      room = h;
      size = refl;
      most = omega arith;
      least = omega arith;
      list = over_none old;
      number = refl;
    }

module _ {f : ℕ → Bool} {count : ℕ} {old new : List ℕ} {kept k : ℕ} (r : Sieved f count old new kept k) where
  -- all are read: those that passed stand at the front, and the number kept is exactly theirs
  pub sieve_end : k ≡ count → (kept ≡ length (filter f (take count old))) × (new ≡ over (filter f (take count old)) old)
  sieve_end e =
      let here = rw e at r.number in
      (omega arith, rw e at r.list)

  module _ (more : k < count) where
    -- the next number is as it was, and is read with those before it
    passing : length (filter f (take k old)) ≤ k
    passing = omega (arith, filter_length f (take k old), length-take-le k old (omega (arith, r.room)))

    next_is : take (k + 1) old ≡ take k old ++ (get_or new k 0 ∷ [])
    next_is =
        let same = over_at_lem (filter f (take k old)) old k passing in
        rw (r.list, same, add-one) (take-suc old k 0 (omega (arith, r.room)))

    next_filter : filter f (take (k + 1) old) ≡ filter f (take k old) ++ cons_if (f (get_or new k 0)) (get_or new k 0) []
    next_filter = ap (filter f) next_is ∙ filter_snoc f (take k old) (get_or new k 0)

    -- one that passes closes up to the front, by as many places as numbers were struck out
    pub sieve_yes : f (get_or new k 0) ≡ true
        → Sieved f count old (set new (k - (count - kept)) (get_or new k 0)) kept (k + 1)
    sieve_yes t =
        let x = get_or new k 0 in
        let both : filter f (take (k + 1) old) ≡ filter f (take k old) ++ (x ∷ []) = rw t at next_filter in
        let long = ap length both ∙ length-append (filter f (take k old)) (x ∷ []) in
        let place : k - (count - kept) ≡ length (filter f (take k old)) = omega (arith, passing, r.number) in
        let put = over_one (filter f (take k old)) old x (omega (arith, passing, r.room)) in
        record {
          within = omega arith;
          room = r.room;
          size = length-set new (k - (count - kept)) x ∙ r.size;
          most = r.most;
          least = omega (arith, r.least);
          list = ap₂ (λ (l : List ℕ) (i : ℕ). set l i x) r.list place ∙ put
              ∙ ap (λ (ys : List ℕ). over ys old) (sym both);
          number = omega (arith, r.number);
        }

    -- one that fails is struck out, and one less is kept
    pub sieve_no : f (get_or new k 0) ≡ false → Sieved f count old new (kept - 1) (k + 1)
    sieve_no t =
        let same : filter f (take (k + 1) old) ≡ filter f (take k old) =
        rw t at next_filter ∙ append-nil (filter f (take k old)) in
        let some : 0 < kept = omega (arith, r.least) in
        record {
          within = omega arith;
          room = r.room;
          size = r.size;
          most = omega (arith, r.most);
          least = omega (arith, r.number, passing);
          list = rw same r.list;
          number = rw same (omega (arith, r.number));
        }

-- a sieved list's front
pub sieved_end : {f : ℕ → Bool} {count : ℕ} {old new : List ℕ} {kept k : ℕ} → Sieved f count old new kept k → count ≤ k
    → (kept ≡ length (filter f (take count old))) × (take kept new ≡ filter f (take count old))
sieved_end {f} {count} {old} {kept = kept} r h =
    let end = sieve_end r (omega (arith, r.within)) in
    (end.0, rw end.1 (over_back (filter f (take count old)) old kept end.0))
