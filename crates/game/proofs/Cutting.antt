-- Lists of nodes: those with a wait for each goal, those that a rising list leaves out, and a list cut in two, turn by
-- turn. Assumes nothing.
use mathlib.Core.Path.{◌≡◌, refl, ap, sym, ◌∙◌}
use mathlib.Core.Bool.{Bool, true, false, ◌&&◌, not}
use mathlib.Core.List.{List, [], ◌∷◌, ◌++◌, append-nil}
use mathlib.Core.Logic.{⊎_elim}
use Prim.Native.Nat.{ℕ, zero, suc, ◌+◌, ◌-◌, ◌<◌, ◌≤◌}
use native.Mathlib.Nat.{zero-add}
use native.Mathlib.Numerals.{add-one}
use native.Mathlib.Omega.{arith}
use borrow.Author.Tests.{eqb-true, eq-eqb, lt-ltb, ltb-true}
use lib.Dec.{eqb, ltb}
use lib.ListN.{length, get_or, take, set, length-set, length-append}
use lib.Seq.{take-length, take-suc, length-take-le}
use Rattle.statements.specs.Sets.{numbers, is_in, filter, cons_if, over}
use Rattle.sets.proofs.Tests.{decided, and_true, and_left, and_right, same_test}
use Rattle.sets.proofs.Members.{Sifted, filter_snoc, filter_length, filter_parts, numbers_more}
use Rattle.sets.proofs.Over.{over_none, over_back, over_at_lem, over_one}
use Rattle.arrays.proofs.Sieves.{Sieved, sieve_start, sieve_yes, sieve_no, sieved_end}
use Rattle.game.specs.Cuts.{others}
use Rattle.game.proofs.Counts.{count_most, take_in}

-- what stands at a place is a member
pub place_in : (xs : List ℕ) (k : ℕ) → k < length xs → is_in (get_or xs k 0) xs ≡ true
place_in xs k h = rw (take-length xs) at (take_in (length xs) k xs h (omega arith))

-- a number that passes a test stands after those before it that pass
place_of : (d n x : ℕ) (f : ℕ → Bool) → d < n → f (x + d) ≡ true
    → (length (filter f (numbers d x)) < length (filter f (numbers n x)))
    × (get_or (filter f (numbers n x)) (length (filter f (numbers d x))) 0 ≡ x + d)
unfolding filter numbers
place_of zero zero x f l t = absurd (omega arith)
place_of zero (suc n) x f l t =
    let here : x ≡ x + 0 = omega arith in
    let e : f x ≡ true = ap f here ∙ t in
    rw e (omega arith, here)
place_of (suc d) zero x f l t = absurd (omega arith)
place_of (suc d) (suc n) x f l t =
    let next : suc x + d ≡ x + suc d = omega arith in
    let there = place_of d n (suc x) f (omega arith) (ap f next ∙ t) in
    ⊎_elim
    (λ e. rw e (omega (arith, there.0), there.1 ∙ next))
    (λ e. rw e (there.0, there.1 ∙ next))
    (decided (f x))

-- in a rising list of numbers below n, x stands after its smaller numbers or nowhere
pub at_is : (n x k : ℕ) (list : List ℕ) → Sifted (numbers n 0) list → x < n
    → k ≡ length (filter (λ y. is_in y list) (numbers x 0))
    → (ltb k (length list) && eqb (get_or list k 0) x) ≡ is_in x list
at_is n x k list s h e =
    same_test (ltb k (length list) && eqb (get_or list k 0) x) (is_in x list)
    (λ t.
    let low = ltb-true k (length list) (and_left (ltb k (length list)) (eqb (get_or list k 0) x) t) in
    let is = eqb-true (get_or list k 0) x (and_right (ltb k (length list)) (eqb (get_or list k 0) x) t) in
    rw is at (place_in list k low))
    (λ t.
    let f : ℕ → Bool = λ (y : ℕ). is_in y list in
    let all : List ℕ = filter f (numbers n 0) in
    let there = rw (zero-add x) at (place_of x n 0 f h (rw (zero-add x) t)) in
    let long : length list ≡ length all = ap length s in
    let is : get_or list k 0 ≡ x = ap (λ (l : List ℕ). get_or l k 0) s ∙ (ap (λ (i : ℕ). get_or all i 0) e ∙ there.1) in
    and_true (lt-ltb k (length list) (omega (arith, there.0))) (eq-eqb (get_or list k 0) x is))

-- the nodes below x that a list leaves out are written, and k of it are passed
pub record Resting (list : List ℕ) (n : ℕ) (old new : List ℕ) (x k count : ℕ) : Type 0 where
  pub within : x ≤ n
  pub room : n ≤ length old
  pub size : length new ≡ length old
  pub place : k ≡ length (filter (λ y. is_in y list) (numbers x 0))
  pub number : count ≡ length (others x list)
  pub written : new ≡ over (others x list) old

-- nothing is read yet
pub rest_start : (list : List ℕ) (n : ℕ) (old : List ℕ) → n ≤ length old → Resting list n old old 0 0 0
unfolding others filter numbers
rest_start list n old h =
    record { within = omega arith; room = h; size = refl; place = refl; number = refl; written = over_none old }

module _ {list : List ℕ} {n : ℕ} {old new : List ℕ} {x k count : ℕ} (r : Resting list n old new x k count) where
  -- no more than x of each
  pub rest_few : (k ≤ x) × (count ≤ x)
  unfolding others
  rest_few = (
    omega (arith, r.place, count_most x (λ (y : ℕ). is_in y list)),
    omega (arith, r.number, count_most x (λ (y : ℕ). not (is_in y list))),
  )

  -- one number more
  next : (f : ℕ → Bool) → filter f (numbers (x + 1) 0) ≡ filter f (numbers x 0) ++ cons_if (f x) x []
  next f = ap (filter f) (numbers_more x) ∙ filter_snoc f (numbers x 0) x

  -- x is in the list
  pub rest_in : x < n → is_in x list ≡ true → Resting list n old new (x + 1) (k + 1) count
  unfolding others
  rest_in h t =
      let f : ℕ → Bool = λ (y : ℕ). is_in y list in
      let g : ℕ → Bool = λ (y : ℕ). not (is_in y list) in
      let yes : filter f (numbers (x + 1) 0) ≡ filter f (numbers x 0) ++ (x ∷ []) = rw t at (next f) in
      let no : filter g (numbers (x + 1) 0) ≡ filter g (numbers x 0) =
      rw t at (next g) ∙ append-nil (filter g (numbers x 0)) in
      record {
        within = omega arith;
        room = r.room;
        size = r.size;
        place = omega (arith, r.place, ap length yes, length-append (filter f (numbers x 0)) (x ∷ []));
        number = r.number ∙ ap length (sym no);
        written = r.written ∙ ap (λ (l : List ℕ). over l old) (sym no);
      }

  -- x is left out
  pub rest_out : x < n → is_in x list ≡ false → Resting list n old (set new count x) (x + 1) k (count + 1)
  unfolding others
  rest_out h t =
      let f : ℕ → Bool = λ (y : ℕ). is_in y list in
      let g : ℕ → Bool = λ (y : ℕ). not (is_in y list) in
      let no : filter f (numbers (x + 1) 0) ≡ filter f (numbers x 0) =
      rw t at (next f) ∙ append-nil (filter f (numbers x 0)) in
      let yes : filter g (numbers (x + 1) 0) ≡ filter g (numbers x 0) ++ (x ∷ []) = rw t at (next g) in
      let put = over_one (filter g (numbers x 0)) old x (omega (arith, count_most x g, r.room)) in
      record {
        within = omega arith;
        room = r.room;
        size = length-set new count x ∙ r.size;
        place = r.place ∙ ap length (sym no);
        number = omega (arith, r.number, ap length yes, length-append (filter g (numbers x 0)) (x ∷ []));
        written = rw (r.written, r.number, yes) put;
      }

  -- all below n are written
  pub rest_end : n ≤ x → (take count new ≡ others n list) × (count ≡ length (others n list))
  rest_end h =
      let e : x ≡ n = omega (arith, r.within) in
      let number = rw e at r.number in
      let written = rw e at r.written in
      (rw written (over_back (others n list) old count number), number)

-- the next number of a list that is sieved is as it was, and one of the list
module _ {f : ℕ → Bool} {count : ℕ} {old new : List ℕ} {kept k : ℕ} (r : Sieved f count old new kept k)
    (more : k < count) where
  sieved_same : get_or new k 0 ≡ get_or old k 0
  sieved_same =
      let few = length-take-le k old (omega (arith, r.room)) in
      rw r.list (over_at_lem (filter f (take k old)) old k (omega (arith, few, filter_length f (take k old))))

  pub sieved_in : is_in (get_or new k 0) (take count old) ≡ true
  sieved_in = rw sieved_same (take_in count k old more r.room)

-- a list is cut down to the nodes that pass a test, and the others are listed
pub record Cutting (f : ℕ → Bool) (count : ℕ) (old gone₀ new gone : List ℕ) (kept k : ℕ) : Type 0 where
  pub sieved : Sieved f count old new kept k
  pub room : count ≤ length gone₀
  pub size : length gone ≡ length gone₀
  pub listed : gone ≡ over (filter (λ x. not (f x)) (take k old)) gone₀

-- no node is read yet
pub cut_start : (f : ℕ → Bool) (count : ℕ) (old gone : List ℕ) → count ≤ length old → count ≤ length gone
    → Cutting f count old gone old gone count 0
unfolding filter
cut_start f count old gone h g =
    record { sieved = sieve_start f count old h; room = g; size = refl; listed = over_none gone }

module _ {f : ℕ → Bool} {count : ℕ} {old gone₀ new gone : List ℕ} {kept k : ℕ}
    (r : Cutting f count old gone₀ new gone kept k) where
  -- as many are listed as are struck out
  pub cut_number : count - kept ≡ length (filter (λ x. not (f x)) (take k old))
  cut_number =
      let s = r.sieved in
      omega (
        arith,
        s.number,
        filter_parts f (take k old),
        length-take-le k old (omega (arith, s.within, s.room)),
      )

  -- all are read
  pub cut_end : count ≤ k → (kept ≡ length (filter f (take count old)))
      × ((take kept new ≡ filter f (take count old))
      × (take (count - kept) gone ≡ filter (λ x. not (f x)) (take count old)))
  cut_end h =
      let e : k ≡ count = omega (arith, r.sieved.within) in
      let end = sieved_end r.sieved h in
      let number = rw e at cut_number in
      let listed = rw e at r.listed in (
        end.0,
        (
          end.1,
          rw listed (over_back (filter (λ x. not (f x)) (take count old)) gone₀ (count - kept) number),
        ),
      )

  module _ (more : k < count) where
    -- the next node is one of the list
    pub cut_in : is_in (get_or new k 0) (take count old) ≡ true
    cut_in = sieved_in r.sieved more

    -- one node more
    next_others : filter (λ x. not (f x)) (take (k + 1) old)
        ≡ filter (λ x. not (f x)) (take k old) ++ cons_if (not (f (get_or new k 0))) (get_or new k 0) []
    next_others =
        rw (sieved_same r.sieved more, add-one k, take-suc old k 0 (omega (arith, r.sieved.room)))
        (filter_snoc (λ x. not (f x)) (take k old) (get_or old k 0))

    -- one that passes
    pub cut_yes : f (get_or new k 0) ≡ true
        → Cutting f count old gone₀ (set new (k - (count - kept)) (get_or new k 0)) gone kept (k + 1)
    cut_yes t =
        let same = rw t at next_others ∙ append-nil (filter (λ x. not (f x)) (take k old)) in
        record {
          sieved = sieve_yes r.sieved more t;
          room = r.room;
          size = r.size;
          listed = r.listed ∙ ap (λ (l : List ℕ). over l gone₀) (sym same);
        }

    -- one that fails
    pub cut_no : f (get_or new k 0) ≡ false
        → Cutting f count old gone₀ new (set gone (count - kept) (get_or new k 0)) (kept - 1) (k + 1)
    cut_no t =
        let x : ℕ = get_or new k 0 in
        let before : List ℕ = filter (λ y. not (f y)) (take k old) in
        let after : filter (λ y. not (f y)) (take (k + 1) old) ≡ before ++ (x ∷ []) = rw t at next_others in
        let few = length-take-le k old (omega (arith, r.sieved.room)) in
        let put =
        over_one before gone₀ x (omega (arith, few, r.room, filter_length (λ y. not (f y)) (take k old))) in
        record {
          sieved = sieve_no r.sieved more t;
          room = r.room;
          size = length-set gone (count - kept) x ∙ r.size;
          listed = rw (r.listed, cut_number, after) put;
        }
