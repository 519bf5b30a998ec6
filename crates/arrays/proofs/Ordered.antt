-- A list that strictly rises below a limit is a filter of the numbers below it, and each such filter rises. Assumes
-- nothing.
use mathlib.Core.Path.{◌≡◌, refl, sym, ap, ◌∙◌, subst}
use mathlib.Core.Logic.{⊎_elim}
use mathlib.Core.Bool.{Bool, true, false, ◌&&◌, and-true as and_all}
use mathlib.Core.List.{List, [], ◌∷◌}
use Prim.Native.Nat.{ℕ, zero, suc, ◌+◌, ◌-◌, ◌≤◌, ◌<◌}
use native.Mathlib.Numerals.{add-one, unary_clauses}
use native.Mathlib.Omega.{arith}
use lib.Dec.{leb, ltb}
use lib.ListN.{length, get_or}
use borrow.Author.Tests.{le-leb, leb-true, lt-ltb, ltb-true, ne_eqb}
use Rattle.statements.specs.Sets.{numbers, every, is_in, cons_if, filter}
use Rattle.sets.proofs.Tests.{decided, same_number, and_true, and_left, and_right, and_none}
use Rattle.sets.proofs.Members.{Sifted, filter_same, filter_holds, numbers_holds, is_in_here, is_in_there, is_in_cases}
use Rattle.sets.proofs.Members.{is_in_none}
use Rattle.sets.proofs.Rising.{From, from_filter}
use Rattle.arrays.specs.Lists.{rising}

-- numbers that strictly rise and are below a limit pass the test
rising_from : (x limit : ℕ) (xs : List ℕ) → From x xs → ((z : ℕ) → is_in z xs ≡ true → z < limit)
    → rising x limit xs ≡ true
unfolding rising
rising_from x limit [] h b = refl
rising_from x limit (y ∷ ys) h b =
    and_true (le-leb x y h.0)
    (and_true (lt-ltb y limit (b y (is_in_here y ys)))
    (rising_from (suc y) limit ys h.1 (λ z m. b z (is_in_there z y ys m))))

-- so does a filter of the numbers below it
pub filter_rising : (f : ℕ → Bool) (n : ℕ) → rising 0 n (filter f (numbers n 0)) ≡ true
filter_rising f n =
    rising_from 0 n (filter f (numbers n 0)) (from_filter f n 0)
    (λ z m. omega (arith, numbers_holds n 0 z (filter_holds f (numbers n 0) z m).0))

-- the empty list does
rising_nil : (x limit : ℕ) → rising x limit [] ≡ true
unfolding rising
rising_nil x limit = refl

module _ (x limit y : ℕ) (ys : List ℕ) (h : rising x limit (y ∷ ys) ≡ true) where
  -- the first of them, and the others
  rising_head : (x ≤ y) × (y < limit)
  unfolding rising
  rising_head =
      let rest = and_right (leb x y) _ h in
      (leb-true x y (and_left (leb x y) _ h), ltb-true y limit (and_left (ltb y limit) _ rest))

  rising_tail : rising (suc y) limit ys ≡ true
  unfolding rising
  rising_tail = and_right (ltb y limit) _ (and_right (leb x y) _ h)

  -- all are larger where the first is
  rising_past : x < y → rising (suc x) limit (y ∷ ys) ≡ true
  unfolding rising
  rising_past l = and_true (le-leb (suc x) y l) (and_right (leb x y) _ h)

-- the members of a list that rises from a number on are no smaller
rising_least : (x limit : ℕ) (xs : List ℕ) → rising x limit xs ≡ true → (z : ℕ) → is_in z xs ≡ true → x ≤ z
unfolding rising
rising_least x limit [] h z m = absurd (is_in_none z m)
rising_least x limit (y ∷ ys) h z m =
    let first = rising_head x limit y ys h in
    let rest = rising_tail x limit y ys h in
    ⊎_elim (λ e. omega arith) (λ n. let l = rising_least (suc y) limit ys rest z n in omega arith) (is_in_cases z y ys m)

-- a number that is not the first of a list is looked for in the rest
later : (z x : ℕ) (ys : List ℕ) → x < z → is_in z (x ∷ ys) ≡ is_in z ys
unfolding is_in
later z x ys l = rw (ne_eqb z x (λ e. omega arith))

-- a list of larger numbers with one before it
sifted_first : (n x : ℕ) (ys : List ℕ) → Sifted (numbers n (suc x)) ys → Sifted (numbers (suc n) x) (x ∷ ys)
unfolding numbers filter
sifted_first n x ys rest =
    let same = filter_same (λ z. is_in z (x ∷ ys)) (λ z. is_in z ys) (numbers n (suc x))
    (λ z m. later z x ys (omega (arith, numbers_holds n (suc x) z m))) in
    ap (λ (zs : List ℕ). x ∷ zs) (rest ∙ sym same)
    ∙ ap (λ (b : Bool). cons_if b x (filter (λ z. is_in z (x ∷ ys)) (numbers n (suc x)))) (sym (is_in_here x ys))

outside : (x limit : ℕ) (xs : List ℕ) → rising (suc x) limit xs ≡ true → is_in x xs ≡ false
outside x limit xs h =
    ⊎_elim (λ m. absurd (let l = rising_least (suc x) limit xs h x m in omega arith)) (λ m. m) (decided (is_in x xs))

-- so a list that rises below a limit is a filter of the numbers below it
rising_run_sifted : (n x limit : ℕ) (xs : List ℕ) → limit ≡ x + n → rising x limit xs ≡ true → Sifted (numbers n x) xs
unfolding numbers filter
rising_run_sifted zero x limit [] e h = refl
rising_run_sifted zero x limit (y ∷ ys) e h =
    let bound = rising_head x limit y ys h in
    absurd (omega arith)
rising_run_sifted (suc n) x limit [] e h =
    let more = rising_nil (suc x) limit in
    rw (outside x limit [] more) (rising_run_sifted n (suc x) limit [] (omega arith) more)
rising_run_sifted (suc n) x limit (y ∷ ys) e h =
    ⊎_elim
    (λ q.
    let rest = rising_run_sifted n (suc x) limit ys (omega arith) (rw q at (rising_tail x limit y ys h)) in
    subst (λ (v : ℕ). Sifted (numbers (suc n) x) (v ∷ ys)) (sym q) (sifted_first n x ys rest))
    (λ d.
    let bound = rising_head x limit y ys h in
    let more = rising_past x limit y ys h (omega arith) in
    rw (outside x limit (y ∷ ys) more) (rising_run_sifted n (suc x) limit (y ∷ ys) (omega arith) more))
    (same_number y x)

pub rising_sifted : (n : ℕ) (xs : List ℕ) → rising 0 n xs ≡ true → Sifted (numbers n 0) xs
rising_sifted n xs h = rising_run_sifted n 0 n xs (omega arith) h

-- a number is smaller than the one after it
abbrev pub climbs : List ℕ → ℕ → Bool
climbs list k = ltb (get_or list k 0) (get_or list (k + 1) 0)

-- those of a list after its first number are those of the rest
climbs_rest : (n a x : ℕ) (xs : List ℕ) → every n (suc a) (climbs (x ∷ xs)) ≡ every n a (climbs xs)
unfolding every
climbs_rest zero a x xs = refl
climbs_rest (suc n) a x xs =
    rw (add-one (suc a), add-one a)
    (ap (λ (b : Bool). ltb (get_or xs a 0) (get_or xs (suc a) 0) && b) (climbs_rest n (suc a) x xs))

-- a list whose first number is below its second is below a limit where the rest is
rising_second : (x limit y : ℕ) (ys : List ℕ) → x < y
    → (ltb x limit && rising (suc x) limit (y ∷ ys)) ≡ rising (suc x) limit (y ∷ ys)
rising_second x limit y ys l =
    ⊎_elim
    (λ h.
    let bound = rising_head (suc x) limit y ys h in
    rw (lt-ltb x limit (omega arith)) refl)
    (λ h. rw h (and_none (ltb x limit) false refl))
    (decided (rising (suc x) limit (y ∷ ys)))

-- so a list rises below a limit where each number is smaller than the one after it, and the last is below the limit
rising_climbs : (least limit x : ℕ) (xs : List ℕ) → least ≤ x
    → (every (length xs) 0 (climbs (x ∷ xs)) && ltb (get_or (x ∷ xs) (length xs) 0) limit)
    ≡ rising least limit (x ∷ xs)
unfolding every rising
rising_climbs least limit x [] h = rw (le-leb least x h) (sym (and_all (ltb x limit)))
rising_climbs least limit x (y ∷ ys) h =
    let others = every (length ys) 1 (climbs (x ∷ y ∷ ys)) in
    let last = ltb (get_or (y ∷ ys) (length ys) 0) limit in
    rw (le-leb least x h)
    (⊎_elim
    (λ l.
    ap (λ (b : Bool). (b && others) && last) l
    ∙ ap (λ (b : Bool). b && last) (climbs_rest (length ys) 0 x (y ∷ ys))
    ∙ rising_climbs (suc x) limit y ys (ltb-true x y l)
    ∙ sym (rising_second x limit y ys (ltb-true x y l)))
    (λ l.
    ap (λ (b : Bool). (b && others) && last) l
    ∙ sym (and_none (ltb x limit) (rising (suc x) limit (y ∷ ys))
    (ap (λ (b : Bool). b && (ltb y limit && rising (suc y) limit ys)) l)))
    (decided (ltb x y)))

-- for a list with a number, and for one with none
pub climbs_rising : (limit : ℕ) (list : List ℕ) → 0 < length list
    → (every (length list - 1) 0 (climbs list) && ltb (get_or list (length list - 1) 0) limit) ≡ rising 0 limit list
climbs_rising limit [] h = absurd (omega arith)
climbs_rising limit (x ∷ xs) h = simp unary_clauses (rising_climbs 0 limit x xs (omega arith))

pub rising_empty : (limit : ℕ) (list : List ℕ) → length list ≡ 0 → true ≡ rising 0 limit list
rising_empty limit [] h = sym (rising_nil 0 limit)
rising_empty limit (x ∷ xs) h = absurd (omega arith)
