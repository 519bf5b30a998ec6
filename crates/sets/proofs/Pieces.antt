-- Lists in pieces of one size: known piece by piece they are the pieces joined, written over what was there before.
-- Assumes nothing.
use mathlib.Core.Path.{◌≡◌, refl, sym, ap, ◌∙◌}
use mathlib.Core.List.{List, [], ◌∷◌}
use Prim.Native.Nat.{ℕ, zero, suc, ◌+◌, ◌-◌, ◌*◌, ◌≤◌, ◌<◌}
use native.Mathlib.Omega.{arith}
use native.Mathlib.Nat.{zero-mul, add-zero, zero-add}
use native.Mathlib.Numerals.{add-one}
use lib.ListN.{length, get_or, take, drop, take-append-drop, length-drop}
use lib.Seq.{drop-cons, take-add, drop-drop, length-take-le, get_or-take, get_or-drop, ext_get_or}
use Rattle.statements.specs.Sets.{joined, over}
use Rattle.sets.proofs.Joined.{joined_length, joined_at}

-- a list in pieces of one size, each of them known, is those pieces one after the other
pub joined_take : (part : ℕ → List ℕ) (size n x : ℕ) (l : List ℕ)
    → ((k : ℕ) → k < n → take size (drop (k * size) l) ≡ part (x + k)) → take (n * size) l ≡ joined n x part
unfolding joined
joined_take part size zero x l h = rw zero-mul
joined_take part size (suc n) x l h =
    let more : suc n * size ≡ size + n * size = omega arith in
    let here : take size l ≡ part x = rw (zero-mul, add-zero) at (h 0 (omega arith)) in
    let later = joined_take part size n (suc x) (drop size l)
    (λ k b.
    let past : size + k * size ≡ suc k * size = omega arith in
    let there : x + suc k ≡ suc x + k = omega arith in
    ap (take size) (drop-drop (k * size) size l ∙ ap (λ (m : ℕ). drop m l) past) ∙ h (suc k) (omega arith)
    ∙ ap part there) in
    rw (more, take-add, here, later)

-- two numbers of a list
pub two_at : (l : List ℕ) (a : ℕ) → a + 2 ≤ length l → take 2 (drop a l) ≡ get_or l a 0 ∷ (get_or l (a + 1) 0 ∷ [])
two_at l a h =
    let first : a < length l = omega arith in
    let second : suc a < length l = omega arith in
    rw (drop-cons l a 0 first, drop-cons l (suc a) 0 second, add-one)

-- the pieces are written over the front, and past them the list is as it was
pub pieces_over : (part : ℕ → List ℕ) (size n : ℕ) (old new : List ℕ) (total : ℕ) → total ≡ n * size
    → total ≤ length new → ((k : ℕ) → k < n → take size (drop (k * size) new) ≡ part k)
    → drop total new ≡ drop total old → new ≡ over (joined n 0 part) old
unfolding over
pieces_over part size n old new total e room pieces rest =
    let taken : take total new ≡ joined n 0 part =
    ap (λ (m : ℕ). take m new) e
    ∙ joined_take part size n 0 new (λ k h. pieces k h ∙ ap part (sym (zero-add k))) in
    let long : length (joined n 0 part) ≡ total = sym (ap length taken) ∙ length-take-le total new room in
    sym (take-append-drop total new) ∙ rw (taken, rest, long)

-- lists of one length that agree from a place on
pub same_rest : (n : ℕ) (old new : List ℕ) → length new ≡ length old
    → ((m : ℕ) → n ≤ m → get_or new m 0 ≡ get_or old m 0) → drop n new ≡ drop n old
same_rest n old new long same =
    ext_get_or 0 (drop n new) (drop n old) (length-drop n new ∙ ap (λ (m : ℕ). m - n) long ∙ sym (length-drop n old))
    (λ i h. get_or-drop n new i 0 ∙ same (n + i) (omega arith) ∙ sym (get_or-drop n old i 0))

-- a list whose first numbers a function gives
pub points_take : (f : ℕ → ℕ) (n : ℕ) (l : List ℕ) → n ≤ length l → ((x : ℕ) → x < n → get_or l x 0 ≡ f x)
    → take n l ≡ joined n 0 (λ x. f x ∷ [])
points_take f n l room points =
    let long : length (joined n 0 (λ x. f x ∷ [])) ≡ n = joined_length (λ x. f x ∷ []) 1 (λ k. refl) n 0 ∙ omega arith in
    let taken = length-take-le n l room in
    ext_get_or 0 (take n l) (joined n 0 (λ x. f x ∷ [])) (taken ∙ sym long)
    (λ x h.
    let low : x < n = omega arith in
    get_or-take n l x 0 low ∙ (points x low ∙ (ap f (sym (zero-add x)) ∙ sym (joined_at f n 0 x low))))
