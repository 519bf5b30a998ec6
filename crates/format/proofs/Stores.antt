-- Two-byte numbers written at a place of a list of bytes, and one after the other over its front. Assumes nothing.
use mathlib.Core.Path.{◌≡◌, sym, ap, ap₂, ◌∙◌}
use mathlib.Core.Bool.{Bool}
use mathlib.Core.List.{List, [], ◌∷◌, ◌++◌, append_assoc}
use Prim.Native.Nat.{ℕ, ◌+◌, ◌-◌, ◌*◌, ◌/◌, ◌%◌, ◌≤◌, ◌<◌}
use native.Mathlib.Numerals.{add-one}
use native.Mathlib.Omega.{arith}
use lib.Dec.{leb}
use lib.ListN.{length, get_or, take, drop}
use borrow.Author.Tests.{le-leb, lt-leb}
use borrow.Rule.Slice.PartMut.{put_mid}
use lib.Seq.{sets, take-suc, length-take-le, drop-drop}
use Rattle.std.proofs.lemmas.List.Edits.{sets-eq}
use Rattle.statements.specs.Sets.{pick, over}
use Rattle.statements.specs.Books.{two, bytes_of}
use Rattle.sets.proofs.Over.{over_more}
use Rattle.decoding.proofs.Sizes.{bytes_length, bytes_append}

-- a number that fits at a place is written, and one that does not is left out
module _ (o : List ℕ) (at v : ℕ) where
  abbrev pub After : List ℕ
  After = pick (leb (at + 2) (length o)) (sets o at (two v)) o

  pub fits : at + 2 ≤ length o → After ≡ sets o at (two v)
  fits h = ap (λ (b : Bool). pick b (sets o at (two v)) o) (le-leb (at + 2) (length o) h)

  pub too_long : length o < at + 2 → After ≡ o
  too_long h = ap (λ (b : Bool). pick b (sets o at (two v)) o) (lt-leb (at + 2) (length o) h)

-- and so are numbers over the front
module _ (numbers o : List ℕ) where
  abbrev pub AfterAll : List ℕ
  AfterAll = pick (leb (2 * length numbers) (length o)) (over (bytes_of numbers) o) o

  pub all_fit : 2 * length numbers ≤ length o → AfterAll ≡ over (bytes_of numbers) o
  all_fit h = ap (λ (b : Bool). pick b (over (bytes_of numbers) o) o) (le-leb (2 * length numbers) (length o) h)

  pub all_too_long : length o < 2 * length numbers → AfterAll ≡ o
  all_too_long h = ap (λ (b : Bool). pick b (over (bytes_of numbers) o) o) (lt-leb (2 * length numbers) (length o) h)

-- one number more
pub bytes_more : (xs : List ℕ) (v : ℕ) → bytes_of (xs ++ (v ∷ [])) ≡ bytes_of xs ++ two v
unfolding bytes_of two
bytes_more xs v = bytes_append xs (v ∷ [])

-- one number more, stored after the bytes written
pub put_more : (xs o : List ℕ) (at v : ℕ) {o' o'' : List ℕ} → o' ≡ over xs o → at ≡ length xs → at + 2 ≤ length o
    → o'' ≡ sets o' at (two v) → o'' ≡ over (xs ++ two v) o
unfolding two
put_more xs o at v e p h w =
    w ∙ ap₂ (λ (l : List ℕ) (k : ℕ). sets l k (two v)) e p ∙ over_more xs (two v) o (omega arith)

-- a number's two bytes copied to a place are two stores, one after the other
pub copied : (out : List ℕ) (at v : ℕ) → v < 65536 → at + 2 ≤ length out → {part : List ℕ}
    → part ≡ v % 256 ∷ (v / 256 % 256 ∷ []) → put_mid at (at + 2 - at) out part ≡ sets out at (two v)
unfolding two
copied out at v small room is =
    let count : at + 2 - at ≡ 2 = omega arith in
    let high : v / 256 % 256 ≡ v / 256 = omega arith in
    let bytes = is ∙ ap (λ (b : ℕ). v % 256 ∷ (b ∷ [])) high in
    ap₂ (λ (k : ℕ) (l : List ℕ). put_mid at k out l) count bytes
    ∙ ap (λ (l : List ℕ). take at out ++ (two v ++ l)) (drop-drop 2 at out)
    ∙ sym (append_assoc (take at out) (two v) (drop (at + 2) out))
    ∙ sym (sets-eq (two v) out at (omega arith))

-- a loop that stores a list's numbers over the front of a buffer: k are stored
pub put_next : (numbers o : List ℕ) (k : ℕ) {o' o'' : List ℕ} → 2 * length numbers ≤ length o → k < length numbers
    → o' ≡ over (bytes_of (take k numbers)) o → o'' ≡ sets o' (2 * k) (two (get_or numbers k 0))
    → o'' ≡ over (bytes_of (take (k + 1) numbers)) o
put_next numbers o k room low e w =
    let long : length (take k numbers) ≡ k = length-take-le k numbers (omega arith) in
    let bytes = bytes_length (take k numbers) in
    rw (add-one, take-suc numbers k 0, bytes_more)
    (put_more (bytes_of (take k numbers)) o (2 * k) (get_or numbers k 0) e (omega arith) (omega arith) w)
