-- Two books that read alike are the same bytes: the numbers of the header and of every entry determine a book.
-- Assumes nothing.
use mathlib.Core.Path.{◌≡◌, refl, sym, subst, ◌∙◌}
use mathlib.Core.Bool.{Bool, true, false}
use mathlib.Core.List.{List}
use Prim.Native.Nat.{ℕ, zero, suc, ◌+◌, ◌-◌, ◌*◌, ◌/◌, ◌%◌, ◌≤◌, ◌<◌}
use native.Mathlib.Omega.{arith}
use native.Mathlib.Nat.{add-zero, add_assoc, mul-add, div-add-mod', mod-lt, div-lt_iff_lt-mul}
use native.Mathlib.Decide.{dec_lt}
use lib.ListN.{length, get_or, drop}
use lib.Seq.{ext_get_or, get_or-drop}
use Rattle.statements.specs.Plants.{word}
use Rattle.statements.specs.Books.{book_long, book_states, book_moves, book_goals, book_count, book_mask, book_total, staged}
use Rattle.statements.specs.Books.{row_place, entry_place, wait_at, move_at, stage_at}
use Rattle.decoding.proofs.Sizes.{opening, long_is, row_place_lem, entry_place_lem}

-- a number past some others
pub word_drop : (m r : ℕ) (b : List ℕ) → word r (drop (2 * m) b) ≡ word (m + r) b
unfolding word
word_drop m r b = rw (get_or-drop (2 * m) b (2 * r), get_or-drop (2 * m) b (2 * r + 1), ← add_assoc, ← mul-add)

-- how many numbers a row opens with, and how many it has
half : Bool → ℕ
half true = 1
half false = 0

half_opening : (t : Bool) → opening t ≡ 2 * half t
unfolding opening half
half_opening true = refl
half_opening false = refl

half_most : (t : Bool) → half t ≤ 1
unfolding half
half_most true = omega arith
half_most false = omega arith

half_some : (t : Bool) (k : ℕ) → k < half t → t ≡ true
unfolding half
half_some true k l = refl
half_some false k l = absurd (omega arith)

width : Bool → ℕ → ℕ
width t n = half t + 2 * n

long_words : (t : Bool) (s n : ℕ) → book_long t s n ≡ 16 + 2 * (s * width t n)
unfolding width
long_words t s n = long_is t s n ∙ rw (half_opening t) (omega arith)

-- a number of a row past its opening is one of an entry
inside : (t : Bool) (n k : ℕ) → k < width t n → (k < half t → ⊥) → (k - half t) / 2 < n
unfolding width
inside t n k h l = omega arith

-- number r of an entry among those of the book, and a row's stage
module _ (b : List ℕ) (t : Bool) (n : ℕ) (sort : staged b ≡ t) (goals : book_goals b ≡ n) where
  entry_number : (x i r : ℕ) →
      word r (drop (entry_place b x i) b) ≡ word (8 + (x * width t n + (half t + 2 * i)) + r) b
  unfolding width
  entry_number x i r =
      let at = 8 + (x * (half t + 2 * n) + (half t + 2 * i)) in
      let place : entry_place b x i ≡ 2 * at =
      entry_place_lem b x i ∙ rw (sort, goals, half_opening t) (omega arith) in
      rw place (word_drop at r b)

  stage_number : t ≡ true → (x : ℕ) → stage_at b x ≡ word (8 + x * width t n) b
  unfolding stage_at width
  stage_number e x =
      let at = 8 + x * (half t + 2 * n) in
      let place : row_place b x ≡ 2 * at = row_place_lem b x ∙ rw (sort, goals, half_opening t) (omega arith) in
      let same : at + 0 ≡ at = omega arith in
      rw (sort ∙ e, place, word_drop at 0 b, same) refl

positive : (s n q : ℕ) → q < s * n → 0 < n
positive s zero q h = absurd (omega arith)
positive s (suc n) q h = omega arith

module _ (b c : List ℕ) (bytes_b : (k : ℕ) → get_or b k 0 < 256) (bytes_c : (k : ℕ) → get_or c k 0 < 256) where
  same_bytes_lem : (j r : ℕ) → r < 2 → word j b ≡ word j c → get_or b (2 * j + r) 0 ≡ get_or c (2 * j + r) 0
  unfolding word
  same_bytes_lem j zero h e = rw add-zero (omega (arith, bytes_b (2 * j), bytes_c (2 * j)))
  same_bytes_lem j (suc zero) h e = omega (arith, bytes_b (2 * j), bytes_c (2 * j))
  same_bytes_lem j (suc (suc r)) h e = absurd (omega arith)

  -- by their two-byte numbers
  pub same_words : length b ≡ length c → ((j : ℕ) → 2 * j < length b → word j b ≡ word j c) → b ≡ c
  same_words e words =
      ext_get_or 0 b c e λ k hk.
      let place : 2 * (k / 2) + k % 2 ≡ k = omega arith in
      subst (λ (m : ℕ). get_or b m 0 ≡ get_or c m 0) place
      (same_bytes_lem (k / 2) (k % 2) (omega arith) (words (k / 2) (omega arith)))

  -- the header's numbers, from what the calls read there
  pub head_words : book_states b ≡ book_states c → book_moves b ≡ book_moves c → book_goals b ≡ book_goals c
      → book_count b ≡ book_count c → book_mask b ≡ book_mask c → word 6 b ≡ word 6 c → book_total b ≡ book_total c
      → (j : ℕ) → j < 8 → word j b ≡ word j c
  unfolding book_states book_moves book_goals book_count book_mask book_total word
  head_words h0 h1 h2 h3 h45 h6 h7 zero l = h0
  head_words h0 h1 h2 h3 h45 h6 h7 (suc zero) l = h1
  head_words h0 h1 h2 h3 h45 h6 h7 (suc (suc zero)) l = h2
  head_words h0 h1 h2 h3 h45 h6 h7 (suc (suc (suc zero))) l = h3
  head_words h0 h1 h2 h3 h45 h6 h7 (suc (suc (suc (suc zero)))) l =
      omega (arith, bytes_b 8, bytes_b 9, bytes_c 8, bytes_c 9)
  head_words h0 h1 h2 h3 h45 h6 h7 (suc (suc (suc (suc (suc zero))))) l =
      omega (arith, bytes_b 8, bytes_b 9, bytes_c 8, bytes_c 9)
  head_words h0 h1 h2 h3 h45 h6 h7 (suc (suc (suc (suc (suc (suc zero)))))) l = h6
  head_words h0 h1 h2 h3 h45 h6 h7 (suc (suc (suc (suc (suc (suc (suc zero))))))) l = h7
  head_words h0 h1 h2 h3 h45 h6 h7 (suc (suc (suc (suc (suc (suc (suc (suc j)))))))) l = absurd (omega arith)

-- two lists of bytes that read alike as books of one sort for s states and n goals
pub record ReadAlike (b c : List ℕ) (t : Bool) (s n : ℕ) : Type 0 where
  pub bytes_b : (k : ℕ) → get_or b k 0 < 256
  pub bytes_c : (k : ℕ) → get_or c k 0 < 256
  pub long_b : length b ≡ book_long t s n
  pub long_c : length c ≡ book_long t s n
  pub sort_b : staged b ≡ t
  pub sort_c : staged c ≡ t
  pub goals_b : book_goals b ≡ n
  pub goals_c : book_goals c ≡ n
  pub head : (j : ℕ) → j < 8 → word j b ≡ word j c
  pub stages : t ≡ true → (x : ℕ) → x < s → stage_at b x ≡ stage_at c x
  pub waits : (x i : ℕ) → x < s → i < n → wait_at b x i ≡ wait_at c x i
  pub moves : (x i : ℕ) → x < s → i < n → move_at b x i ≡ move_at c x i

module _ (b c : List ℕ) (t : Bool) (s n : ℕ) (alike : ReadAlike b c t s n) where
  read_entry : (r : ℕ) → r < 2 → (x i : ℕ) → x < s → i < n
      → let at = 8 + (x * width t n + (half t + 2 * i)) + r in
      word at b ≡ word at c
  unfolding wait_at move_at
  read_entry zero h x i hx hi =
      sym (entry_number b t n alike.sort_b alike.goals_b x i 0) ∙ alike.waits x i hx hi
      ∙ entry_number c t n alike.sort_c alike.goals_c x i 0
  read_entry (suc zero) h x i hx hi =
      sym (entry_number b t n alike.sort_b alike.goals_b x i 1) ∙ alike.moves x i hx hi
      ∙ entry_number c t n alike.sort_c alike.goals_c x i 1
  read_entry (suc (suc r)) h x i hx hi = absurd (omega arith)

  -- number k of the row of state x
  row_word : (x k : ℕ) → x < s → k < width t n → word (8 + (x * width t n + k)) b ≡ word (8 + (x * width t n + k)) c
  row_word x k hx hk =
      elim (dec_lt k (half t)) [
        | yes l ↦
            let e = half_some t k l in
            let first : 8 + (x * width t n + k) ≡ 8 + x * width t n = omega (arith, l, half_most t) in
            rw first
            (sym (stage_number b t n alike.sort_b alike.goals_b e x) ∙ alike.stages e x hx
            ∙ stage_number c t n alike.sort_c alike.goals_c e x)
        | no l ↦
            let i = (k - half t) / 2 in
            let r = (k - half t) % 2 in
            let there : 8 + (x * width t n + (half t + 2 * i)) + r ≡ 8 + (x * width t n + k) = omega (arith, l) in
            subst (λ (m : ℕ). word m b ≡ word m c) there (read_entry r (omega arith) x i hx (inside t n k hk l))
      ]

  pub same_books : b ≡ c
  unfolding width
  same_books =
      same_words b c alike.bytes_b alike.bytes_c (omega arith) λ j hj.
      elim (dec_lt j 8) [
        | yes h ↦ alike.head j h
        | no h ↦
            let w = width t n in
            let q = j - 8 in
            let few : q < s * w =
            omega (arith, hj, alike.long_b, long_words t s n) in
            let w_positive : 0 < w = positive s w q few in
            let hx : q / w < s = (div-lt_iff_lt-mul w_positive).1 few in
            let hk : q % w < w = mod-lt q w_positive in
            let place : 8 + (q / w * w + q % w) ≡ j = rw div-add-mod' (omega arith) in
            subst (λ (m : ℕ). word m b ≡ word m c) place (row_word (q / w) (q % w) hx hk)
      ]
