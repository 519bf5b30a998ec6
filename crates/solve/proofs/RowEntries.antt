-- A row written from columns of waits: the state's own move, the entries goal by goal, and the whole row; and how many
-- numbers a row has. Assumes nothing.
use mathlib.Core.Path.{◌≡◌, refl, sym, ap, ◌∙◌}
use mathlib.Core.Logic.{⊎_elim}
use mathlib.Core.Bool.{Bool, true, false}
use mathlib.Core.List.{List, [], ◌∷◌, ◌++◌, append_assoc}
use Prim.Native.Nat.{ℕ, ◌+◌, ◌-◌, ◌*◌, ◌≤◌, ◌<◌}
use native.Mathlib.Nat.{zero-add, zero-mul, mul-le-mul}
use native.Mathlib.Numerals.{add-one}
use native.Mathlib.Omega.{arith}
use lib.Dec.{eqb, ltb}
use lib.ListN.{length, get_or, take, drop, length-append, length-drop}
use lib.Seq.{sets, length-sets, length-take-le, get_or-take, get_or-drop}
use borrow.Author.Tests.{lt-ltb, le-ltb, eq-eqb, ne_eqb}
use Rattle.statements.specs.Sets.{pick, numbers, joined}
use Rattle.statements.specs.Plants.{Plant, move_into}
use Rattle.statements.specs.Books.{two, bytes_of}
use Rattle.sets.proofs.Tests.{decided, same_number}
use Rattle.sets.proofs.Members.{filter_same, numbers_holds}
use Rattle.sets.proofs.Joined.{joined_length, joined_more}
use Rattle.sets.proofs.Over.{sets_append}
use Rattle.decoding.proofs.Sizes.{Sizes, bytes_length, bytes_append, row_within}
use Rattle.solve.specs.Given.{below}
use Rattle.solve.specs.Reached.{goes}
use Rattle.solve.specs.Rows.{row_size, rows_long, column_of, own_move, entries_of, row_of}

-- waits that agree on the states give one set
below_same : (a b : List ℕ) (limit s : ℕ) → ((x : ℕ) → x < s → get_or a x 0 ≡ get_or b x 0)
    → below a limit s ≡ below b limit s
unfolding below
below_same a b limit s same =
    filter_same (λ x. ltb (get_or a x 0) limit) (λ x. ltb (get_or b x 0) limit) (numbers s 0)
    (λ x m. ap (λ (v : ℕ). ltb v limit) (same x (omega (arith, numbers_holds s 0 x m))))

-- a state's wait in the column of a goal
column_at : (p : Plant) (waits : List ℕ) (i x : ℕ) → x < p.states
    → get_or (column_of p waits i) x 0 ≡ get_or waits (i * p.states + x) 0
unfolding column_of
column_at p waits i x h =
    let at = i * p.states in
    get_or-take (at + p.states - at) (drop at waits) x 0 (omega arith) ∙ get_or-drop at waits x 0

-- a goal's part of the columns is its column
pub column_is : (p : Plant) (waits : List ℕ) (i : ℕ) {s : ℕ} → s ≡ p.states
    → take (i * s + s - i * s) (drop (i * s) waits) ≡ column_of p waits i
unfolding column_of
column_is p waits i e = ap (λ (s : ℕ). take (i * s + s - i * s) (drop (i * s) waits)) e

-- which stands in the columns
pub column_in : (p : Plant) (waits : List ℕ) {s n : ℕ} → s ≡ p.states → n ≡ p.goals → p.goals * p.states ≤ length waits
    → (i : ℕ) → i < n → i * s + s ≤ length waits
column_in p waits es en room i h = rw es (omega (arith, row_within {s = p.goals} i p.states (omega arith), room))

-- it has a wait for each state
pub column_long : (waits : List ℕ) (i s : ℕ) → i * s + s ≤ length waits
    → length (take (i * s + s - i * s) (drop (i * s) waits)) ≡ s
column_long waits i s h =
    let size : i * s + s - i * s ≡ s = omega arith in
    rw size (length-take-le s (drop (i * s) waits) (omega (arith, length-drop (i * s) waits)))

module _ (p : Plant) (mask : ℕ) (leave waits : List ℕ) (x : ℕ) {none : ℕ} (moves : none ≡ p.moves) where
  -- the own move of a state that leaves
  pub own_away : get_or leave x 0 < none → get_or leave x 0 ≡ own_move p mask leave waits x
  unfolding own_move goes
  own_away h =
      let yes : ltb (get_or leave x 0) p.moves ≡ true = lt-ltb (get_or leave x 0) p.moves (omega arith) in
      rw yes

  -- and of any other
  pub own_found : none ≤ get_or leave x 0 → {r : ℕ} → r ≡ move_into p mask (below waits 65535 p.states) x
      → r ≡ own_move p mask leave waits x
  unfolding own_move goes
  own_found h e =
      let no : ltb (get_or leave x 0) p.moves ≡ false = le-ltb (get_or leave x 0) p.moves (omega arith) in
      let first = below_same waits (column_of p waits 0) 65535 p.states
      (λ y l. sym (column_at p waits 0 y l ∙ rw (zero-mul, zero-add))) in
      e ∙ rw (no, first)

-- the bytes of two numbers
bytes_two : (a b : ℕ) → bytes_of (a ∷ (b ∷ [])) ≡ two a ++ two b
unfolding bytes_of two
bytes_two a b = refl

-- a number has two
two_long : (a : ℕ) → length (two a) ≡ 2
unfolding two
two_long a = refl

-- the entry of a goal
abbrev entry_at : Plant → ℕ → ℕ → List ℕ → ℕ → ℕ → List ℕ
entry_at p mask own waits x i =
    let wait = get_or waits (i * p.states + x) 0 in
    wait ∷ (pick (eqb wait 0) own (move_into p mask (below (column_of p waits i) wait p.states) x) ∷ [])

-- the entries of the first i goals are written from a place on
pub record Entered (p : Plant) (mask own : ℕ) (waits : List ℕ) (x at : ℕ) (o o' : List ℕ) (i : ℕ) : Type 0 where
  pub within : i ≤ p.goals
  pub bytes : o' ≡ sets o at (bytes_of (joined i 0 (entry_at p mask own waits x)))

-- before the first goal
pub entered_none : {p : Plant} {mask own : ℕ} {waits : List ℕ} {x at : ℕ} {o : List ℕ}
    → Entered p mask own waits x at o o 0
unfolding joined bytes_of
entered_none = record { within = omega arith; bytes = refl }

module _ (p : Plant) (mask own : ℕ) (waits : List ℕ) (x : ℕ) where
  -- the numbers of an entry, told from its column
  entry_is : (i : ℕ) {column : List ℕ} {r : ℕ} → x < p.states → column ≡ column_of p waits i
      → (get_or column x 0 ≡ 0 → r ≡ own)
      → (0 < get_or column x 0 → r ≡ move_into p mask (below column (get_or column x 0) p.states) x)
      → entry_at p mask own waits x i ≡ get_or column x 0 ∷ (r ∷ [])
  entry_is i {column} {r} h e none some =
      let wait : get_or waits (i * p.states + x) 0 ≡ get_or column x 0 =
      sym (ap (λ (l : List ℕ). get_or l x 0) e ∙ column_at p waits i x h) in
      rw (wait, ← e)
      (ap (λ (v : ℕ). get_or column x 0 ∷ (v ∷ []))
      (⊎_elim
      (λ z. rw (eq-eqb (get_or column x 0) 0 z) (sym (none z)))
      (λ d. rw (ne_eqb (get_or column x 0) 0 d) (sym (some (omega arith))))
      (same_number (get_or column x 0) 0)))

  -- the bytes of the entries of so many goals
  entered_long : (i : ℕ) → length (bytes_of (joined i 0 (entry_at p mask own waits x))) ≡ 4 * i
  entered_long i =
      omega (
        arith,
        bytes_length (joined i 0 (entry_at p mask own waits x)),
        joined_length (entry_at p mask own waits x) 2 (λ k. refl) i 0,
      )

module _ {p : Plant} {mask own : ℕ} {waits : List ℕ} {x at : ℕ} {o o' : List ℕ} {i : ℕ}
    (r : Entered p mask own waits x at o o' i) where
  -- the buffer keeps its length
  pub entered_length : length o' ≡ length o
  entered_length = ap length r.bytes ∙ length-sets o at (bytes_of (joined i 0 (entry_at p mask own waits x)))

  -- one goal more
  pub entered_next : {column o₁ o₂ : List ℕ} {v : ℕ} → x < p.states → i < p.goals → column ≡ column_of p waits i
      → (get_or column x 0 ≡ 0 → v ≡ own)
      → (0 < get_or column x 0 → v ≡ move_into p mask (below column (get_or column x 0) p.states) x)
      → o₁ ≡ sets o' (at + 4 * i) (two (get_or column x 0)) → o₂ ≡ sets o₁ (at + 4 * i + 2) (two v)
      → Entered p mask own waits x at o o₂ (i + 1)
  entered_next {column} {o₁} {v = v} hx hi e none some e₁ e₂ =
      let so_far = bytes_of (joined i 0 (entry_at p mask own waits x)) in
      let wait = get_or column x 0 in
      let first : at + 4 * i ≡ at + length so_far = omega (arith, entered_long p mask own waits x i) in
      let second : at + 4 * i + 2 ≡ at + length (so_far ++ two wait) =
      omega (arith, entered_long p mask own waits x i, length-append so_far (two wait), two_long wait) in
      let one : o₁ ≡ sets o at (so_far ++ two wait) =
      e₁ ∙ rw (r.bytes, first) (sets_append o at so_far (two wait)) in
      let parts = rw zero-add at (joined_more (entry_at p mask own waits x) i 0) in
      let more : bytes_of (joined (i + 1) 0 (entry_at p mask own waits x)) ≡ (so_far ++ two wait) ++ two v =
      rw (add-one, parts, bytes_append, entry_is p mask own waits x i hx e none some, bytes_two, append_assoc) in
      record {
        within = omega arith;
        bytes = e₂ ∙ rw (one, second) (sets_append o at (so_far ++ two wait) (two v)) ∙ ap (sets o at) (sym more);
      }

  -- all goals
  pub entered_all : p.goals ≤ i → o' ≡ sets o at (bytes_of (entries_of p mask own waits x))
  unfolding entries_of
  entered_all h =
      let end : i ≡ p.goals = omega (arith, r.within) in
      rw end at r.bytes

-- a row has a number for the stage just if it has more than two numbers for each goal
pub size_staged : (p : Plant) → 2 * p.goals < row_size p → p.settles ≡ true
unfolding row_size
size_staged p h = ⊎_elim (λ e. e) (λ e. absurd (omega (arith, rw e at h))) (decided p.settles)

-- and has none otherwise
pub size_plain : (p : Plant) → row_size p ≤ 2 * p.goals → p.settles ≡ false
unfolding row_size
size_plain p h = ⊎_elim (λ e. absurd (omega (arith, rw e at h))) (λ e. e) (decided p.settles)

-- a row has few numbers
size_most : (p : Plant) → row_size p ≤ 2 * p.goals + 1
unfolding row_size
size_most p = ⊎_elim (λ e. rw e (omega arith)) (λ e. rw e (omega arith)) (decided p.settles)

-- and no fewer than two for each goal
pub size_least : (p : Plant) → 2 * p.goals ≤ row_size p
unfolding row_size
size_least p = ⊎_elim (λ e. rw e (omega arith)) (λ e. rw e (omega arith)) (decided p.settles)

-- a row stands among all rows
pub row_fits : (p : Plant) {size : ℕ} → size ≡ row_size p → (x : ℕ) → x < p.states → x * size + size ≤ rows_long p
unfolding rows_long
row_fits p e x h = rw e (row_within {s = p.states} x (row_size p) h)

-- of which there are few
pub rows_few : (p : Plant) → Sizes p.states p.moves p.goals → rows_long p ≤ 1024 * 17
unfolding rows_long
rows_few p z =
    let size : row_size p ≤ 17 = omega (arith, size_most p, z.goals_most) in
    mul-le-mul z.states_most size

-- a row's bytes, with the number for its stage
bytes_staged : (t : Bool) (v : ℕ) (es : List ℕ) → t ≡ true → bytes_of (pick t (v ∷ []) [] ++ es) ≡ two v ++ bytes_of es
unfolding bytes_of
bytes_staged t v es e = rw e refl

-- and without
bytes_plain : (t : Bool) (v : ℕ) (es : List ℕ) → t ≡ false → bytes_of (pick t (v ∷ []) [] ++ es) ≡ bytes_of es
bytes_plain t v es e = rw e refl

module _ (p : Plant) (mask : ℕ) (leave waits : List ℕ) (number x at : ℕ) (o : List ℕ) {own : ℕ} {o₁ o₂ : List ℕ}
    (is : own ≡ own_move p mask leave waits x) where
  -- the whole row written, with the number for its stage
  pub row_staged : p.settles ≡ true → o₁ ≡ sets o at (two number)
      → o₂ ≡ sets o₁ (at + 2) (bytes_of (entries_of p mask own waits x))
      → o₂ ≡ sets o at (bytes_of (row_of p mask leave waits number x))
  unfolding row_of
  row_staged e e₁ e₂ =
      let after : at + 2 ≡ at + length (two number) = omega (arith, two_long number) in
      let entries = entries_of p mask (own_move p mask leave waits x) waits x in
      e₂ ∙ rw (e₁, after, is) (sets_append o at (two number) (bytes_of entries))
      ∙ ap (sets o at) (sym (bytes_staged p.settles number entries e))

  -- and without
  pub row_plain : p.settles ≡ false → o₁ ≡ o → o₂ ≡ sets o₁ at (bytes_of (entries_of p mask own waits x))
      → o₂ ≡ sets o at (bytes_of (row_of p mask leave waits number x))
  unfolding row_of
  row_plain e e₁ e₂ =
      let entries = entries_of p mask (own_move p mask leave waits x) waits x in
      e₂ ∙ rw (e₁, is) (ap (sets o at) (sym (bytes_plain p.settles number entries e)))

-- a row of two numbers for each goal and perhaps one before them
pub row_long_lem : (p : Plant) (v : ℕ) (part : ℕ → List ℕ) → ((k : ℕ) → length (part k) ≡ 2)
    → length (pick p.settles (v ∷ []) [] ++ joined p.goals 0 part) ≡ row_size p
unfolding row_size
row_long_lem p v part sized =
    let many = joined_length part 2 sized p.goals 0 in
    ⊎_elim (λ e. rw e (omega arith)) (λ e. rw e (omega arith)) (decided p.settles)

-- so are the rows told from columns
pub row_size_lem : (p : Plant) (mask : ℕ) (leave waits : List ℕ) (number x : ℕ)
    → length (row_of p mask leave waits number x) ≡ row_size p
unfolding row_of entries_of
row_size_lem p mask leave waits number x =
    row_long_lem p number (entry_at p mask (own_move p mask leave waits x) waits x) (λ k. refl)
