-- Demand 3 over calls as they go: each step has what was handed in, what the buffers held before and after, and the
-- answer, related by what the function promises. Crate statements has the same of lists of asks and lengths.
use Rattle.std.specs.Prelude.{◌≡◌, ◌↔◌, ◌⊎◌, List, [], ◌∷◌, ℕ, ◌≤◌, eqb, length, take}
use Rattle.promises.specs.Answers.{Answer}
use Rattle.statements.specs.Sets.{pick}
use Rattle.statements.specs.Plants.{plant_of}
use Rattle.statements.specs.Books.{book_long, made_book}
use Rattle.statements.specs.Index.{index_bytes}
use Rattle.statements.specs.Calls.{Ask, Call, told, in_service}
use Rattle.statements.specs.Demands.{Allowed, Right}
use Rattle.promises.specs.Says.{Says, MakeSays, MakeIndexedSays}

-- a call that went: what it asked for, its book buffer and its buffer for a list before and after, and its answer
pub record Step : Type 0 where
  pub ask : Ask
  pub o : List ℕ
  pub o' : List ℕ
  pub d : List ℕ
  pub d' : List ℕ
  pub r : Answer

-- a step keeps the function's promise, b being the standing book
abbrev pub Keeps : List ℕ → List ℕ → Step → Type 0
Keeps s b c = Says s b c.ask c.o c.o' c.d c.d' c.r

-- the standing book after a step: of an accepted call the first bytes of its buffer, as many as it returned
unfoldable pub next_book : List ℕ → Step → List ℕ
next_book b c = pick (eqb c.r.number 0) (take c.r.length c.o') b

unfoldable pub last_book : List ℕ → List Step → List ℕ
last_book b [] = b
last_book b (c ∷ cs) = last_book (next_book b c) cs

-- every step of a trace keeps its promise
abbrev pub Trace : List ℕ → List ℕ → List Step → Type 0
Trace s b [] = Unit {0}
Trace s b (c ∷ cs) = Keeps s b c × Trace s (next_book b c) cs

-- what a trace returned, and its calls: what they asked for and buffers' lengths alone
unfoldable pub numbers_in : List Step → List ℕ
numbers_in [] = []
numbers_in (c ∷ cs) = c.r.number ∷ numbers_in cs

unfoldable pub call_of : Step → Call
call_of c = record { ask = c.ask; room = length c.o; drops = length c.d }

unfoldable pub calls_of : List Step → List Call
calls_of [] = []
calls_of (c ∷ cs) = call_of c ∷ calls_of cs

-- a make that went, without an index or by one
abbrev pub AnyMake : List ℕ → ℕ → List ℕ → List ℕ → Answer → Type 0
AnyMake s mask o o' r = MakeSays s mask o o' r ⊎ ((index : List ℕ) × MakeIndexedSays s index mask o o' r)

-- a trace that begins with an accepted make of the plant s, either of them: the make, and the steps after it
pub record Begun (s : List ℕ) : Type 0 where
  pub mask : ℕ
  pub o : List ℕ
  pub o' : List ℕ
  pub r : Answer
  pub says : AnyMake s mask o o' r
  pub is_accepted : r.number ≡ 0
  pub steps : List Step
  pub goes : Trace s (take r.length o') steps

-- its last standing book, and the moves then in service, told from the calls alone
unfoldable pub book_after : (s : List ℕ) → Begun s → List ℕ
book_after s t = last_book (take t.r.length t.o') t.steps

unfoldable pub service_after : (s : List ℕ) → Begun s → ℕ
service_after s t = in_service (plant_of s) t.mask (calls_of t.steps)

-- demand 3 of every such trace
pub record Demand3Traced : Type 0 where
  -- the standing book is that of a making afresh with the moves in service
  pub as_afresh : (s : List ℕ) (t : Begun s) → book_after s t ≡ made_book (plant_of s) (service_after s t)
  -- and what a make call with these moves writes: with enough room it is accepted, and its book is the standing one, byte
  -- for byte
  pub made_again : {s o o' : List ℕ} {r : Answer} (t : Begun s) → MakeSays s (service_after s t) o o' r →
      book_long (plant_of s).settles (plant_of s).states (plant_of s).goals ≤ length o →
      (r.number ≡ 0) × (take r.length o' ≡ book_after s t)
  -- by the plant's index too
  pub made_again_by : {s o o' : List ℕ} {r : Answer} (t : Begun s) →
      MakeIndexedSays s (index_bytes (plant_of s)) (service_after s t) o o' r →
      book_long (plant_of s).settles (plant_of s).states (plant_of s).goals ≤ length o →
      (r.number ≡ 0) × (take r.length o' ≡ book_after s t)
  -- so that demand 2 and requests (i) and (v) hold of it
  pub right : (s : List ℕ) (t : Begun s) →
      Right (plant_of s) (service_after s t) (Allowed (plant_of s)) (book_after s t)
  -- each answer's number is told from the plant, what was asked for and the buffers' lengths alone
  pub told_alone : (s : List ℕ) (t : Begun s) → numbers_in t.steps ≡ told (plant_of s) (calls_of t.steps)
  -- two such traces on one plant end with equal books exactly when the same moves are in service
  pub equal_books : (s : List ℕ) (t u : Begun s) →
      (book_after s t ≡ book_after s u) ↔ (service_after s t ≡ service_after s u)
