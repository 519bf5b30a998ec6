-- Demand 3 over traces of calls follows from demand 3 over lists of masks and lengths: by its promise each step does to
-- the standing book, and answers, what the definitions say of its mask and its buffers' lengths. Assumes nothing.
use mathlib.Core.Path.{◌≡◌, refl, sym, ◌∙◌, ap}
use mathlib.Core.Logic.{inl, inr}
use mathlib.Core.Bool.{Bool, true, false}
use mathlib.Core.List.{List, [], ◌∷◌}
use Prim.Native.Nat.{ℕ, ◌≤◌}
use lib.Dec.{eqb}
use lib.ListN.{length, take}
use borrow.Author.Tests.{le-leb}
use Rattle.statements.specs.Sets.{pick, over}
use Rattle.statements.specs.Plants.{plant_of}
use Rattle.statements.specs.Books.{book_long, made_book}
use Rattle.statements.specs.Calls.{mask_fault, book_room, make_fault, effect_of, answer_of, standing_after, standing}
use Rattle.statements.specs.Calls.{answers, in_service}
use Rattle.decoding.proofs.Faults.{make_ok}
use Rattle.demands.proofs.Demand3.{service_ok, demand_3}
use Rattle.promises.specs.Answers.{Answer}
use Rattle.promises.specs.Says.{MakeSays}
use Rattle.promises.specs.Traces.{Step, Keeps}
use Rattle.promises.specs.Traces.{next_book, last_book, Trace, numbers_in, call_of, calls_of, AnyMake, Begun}
use Rattle.promises.specs.Traces.{book_after, service_after, Demand3Traced}
use Rattle.sets.proofs.Over.{over_back}
use Rattle.promises.proofs.Read.{made_read}
use Rattle.promises.proofs.Indexed.{made_own, made_plain}

-- what an accepted call leaves in its buffer is the book that it writes
standing_is : (t : Bool) (b written o o' : List ℕ) (l : ℕ) → l ≡ pick t (length written) 0 →
    o' ≡ pick t (over written o) o → pick t (take l o') b ≡ pick t written b
standing_is true b written o o' l e f = rw f (over_back written o l e)
standing_is false b written o o' l e f = refl

-- a step answers, and leaves as standing book, what the definitions say of its call
step_answer : (s b : List ℕ) (c : Step) → Keeps s b c → c.r.number ≡ answer_of s b (call_of c)
unfolding call_of answer_of
step_answer s b c k = k.writes.number

step_book : (s b : List ℕ) (c : Step) → Keeps s b c → next_book b c ≡ standing_after s b (call_of c)
unfolding next_book standing_after call_of answer_of
step_book s b c k =
    let w = k.writes in
    let after = (effect_of s b c.ask).book in
    standing_is (eqb c.r.number 0) b after c.o c.o' c.r.length w.length_is w.book
    ∙ ap (λ n. pick (eqb n 0) after b) w.number

-- so does a trace
pub trace_book : (s b : List ℕ) (cs : List Step) → Trace s b cs → last_book b cs ≡ standing s b (calls_of cs)
unfolding last_book standing calls_of
trace_book s b [] h = refl
trace_book s b (c ∷ cs) h =
    trace_book s (next_book b c) cs h.1 ∙ ap (λ e. standing s e (calls_of cs)) (step_book s b c h.0)

pub trace_answers : (s b : List ℕ) (cs : List Step) → Trace s b cs → numbers_in cs ≡ answers s b (calls_of cs)
unfolding numbers_in answers calls_of call_of
trace_answers s b [] h = refl
trace_answers s b (c ∷ cs) h =
    rw (step_answer s b c h.0, trace_answers s (next_book b c) cs h.1, step_book s b c h.0) refl

-- an accepted make, by an index or without one, is said as a plain make
pub any_plain : {s o o' : List ℕ} {mask : ℕ} {r : Answer} → AnyMake s mask o o' r → r.number ≡ 0 →
    MakeSays s mask o o' r
any_plain says z =
    elim says [
      | inl plain ↦ plain
      | inr by ↦ made_plain by.1 z
    ]

-- so is the first call, and the first standing book is its book
module _ (s : List ℕ) (t : Begun s) where
  made : MakeSays s t.mask t.o t.o' t.r
  made = any_plain t.says t.is_accepted

  pub fault_zero : make_fault s t.mask (length t.o) ≡ 0
  fault_zero = sym made.writes.number ∙ t.is_accepted

  first_book : take t.r.length t.o' ≡ made_book (plant_of s) t.mask
  first_book = made_read made t.is_accepted

  pub book_is : book_after s t ≡ standing s (made_book (plant_of s) t.mask) (calls_of t.steps)
  unfolding book_after
  book_is =
      trace_book s (take t.r.length t.o') t.steps t.goes
      ∙ ap (λ b. standing s b (calls_of t.steps)) first_book

  -- a make with the moves in service and enough room is accepted
  again_accepted : (room : ℕ) → book_long (plant_of s).settles (plant_of s).states (plant_of s).goals ≤ room →
      make_fault s (service_after s t) room ≡ 0
  unfolding make_fault mask_fault book_room service_after
  again_accepted room h =
      let ok = make_ok s t.mask (length t.o) fault_zero in
      rw (
        ok.plant,
        service_ok s ok.plant t.mask (calls_of t.steps) ok.mask_ok_lem,
        le-leb (book_long (plant_of s).settles (plant_of s).states (plant_of s).goals) room h,
      )

pub demand_3_traced : Demand3Traced
unfolding service_after
demand_3_traced =
    record {
      as_afresh = λ s t. book_is s t ∙ afresh s t;
      made_again = again;
      made_again_by = λ t says h. again t (made_own says) h;
      right = λ s t.
          rw (book_is s t) (demand_3.right s t.mask (length t.o) (calls_of t.steps) (fault_zero s t));
      told_alone = λ s t. trace_answers s (take t.r.length t.o') t.steps t.goes
          ∙ ap (λ b. answers s b (calls_of t.steps)) (first_book s t)
          ∙ demand_3.told_alone s t.mask (length t.o) (calls_of t.steps) (fault_zero s t);
      equal_books = λ s t u.
          let e =
          demand_3.equal_books s t.mask (length t.o) u.mask (length u.o) (calls_of t.steps)
          (calls_of u.steps) (fault_zero s t) (fault_zero s u) in
          (λ h. e.0 (sym (book_is s t) ∙ h ∙ book_is s u), λ h. book_is s t ∙ e.1 h ∙ sym (book_is s u));
    }
  where
    afresh : (s : List ℕ) (t : Begun s) →
        standing s (made_book (plant_of s) t.mask) (calls_of t.steps) ≡
        made_book (plant_of s) (in_service (plant_of s) t.mask (calls_of t.steps))
    afresh s t = demand_3.as_afresh s t.mask (length t.o) (calls_of t.steps) (fault_zero s t)

    again : {s o o' : List ℕ} {r : Answer} (t : Begun s) → MakeSays s (service_after s t) o o' r →
        book_long (plant_of s).settles (plant_of s).states (plant_of s).goals ≤ length o →
        (r.number ≡ 0) × (take r.length o' ≡ book_after s t)
    again {s} {o} t says h =
        let z = says.writes.number ∙ again_accepted s t (length o) h in
        (z, made_read says z ∙ sym (book_is s t ∙ afresh s t))
