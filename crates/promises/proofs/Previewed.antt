-- A preview and the withdrawal agree: what each returns and leaves in its buffers, side by side. Assumes nothing.
use mathlib.Core.Path.{◌≡◌, sym, ap, ap₂, ◌∙◌}
use mathlib.Core.List.{List}
use Prim.Native.Nat.{ℕ, ◌+◌}
use native.Mathlib.Omega.{arith}
use lib.ListN.{length}
use borrow.Author.Tests.{eq-eqb}
use Rattle.statements.specs.Sets.{over}
use Rattle.statements.specs.Plants.{plant_of}
use Rattle.statements.specs.Books.{bytes_of, book_long, book_count, withdrawn_book, dropped_states}
use Rattle.statements.specs.Calls.{withdraw_fault}
use Rattle.decoding.proofs.Faults.{withdraw_ok, preview_as}
use Rattle.demands.proofs.Demand2.{demand_2}
use Rattle.promises.specs.Answers.{Cost}
use Rattle.promises.specs.Says.{PreviewSays}
use Rattle.promises.specs.Previews.{Previews}
use Rattle.promises.proofs.Read.{book_read, drops_are, list_is}
use Rattle.promises.proofs.Listed.{list_read, lists}

-- what an accepted preview returns, and leaves in its buffer
module _ {s b : List ℕ} {gone : ℕ} {d d' : List ℕ} {c : Cost} (says : PreviewSays s b gone d d' c)
    (is_accepted : c.number ≡ 0) where
  -- the withdrawal is accepted with a book buffer that is just long enough
  fine : withdraw_fault s b gone (book_long (plant_of s).settles (plant_of s).states (plant_of s).goals) (length d) ≡ 0
  fine = sym (preview_as s b gone _ (length d) (omega arith)) ∙ sym says.number ∙ is_accepted

  drops_told : c.drops ≡ length (dropped_states b (withdrawn_book (plant_of s) b gone))
  drops_told = rw (eq-eqb c.number 0 is_accepted) at says.drops

  kept_told : c.kept ≡ book_count (withdrawn_book (plant_of s) b gone)
  kept_told = rw (eq-eqb c.number 0 is_accepted) at says.kept

  list_told : d' ≡ over (bytes_of (dropped_states b (withdrawn_book (plant_of s) b gone))) d
  list_told = rw (eq-eqb c.number 0 is_accepted) at says.list

-- a preview says what the withdrawal would give
pub previewed : Previews
previewed =
    record {
      number = λ {s} {b} {o} {e = e} {gone = gone} w p same h.
          p.number
          ∙ preview_as s b gone (length o) (length e) h
          ∙ ap (withdraw_fault s b gone (length o)) same
          ∙ sym w.writes.number;
      agree = λ w p wn pn.
          record {
            drops = drops_told p pn ∙ sym (drops_are w.writes wn);
            list =
                list_read _ _ _ _ (drops_told p pn) (list_told p pn)
                ∙ sym (list_read _ _ _ _ (drops_are w.writes wn) (list_is w.writes wn));
            buffer = λ same. list_told p pn ∙ ap (over _) same ∙ sym (list_is w.writes wn);
            kept = kept_told p pn ∙ sym (ap book_count (book_read w.writes wn));
          };
      listed = λ p pn.
          let ok = withdraw_ok _ _ _ _ _ (fine p pn) in
          lists _ _ _ _ _ _ ok.lent.states ok.drops_ok (drops_told p pn) (list_told p pn);
      adds_up = λ p pn.
          ap₂ (λ (m n : ℕ). m + n) (drops_told p pn) (kept_told p pn) ∙ demand_2.adds_up _ _ _ _ _ (fine p pn);
    }
