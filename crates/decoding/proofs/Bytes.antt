-- Where its numbers fit, a book is a list of bytes. Assumes nothing.
use mathlib.Core.Path.{sym, subst}
use mathlib.Core.Logic.{inl, inr}
use mathlib.Core.Bool.{Bool}
use mathlib.Core.List.{List, [], ◌++◌}
use Prim.Native.Nat.{ℕ, zero, suc, ◌/◌, ◌%◌, ◌≤◌, ◌<◌}
use native.Mathlib.Omega.{arith}
use lib.ListN.{length, get_or}
use Rattle.statements.specs.Sets.{pick, is_in, joined}
use Rattle.statements.specs.Plants.{Plant}
use Rattle.statements.specs.Kept.{stage_of, wait_of, listed_move}
use Rattle.statements.specs.Books.{two, lost_mark, book_long, entry_of, stage_part, row_of, head_of, book_bytes}
use Rattle.sets.proofs.Tests.{decided}
use Rattle.sets.proofs.Joined.{append_bytes, joined_bytes}
use Rattle.decoding.proofs.Sizes.{long_most}
use Rattle.decoding.proofs.Fits.{Fits, kept_count, mask_below}

two_bytes : (v : ℕ) → v < 65536 → (k : ℕ) → get_or (two v) k 0 < 256
unfolding two
two_bytes v h zero = omega arith
two_bytes v h (suc zero) = omega arith
two_bytes v h (suc (suc k)) = omega arith

-- a two-byte number and bytes after it
then_bytes : (v : ℕ) (rest : List ℕ) → v < 65536 → ((k : ℕ) → get_or rest k 0 < 256) → (k : ℕ)
    → get_or (two v ++ rest) k 0 < 256
then_bytes v rest h = append_bytes (two v) rest (two_bytes v h)

module _ (p : Plant) (mask : ℕ) (kept : List ℕ) (fits : Fits p mask kept) where
  entry_bytes : (x i : ℕ) → i < p.goals → (k : ℕ) → get_or (entry_of p mask kept x i) k 0 < 256
  unfolding entry_of
  entry_bytes x i hi k =
      let pair : (v w : ℕ) → v < 65536 → w < 65536 → get_or (two v ++ two w) k 0 < 256 =
      λ v w hv hw. then_bytes v (two w) hv (two_bytes w hw) k in
      elim (decided (is_in x kept)) [
        | inl h ↦
            let short : wait_of p mask kept i x ≤ 1023 = fits.waits x i h hi in
            let low : listed_move p mask kept i x < p.moves = (fits.moves_ok x i h hi).0 in
            rw h (pair (wait_of p mask kept i x) (listed_move p mask kept i x) (omega arith) (omega arith))
        | inr h ↦ rw h (pair lost_mark lost_mark (omega arith) (omega arith))
      ]

  head_bytes : (k : ℕ) → get_or (head_of p mask kept) k 0 < 256
  unfolding head_of
  head_bytes =
      then_bytes p.states _ (omega arith)
      (then_bytes p.moves _ (omega arith)
      (then_bytes p.goals _ (omega arith)
      (then_bytes (length kept) _ (omega (arith, kept_count p mask kept fits))
      (then_bytes (mask % 65536) _ (omega arith)
      (then_bytes (mask / 65536) _ (omega (arith, mask_below p mask kept fits))
      (then_bytes 16 _ (omega arith)
      (two_bytes (book_long p.settles p.states p.goals) (omega (arith, long_most fits.sizes p.settles)))))))))

  stage_bytes : (x k : ℕ) → get_or (stage_part p mask kept x) k 0 < 256
  unfolding stage_part
  stage_bytes x k =
      elim (decided p.settles) [
        | inl e ↦
            let stage = pick (is_in x kept) (stage_of p mask kept x) lost_mark in
            let most : stage < 65536 =
            elim (decided (is_in x kept)) [
              | inl h ↦ rw h (omega (arith, fits.stages e x h, fits.sizes.states_most))
              | inr h ↦ rw h (omega arith)
            ] in
            subst (λ (t : Bool). get_or (pick t (two stage) []) k 0 < 256) (sym e) (two_bytes stage most k)
        | inr e ↦
            subst
            (λ (t : Bool). get_or (pick t (two (pick (is_in x kept) (stage_of p mask kept x) lost_mark)) []) k 0 < 256)
            (sym e) (omega arith)
      ]

  pub book_bytes_lem : (k : ℕ) → get_or (book_bytes p mask kept) k 0 < 256
  unfolding book_bytes row_of
  book_bytes_lem =
      append_bytes (head_of p mask kept) (joined p.states 0 (row_of p mask kept)) head_bytes
      (joined_bytes (row_of p mask kept) p.states 0 λ x lx hx.
      append_bytes (stage_part p mask kept x) (joined p.goals 0 (entry_of p mask kept x)) (stage_bytes x)
      (joined_bytes (entry_of p mask kept x) p.goals 0 λ i li hi. entry_bytes x i (omega arith)))
