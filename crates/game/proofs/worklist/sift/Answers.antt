-- The next number is one of the list, and stays where it passes.
use Rattle.std.proofs.Common.{refl, ◌≡◌, true, ℕ, ◌<◌, ◌≤◌, ◌≢◌, List, ◌-◌, length, get_or, get_or-set_other, arith, sym, ◌∙◌, take}
use Rattle.std.proofs.Common.{zero, suc, [], ◌∷◌, eqb, eq-eqb}
use Rattle.statements.specs.Sets.{is_in}
use Rattle.sets.proofs.Tests.{or_left, or_right}
use Rattle.arrays.proofs.Sieves.{sieve_start, sieve_yes, sieve_no, sieved_end}
use Rattle.game.proofs.worklist.sift.Goals as goal
use Rattle.game.proofs.worklist.sift.Goals.{then-keep, else-keep}

-- what stands at one of the first places is a member of the front
take_in : (h i : ℕ) (xs : List ℕ) → i < h → h ≤ length xs → is_in (get_or xs i 0) (take h xs) ≡ true
unfolding is_in
take_in zero i xs l k = absurd (omega arith)
take_in (suc h) i [] l k = absurd (omega arith)
take_in (suc h) zero (x ∷ xs) l k = or_left (eqb x x) (is_in x (take h xs)) (eq-eqb x x refl)
take_in (suc h) (suc i) (x ∷ xs) l k =
    or_right (eqb (get_or xs i 0) x) (is_in (get_or xs i 0) (take h xs)) (take_in h i xs (omega arith) (omega arith))

pub loop-k-init : goal.loop-k-init
loop-k-init g c =
    record {
      most = omega arith;
      least = omega arith;
      same = λ i h. refl;
      sieved = λ test is. sieve_start test c.args.count c.args.list.now c.requires.room;
    }

pub keep-requires : goal.keep-requires
keep-requires g c =
    let k = c.loop-k.k in
    let room : c.args.count ≤ length c.args.list.now = c.requires.room in
    rw (c.loop-k.invariant.same k (omega arith)) (c.requires.callable _ (take_in c.args.count k c.args.list.now (omega arith) room))

pub loop-k-preserved : goal.loop-k-preserved
loop-k-preserved g c =
    let l = c.loop-k in
    let inv = l.invariant in
    let more : l.k < c.args.count = omega arith in
    elim c.if-keep.branch [
      | then-keep w ↦ rw (w.list-is, w.kept-is)
          (record {
            most = inv.most;
            least = omega (arith, inv.least);
            same = λ i h.
                let ne : i ≢ l.k - (c.args.count - l.kept) = omega arith in
                get_or-set_other l.list (l.k - (c.args.count - l.kept)) i _ 0 ne ∙ inv.same i (omega arith);
            sieved = λ test is. sieve_yes (inv.sieved test is) more (sym (is _ _ c.keep.ensures) ∙ w.if-keep.true);
          })
      | else-keep w ↦ rw (w.list-is, w.kept-is)
          (record {
            most = omega (arith, inv.most);
            least = omega (arith, inv.least);
            same = λ i h. inv.same i (omega arith);
            sieved = λ test is. sieve_no (inv.sieved test is) more (sym (is _ _ c.keep.ensures) ∙ w.if-keep.false);
          })
    ]

pub returns-clause-number : goal.returns-clause-number
returns-clause-number g c test is = (sieved_end (c.loop-k.invariant.sieved test is) (omega (arith, c.loop-k-test.false))).0

pub returns-clause-still : goal.returns-clause-still
returns-clause-still g c test is = (sieved_end (c.loop-k.invariant.sieved test is) (omega (arith, c.loop-k-test.false))).1
