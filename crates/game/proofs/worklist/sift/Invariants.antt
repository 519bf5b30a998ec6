-- Those of the first k numbers that pass are at the front, and the numbers from k on are as they were.
use Rattle.std.proofs.Common.{◌≡◌, ℕ, Bool, ◌+◌, ◌≤◌, get_or}
use Rattle.arrays.proofs.Sieves.{Sieved}
use Rattle.game.proofs.worklist.sift.Given as goal

abbrev pub invariant-loop-k : goal.invariant-loop-k
invariant-loop-k g l =
    record {
      most : l.kept ≤ l.count;
      least : l.count ≤ l.kept + l.k;
      same : (i : ℕ) → l.k ≤ i → get_or l.list i 0 ≡ get_or l.fn.list i 0;
      sieved : (test : ℕ → Bool) → ((x : ℕ) (b : Bool) → goal.F-post g l.keep x b → b ≡ test x)
          → Sieved test l.count l.fn.list l.list l.kept l.k;
    }
