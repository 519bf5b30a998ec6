-- A mark answers the question, and where there is none each wait is one.
use Rattle.std.proofs.Common.{◌≡◌, ℕ, Bool, ◌+◌, ◌*◌, get_or, eqb, not, eq-eqb, ne_eqb, below_more, sym, arith}
use Rattle.sets.proofs.Numbers.{every_all, every_none}
use Rattle.game.specs.Cuts.{waits_all}
use Rattle.game.proofs.strike.waits_all.Goals as goal

pub loop-i-init : goal.loop-i-init
loop-i-init c k h = absurd (omega arith)

pub returns-then-waits-i : goal.returns-then-waits-i
unfolding waits_all
returns-then-waits-i c =
    let s = c.args in
    let i = c.loop-i.i in
    let test : ℕ → Bool = λ (k : ℕ). not (eqb (get_or s.waits.now (k * s.n + s.node) 0) 65535) in
    sym (every_none s.goals 0 test i (omega arith) (omega arith)
    (rw (eq-eqb (get_or s.waits.now (i * s.n + s.node) 0) 65535 (rw c.from-x.ensures at c.if-waits-i.true))))

pub loop-i-preserved : goal.loop-i-preserved
loop-i-preserved c =
    let s = c.args in
    below_more (λ (k : ℕ). get_or s.waits.now (k * s.n + s.node) 0 ≡ 65535 → ⊥) _ c.loop-i.invariant
    (rw c.from-x.ensures at c.if-waits-i.false)

pub returns : goal.returns
unfolding waits_all
returns c =
    let s = c.args in
    let test : ℕ → Bool = λ (k : ℕ). not (eqb (get_or s.waits.now (k * s.n + s.node) 0) 65535) in
    sym (every_all s.goals 0 test
    (λ k low high. rw (ne_eqb (get_or s.waits.now (k * s.n + s.node) 0) 65535 (c.loop-i.invariant k (omega arith)))))
