-- An arrow is passed over where its move is not of the mask, and tried where it is.
use Rattle.std.proofs.Common.{◌≡◌, ◌<◌, ◌^◌, ◌&&◌, ℕ, List, Bool, sym, ◌∙◌, arith}
use mathlib.Core.Path.{ap₂}
use lib.Dec.{ltb}
use Rattle.statements.specs.Sets.{bit, is_in}
use Rattle.statements.specs.Plants.{word, plant_of}
use Rattle.statements.specs.Books.{book_mask, stage_at, wait_at, less_mask}
use Rattle.decoding.proofs.Faults.{states_few}
use Rattle.format.proofs.Words.{power}
use Rattle.consult.specs.Checks.{nearer_than, leads_in}
use Rattle.consult.proofs.Rule.{leads_is}
use Rattle.consult.proofs.Turns.{of_mask, tried_move, tried_few, tried_in, tried_out}
use Rattle.consult.proofs.Turns.{turn_start, turn_here, turn_own, turn_next, turn_end}
use Rattle.consult.proofs.moves.Accepted.moves_into.Goals as goal

pub overflow_add-state : goal.overflow_add-state
overflow_add-state c =
    let p = c.args.self.now in
    omega (arith, c.requires, states_few p.plant.now p.fine)

pub loop-k-init : goal.loop-k-init
loop-k-init c =
    let few : c.mask-in_service.result < 2 ^ 32 = omega (arith, c.mask-in_service.type_inv) in
    turn_start (rw c.mask-in_service.ensures at few) c.first_from-first.ensures c.first_from-last.ensures

-- whether a move is of the mask, by what was read of the plant and the book
of_mask_is : (s b : List ℕ) {u moves mask action : ℕ} {t r : Bool} → moves ≡ word 1 s → mask ≡ book_mask b →
    action ≡ u → t ≡ bit action mask → (ltb u moves && t) ≡ r → of_mask (plant_of s) (book_mask b) u ≡ r
unfolding plant_of
of_mask_is s b {u} e f g h k =
    sym (ap₂ (λ (m : ℕ) (t : Bool). ltb u m && t) e (h ∙ ap₂ (λ (i m : ℕ). bit i m) g f)) ∙ k

-- whether an arrow ends where the rule allows
near_is : (b : List ℕ) (early : Bool) (x i : ℕ) {y v w e : ℕ} {t r : Bool} → v ≡ stage_at b x → w ≡ wait_at b x i →
    e ≡ y → t ≡ nearer_than b v w i early e → t ≡ r → is_in y (leads_in b early x i) ≡ r
near_is b early x i {y} p q f h k = cc (leads_is b early x i y)

pub loop-k-preserved-then-not-arrow-moves : goal.loop-k-preserved-then-not-arrow-moves
loop-k-preserved-then-not-arrow-moves c =
    turn_next c.loop-k.invariant c.loop-k-test.true
    (tried_move (turn_here c.loop-k.invariant c.loop-k-test.true c.read-arrow.ensures)
    (of_mask_is c.args.self.now.plant.now c.args.book.now c.number-moves.ensures c.mask-in_service.ensures
    c.from-action.ensures c.bit_at.ensures c.if-not-arrow-moves.true))

pub overflow_shl-one : goal.overflow_shl-one
overflow_shl-one c =
    let here = turn_here c.loop-k.invariant c.loop-k-test.true c.read-arrow.ensures in
    let on = of_mask_is c.args.self.now.plant.now c.args.book.now c.number-moves.ensures c.mask-in_service.ensures
    c.from-action.ensures c.bit_at.ensures c.if-not-arrow-moves.false in
    omega (arith, c.from-action.ensures, tried_few here on)

pub loop-k-preserved-then-allows : goal.loop-k-preserved-then-allows
loop-k-preserved-then-allows c =
    let a = c.args in
    let here = turn_here c.loop-k.invariant c.loop-k-test.true c.read-arrow.ensures in
    let own = turn_own c.loop-k.invariant c.loop-k-test.true c.read-arrow.ensures in
    let on = of_mask_is a.self.now.plant.now a.book.now c.number-moves.ensures c.mask-in_service.ensures
    c.from-action.ensures c.bit_at.ensures c.if-not-arrow-moves.false in
    let near = near_is a.book.now a.early a.state a.goal c.stage_at-stage.ensures c.wait_at-wait.ensures c.from.ensures
    c.allows.ensures c.if-allows.true in
    rw (c.from-action.ensures, power _ (tried_few here on))
    (turn_next c.loop-k.invariant c.loop-k-test.true (tried_in here own on near))

pub loop-k-preserved : goal.loop-k-preserved
loop-k-preserved c =
    let a = c.args in
    let here = turn_here c.loop-k.invariant c.loop-k-test.true c.read-arrow.ensures in
    let own = turn_own c.loop-k.invariant c.loop-k-test.true c.read-arrow.ensures in
    let on = of_mask_is a.self.now.plant.now a.book.now c.number-moves.ensures c.mask-in_service.ensures
    c.from-action.ensures c.bit_at.ensures c.if-not-arrow-moves.false in
    let near = near_is a.book.now a.early a.state a.goal c.stage_at-stage.ensures c.wait_at-wait.ensures c.from.ensures
    c.allows.ensures c.if-allows.false in
    rw (c.from-action.ensures, power _ (tried_few here on))
    (turn_next c.loop-k.invariant c.loop-k-test.true (tried_out here own on near))

pub returns : goal.returns
unfolding less_mask
returns c = turn_end c.loop-k.invariant c.loop-k-test.false
