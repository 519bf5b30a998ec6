-- The first move found is the lowest of all.
use Rattle.std.proofs.Common.{◌+◌, get_or, sym, ◌∙◌, arith}
use Rattle.kept.proofs.Moves.{moves_lowest}
use Rattle.solve.proofs.Searching as laws
use Rattle.solve.proofs.moves.Moves.search.Goals as goal

pub bounds-self-x : goal.bounds-self-x
bounds-self-x c =
    omega (arith, laws.sought_next (laws.sought c.args.self.now.given c.requires.waits_long c.requires.in_range))

pub bounds-self-x-2 : goal.bounds-self-x-2
bounds-self-x-2 c = laws.sought_next (laws.sought c.args.self.now.given c.requires.waits_long c.requires.in_range)

pub groups-init : goal.groups-init
groups-init c = laws.left_start (laws.sought c.args.self.now.given c.requires.waits_long c.requires.in_range)

pub bounds-self-g : goal.bounds-self-g
bounds-self-g c =
    let q = laws.sought c.args.self.now.given c.requires.waits_long c.requires.in_range in
    omega (arith, laws.left_in q c.groups.invariant c.groups-test.true)

pub bounds-self-g-in-groups : goal.bounds-self-g-in-groups
bounds-self-g-in-groups c =
    let q = laws.sought c.args.self.now.given c.requires.waits_long c.requires.in_range in
    laws.left_in q c.groups.invariant c.groups-test.true

pub slice_bounds-end-items-count : goal.slice_bounds-end-items-count
slice_bounds-end-items-count c =
    let q = laws.sought c.args.self.now.given c.requires.waits_long c.requires.in_range in
    omega (arith, (laws.left_ends q c.groups.invariant c.groups-test.true).stop_is)

pub slice_bounds-end-items-start : goal.slice_bounds-end-items-start
slice_bounds-end-items-start c =
    let q = laws.sought c.args.self.now.given c.requires.waits_long c.requires.in_range in
    let d = laws.left_ends q c.groups.invariant c.groups-test.true in
    omega (arith, d.stop_is, laws.ends_stop_in q d)

pub slice_bounds-end-items-end : goal.slice_bounds-end-items-end
slice_bounds-end-items-end c =
    let q = laws.sought c.args.self.now.given c.requires.waits_long c.requires.in_range in
    laws.ends_stop_in q (laws.left_ends q c.groups.invariant c.groups-test.true)

pub loop-end-init : goal.loop-end-init
loop-end-init c =
    let q = laws.sought c.args.self.now.given c.requires.waits_long c.requires.in_range in
    laws.ends_here q (laws.left_ends q c.groups.invariant c.groups-test.true) (omega arith)

pub bounds-waits-end : goal.bounds-waits-end
bounds-waits-end c =
    omega (
      arith,
      laws.part_state (laws.sought c.args.self.now.given c.requires.waits_long c.requires.in_range) c.args.limit
          (get_or c.args.self.now.table.now (1025 + c.groups.g) 0) c.loop-end.end-index c.loop-end.invariant
          c.loop-end-test.true,
      c.requires.waits_long,
    )

pub groups-preserved : goal.groups-preserved
groups-preserved c =
    let q = laws.sought c.args.self.now.given c.requires.waits_long c.requires.in_range in
    laws.part_high q c.args.limit (get_or c.args.self.now.table.now (1025 + c.groups.g) 0) c.loop-end.end-index c.loop-end.invariant
    c.loop-end-test.true c.if-limit-waits.true

pub loop-end-preserved : goal.loop-end-preserved
loop-end-preserved c =
    let q = laws.sought c.args.self.now.given c.requires.waits_long c.requires.in_range in
    laws.part_low q c.args.limit (get_or c.args.self.now.table.now (1025 + c.groups.g) 0) c.loop-end.end-index c.loop-end.invariant
    c.loop-end-test.true c.if-limit-waits.false

pub bounds-self-moves : goal.bounds-self-moves
bounds-self-moves c =
    let q = laws.sought c.args.self.now.given c.requires.waits_long c.requires.in_range in
    laws.ends_move_in q c.loop-end.invariant

pub returns-after-loop-end-clause-first : goal.returns-after-loop-end-clause-first
returns-after-loop-end-clause-first c =
    let q = laws.sought c.args.self.now.given c.requires.waits_long c.requires.in_range in
    let at = get_or c.args.self.now.table.now (1025 + c.groups.g) 0 in
    sym (laws.ends_all q c.loop-end.invariant
    (laws.part_all q c.args.limit at c.loop-end.end-index c.loop-end.invariant c.loop-end-test.false))

pub returns-after-loop-end-clause-found : goal.returns-after-loop-end-clause-found
returns-after-loop-end-clause-found c =
    let q = laws.sought c.args.self.now.given c.requires.waits_long c.requires.in_range in
    let at = get_or c.args.self.now.table.now (1025 + c.groups.g) 0 in
    sym (laws.ends_can q c.loop-end.invariant
    (laws.part_all q c.args.limit at c.loop-end.end-index c.loop-end.invariant c.loop-end-test.false))

pub returns-after-loop-end-clause-lowest : goal.returns-after-loop-end-clause-lowest
returns-after-loop-end-clause-lowest c =
    let q = laws.sought c.args.self.now.given c.requires.waits_long c.requires.in_range in
    let at = get_or c.args.self.now.table.now (1025 + c.groups.g) 0 in
    sym (laws.ends_all q c.loop-end.invariant
    (laws.part_all q c.args.limit at c.loop-end.end-index c.loop-end.invariant c.loop-end-test.false))
    ∙ sym (moves_lowest _ _ _ _)

pub returns-after-groups-clause-first : goal.returns-after-groups-clause-first
returns-after-groups-clause-first c =
    let q = laws.sought c.args.self.now.given c.requires.waits_long c.requires.in_range in
    sym (laws.left_none q c.groups.invariant c.groups-test.false)

pub returns-after-groups-clause-found : goal.returns-after-groups-clause-found
returns-after-groups-clause-found c =
    let q = laws.sought c.args.self.now.given c.requires.waits_long c.requires.in_range in
    sym (laws.left_cannot q c.groups.invariant c.groups-test.false)

pub returns-after-groups-clause-lowest : goal.returns-after-groups-clause-lowest
returns-after-groups-clause-lowest c =
    let q = laws.sought c.args.self.now.given c.requires.waits_long c.requires.in_range in
    sym (laws.left_none q c.groups.invariant c.groups-test.false) ∙ sym (moves_lowest _ _ _ _)
