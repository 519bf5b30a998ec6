-- The groups are gathered by the index, or sorted.
use Rattle.std.proofs.Common.{refl, ◌∙◌, sym, ap, arith, length, take, length-take-le}
use Rattle.statements.specs.Plants.{plant_of}
use Rattle.sort.specs.Sorted.{sorted_by}
use Rattle.sort.proofs.Fitting.{sortable_yes, countable_yes}
use Rattle.graph.specs.Packed.{lent}
use Rattle.graph.proofs.Packing.{over_front, picked}
use Rattle.graph.proofs.Building.{owned_few, owners_part_lem}
use Rattle.graph.proofs.Lent.{lent_list}
use Rattle.graph.proofs.order.Goals.{in-Some+else-all+else-not-good, in_default}
use Rattle.graph.proofs.order.Goals as goal

pub returns-then-all-clause-lent : goal.returns-then-all-clause-lent
unfolding lent
returns-then-all-clause-lent c =
    let own = c.requires.laid.1 in
    rw c.in-Some.is
    (c.gather.ensures.exact own.fine own.owners_long own.rev_long)

pub returns-then-all-clause-starts : goal.returns-then-all-clause-starts
returns-then-all-clause-starts c same =
    let few = owned_few c.requires.laid.0 c.requires.laid.1 in
    let count = c.from-count.ensures ∙ c.number.ensures in
    let counts = countable_yes (length c.args.ends.now) c.from-count.result (length c.args.starts.now)
    (omega arith) (omega arith) (omega arith) in
    rw (← count) (picked _ c.begin.new.starts _ _ counts c.begin.ensures.starts)

pub returns-then-all-clause-sorted : goal.returns-then-all-clause-sorted
returns-then-all-clause-sorted c same =
    let own = c.requires.laid.1 in
    let all = sym (ap length c.requires.laid.0)
    ∙ c.if-all.true ∙ c.from.ensures ∙ c.number-2.ensures in
    let good = c.gather.ensures.exact own.fine own.owners_long own.rev_long in
    rw c.requires.laid.0
    (lent_list c.args.plant.now c.in-Some.index.now c.args.owners.now c.args.rev.now own.fine own.owners_long
    own.rev_long c.args.way.mask all own.owners_are c.gather.new.out (sym good ∙ same) c.gather.ensures.list)

pub returns-then-not-good-clause-lent : goal.returns-then-not-good-clause-lent
unfolding lent
returns-then-not-good-clause-lent c =
    rw c.in-Some.is (sym c.if-not-good.true ∙ c.is_index-good.ensures.exact c.requires.laid.1.fine)

pub returns-clause-lent : goal.returns-clause-lent
unfolding lent
returns-clause-lent c =
    elim c.match-way.branch [
      | in-Some+else-all+else-not-good w ↦
          rw w.in-Some.is (sym w.if-not-good.false ∙ w.is_index-good.ensures.exact c.requires.laid.1.fine)
      | in_default w ↦ rw w.in_default.is refl
    ]

pub slice_bounds-sort-end : goal.slice_bounds-sort-end
slice_bounds-sort-end c =
    sym (length-take-le _ c.args.owners.now (owned_few c.requires.laid.0 c.requires.laid.1).2)

pub returns-clause-starts : goal.returns-clause-starts
returns-clause-starts c same =
    let few = owned_few c.requires.laid.0 c.requires.laid.1 in
    let count = c.from-count.ensures ∙ c.number.ensures in
    let owners = take (length c.args.ends.now) c.args.owners.now in
    let long = length-take-le (length c.args.ends.now) c.args.owners.now few.2 in
    let sorts = sortable_yes (length c.args.ends.now) (length owners) c.from-count.result (length c.args.starts.now)
    (length c.args.rev.now) (omega arith) (omega arith) (omega arith) (omega arith) few.3 in
    rw (← count) (picked _ c.sort.new.starts _ _ sorts c.sort.ensures.starts)

pub returns-clause-sorted : goal.returns-clause-sorted
returns-clause-sorted c same =
    let few = owned_few c.requires.laid.0 c.requires.laid.1 in
    let count = c.from-count.ensures ∙ c.number.ensures in
    let owners = take (length c.args.ends.now) c.args.owners.now in
    let long = length-take-le (length c.args.ends.now) c.args.owners.now few.2 in
    let sorts = sortable_yes (length c.args.ends.now) (length owners) c.from-count.result (length c.args.starts.now)
    (length c.args.rev.now) (omega arith) (omega arith) (omega arith) (omega arith) few.3 in
    let own = owners_part_lem (plant_of c.args.plant.now) c.args.way.mask c.args.ends.now c.args.owners.now
    c.requires.laid.0 c.requires.laid.1.owners_are in
    rw (← own, ← count, picked _ c.sort.new.out _ _ sorts c.sort.ensures.sorted)
    (over_front (sorted_by c.from-count.result c.args.ends.now owners) c.args.rev.now)
