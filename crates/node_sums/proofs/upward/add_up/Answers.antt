-- One more node is added to its parent.
use Rattle.std.proofs.Common.{ℕ, ◌≡◌, ◌+◌, ◌-◌, ◌<◌, ◌≤◌, length, subst, arith}
use Rattle.std.specs.Prelude.{sum}
use Rattle.node_sums.specs.Sums.{parent_in, value_at}
use Rattle.node_sums.proofs.Pushed.{ArePushed, has_room, pushed_more, settled}
use Rattle.node_sums.proofs.upward.add_up.Goals as goal

pub overflow_add-values : goal.overflow_add-values
overflow_add-values c =
    let n : ℕ = c.loop-n.n - 1 in
    let e : c.loop-n.n ≡ n + 1 = omega arith in
    let was = subst (λ k. ArePushed c.args.parents.now c.args.values.now k c.loop-n.values) e c.loop-n.invariant.pushed in
    let lt : n < length c.args.values.now = omega (arith, was.len) in
    let room : value_at c.loop-n.values (parent_in c.args.parents.now n) + value_at c.loop-n.values n ≤ sum c.args.values.now = has_room c.args.parents.now c.args.values.now c.requires.parents n c.loop-n.values (omega arith) lt was in
    omega (arith, room, c.requires.room)

pub loop-n-preserved : goal.loop-n-preserved
loop-n-preserved c =
    let n : ℕ = c.loop-n.n - 1 in
    let e : c.loop-n.n ≡ n + 1 = omega arith in
    let was = subst (λ k. ArePushed c.args.parents.now c.args.values.now k c.loop-n.values) e c.loop-n.invariant.pushed in
    let lt : n < length c.args.values.now = omega (arith, was.len) in
    record { pushed = pushed_more c.args.parents.now c.args.values.now c.requires.parents n c.loop-n.values (omega arith) lt was; some = λ h. omega arith }

pub returns-clause-sums : goal.returns-clause-sums
returns-clause-sums c n lt =
    let len = c.loop-n.invariant.pushed.len in
    let pos : 0 < c.loop-n.n = c.loop-n.invariant.some (omega arith) in
    settled c.args.parents.now c.args.values.now c.requires.parents n c.loop-n.n c.loop-n.values pos (omega arith) lt c.loop-n.invariant.pushed
