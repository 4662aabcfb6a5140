use Rattle.std.proofs.Common.{◌≡◌, arith}
use Rattle.std.specs.Prelude.{length}
use Rattle.node_sums.specs.Sums.{value_at}
use Rattle.path_cover.proofs.Parents.{above-root, above-parent, above-le, above-none}
use Rattle.path_cover.proofs.walks.covers_above.Goals as goal

pub overflow_add-times : goal.overflow_add-times
overflow_add-times c =
    let ps = c.args.parents.now in
    let covers = c.args.covers.now in
    let up = above-parent ps c.requires.parents (value_at covers) (length covers) c.loop-n.n (omega arith) (omega arith) in
    let all = above-le ps covers c.args.c in
    let first = above-root ps c.requires.parents (value_at covers) (length covers) (omega arith) in
    let least = above-le ps covers 0 in
    let so_far = c.loop-n.invariant.so_far in
    let read : c.from-times-in-loop-n.result ≡ value_at covers c.loop-n.n = c.from-times-in-loop-n.ensures in
    omega arith

pub loop-n-preserved : goal.loop-n-preserved
loop-n-preserved c =
    let ps = c.args.parents.now in
    let covers = c.args.covers.now in
    let up = above-parent ps c.requires.parents (value_at covers) (length covers) c.loop-n.n (omega arith) (omega arith) in
    let so_far = c.loop-n.invariant.so_far in
    let read : c.from-times-in-loop-n.result ≡ value_at covers c.loop-n.n = c.from-times-in-loop-n.ensures in
    let smaller = c.requires.parents.smaller c.loop-n.n (omega arith) (omega arith) in
    record { inside = omega arith; so_far = omega arith }

pub returns-clause-value : goal.returns-clause-value
returns-clause-value c =
    let ps = c.args.parents.now in
    let covers = c.args.covers.now in
    let end = above-none ps c.requires.parents (value_at covers) (length covers) c.loop-n.n (omega arith) (omega arith) in
    let so_far = c.loop-n.invariant.so_far in
    omega arith

pub returns-clause-within : goal.returns-clause-within
returns-clause-within c =
    let ps = c.args.parents.now in
    let covers = c.args.covers.now in
    let end = above-none ps c.requires.parents (value_at covers) (length covers) c.loop-n.n (omega arith) (omega arith) in
    let so_far = c.loop-n.invariant.so_far in
    let all = above-le ps covers c.args.c in
    omega arith
