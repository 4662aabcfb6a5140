-- The next cell has its colleagues and its lists.
use Rattle.std.proofs.Common.{◌≡◌, ℕ, length, ap, subst, arith}
use Rattle.letters.specs.declared.Letter.TheVariants.{U, V, W, X}
use Rattle.quadtree.specs.TreeModel.{size}
use Rattle.cell_lists.specs.Lists.{AreListsTo}
use Rattle.cell_lists.proofs.Picks.{lists_none, lists_more}
use Rattle.cell_lists.proofs.VLists.{v_lists_are_short}
use Rattle.cell_lists.proofs.WalkSteps.{colleagues_none}
use Rattle.cell_lists.proofs.entry_lists.EntryLists.gather.Goals as goal

pub loop-b-init : goal.loop-b-init
loop-b-init c =
    record {
      near = colleagues_none c.args.tree.now c.new-gathering.result.near c.new-gathering.ensures;
      lists = lists_none c.args.tree.now c.args.self.now (c.requires U) (c.requires V) (c.requires W) (c.requires X);
    }

pub pick-requires : goal.pick-requires
pick-requires c =
    record {
      tree = c.cells-b-end.ensures.tree;
      cell = omega (arith, ap length c.cells-b-end.ensures.all, c.loop-b-test.true);
      colleagues = c.loop-b.invariant.near;
    }

pub loop-b-preserved : goal.loop-b-preserved
loop-b-preserved c =
    record {
      near = c.in_ok-pick.ensures.near;
      lists = lists_more c.args.tree.now c.loop-b.self c.push.new.self c.loop-b.b c.pick.new.self.picked c.loop-b.invariant.lists c.in_ok-push.ensures c.in_ok-pick.ensures.picked;
    }

pub returns : goal.returns
returns c =
    let tree = c.args.tree.now in
    let all : c.loop-b.b ≡ size tree = omega (arith, ap length c.cells-b-end.ensures.all, c.loop-b-test.false, c.loop-b.auto.b-end) in
    let P : ℕ → Type 0 = λ n. AreListsTo tree c.loop-b.self n in
    let lists : AreListsTo tree c.loop-b.self (size tree) = subst P all c.loop-b.invariant.lists in
    record { lists = lists; short = v_lists_are_short tree c.loop-b.self c.cells-b-end.ensures.tree lists }
