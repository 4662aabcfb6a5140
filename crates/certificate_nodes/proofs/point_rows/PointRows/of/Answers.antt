-- One row more.
use Rattle.std.proofs.Common.{ℕ, ◌≡◌, ◌++◌, List, sym, ap, ◌∙◌, arith}
use Rattle.std.proofs.lemmas.List.FromFn.{map-range_with_len_more}
use Rattle.groups.specs.GroupsByKey.{group_at}
use Rattle.certificate_nodes.specs.AtNodes.{points_at}
use Rattle.certificate_nodes.specs.declared.point_rows.Range.{Range}
use Rattle.points.specs.declared.Point.{Point}
use Rattle.certificate_nodes.proofs.Rows.{rows_push, ranges_push}
use Rattle.certificate_nodes.proofs.point_rows.PointRows.of.Goals as goal

pub loop-n-preserved : goal.loop-n-preserved
loop-n-preserved c =
    let items = c.loop-n.gathered.items in
    let items' = c.gather.new.into.items in
    let r : Range = record { from = c.len-from.result; to = c.len-to.result } in
    let f : ℕ → List Point = λ n. points_at c.args.points.now (group_at c.args.groups.now n) in
    let grown : items' ≡ items ++ f c.loop-n.n = c.in_ok-gather.ensures ∙ ap (λ l. items ++ points_at c.args.points.now l) c.group.ensures in
    let pushed = c.in_ok-push.ensures.items in
    record {
      rows = rows_push items (f c.loop-n.n) items' c.loop-n.ranges.items c.push.new.self.items r _ grown pushed (omega arith) (omega arith) c.loop-n.invariant.ranges c.loop-n.invariant.rows
          ∙ sym (map-range_with_len_more f 0 c.loop-n.n c.loop-n.n (omega arith));
      ranges = ranges_push items (f c.loop-n.n) items' c.loop-n.ranges.items c.push.new.self.items r grown pushed (omega arith) (omega arith) c.loop-n.invariant.ranges;
    }
