use Rattle.std.proofs.Common.{ℕ, ◌≡◌, ◌+◌, ◌*◌, ◌^◌, ◌<◌, List, length, take, ap, ◌∙◌, subst, sym, arith, lit<}
use Rattle.std.specs.Prelude.{All}
use Rattle.std.proofs.Math.Seq.{take-length}
use Rattle.exact_math.specs.Ends.{add_box}
use Rattle.exact_math.proofs.Orders.{order_bounds}
use Rattle.cell_lists.specs.ListAt.{list_at}
use Rattle.soundness.proofs.RowTotals.{wider}
use Rattle.letters.specs.declared.Letter.TheVariants.{V}
use Rattle.row_recursions.specs.Rows.{row_of}
use Rattle.soundness.specs.Computed.{total_row}
use Rattle.field_basis.specs.Basis.{IsBasis}
use Rattle.field_basis.specs.Counts.{translated}
use Rattle.field_basis.specs.FieldPlaces.{AreMultipolePlaces}
use Rattle.downward_rows.specs.Entries.{IsVEntryAt, v_entry}
use Rattle.downward_rows.proofs.Counts.{none_translated, more_translated}
use Rattle.downward_rows.proofs.EntryPlaces.{far_entries}
use Rattle.downward_rows.proofs.Lists.{listed}
use Rattle.downward_rows.proofs.Totals.{none_added, one_added}
use Rattle.downward_rows.proofs.v_entries.add_v_entries.Goals as goal

pub v_list-c-items-requires : goal.v_list-c-items-requires
v_list-c-items-requires g c =
    let s : IsBasis g.row.P c.args.basis.now = subst (IsBasis g.row.P) c.basis.view_is c.basis.invariant in
    let h = listed g.row.P c.args.basis.now s V c.args.n c.requires.cell in
    omega (arith, h, ap (λ b. length b.lists.v) c.basis.view_is)

pub loop-c-init : goal.loop-c-init
loop-c-init g c = record {
  len = c.requires.len;
  adds = none_added g.row.P (v_entry g.row.P c.args.basis.now c.args.n) c.v_list-c-items.result.now (row_of c.args.into.now);
  size = wider g.row.P (2 ^ 90) (2 ^ 90 + 3 * 2 ^ 79 * 0) (row_of c.args.into.now) (omega arith) c.requires.sum;
  work = none_translated c.args.work.now;
}

pub add_v_entry-requires : goal.add_v_entry-requires
add_v_entry-requires g c =
    let b = c.args.basis.now in
    let s : IsBasis g.row.P b = subst (IsBasis g.row.P) c.basis.view_is c.basis.invariant in
    let same = c.v_list-c-items.ensures ∙ ap (λ b. list_at b.lists.v c.args.n) c.basis.view_is in
    let entries = far_entries g.row.P b s c.args.n c.requires.cell in
    let Q : List ℕ → Type 0 = λ l. All (IsVEntryAt b.tree c.args.n) l in
    let R : List ℕ → Type 0 = λ l. AreMultipolePlaces g.row.P b.points b.tree c.args.up.now l in
    let small : c.loop-c.c-index < 27 = omega (arith, entries.short, ap (λ l. length l) same, c.loop-c-test.true) in
    let few = order_bounds g.row.P s.order in (
      lit< tt,
      (
        omega (arith, few),
        (
          c.requires.cell,
          (
            subst Q (sym same) entries.v_entries c.loop-c.c-index 0 c.loop-c-test.true,
            (
              subst R (sym same) c.requires.rows c.loop-c.c-index 0 c.loop-c-test.true,
              (
                c.loop-c.invariant.len,
                (
                  wider g.row.P (2 ^ 90 + 3 * 2 ^ 79 * c.loop-c.c-index) (2 ^ 110) (row_of c.loop-c.into) (omega (arith, small)) c.loop-c.invariant.size,
                  omega (arith, small, c.requires.room, ap (λ w. w.translations) c.loop-c.invariant.work),
                ),
              ),
            ),
          ),
        ),
      ),
    )

pub loop-c-preserved : goal.loop-c-preserved
loop-c-preserved g c =
    let b = c.args.basis.now in
    record {
      len = c.add_v_entry.ensures.len;
      adds = one_added g.row.P (v_entry g.row.P b c.args.n) c.v_list-c-items.result.now c.loop-c.c-index 0 (row_of c.args.into.now) (row_of c.loop-c.into) (row_of c.add_v_entry.new.into) c.loop-c-test.true c.loop-c.invariant.adds c.add_v_entry.ensures.adds;
      size = wider g.row.P (2 ^ 90 + 3 * 2 ^ 79 * c.loop-c.c-index + 3 * 2 ^ 79) (2 ^ 90 + 3 * 2 ^ 79 * (c.loop-c.c-index + 1)) (row_of c.add_v_entry.new.into) (omega arith)
          (c.add_v_entry.ensures.size (2 ^ 90 + 3 * 2 ^ 79 * c.loop-c.c-index) c.loop-c.invariant.size);
      work = more_translated 1 c.loop-c.c-index (c.loop-c.c-index + 1) c.args.work.now c.loop-c.work c.add_v_entry.new.work c.add_v_entry.ensures.work c.loop-c.invariant.work (omega arith);
    }

pub returns-clause-adds : goal.returns-clause-adds
returns-clause-adds g c = λ k h.
    let b = c.args.basis.now in
    let same = c.v_list-c-items.ensures ∙ ap (λ b. list_at b.lists.v c.args.n) c.basis.view_is in
    let last : c.loop-c.c-index ≡ length c.v_list-c-items.result.now = omega arith in
    c.loop-c.invariant.adds k h
    ∙ ap (λ l. add_box (row_of c.args.into.now k) (total_row (v_entry g.row.P b c.args.n) l k)) (ap (λ m. take m c.v_list-c-items.result.now) last ∙ take-length c.v_list-c-items.result.now ∙ same)

pub returns-clause-size : goal.returns-clause-size
returns-clause-size g c =
    let b = c.args.basis.now in
    let s : IsBasis g.row.P b = subst (IsBasis g.row.P) c.basis.view_is c.basis.invariant in
    let same = c.v_list-c-items.ensures ∙ ap (λ b. list_at b.lists.v c.args.n) c.basis.view_is in
    let short = (far_entries g.row.P b s c.args.n c.requires.cell).short in
    wider g.row.P (2 ^ 90 + 3 * 2 ^ 79 * c.loop-c.c-index) (2 ^ 91) (row_of c.loop-c.into) (omega (arith, short, ap (λ l. length l) same)) c.loop-c.invariant.size

pub returns-clause-work : goal.returns-clause-work
returns-clause-work g c =
    let same = c.v_list-c-items.ensures ∙ ap (λ b. list_at b.lists.v c.args.n) c.basis.view_is in
    let last : c.loop-c.c-index ≡ length c.v_list-c-items.result.now = omega arith in
    c.loop-c.invariant.work ∙ ap (λ m. translated m c.args.work.now) (last ∙ ap (λ l. length l) same)
