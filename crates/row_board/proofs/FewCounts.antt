-- A local row takes few translations, and the box of a target no more pairs than there are points.
use Rattle.std.proofs.Common.{ℕ, ◌≡◌, ◌+◌, ◌≤◌, ◌<◌, [], length, Bool, true, false, cond, ap, arith}
use Rattle.std.specs.Prelude.{nat_lt, ◌&&◌}
use Rattle.cell_lists.specs.ListAt.{list_at}
use Rattle.complex_box.specs.Counts.{Counts}
use Rattle.field_basis.specs.Basis.{BasisModel, IsBasis}
use Rattle.field_basis.specs.Counts.{translations_into, pairs_of_target, translated, paired}
use Rattle.letters.specs.declared.Letter.TheVariants.{V}
use Rattle.quadtree.specs.TreeModel.{size, node_of}
use Rattle.target_values.proofs.PairBounds.{few_pairs}
use Rattle.row_board.proofs.Missing.{listed}

module _ (P : ℕ) (b : BasisModel) (is : IsBasis P b) where
  few_translations : (n : ℕ) → n < size b.tree → translations_into b n ≤ 28
  few_translations n lt = either (nat_lt 0 n && (node_of b.tree n).has_target)
    where
      either : (below : Bool) → cond {A = ℕ} below (1 + length (list_at b.lists.v n)) 0 ≤ 28
      either true = omega (arith, is.short n [] (listed P b is V n lt))
      either false = omega arith

  module _ (old new : Counts) where
    pub few_for_local : (n : ℕ) → n < size b.tree → new ≡ translated (translations_into b n) old → (new.translations ≤ old.translations + 28) × (new.pairs ≤ old.pairs + length b.points)
    few_for_local n lt e = (omega (arith, ap (λ (w : Counts). w.translations) e, few_translations n lt), omega (arith, ap (λ (w : Counts). w.pairs) e))

    pub few_for_value : (k : ℕ) → k < length b.targets → new ≡ paired (pairs_of_target b k) old → (new.translations ≤ old.translations + 28) × (new.pairs ≤ old.pairs + length b.points)
    few_for_value k lt e = (omega (arith, ap (λ (w : Counts). w.translations) e), omega (arith, ap (λ (w : Counts). w.pairs) e, few_pairs P b is k lt))
