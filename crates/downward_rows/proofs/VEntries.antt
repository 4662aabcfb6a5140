-- The entry of two cells, as it is read.
use Rattle.std.proofs.Common.{ℕ, ◌<◌, ◌≡◌, ◌^◌, List, length, get_or, ap, ap₂, ◌∙◌, sym, subst}
use Rattle.std.specs.Prelude.{slice_index_or}
use Rattle.std.proofs.lemmas.List.{get_or_default}
use Rattle.exact_math.specs.Gaussian.{Gaussian}
use Rattle.cell_name.specs.Cell.{square}
use Rattle.cell_name.specs.declared.cell.Cell.{Cell}
use Rattle.cell_lists.proofs.TreeNumbers.{read_at}
use Rattle.complex_box.specs.declared.CBox.{CBox}
use Rattle.kernel_table.specs.Kernel.{kernel_entry}
use Rattle.field_basis.specs.Place.{PlaceModel, no_place, place_at}
use Rattle.quadtree.specs.TreeModel.{TreeModel, size, square_of}
use Rattle.row_recursions.specs.Rows.{row_of, converted}
use Rattle.row_recursions.specs.Sizes.{RowWithin}
use Rattle.tree_field.specs.Field.{multipole_row}
use Rattle.field_basis.specs.Basis.{BasisModel, IsBasis}
use Rattle.field_basis.specs.FieldPlaces.{IsMultipolePlace}
use Rattle.downward_rows.specs.Entries.{v_entry}
use Rattle.downward_rows.proofs.FieldSizes.{multipole_small}
use Rattle.downward_rows.proofs.SameRows.{converted_same}
use Rattle.cell_name.specs.Apart.{sides_between}

pub place_read : (places : List PlaceModel) (n : ℕ) (p : PlaceModel) → n < length places → p ≡ slice_index_or places n p → p ≡ place_at places n
place_read places n p lt e = e ∙ get_or_default places n p no_place lt

pub distance_read : (tree : TreeModel) (cells : List Cell) (b c : ℕ) (x y : Cell) (e : Gaussian) → cells ≡ tree.cells → b < size tree → c < size tree → x ≡ get_or cells b x → y ≡ get_or cells c y
    → e ≡ sides_between (square x) (square y) → e ≡ sides_between (square_of tree b) (square_of tree c)
distance_read tree cells b c x y e all lb lc xb yc h = h ∙ ap₂ sides_between (read_at tree cells b x all lb xb) (read_at tree cells c y all lc yc)

module _ (P : ℕ) (b : BasisModel) (is : IsBasis P b) (c : ℕ) (place : PlaceModel) (here : IsMultipolePlace P b.points b.tree c place) (m : List CBox) (read : m ≡ place.row) where
  pub entry_small : c < size b.tree → RowWithin P (2 ^ 80) (row_of m)
  entry_small lt = let Q : List CBox → Type 0 = λ r. RowWithin P (2 ^ 80) (row_of r) in subst Q (sym read) (multipole_small P b is c lt place here)

  pub entry_read : (n : ℕ) (e : Gaussian) → e ≡ sides_between (square_of b.tree n) (square_of b.tree c) → (k : ℕ) → converted P (kernel_entry e) (row_of m) k ≡ v_entry P b n c k
  entry_read n e h k =
      ap (λ z. converted P (kernel_entry z) (row_of m) k) h
      ∙ converted_same P (kernel_entry (sides_between (square_of b.tree n) (square_of b.tree c))) (row_of m) (multipole_row b.points b.cap (square_of b.tree c))
      (λ j l. ap (λ r. row_of r j) read ∙ here.row_is b.cap is.is_tree j l) k
