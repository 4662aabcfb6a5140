-- What is read from the parts of a basis: v is the basis as it is kept, b as it is seen.
use Rattle.std.proofs.Common.{ℕ, ◌≡◌, ◌∙◌, ◌<◌, ℤ, pos, List, length, get_or, sym, ap, subst, arith}
use Rattle.std.proofs.lemmas.List.{get_or_default}
use Rattle.cell_lists.proofs.TreeNumbers.{read_at}
use Rattle.cell_name.specs.Cell.{square}
use Rattle.cell_name.specs.declared.cell.Cell.{Cell}
use Rattle.field_basis.specs.Basis.{BasisModel, IsBasis, target_of, target_leaf}
use Rattle.field_basis.specs.Targets.{no_point, point_at}
use Rattle.field_basis.specs.Place.{PlaceModel, no_place, place_at}
use Rattle.points.specs.declared.Point.{Point}
use Rattle.quadtree.specs.TreeModel.{size, square_of, leaf_of}
use Rattle.target_values.proofs.FieldBox.{position}

pub place_read : (places : List PlaceModel) (n : ℕ) (p : PlaceModel) → n < length places → p ≡ get_or places n p → p ≡ place_at places n
place_read places n p lt read = read ∙ get_or_default places n p no_place lt

module _ {v b : BasisModel} (same : v ≡ b) where
  pub cell_read : (n : ℕ) → n < size b.tree → (cells : List Cell) (cell : Cell) → cells ≡ v.tree.cells → cell ≡ get_or cells n cell → square cell ≡ square_of b.tree n
  cell_read n lt cells cell all read = read_at v.tree cells n cell all (subst (λ (w : BasisModel). n < size w.tree) (sym same) lt) read ∙ ap (λ (w : BasisModel). square_of w.tree n) same

  pub weight_read : (n : ℕ) → n < length b.weights → (w : ℤ) → w ≡ get_or v.weights n w → w ≡ get_or b.weights n (pos 0)
  weight_read n lt w read = read ∙ get_or_default v.weights n w (pos 0) (subst (λ (w : BasisModel). n < length w.weights) (sym same) lt) ∙ ap (λ (w : BasisModel). get_or w.weights n (pos 0)) same

  pub point_read : (n : ℕ) → n < length b.points → (p : Point) → p ≡ get_or v.points n p → p ≡ point_at b.points n
  point_read n lt p read = read ∙ get_or_default v.points n p no_point (subst (λ (w : BasisModel). n < length w.points) (sym same) lt) ∙ ap (λ (w : BasisModel). point_at w.points n) same

  -- the position of a target, and what is read there
  module _ (P : ℕ) (is : IsBasis P b) (k : ℕ) (lt : k < length b.targets) (n : ℕ) (read : n ≡ get_or v.targets k n) where
    position_is : n ≡ get_or b.targets k 0
    position_is = read ∙ get_or_default v.targets k n 0 (subst (λ (w : BasisModel). k < length w.targets) (sym same) lt) ∙ ap (λ (w : BasisModel). get_or w.targets k 0) same

    pub position_below : n < length b.points
    position_below = omega (arith, position_is, (position P b is k lt).inside)

    pub target_read : (t : Point) → t ≡ get_or v.points n t → t ≡ target_of b k
    target_read t here = point_read n position_below t here ∙ ap (point_at b.points) position_is

    pub leaf_read : (m : ℕ) → m ≡ leaf_of v.tree n → m ≡ target_leaf b k
    leaf_read m here = here ∙ ap (λ (w : BasisModel). leaf_of w.tree n) same ∙ ap (leaf_of b.tree) position_is
