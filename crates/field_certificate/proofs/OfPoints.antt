-- The accounting of a field is one of its points, so that its certificate gives it back.
use Rattle.std.proofs.Common.{ℕ, ◌≡◌, ◌<◌, List, [], ◌∷◌, map, Bool, false, cond, refl, sym, ap, ◌∙◌, arith}
use Rattle.accounting_text.specs.Given.{IsOfPoints}
use Rattle.cell_name.specs.Square.{Square}
use Rattle.exact_math.specs.Ends.{BoxEnds, zero_box}
use Rattle.limits.specs.Limits.{grid_of}
use Rattle.points.specs.declared.Points.{Points}
use Rattle.quadtree.specs.Tree.{AreInGrid, has_target}
use Rattle.soundness.specs.Accounts.{LeafSource, LeafTarget}
use Rattle.tree_field.proofs.MultipoleRows.{multipole_row-zero}
use Rattle.tree_field.proofs.Numbers.{tree_cell}
use Rattle.tree_field.specs.Accounting.{accounting, cell_at, leaf_source, leaf_target, sources}
use Rattle.tree_field.specs.Field.{local_radius, local_row, targets}
use Rattle.tree_field.specs.Lists.{TreeLists, AreTreeLists}
use Rattle.field_certificate.proofs.FieldNumbers.{source_under-cell, target_under-cell}

map-map : {A B C : Type 0} (g : B → C) (f : A → B) (xs : List A) → map g (map f xs) ≡ map (λ x. g (f x)) xs
map-map g f [] = refl
map-map g f (x ∷ xs) = ap (λ ys. g (f x) ∷ ys) (map-map g f xs)

map-same : {A : Type 0} (xs : List A) → map (λ x. x) xs ≡ xs
map-same [] = refl
map-same (x ∷ xs) = ap (λ ys. x ∷ ys) (map-same xs)

pub field_of_points : (points : Points) (cap P : ℕ) (lists : TreeLists) → 0 < grid_of points.version → AreInGrid (grid_of points.version) points.list
    → AreTreeLists (grid_of points.version) points.list cap lists → IsOfPoints points (accounting (grid_of points.version) points.list cap P lists)
field_of_points points cap P lists positive inside are =
    let grid : ℕ = grid_of points.version in
    record {
      sources_are = map-map (λ (x : LeafSource). x.point) (leaf_source grid points.list cap lists) (sources points.list) ∙ map-same (sources points.list);
      targets_are = map-map (λ (t : LeafTarget). t.place) (leaf_target grid points.list cap P lists) (targets points.list);
      of_grid = λ n lt. (tree_cell grid points.list cap lists.cells positive inside are.cells_are n lt).of_grid;
      without_source = λ n lt none k.
          let c : Square = cell_at lists.cells n in
          let here = tree_cell grid points.list cap lists.cells positive inside are.cells_are n lt in
          multipole_row-zero points.list cap c (omega (arith, here.level_in_grid, here.of_grid)) (sym (source_under-cell grid points.list cap P lists positive inside are n lt) ∙ none) k;
      without_target = λ n lt none.
          let c : Square = cell_at lists.cells n in
          let e : has_target points.list c ≡ false = sym (target_under-cell grid points.list cap P lists positive inside are n lt) ∙ none in
          (ap (λ (b : Bool). cond b (local_radius points.list cap P lists c) 0) e, λ k. ap (λ (b : Bool). cond {A = ℕ → BoxEnds} b (local_row points.list cap P lists c) (λ j. zero_box) k) e);
    }
