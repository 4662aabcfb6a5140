-- What the places of a board take together is the work of the field.
use Rattle.std.proofs.Common.{ℕ, ◌≡◌, ◌+◌, ◌∙◌, List, map, refl, sym, ap, ap₂, arith}
use Rattle.std.specs.Prelude.{sum_by}
use Rattle.std.specs.List.{range_with_len}
use Rattle.std.proofs.lemmas.List.FromFn.{length-map-range_with_len, get_or-map-range_with_len}
use Rattle.downward_rows.proofs.Translations.{translations_all}
use Rattle.downward_rows.specs.Translations.{all_translations_into}
use Rattle.field_basis.proofs.PlaceSums.{sum_by_number}
use Rattle.field_basis.proofs.Sizes.{inside}
use Rattle.field_basis.specs.Basis.{BasisModel, IsBasis}
use Rattle.field_basis.specs.Counts.{translations_into, pairs_of_target}
use Rattle.field_basis.specs.Place.{PlaceModel, no_place}
use Rattle.quadtree.specs.TreeModel.{size, leaf_of}
use Rattle.soundness.proofs.Sums.{sum_by-map}
use Rattle.target_values.proofs.Pairs.{count_at, pairs_are}
use Rattle.tree_field.proofs.Work.{sources_counted, work_of_tree}
use Rattle.tree_field.specs.Lists.{TreeLists, AreTreeLists}
use Rattle.upward_rows.proofs.Counts.{shifts_of_all}
use Rattle.row_board.specs.Laws.{FullWork, TakesWorkOfField}

module _ (P : ℕ) (b : BasisModel) (is : IsBasis P b) where
  abbrev numbers : List ℕ
  numbers = range_with_len 0 (size b.tree)

  -- places that keep what their local rows take
  abbrev counted : ℕ → PlaceModel
  counted n = record { row = no_place.row; radius = 0; translations = translations_into b n }

  locals : sum_by (translations_into b) numbers ≡ all_translations_into b
  locals =
      sym (sum_by-map (λ (p : PlaceModel). p.translations) counted numbers)
      ∙ translations_all P b is (map counted numbers) (length-map-range_with_len counted 0 (size b.tree))
      (λ n lt. ap (λ (p : PlaceModel). p.translations) (get_or-map-range_with_len counted 0 (size b.tree) n n no_place lt (omega arith)))

  takes : (lists : TreeLists) → AreTreeLists b.tree.grid b.points b.cap lists → TakesWorkOfField b lists
  takes lists are = record {
    translations_are =
        let work = work_of_tree b.tree b.lists b.points b.cap lists (inside P b is) is.is_tree is.lists_are are in
        ap₂ (λ m n. m + n) (shifts_of_all b.tree b.points b.cap is.is_tree (inside P b is) ∙ sources_counted b.tree b.points b.cap (inside P b is) is.is_tree) locals
        ∙ sym work.translations_are;
    pairs_are =
        let f : ℕ → ℕ = λ k. count_at b (leaf_of b.tree k) k in
        sym (sum_by_number f (pairs_of_target b) b.targets 0 (λ k lt. refl)) ∙ ap (sum_by f) is.targets_are ∙ pairs_are P b is lists are;
  }

pub takes_work : FullWork
takes_work P b lists is are = takes P b.basis is.basis_is lists are
