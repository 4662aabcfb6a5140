-- What finished places are together: the rows and boxes of a field, and the work that was done for it.
use Rattle.std.proofs.Common.{ℕ, ◌≡◌, ◌∙◌, ◌*◌, ◌^◌, ◌<◌, ◌≤◌, List, length, ap, arith}
use Rattle.std.specs.Prelude.{All, count_by, sum_by}
use Rattle.std.specs.List.{range_with_len}
use Rattle.complex_box.specs.Box.{BoxWithin}
use Rattle.downward_rows.proofs.Translations.{translations_all}
use Rattle.downward_rows.specs.Translations.{all_translations_into}
use Rattle.field_basis.proofs.PlaceSums.{sum_by_number}
use Rattle.field_basis.proofs.Sizes.{inside}
use Rattle.field_basis.specs.Basis.{BasisModel, IsBasis}
use Rattle.field_basis.specs.Counts.{shifts_into}
use Rattle.field_basis.specs.FieldPlaces.{AreAllLocalPlaces, AreAllMultipolePlaces, AreAllPairs, AreTargetBoxes, TargetsContain}
use Rattle.field_basis.specs.Place.{PlaceModel, all_translations, no_place}
use Rattle.field_basis.specs.Target.{TargetModel, all_pairs, target_at, values_of}
use Rattle.limits.specs.Limits.{most_box, most_cells, widest_grid}
use Rattle.quadtree.specs.TreeModel.{squares}
use Rattle.row_phases.proofs.DownLevels.{made_up_are}
use Rattle.row_phases.specs.Levels.{AreAllMadeLocal, AreAllMadeTargets, AreAllMadeUp}
use Rattle.target_values.proofs.PassBoxes.{IsTargetPlaceOf, boxes_are, all_contain, all_small, all_pairs_are, all_pairs_few}
use Rattle.upward_rows.proofs.Counts.{shifts_of_all}
use Rattle.upward_rows.specs.Shifted.{is_shifted}
use Rattle.field_solve.proofs.FieldOf.{few_up, few_local, few_pairs, fit, made, solved}
use Rattle.field_solve.specs.Field.{IsSolved}
use Rattle.field_solve.specs.Parts.{FitTogether}

module _ (P : ℕ) (b : BasisModel) where
  pub made_local_are : (local : List PlaceModel) → AreAllMadeLocal P b local → AreAllLocalPlaces P b local
  made_local_are local locals = record { as_many = locals.as_many; each = λ n lt. (locals.each n lt).place_is }

module _ (P : ℕ) (b : BasisModel) (is : IsBasis P b) where
  -- ---- translations
  pub made_up_shifts : (up : List PlaceModel) → AreAllMadeUp P b up → all_translations up ≡ count_by (is_shifted b.points) (squares b.tree)
  made_up_shifts up h =
      sum_by_number (λ (p : PlaceModel). p.translations) (shifts_into b.points b.tree) up no_place (λ n lt. (h.each n (omega (arith, lt, h.as_many))).translations_are)
      ∙ ap (λ k. sum_by (shifts_into b.points b.tree) (range_with_len 0 k)) h.as_many
      ∙ shifts_of_all b.tree b.points b.cap is.is_tree (inside P b is)

  pub made_local_translations : (local : List PlaceModel) → AreAllMadeLocal P b local → all_translations local ≡ all_translations_into b
  made_local_translations local h = translations_all P b is local h.as_many (λ n lt. (h.each n lt).translations_are)

  -- ---- boxes and pairs
  module _ (values : List TargetModel) (boxes : AreAllMadeTargets P b values) where
    places_are : (k : ℕ) → k < length values → IsTargetPlaceOf P b k (target_at values k)
    places_are k lt =
        let here = boxes.each k (omega (arith, lt, boxes.as_many)) in
        record { value = here.value_is; pairs = here.pairs_are }

    pub made_boxes_are : AreTargetBoxes P b (values_of values)
    made_boxes_are = boxes_are P b is values boxes.as_many places_are

    pub made_boxes_contain : TargetsContain b.points (values_of values)
    made_boxes_contain = all_contain P b is values boxes.as_many places_are

    pub made_boxes_small : All (BoxWithin (most_box b.tree.grid)) (values_of values)
    made_boxes_small = all_small P b is values boxes.as_many places_are

    pub made_pairs_are : AreAllPairs b (all_pairs values)
    made_pairs_are = all_pairs_are P b is values boxes.as_many places_are

    pub made_pairs_few : all_pairs values ≤ length b.targets * length b.points
    made_pairs_few = all_pairs_few P b is values boxes.as_many places_are

  -- ---- how many there are at most
  pub made_up_few : (up : List PlaceModel) → AreAllMadeUp P b up → all_translations up ≤ most_cells widest_grid
  made_up_few up ups = few_up P b is (all_translations up) (made_up_shifts up ups)

  pub made_local_few : (local : List PlaceModel) → AreAllMadeLocal P b local → all_translations local ≤ most_cells widest_grid * 28
  made_local_few local locals = few_local P b is (all_translations local) (made_local_translations local locals)

  pub made_pairs_fit : (values : List TargetModel) → AreAllMadeTargets P b values → all_pairs values < 2 ^ 64
  made_pairs_fit values boxes = few_pairs P b is (all_pairs values) (made_pairs_few values boxes)

  -- ---- the field
  module _ (up local : List PlaceModel) (values : List TargetModel) (ups : AreAllMadeUp P b up) (locals : AreAllMadeLocal P b local) (boxes : AreAllMadeTargets P b values) where
    pub made_fits : FitTogether P (made P b is up local values)
    made_fits = fit P b is up local values (made_up_are P b up ups) (made_local_are P b local locals) boxes.as_many (made_boxes_small values boxes)

    pub made_solves : IsSolved b.points b.cap P (made P b is up local values)
    made_solves =
        solved P b is up local values (made_up_are P b up ups) (made_local_are P b local locals) (made_up_shifts up ups) (made_local_translations local locals) (made_boxes_are values boxes) (made_pairs_are values boxes)
