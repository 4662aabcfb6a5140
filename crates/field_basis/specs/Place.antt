-- The place of a cell, as callers see it.
use Rattle.std.specs.Prelude.{ℕ, ◌^◌, ◌≡◌, ◌≢◌, List, [], length, sum_by, slice_index_or}
use Rattle.complex_box.specs.declared.CBox.{CBox}

-- a row, its radius, and the translations that were made for it
pub record PlaceModel : Type 0 where
  pub row : List CBox
  pub radius : ℕ
  pub translations : ℕ

-- the greatest radius that a place keeps
abbrev pub most_radius : ℕ
most_radius = 2 ^ 90

-- what stands past the last place
abbrev pub no_place : PlaceModel
no_place = record { row = []; radius = 0; translations = 0 }

-- the place of a number
abbrev pub place_at : List PlaceModel → ℕ → PlaceModel
place_at places n = slice_index_or places n no_place

-- no place but that of a number has changed
pub record OthersStay (n : ℕ) (old new : List PlaceModel) : Type 0 where
  pub as_many : length new ≡ length old
  pub others : (m : ℕ) → m ≢ n → place_at new m ≡ place_at old m

-- the translations of all places
abbrev pub all_translations : List PlaceModel → ℕ
all_translations places = sum_by (λ p. p.translations) places
