-- The sums of cut terms that the local rows and the values of a tree stand for, over the sources of entries.
use Rattle.std.specs.Prelude.{ℕ, suc, List, map}
use Rattle.exact_math.specs.Gaussian.{Gaussian}
use Rattle.exact_math.specs.Ratio.{ComplexRatio, ◌+ᶜ◌}
use Rattle.exact_math.specs.Sums.{sum_complex, sum_terms}
use Rattle.cell_name.specs.Square.{Square, side, ancestor}
use Rattle.letters.specs.declared.Letter.TheVariants.{V, X}
use Rattle.points.specs.declared.Point.{Point}
use Rattle.row_recursions.specs.Geometry.{doubled_centre}
use Rattle.row_recursions.specs.Sources.{source_of}
use Rattle.tree_field.specs.Field.{sources_in}
use Rattle.tree_field.specs.Lists.{TreeLists}
use Rattle.truncation.specs.Entries.{Source, pair_cut, multipole_cut, local_cut}
use Rattle.cell_name.specs.Apart.{sides_between}

-- the sources in a cell, as poles and dipoles
abbrev pub sources_of : List Point → Square → List Source
sources_of points c = map source_of (sources_in points c)

module _ (points : List Point) (P : ℕ) where
  -- the cut terms at t of the sources in c: for t in a cell b of the level of c, for t in a cell b far from the sources, and for t far from c
  abbrev pub pair_terms : Square → Square → Gaussian → ComplexRatio
  pair_terms b c t = sum_terms (pair_cut P (side b) (sides_between b c) (doubled_centre b) (doubled_centre c) t) (sources_of points c)

  abbrev pub far_terms : Square → Square → Gaussian → ComplexRatio
  far_terms b c t = sum_terms (local_cut P (doubled_centre b) t) (sources_of points c)

  abbrev pub multipole_terms : Square → Gaussian → ComplexRatio
  multipole_terms c t = sum_terms (multipole_cut P (doubled_centre c) t) (sources_of points c)

  module _ (lists : TreeLists) where
    -- those of the V and X entries of the cell
    abbrev pub entry_terms : Square → Gaussian → ComplexRatio
    entry_terms b t = sum_terms (λ c. pair_terms b c t) (lists.entries V b) +ᶜ sum_terms (λ c. far_terms b c t) (lists.entries X b)

    -- those of the V and X entries of the cell and of all cells above it, from the root on
    abbrev pub local_field : Square → Gaussian → ComplexRatio
    local_field b t = sum_complex (suc b.level) (λ level. entry_terms (ancestor b level) t)
