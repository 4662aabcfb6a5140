-- What stands at a node: its sources, its targets and its entries, in the order of the lines.
use Rattle.std.specs.Prelude.{ℕ, ◌==◌, pos, List, length, map, filter, slice_index_or}
use Rattle.std.specs.List.{range_with_len}
use Rattle.accounting_text.specs.Given.{given_entry}
use Rattle.cert_text.specs.Certificate.{Certificate, nth_line}
use Rattle.exact_math.specs.Gaussian.{Gaussian}
use Rattle.points.specs.declared.Kind.TheVariants.{Charge}
use Rattle.points.specs.declared.Point.{Point}
use Rattle.soundness.specs.Accounts.{Accounting}
use Rattle.soundness.specs.Computed.{point_of}

-- what stands past the last point
abbrev pub no_point : Point
no_point = record { x = pos 0; y = pos 0; kind = Charge (pos 0) }

abbrev pub point_at : List Point → ℕ → Point
point_at points k = slice_index_or points k no_point

-- the points at some indices
abbrev pub points_at : List Point → List ℕ → List Point
points_at points indices = map (point_at points) indices

-- the sources whose leaf is the node
abbrev pub sources_at : Accounting → ℕ → List Point
sources_at A n = map point_of (filter (λ x. x.leaf == n) A.sources)

-- the places of the targets in the node
abbrev pub places_at : Accounting → ℕ → List Gaussian
places_at A n = map (λ t. t.place) (filter (λ t. t.leaf == n) A.targets)

-- the numbers of the entries whose b is the node
abbrev pub entry_numbers_at : Certificate → ℕ → List ℕ
entry_numbers_at c n = filter (λ e. (given_entry (nth_line c.entries e)).b == n) (range_with_len 0 (length c.entries))
