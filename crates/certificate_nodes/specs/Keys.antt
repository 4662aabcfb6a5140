-- The keys by which the nodes, the points and the entries of a certificate are grouped. Only private contracts cite them.
use Rattle.std.specs.Prelude.{ℕ, zero, suc, Bool, cond, List, length, map}
use Rattle.std.specs.List.{range_with_len}
use Rattle.accounting_text.specs.Given.{number_at, given_entry}
use Rattle.cert_text.specs.Certificate.{Certificate, nth_line}
use Rattle.certificate_nodes.specs.AtNodes.{point_at}
use Rattle.points.specs.Points.{is_source}
use Rattle.points.specs.declared.Point.{Point}

-- the node of a source, or the node of a target; the other points have another key
abbrev pub point_key : Bool → Point → ℕ → ℕ → ℕ
point_key sources p node other = cond (is_source p.kind) (cond sources node other) (cond sources other node)

module _ (c : Certificate) where
  -- the parent of a node
  abbrev pub parent_at : ℕ → ℕ
  parent_at n = number_at (nth_line c.nodes n) 0

  abbrev pub parents_of : List ℕ
  parents_of = map parent_at (range_with_len 0 c.head.cells)

  -- node 0 is no child
  abbrev pub child_key : ℕ → ℕ
  child_key zero = c.head.cells
  child_key (suc n) = parent_at (suc n)

  abbrev pub child_keys : List ℕ
  child_keys = map child_key (range_with_len 0 c.head.cells)

  -- the b of an entry
  abbrev pub entry_key : ℕ → ℕ
  entry_key e = (given_entry (nth_line c.entries e)).b

  abbrev pub entry_keys : List ℕ
  entry_keys = map entry_key (range_with_len 0 c.head.entries)

  -- the key of the k-th point: the number of cells where it is of the other kind
  abbrev pub key_at : Bool → List Point → ℕ → ℕ
  key_at sources points k = point_key sources (point_at points k) (number_at (nth_line c.ats k) 0) c.head.cells

  abbrev pub point_keys : Bool → List Point → List ℕ
  point_keys sources points = map (key_at sources points) (range_with_len 0 (length points))
