-- What a certificate gives each node: its parent, its cell, its rows and its radius.
use Rattle.std.specs.Prelude.{ℕ, drop}
use Rattle.exact_math.specs.Ends.{BoxEnds}
use Rattle.accounting_text.specs.Given.{number_at, given_cell}
use Rattle.cell_name.specs.Square.{Square}
use Rattle.cert_text.specs.Certificate.{Certificate, IsCertificate, nth_line, nth_box}
use Rattle.certificate_nodes.specs.Presented.{PresentedModel}
use Rattle.certificate_rules.specs.LineRules.{HeadHolds}
use Rattle.points.specs.Limits.{WithinLimits}

module _ (c : Certificate) where
  abbrev pub parent_at : ℕ → ℕ
  parent_at n = number_at (nth_line c.nodes n) 0

  abbrev pub cell_at : ℕ → Square
  cell_at n = given_cell c.head.version (nth_line c.nodes n)

  abbrev pub multipole_at : ℕ → ℕ → BoxEnds
  multipole_at n = nth_box (nth_line c.multipoles n).numbers

  abbrev pub local_at : ℕ → ℕ → BoxEnds
  local_at n = nth_box (drop 1 (nth_line c.locals n).numbers)

  abbrev pub radius_at : ℕ → ℕ
  radius_at n = number_at (nth_line c.locals n) 0

-- a certificate over a list within its limits, whose line 1 counts the list's points
pub record IsOverList (g : PresentedModel) : Type 0 where
  pub is_certificate : IsCertificate g.certificate
  pub within : WithinLimits g.points
  pub head : HeadHolds g.points g.certificate
