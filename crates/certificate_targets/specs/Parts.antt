-- What the entries of a leaf bring to a place, one by one. No public contract cites it.
use Rattle.std.specs.Prelude.{ℕ, suc, ◌≡◌, ◌<◌, ℤ, List, All, cond}
use Rattle.accounting_text.specs.Given.{given_entry}
use Rattle.cell_name.specs.Square.{Holds, side}
use Rattle.cert_text.specs.Certificate.{Certificate, IsCertificate, nth_line, nth_number}
use Rattle.certificate_nodes.specs.AtNodes.{entry_numbers_at}
use Rattle.certificate_nodes.specs.Presented.{PresentedModel, accounting_of, node_count}
use Rattle.certificate_rules.specs.LineRules.{HeadHolds, nth_target}
use Rattle.exact_math.specs.Ends.{Ends, BoxEnds, zero_box}
use Rattle.exact_math.specs.Gaussian.{Gaussian, gaussian}
use Rattle.letters.specs.declared.Entry.{Entry}
use Rattle.letters.specs.declared.Letter.TheVariants.{U, W}
use Rattle.limits.specs.Grid.{IsInGrid}
use Rattle.limits.specs.Limits.{grid_of}
use Rattle.near_field.specs.Pair.{pair_box}
use Rattle.points.specs.Limits.{WithinLimits}
use Rattle.row_recursions.specs.Rows.{multipole_value}
use Rattle.soundness.specs.Accounts.{Accounting, is_letter, sources_under}
use Rattle.soundness.specs.Computed.{point_of, total_box, weight_under}
use Rattle.soundness.specs.Squares.{IsFarFrom, offset}
use Rattle.certificate_targets.specs.declared.target.Spot.{Spot}
use Rattle.truncation.specs.Tails.{single_loss}

-- the list is within the limits, and line 1 of the certificate counts its points
pub record IsPresented (g : PresentedModel) : Type 0 where
  pub certificate : IsCertificate g.certificate
  pub within : WithinLimits g.points
  pub head : HeadHolds g.points g.certificate

-- the entry of a number
abbrev pub entry_of : Certificate → ℕ → Entry
entry_of c e = given_entry (nth_line c.entries e)

-- the place is far from the cells of all W entries of the node
abbrev pub IsFarFromAll : PresentedModel → ℕ → Gaussian → Type 0
IsFarFromAll g n z = All (λ e. (entry_of g.certificate e).letter ≡ W → IsFarFrom ((accounting_of g).cell (entry_of g.certificate e).c) z) (entry_numbers_at g.certificate n)

-- the node and the place are those of the k-th target, and the node's cell has the place
pub record IsSpotOf (g : PresentedModel) (k : ℕ) (spot : Spot) : Type 0 where
  pub node : spot.leaf < node_count g
  pub leaf : (nth_target (accounting_of g).targets k).leaf ≡ spot.leaf
  pub place : (nth_target (accounting_of g).targets k).place ≡ gaussian spot.x spot.y
  pub in_grid : IsInGrid (grid_of g.certificate.head.version) spot.x spot.y
  pub held : Holds ((accounting_of g).cell spot.leaf) spot.x spot.y

-- two of some counts
abbrev pub counts_in : List ℤ → ℕ → Ends
counts_in zs k = record { lo = nth_number zs k; hi = nth_number zs (suc k) }

module _ (A : Accounting) where
  -- the pairs of a place with the sources of a U entry, and nothing for another
  unfoldable pub pairs_of : Gaussian → Entry → BoxEnds
  pairs_of z e = cond (is_letter U e.letter) (total_box (λ x. pair_box z (point_of x)) (sources_under A e.c)) zero_box

  module _ (P : ℕ) where
    -- the value of the row of a W entry at a place, and what the entry can lose
    unfoldable pub value_of : Gaussian → Entry → BoxEnds
    value_of z e = cond (is_letter W e.letter) (multipole_value P (A.multipole e.c) (side (A.cell e.c)) (offset (A.cell e.c) z)) zero_box

    unfoldable pub loss_of : Entry → ℕ
    loss_of e = cond (is_letter W e.letter) (single_loss P (weight_under P A e.c) (side (A.cell e.c))) 0
