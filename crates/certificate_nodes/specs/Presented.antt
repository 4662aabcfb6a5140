-- A certificate over a list of points, and its rules section by section.
use Rattle.std.specs.Prelude.{ℕ, ◌≡◌, ◌<◌, length}
use Rattle.accounting_text.specs.Given.{number_at}
use Rattle.certificate_rules.specs.LineRules.{presented, nth_target, NodeHolds, PointHolds, LeafRowHolds, InnerRowHolds, EntryHolds}
use Rattle.cert_text.specs.Certificate.{Certificate, nth_box, nth_line}
use Rattle.certificate_nodes.specs.AtNodes.{point_at}
use Rattle.points.specs.Points.{place}
use Rattle.points.specs.declared.Points.{Points}
use Rattle.soundness.specs.Accounts.{Accounting}

pub record PresentedModel : Type 0 where
  pub points : Points
  pub certificate : Certificate

-- the accounting that is presented
abbrev pub accounting_of : PresentedModel → Accounting
accounting_of g = presented g.points g.certificate

module _ (g : PresentedModel) where
  abbrev pub node_count : ℕ
  node_count = g.certificate.head.cells

  -- the k-th target stands at this position of the list: its place and its node are those of the point there, and its box is that of the k-th target's line
  pub record IsTargetAt (k position : ℕ) : Type 0 where
    pub in_list : position < length g.points.list
    pub place_is : place (point_at g.points.list position) ≡ (nth_target (accounting_of g).targets k).place
    pub node_is : number_at (nth_line g.certificate.ats position) 0 ≡ (nth_target (accounting_of g).targets k).leaf
    pub box_is : (nth_target (accounting_of g).targets k).box ≡ nth_box (nth_line g.certificate.targets k).numbers 0

  -- the lines of all nodes hold
  abbrev pub NodesHold : Type 0
  NodesHold = (n : ℕ) → n < g.certificate.head.cells → NodeHolds g.points g.certificate n

  -- those of all points
  abbrev pub PointsHold : Type 0
  PointsHold = (k : ℕ) → k < g.certificate.head.points → PointHolds g.points g.certificate k

  -- those of all multipole rows
  abbrev pub MultipolesHold : Type 0
  MultipolesHold = (n : ℕ) → n < g.certificate.head.cells → LeafRowHolds g.points g.certificate n × InnerRowHolds g.points g.certificate n

  -- and those of all entries
  abbrev pub EntriesHold : Type 0
  EntriesHold = (e : ℕ) → e < g.certificate.head.entries → EntryHolds g.points g.certificate e
