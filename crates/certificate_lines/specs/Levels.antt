-- The levels of the nodes, where their lines hold.
use Rattle.std.specs.Prelude.{ℕ, suc, ◌≡◌, ◌<◌, ◌≤◌, true}
use Rattle.cert_text.specs.Certificate.{Certificate, IsCertificate}
use Rattle.certificate_rules.specs.LineRules.{presented, NodeHolds}
use Rattle.points.specs.declared.Points.{Points}
use Rattle.soundness.specs.Accounts.{Accounting, under_within}

-- a node's cell is in its grid, one level below its parent's, and as many steps up as its level lead to node 0
pub record HasLevel (A : Accounting) (n : ℕ) : Type 0 where
  pub in_grid : (A.cell n).level ≤ (A.cell n).grid
  pub of_root : n ≡ 0 → (A.cell n).level ≡ 0
  pub of_other : 0 < n → (A.cell n).level ≡ suc (A.cell (A.parent n)).level
  pub steps : under_within (A.cell n).level A.parent n 0 ≡ true

abbrev pub NodesHaveLevels : Type 0
NodesHaveLevels =
    (points : Points) (c : Certificate) → IsCertificate c → ((n : ℕ) → n < c.head.cells → NodeHolds points c n)
    → (n : ℕ) → n < c.head.cells → HasLevel (presented points c) n
