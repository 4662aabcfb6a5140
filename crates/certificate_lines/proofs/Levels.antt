-- Where the lines of all nodes hold, a node's level is one more than its parent's.
use Rattle.std.proofs.Common.{ℕ, zero, suc, ◌≡◌, ◌<◌, ◌-◌, ap, ◌∙◌, arith}
use Rattle.std.specs.Prelude.{◌==◌}
use Rattle.std.proofs.lemmas.Bool.{or_right}
use Rattle.cert_text.specs.Certificate.{Certificate, IsCertificate}
use Rattle.certificate_rules.specs.LineRules.{presented, NodeHolds}
use Rattle.certificate_rules.proofs.Ranges.{parent_less}
use Rattle.points.specs.declared.Points.{Points}
use Rattle.soundness.specs.Accounts.{Accounting, under_within}
use Rattle.soundness.proofs.Nodes.{strong}
use Rattle.certificate_lines.specs.Levels.{HasLevel, NodesHaveLevels}

module _ (points : Points) (c : Certificate) (is : IsCertificate c) (hold : (n : ℕ) → n < c.head.cells → NodeHolds points c n) where
  abbrev A : Accounting
  A = presented points c

  pub levels : (n : ℕ) → n < c.head.cells → HasLevel A n
  levels = strong (λ n. n < c.head.cells → HasLevel A n) step
    where
      step : (n : ℕ) → ((m : ℕ) → m < n → m < c.head.cells → HasLevel A m) → n < c.head.cells → HasLevel A n
      step zero ih lt =
          let level : (A.cell 0).level ≡ 0 = ap (λ s. s.level) (hold 0 lt) in
          record {
            in_grid = omega (arith, level);
            of_root = λ e. level;
            of_other = λ positive. absurd (omega (arith, positive));
            steps = ap (λ k. under_within k A.parent 0 0) level;
          }
      step (suc n) ih lt =
          let less = parent_less c is (suc n) (omega arith) in
          let above = ih (A.parent (suc n)) less (omega (arith, less, lt)) in
          let quarter = hold (suc n) lt in
          let up : (A.cell (suc n)).level - 1 ≡ (A.cell (A.parent (suc n))).level = ap (λ s. s.level) quarter.parent_is in
          let level : (A.cell (suc n)).level ≡ suc (A.cell (A.parent (suc n))).level = omega (arith, up, quarter.below_root) in
          record {
            in_grid = quarter.in_grid;
            of_root = λ e. absurd (omega (arith, e));
            of_other = λ positive. level;
            steps = ap (λ k. under_within k A.parent (suc n) 0) level ∙ or_right (suc n == 0) _ above.steps;
          }

pub nodes_have_levels : NodesHaveLevels
nodes_have_levels points c is hold = levels points c is hold
