-- Where the lines of a section fail first. No public contract cites it.
use Rattle.std.specs.Prelude.{ℕ, ◌<◌, ◌≡◌, ◌⊎◌, ◌↔◌, ◌^◌, Bool, true, false, List, length, slice_index_or}
use Rattle.cert_text.specs.Lines.{Head}
use Rattle.certificate_check.specs.declared.counts.LineCounts.{LineCounts}
use Rattle.certificate_nodes.specs.Presented.{PresentedModel, accounting_of, node_count}
use Rattle.certificate_rules.specs.LineRules.{LeafRowHolds, InnerRowHolds, LocalRowHolds, TilingHolds}
use Rattle.soundness.specs.Accounts.{is_leaf}
use Rattle.soundness.specs.Rules.{IsTiled}

-- each count of line 1 is below 2^32
pub record IsSmall (h : Head) : Type 0 where
  pub points : h.points < 2 ^ 32
  pub targets : h.targets < 2 ^ 32
  pub cells : h.cells < 2 ^ 32
  pub entries : h.entries < 2 ^ 32

-- counts that line 1 says
pub record AreCountsOf (h : Head) (counts : LineCounts) : Type 0 where
  pub points : counts.points ≡ h.points
  pub targets : counts.targets ≡ h.targets
  pub cells : counts.cells ≡ h.cells
  pub entries : counts.entries ≡ h.entries

-- the least number below a count of which P fails
pub record FailsFirst (P : ℕ → Type 0) (count n : ℕ) : Type 0 where
  pub below : n < count
  pub fails : P n → ⊥
  pub before : (m : ℕ) → m < n → P m

module _ (g : PresentedModel) where
  -- both rules of a multipole row's line: of a leaf, and of another node
  abbrev pub MultipoleLineHolds : ℕ → Type 0
  MultipoleLineHolds n = LeafRowHolds g.points g.certificate n × InnerRowHolds g.points g.certificate n

  -- both rules of a local row's line: the row, and the tiling
  abbrev pub LocalLineHolds : ℕ → Type 0
  LocalLineHolds n = LocalRowHolds g.points g.certificate n × TilingHolds g.points g.certificate n

  -- and so at the lines of all local rows
  abbrev pub LocalsHold : Type 0
  LocalsHold = (n : ℕ) → n < g.certificate.head.cells → LocalLineHolds n

  -- the least of them that fails
  abbrev pub LocalLineFails : ℕ → ℕ → Type 0
  LocalLineFails n rule =
      ((rule ≡ 4) × (LocalRowHolds g.points g.certificate n → ⊥))
      ⊎ ((rule ≡ 6) × LocalRowHolds g.points g.certificate n × (TilingHolds g.points g.certificate n → ⊥))

  -- of each leaf, whether it is tiled
  pub record HasTilings (tiled : List Bool) : Type 0 where
    pub len : length tiled ≡ node_count g
    pub tilings : (n : ℕ) → n < node_count g → is_leaf (accounting_of g) n ≡ true → slice_index_or tiled n false ≡ true ↔ IsTiled (accounting_of g) n
