-- The first failure of a certificate, from the section in which it stands.
use Rattle.std.proofs.Common.{ℕ, ◌≡◌, ◌<◌, inl, inr, true, false, refl, sym, subst, ◌∙◌, arith}
use Rattle.std.proofs.lemmas.Bool.{true≢false}
use Rattle.cert_text.specs.declared.section.Section.{Section}
use Rattle.cert_text.specs.declared.section.Section.TheVariants.{Node, At, Multipole, Entry, Local, Target, End}
use Rattle.cert_text.proofs.Places.{lines_in}
use Rattle.certificate_check.specs.Failures.{FailsFirst, LocalLineFails, LocalLineHolds, MultipoleLineHolds}
use Rattle.certificate_nodes.specs.Presented.{PresentedModel, accounting_of, NodesHold, PointsHold, MultipolesHold, EntriesHold}
use Rattle.certificate_rules.proofs.Lines.{SectionsHoldBefore, hold_everywhere, section_fails}
use Rattle.certificate_rules.specs.LineRules.{HeadHolds, NodeHolds, PointHolds, EntryHolds, TargetHolds}
use Rattle.certificate_rules.specs.Verdicts.{line_number, SectionHolds, HoldEverywhere, IsFirstFailure}
use Rattle.soundness.specs.Accounts.{is_leaf}

module _ (g : PresentedModel) (head : HeadHolds g.points g.certificate) where
  abbrev Before : Section → ℕ → Type 0
  Before section n = SectionsHoldBefore g.points g.certificate (line_number g.certificate.head section n)

  abbrev First : ℕ → Section → ℕ → Type 0
  First rule section n = IsFirstFailure g.points g.certificate rule (line_number g.certificate.head section n)

  abbrev Nodes : ℕ → Type 0
  Nodes = NodeHolds g.points g.certificate

  abbrev AtPoints : ℕ → Type 0
  AtPoints = PointHolds g.points g.certificate

  abbrev Entries : ℕ → Type 0
  Entries = EntryHolds g.points g.certificate

  abbrev Targets : ℕ → Type 0
  Targets = TargetHolds g.points g.certificate

  before_node : (n : ℕ) → n < g.certificate.head.cells → ((m : ℕ) → m < n → Nodes m) → Before Node n
  before_node n lt here Node m rule below less = λ e. here m (omega (arith, less))
  before_node n lt here At m rule below less = absurd (omega (arith, lt, less))
  before_node n lt here Multipole m rule below less = absurd (omega (arith, lt, less))
  before_node n lt here Entry m rule below less = absurd (omega (arith, lt, less))
  before_node n lt here Local m rule below less = absurd (omega (arith, lt, less))
  before_node n lt here Target m rule below less = absurd (omega (arith, lt, less))
  before_node n lt here End m rule below less = tt

  before_at : (n : ℕ) → n < g.certificate.head.points → NodesHold g → ((m : ℕ) → m < n → AtPoints m) → Before At n
  before_at n lt nodes here Node m rule below less = λ e. nodes m below
  before_at n lt nodes here At m rule below less = λ e. here m (omega (arith, less))
  before_at n lt nodes here Multipole m rule below less = absurd (omega (arith, lt, less))
  before_at n lt nodes here Entry m rule below less = absurd (omega (arith, lt, less))
  before_at n lt nodes here Local m rule below less = absurd (omega (arith, lt, less))
  before_at n lt nodes here Target m rule below less = absurd (omega (arith, lt, less))
  before_at n lt nodes here End m rule below less = tt

  before_multipole : (n : ℕ) → n < g.certificate.head.cells → NodesHold g → PointsHold g → ((m : ℕ) → m < n → MultipoleLineHolds g m) → Before Multipole n
  before_multipole n lt nodes points here Node m rule below less = λ e. nodes m below
  before_multipole n lt nodes points here At m rule below less = λ e. points m below
  before_multipole n lt nodes points here Multipole m rule below less = ((λ e. (here m (omega (arith, less))).0), (λ e. (here m (omega (arith, less))).1))
  before_multipole n lt nodes points here Entry m rule below less = absurd (omega (arith, lt, less))
  before_multipole n lt nodes points here Local m rule below less = absurd (omega (arith, lt, less))
  before_multipole n lt nodes points here Target m rule below less = absurd (omega (arith, lt, less))
  before_multipole n lt nodes points here End m rule below less = tt

  before_entry : (n : ℕ) → n < g.certificate.head.entries → NodesHold g → PointsHold g → MultipolesHold g → ((m : ℕ) → m < n → Entries m) → Before Entry n
  before_entry n lt nodes points multipoles here Node m rule below less = λ e. nodes m below
  before_entry n lt nodes points multipoles here At m rule below less = λ e. points m below
  before_entry n lt nodes points multipoles here Multipole m rule below less = ((λ e. (multipoles m below).0), (λ e. (multipoles m below).1))
  before_entry n lt nodes points multipoles here Entry m rule below less = λ e. here m (omega (arith, less))
  before_entry n lt nodes points multipoles here Local m rule below less = absurd (omega (arith, lt, less))
  before_entry n lt nodes points multipoles here Target m rule below less = absurd (omega (arith, lt, less))
  before_entry n lt nodes points multipoles here End m rule below less = tt

  before_local : (n : ℕ) → n < g.certificate.head.cells → NodesHold g → PointsHold g → MultipolesHold g → EntriesHold g → ((m : ℕ) → m < n → LocalLineHolds g m) → Before Local n
  before_local n lt nodes points multipoles entries here Node m rule below less = λ e. nodes m below
  before_local n lt nodes points multipoles entries here At m rule below less = λ e. points m below
  before_local n lt nodes points multipoles entries here Multipole m rule below less = ((λ e. (multipoles m below).0), (λ e. (multipoles m below).1))
  before_local n lt nodes points multipoles entries here Entry m rule below less = λ e. entries m below
  before_local n lt nodes points multipoles entries here Local m rule below less = ((λ e. (here m (omega (arith, less))).0), (λ e. (here m (omega (arith, less))).1))
  before_local n lt nodes points multipoles entries here Target m rule below less = absurd (omega (arith, lt, less))
  before_local n lt nodes points multipoles entries here End m rule below less = tt

  before_target : (n : ℕ) → n < g.certificate.head.targets → NodesHold g → PointsHold g → MultipolesHold g → EntriesHold g → ((n : ℕ) → n < g.certificate.head.cells → LocalLineHolds g n) → ((m : ℕ) → m < n → Targets m) → Before Target n
  before_target n lt nodes points multipoles entries locals here Node m rule below less = λ e. nodes m below
  before_target n lt nodes points multipoles entries locals here At m rule below less = λ e. points m below
  before_target n lt nodes points multipoles entries locals here Multipole m rule below less = ((λ e. (multipoles m below).0), (λ e. (multipoles m below).1))
  before_target n lt nodes points multipoles entries locals here Entry m rule below less = λ e. entries m below
  before_target n lt nodes points multipoles entries locals here Local m rule below less = ((λ e. (locals m below).0), (λ e. (locals m below).1))
  before_target n lt nodes points multipoles entries locals here Target m rule below less = λ e. here m (omega (arith, less))
  before_target n lt nodes points multipoles entries locals here End m rule below less = tt

  -- ---- the first failures
  pub node_fails : (n : ℕ) → FailsFirst Nodes g.certificate.head.cells n → First 1 Node n
  node_fails n f = section_fails g.points g.certificate Node n 1 f.below head (before_node n f.below f.before) (λ r less e. absurd (omega (arith, less, e))) (λ h. f.fails (h refl))

  module _ (nodes : NodesHold g) where
    pub point_fails : (n : ℕ) → FailsFirst AtPoints g.certificate.head.points n → First 1 At n
    point_fails n f = section_fails g.points g.certificate At n 1 f.below head (before_at n f.below nodes f.before) (λ r less e. absurd (omega (arith, less, e))) (λ h. f.fails (h refl))

    module _ (points : PointsHold g) where
      pub leaf_row_fails : (n : ℕ) → is_leaf (accounting_of g) n ≡ true → FailsFirst (MultipoleLineHolds g) g.certificate.head.cells n → First 2 Multipole n
      leaf_row_fails n leaf f =
          section_fails g.points g.certificate Multipole n 2 f.below head (before_multipole n f.below nodes points f.before)
          (λ r less. ((λ e. absurd (omega (arith, less, e))), (λ e. absurd (omega (arith, less, e)))))
          (λ h. f.fails (h.0 refl, λ inner. absurd (true≢false (sym leaf ∙ inner))))

      pub inner_row_fails : (n : ℕ) → is_leaf (accounting_of g) n ≡ false → FailsFirst (MultipoleLineHolds g) g.certificate.head.cells n → First 3 Multipole n
      inner_row_fails n inner f =
          section_fails g.points g.certificate Multipole n 3 f.below head (before_multipole n f.below nodes points f.before)
          (λ r less. ((λ e leaf. absurd (true≢false (sym leaf ∙ inner))), (λ e. absurd (omega (arith, less, e)))))
          (λ h. f.fails ((λ leaf. absurd (true≢false (sym leaf ∙ inner))), h.1 refl))

      module _ (multipoles : MultipolesHold g) where
        pub entry_fails : (n : ℕ) → FailsFirst Entries g.certificate.head.entries n → First 5 Entry n
        entry_fails n f =
            section_fails g.points g.certificate Entry n 5 f.below head (before_entry n f.below nodes points multipoles f.before) (λ r less e. absurd (omega (arith, less, e))) (λ h. f.fails (h refl))

        module _ (entries : EntriesHold g) where
          pub local_fails : (n rule : ℕ) → FailsFirst (LocalLineHolds g) g.certificate.head.cells n → LocalLineFails g n rule → First rule Local n
          local_fails n rule f (inl (four, fails)) =
              subst (λ r. First r Local n) (sym four)
              (section_fails g.points g.certificate Local n 4 f.below head (before_local n f.below nodes points multipoles entries f.before)
              (λ r less. ((λ e. absurd (omega (arith, less, e))), (λ e. absurd (omega (arith, less, e))))) (λ h. fails (h.0 refl)))
          local_fails n rule f (inr (six, row, fails)) =
              subst (λ r. First r Local n) (sym six)
              (section_fails g.points g.certificate Local n 6 f.below head (before_local n f.below nodes points multipoles entries f.before)
              (λ r less. ((λ e. row), (λ e. absurd (omega (arith, less, e))))) (λ h. fails (h.1 refl)))

          module _ (locals : (n : ℕ) → n < g.certificate.head.cells → LocalLineHolds g n) where
            pub target_fails : (n : ℕ) → FailsFirst Targets g.certificate.head.targets n → First 7 Target n
            target_fails n f =
                section_fails g.points g.certificate Target n 7 f.below head (before_target n f.below nodes points multipoles entries locals f.before) (λ r less e. absurd (omega (arith, less, e)))
                (λ h. f.fails (h refl))

            -- all rules hold
            pub all_hold : ((k : ℕ) → k < g.certificate.head.targets → Targets k) → HoldEverywhere g.points g.certificate
            all_hold targets = hold_everywhere g.points g.certificate head each
              where
                each : (section : Section) (n rule : ℕ) → n < lines_in g.certificate.head section → SectionHolds g.points g.certificate section n rule
                each Node n rule below = λ e. nodes n below
                each At n rule below = λ e. points n below
                each Multipole n rule below = ((λ e. (multipoles n below).0), (λ e. (multipoles n below).1))
                each Entry n rule below = λ e. entries n below
                each Local n rule below = ((λ e. (locals n below).0), (λ e. (locals n below).1))
                each Target n rule below = λ e. targets n below
                each End n rule below = tt
