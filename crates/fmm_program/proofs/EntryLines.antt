-- Exactly one entry line of the certificate of a field accounts for each target and source: the entries of its accounting stand there, none of them twice.
use Rattle.std.proofs.Common.{ℕ, ◌≡◌, ◌<◌, inl, inr, List, [], length, slice_index_or, refl, sym, ap, subst, ◌∙◌, arith}
use Rattle.std.specs.Prelude.{All, Contains}
use Rattle.std.proofs.lemmas.Bool.{cases_lt}
use Rattle.std.proofs.lemmas.List.{get_or-map, length-map}
use Rattle.accounting_text.proofs.Same.{cell_given, line_of_node}
use Rattle.accounting_text.specs.Given.{given_cell, number_at}
use Rattle.accounting_text.specs.Written.{entry_line, node_line}
use Rattle.cell_lists.specs.Entries.{Accounts, HasOneEntry, IsEntry, IsTargetAndSource}
use Rattle.cell_lists.proofs.OneEntry.{each_pair_has_one_entry, in_tree_of}
use Rattle.cell_name.specs.Square.{Square}
use Rattle.cert_text.specs.Certificate.{Certificate, nth_line}
use Rattle.cert_text.specs.Lines.{Line, line}
use Rattle.field_certificate.specs.FieldCertificate.{field_certificate}
use Rattle.letters.specs.declared.Entry.{Entry}
use Rattle.letters.specs.declared.Letter.{Letter}
use Rattle.limits.specs.Limits.{grid_of}
use Rattle.points.specs.declared.Point.{Point}
use Rattle.points.specs.declared.Points.{Points}
use Rattle.quadtree.specs.Tree.{AreInGrid}
use Rattle.soundness.specs.Accounts.{Accounting}
use Rattle.tree_field.specs.Accounting.{accounting, cell_at, entry}
use Rattle.tree_field.specs.Lists.{TreeLists, AreTreeLists}
use Rattle.tree_field.proofs.Entries.{All-entries, entries_differ, has_entry}
use Rattle.tree_field.proofs.Numbers.{cell_of_number, number_below, tree_cell}
use Rattle.fmm_program.specs.Answers.{HasOneEntryLine, LineAccounts}

-- an entry of the lists, by the numbers of its cells
record IsListed (grid : ℕ) (points : List Point) (cap : ℕ) (lists : TreeLists) (e : Entry) : Type 0 where
  letter : Letter
  b : Square
  c : Square
  is_entry : IsEntry grid points cap letter b c
  is : e ≡ entry lists letter b c
  first : cell_at lists.cells e.b ≡ b
  second : cell_at lists.cells e.c ≡ c
  first_in : e.b < length lists.cells
  second_in : e.c < length lists.cells

module _ (points : Points) (cap P : ℕ) (lists : TreeLists) (some : 0 < grid_of points.version) (inside : AreInGrid (grid_of points.version) points.list) (are : AreTreeLists (grid_of points.version) points.list cap lists) where
  abbrev grid : ℕ
  grid = grid_of points.version

  abbrev given : Accounting
  given = accounting grid points.list cap P lists

  abbrev certificate : Certificate
  certificate = field_certificate points cap P lists

  -- ---- what lines name
  cell_named : (n : ℕ) → n < length lists.cells → given_cell points.version (nth_line certificate.nodes n) ≡ cell_at lists.cells n
  cell_named n lt =
      sym (ap (given_cell points.version) (line_of_node (λ n. node_line (given.parent n) (given.cell n)) given.nodes n lt))
      ∙ cell_given points.version (given.parent n) (cell_at lists.cells n) (tree_cell grid points.list cap lists.cells some inside are.cells_are n lt).of_grid

  line_named : (k : ℕ) (e : Entry) → k < length given.entries → nth_line certificate.entries k ≡ entry_line (slice_index_or given.entries k e)
  line_named k e lt = get_or-map entry_line given.entries k e (line [] []) lt

  listed : All (IsListed grid points.list cap lists) given.entries
  listed = All-entries grid points.list cap P lists some inside are (IsListed grid points.list cap lists) (λ letter b c tb tc is_entry. record {
    letter = letter;
    b = b;
    c = c;
    is_entry = is_entry;
    is = refl;
    first = cell_of_number grid points.list cap lists.cells some inside are.cells_are b tb;
    second = cell_of_number grid points.list cap lists.cells some inside are.cells_are c tc;
    first_in = number_below grid points.list cap lists.cells some inside are.cells_are b tb;
    second_in = number_below grid points.list cap lists.cells some inside are.cells_are c tc;
  })

  -- a line accounts for what the cells of its entry do
  module _ (k : ℕ) (d : Entry) (is : nth_line certificate.entries k ≡ entry_line d) (first : d.b < length lists.cells) (second : d.c < length lists.cells) (target source : Point) where
    line_accounts : Accounts (cell_at lists.cells d.b) (cell_at lists.cells d.c) target source → LineAccounts certificate k target source
    line_accounts a =
        subst (λ (l : Line). Accounts (given_cell points.version (nth_line certificate.nodes (number_at l 0))) (given_cell points.version (nth_line certificate.nodes (number_at l 1))) target source) (sym is)
        (subst (λ (c : Square). Accounts c (given_cell points.version (nth_line certificate.nodes d.c)) target source) (sym (cell_named d.b first))
        (subst (λ (c : Square). Accounts (cell_at lists.cells d.b) c target source) (sym (cell_named d.c second)) a))

    cells_account : LineAccounts certificate k target source → Accounts (cell_at lists.cells d.b) (cell_at lists.cells d.c) target source
    cells_account a =
        subst (λ (c : Square). Accounts (cell_at lists.cells d.b) c target source) (cell_named d.c second)
        (subst (λ (c : Square). Accounts c (given_cell points.version (nth_line certificate.nodes d.c)) target source) (cell_named d.b first)
        (subst (λ (l : Line). Accounts (given_cell points.version (nth_line certificate.nodes (number_at l 0))) (given_cell points.version (nth_line certificate.nodes (number_at l 1))) target source) is a))

  as_many : length certificate.entries ≡ length given.entries
  as_many = length-map given.entries entry_line

  -- two lines of one entry are one line
  same_line : (j k : ℕ) (e : Entry) → j < length given.entries → k < length given.entries → slice_index_or given.entries j e ≡ slice_index_or given.entries k e → j ≡ k
  same_line j k e hj hk same = elim (cases_lt j k) [
    | inl less ↦ absurd (entries_differ grid points.list cap P lists some inside are j k e less hk same)
    | inr more ↦ elim (cases_lt k j) [ inl less ↦ absurd (entries_differ grid points.list cap P lists some inside are k j e less hj (sym same)) | inr less ↦ omega (arith, more, less) ]
  ]

  -- ---- the one line for a target and a source
  module _ (target source : Point) (one : HasOneEntry grid points.list cap target source) where
    abbrev the : Entry
    the = entry lists one.letter one.b one.c

    here : Contains given.entries the
    here = has_entry grid points.list cap P lists some inside are one.letter one.b one.c one.entry

    first_named : cell_at lists.cells the.b ≡ one.b
    first_named = cell_of_number grid points.list cap lists.cells some inside are.cells_are one.b (in_tree_of grid points.list cap one.letter one.b one.c one.entry.pair).0

    second_named : cell_at lists.cells the.c ≡ one.c
    second_named = cell_of_number grid points.list cap lists.cells some inside are.cells_are one.c (in_tree_of grid points.list cap one.letter one.b one.c one.entry.pair).1

    accounts_here : LineAccounts certificate here.0 target source
    accounts_here =
        let h = subst (IsListed grid points.list cap lists) here.2 (listed here.0 the here.1) in
        line_accounts here.0 the (line_named here.0 the here.1 ∙ ap entry_line here.2) h.first_in h.second_in target source
        (subst (λ (c : Square). Accounts c (cell_at lists.cells the.c) target source) (sym first_named) (subst (λ (c : Square). Accounts one.b c target source) (sym second_named) one.accounts))

    no_other_line : (k : ℕ) → k < length certificate.entries → LineAccounts certificate k target source → k ≡ here.0
    no_other_line k lt a =
        let inside_list : k < length given.entries = omega (arith, lt, as_many) in
        let d : Entry = slice_index_or given.entries k the in
        let h = listed k the inside_list in
        let cells = cells_account k d (line_named k the inside_list) h.first_in h.second_in target source a in
        let accounts = subst (λ (c : Square). Accounts h.b c target source) h.second (subst (λ (c : Square). Accounts c (cell_at lists.cells d.c) target source) h.first cells) in
        let same = one.no_other h.letter h.b h.c h.is_entry accounts in
        same_line k here.0 the inside_list here.1 (h.is ∙ (λ i. entry lists (same.0 i) (same.1 i) (same.2 i)) ∙ sym here.2)

  pub one_entry_line : (target source : Point) → IsTargetAndSource points.list target source → HasOneEntryLine certificate target source
  one_entry_line target source both =
      let one = each_pair_has_one_entry grid points.list cap target source some inside both in
      record {
        number = (here target source one).0;
        written = let h = (here target source one).1 in omega (arith, h, as_many);
        accounts = accounts_here target source one;
        no_other = no_other_line target source one;
      }
