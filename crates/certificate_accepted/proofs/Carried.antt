-- What the rules of an accounting say is carried over to one that is the same up to what stands past its nodes and past the order.
use Rattle.std.proofs.Common.{ℕ, zero, suc, ◌≡◌, ◌+◌, ◌<◌, true, get_or, refl, ap, ap₂, ◌∙◌, subst, arith}
use Rattle.std.specs.Prelude.{pos, All, sum_by}
use Rattle.std.specs.List.{range_with_len}
use Rattle.std.proofs.lemmas.List.Elements.{All-filter, All-weaker}
use Rattle.exact_math.specs.Ends.{BoxEnds, BoxEndsInside, add_box, widen_box}
use Rattle.exact_math.specs.Gaussian.{Gaussian}
use Rattle.exact_math.proofs.Lists.{All-from_members, range_below}
use Rattle.accounting_text.specs.Given.{AreSame}
use Rattle.cell_name.specs.Square.{Square, side}
use Rattle.downward_rows.proofs.SameRows.{converted_same, shifted_down_same}
use Rattle.kernel_table.specs.Kernel.{kernel_entry}
use Rattle.letters.specs.declared.Entry.{Entry}
use Rattle.letters.specs.declared.Letter.{Letter}
use Rattle.letters.specs.declared.Letter.TheVariants.{V, W, X}
use Rattle.row_recursions.specs.Rows.{converted, shifted_up, shifted_down, local_value, multipole_value, AreSameRows}
use Rattle.soundness.specs.Accounts.{Accounting, LeafTarget, has_target_under, names_parent, children, sources_under, entries_of}
use Rattle.soundness.specs.Computed.{point_of, sources_of_entry, computed_leaf_row, shifted_rows, brought_down, converted_rows, far_rows, computed_local_row, weight_of_entry, radius_above, computed_local_radius, local_at, multipoles_at, pairs_at, target_radius, computed_target_box}
use Rattle.soundness.specs.Rules.{RowInside, MultipoleHolds, LocalHolds, BoxHolds, Rules}
use Rattle.soundness.specs.Squares.{IsQuarterOf, offset, quadrant, sides_between}
use Rattle.soundness.specs.Steps.{moments_of, x_rows, radius_of}
use Rattle.soundness.proofs.Sums.{total_box-same, sum_by-same}
use Rattle.target_values.proofs.SameValues.{local_value-same, multipole_value-same}
use Rattle.truncation.specs.Tails.{single_loss}
use Rattle.upward_rows.proofs.Totals.{shifted_same}

inside_same : {a b c d : BoxEnds} → a ≡ c → b ≡ d → BoxEndsInside a b → BoxEndsInside c d
inside_same {b = b} {c = c} p q h = subst (BoxEndsInside c) q (subst (λ x. BoxEndsInside x b) p h)

rows_inside_same : (P : ℕ) (m n m' n' : ℕ → BoxEnds) → AreSameRows P m m' → AreSameRows P n n' → RowInside P m n → RowInside P m' n'
rows_inside_same P m n m' n' p q h k lt = inside_same (p k lt) (q k lt) (h k lt)

-- the nodes, the points and the entries of an accounting, with the cells, rows and radii of another
abbrev pub over_nodes : Accounting → Accounting → Accounting
over_nodes B A = record {
  nodes = B.nodes;
  parent = B.parent;
  cell = A.cell;
  sources = B.sources;
  targets = B.targets;
  entries = B.entries;
  multipole = A.multipole;
  local = A.local;
  radius = A.radius;
}

-- where all parents are the same, it is the other itself
pub over_same_nodes : (P : ℕ) (A B : Accounting) → AreSame P A B → ((n : ℕ) → A.parent n ≡ B.parent n) → A ≡ over_nodes B A
over_same_nodes P A B same parents = λ i. record {
  nodes = same.nodes i;
  parent = λ n. parents n i;
  cell = A.cell;
  sources = same.sources i;
  targets = same.targets i;
  entries = same.entries i;
  multipole = A.multipole;
  local = A.local;
  radius = A.radius;
}

module _ (P : ℕ) (A' B : Accounting) (same : AreSame P (over_nodes B A') B) (rules : Rules P (over_nodes B A')) where
  abbrev A : Accounting
  A = over_nodes B A'

  parent_below : (n : ℕ) → suc n < B.nodes → B.parent (suc n) < B.nodes
  parent_below n lt = omega (arith, rules.parents (suc n) (omega arith), lt)

  children_in : (n : ℕ) → All (λ d. d < B.nodes) (children B n)
  children_in n = All-filter (names_parent B n) (λ d. d < B.nodes) (range_with_len 0 B.nodes) (All-from_members (λ d. d < B.nodes) (range_with_len 0 B.nodes) (λ d h. range_below B.nodes d h))

  entries_in : (letter : Letter) (n : ℕ) → All (λ e. e.c < B.nodes) (entries_of B letter n)
  entries_in letter n = All-filter _ (λ (e : Entry). e.c < B.nodes) B.entries rules.in_range

  pub quarters : (n : ℕ) → suc n < B.nodes → IsQuarterOf (B.cell (suc n)) (B.cell (B.parent (suc n)))
  quarters n lt =
      subst (λ c. IsQuarterOf c (B.cell (B.parent (suc n)))) (same.cell (suc n) lt)
      (subst (IsQuarterOf (A.cell (suc n))) (same.cell (B.parent (suc n)) (parent_below n lt)) (rules.quarters (suc n) (omega arith) lt))

  -- ---- multipole rows
  leaf_rows : (n : ℕ) → n < B.nodes → AreSameRows P (computed_leaf_row A n) (computed_leaf_row B n)
  leaf_rows n lt k below = ap (λ c. moments_of point_of c (sources_under B n) k) (same.cell n lt)

  inner_rows : (n : ℕ) → AreSameRows P (shifted_rows A n) (shifted_rows B n)
  inner_rows n k below = total_box-same (λ d. shifted_up (A.multipole d) (quadrant (A.cell d)) k) (λ d. shifted_up (B.multipole d) (quadrant (B.cell d)) k) (children B n)
      (All-weaker (λ d. d < B.nodes) (λ d. shifted_up (A.multipole d) (quadrant (A.cell d)) k ≡ shifted_up (B.multipole d) (quadrant (B.cell d)) k)
      (λ d lt. shifted_same P (A.multipole d) (B.multipole d) (quadrant (A.cell d)) (λ j j_below. same.multipole d j lt j_below) k below ∙ ap (λ c. shifted_up (B.multipole d) (quadrant c) k) (same.cell d lt))
      (children B n) (children_in n))

  pub multipoles : (n : ℕ) → n < B.nodes → MultipoleHolds P B n
  multipoles n lt = record {
    of_leaf = λ e. rows_inside_same P _ _ _ _ (leaf_rows n lt) (λ k below. same.multipole n k lt below) ((rules.multipoles n lt).of_leaf e);
    of_inner = λ e. rows_inside_same P _ _ _ _ (inner_rows n) (λ k below. same.multipole n k lt below) ((rules.multipoles n lt).of_inner e);
  }

  -- ---- local rows
  down : (n : ℕ) → n < B.nodes → (k : ℕ) → brought_down P A n k ≡ brought_down P B n k
  down zero lt k = refl
  down (suc n) lt k =
      shifted_down_same P (A.local (B.parent (suc n))) (B.local (B.parent (suc n))) (quadrant (A.cell (suc n))) (λ j below. same.local (B.parent (suc n)) j (parent_below n lt) below) k
      ∙ ap (λ c. shifted_down P (B.local (B.parent (suc n))) (quadrant c) k) (same.cell (suc n) lt)

  abbrev converted_entry : Accounting → Square → ℕ → Entry → BoxEnds
  converted_entry C b k e = converted P (kernel_entry (sides_between b (C.cell e.c))) (C.multipole e.c) k

  v_entries : (n : ℕ) → n < B.nodes → (k : ℕ) → converted_rows P A n k ≡ converted_rows P B n k
  v_entries n lt k = total_box-same (converted_entry A (A.cell n) k) (converted_entry B (B.cell n) k) (entries_of B V n)
      (All-weaker (λ (e : Entry). e.c < B.nodes) (λ e. converted_entry A (A.cell n) k e ≡ converted_entry B (B.cell n) k e) one (entries_of B V n) (entries_in V n))
    where
      one : (e : Entry) → e.c < B.nodes → converted_entry A (A.cell n) k e ≡ converted_entry B (B.cell n) k e
      one e below =
          converted_same P (kernel_entry (sides_between (A.cell n) (A.cell e.c))) (A.multipole e.c) (B.multipole e.c) (λ j j_below. same.multipole e.c j below j_below) k
          ∙ ap₂ (λ b c. converted P (kernel_entry (sides_between b c)) (B.multipole e.c) k) (same.cell n lt) (same.cell e.c below)

  x_entries : (n : ℕ) → n < B.nodes → (k : ℕ) → far_rows P A n k ≡ far_rows P B n k
  x_entries n lt k = ap (λ b. x_rows point_of (sources_of_entry B) b (entries_of B X n) k) (same.cell n lt)

  local_rows : (n : ℕ) → n < B.nodes → AreSameRows P (computed_local_row P A n) (computed_local_row P B n)
  local_rows n lt k below = ap₂ add_box (down n lt k) (ap₂ add_box (v_entries n lt k) (x_entries n lt k))

  above : (n : ℕ) → n < B.nodes → radius_above P A n ≡ radius_above P B n
  above zero lt = refl
  above (suc n) lt = same.radius (B.parent (suc n)) (parent_below n lt)

  radii : (n : ℕ) → n < B.nodes → computed_local_radius P A n ≡ computed_local_radius P B n
  radii n lt = ap₂ (λ c r. radius_of P (weight_of_entry P B) (side c) r (entries_of B V n) (entries_of B X n)) (same.cell n lt) (above n lt)

  pub locals : (n : ℕ) → n < B.nodes → has_target_under B n ≡ true → LocalHolds P B n
  locals n lt some = record {
    row = rows_inside_same P _ _ _ _ (local_rows n lt) (λ k below. same.local n k lt below) (rules.locals n lt some).row;
    radius = omega (arith, radii n lt, same.radius n lt, (rules.locals n lt some).radius);
  }

  -- ---- boxes
  own_values : (n : ℕ) (t : Gaussian) → n < B.nodes → local_at P A n t ≡ local_at P B n t
  own_values n t lt =
      local_value-same P (A.local n) (B.local n) (side (A.cell n)) (offset (A.cell n) t) (λ k below. same.local n k lt below)
      ∙ ap (λ c. local_value P (B.local n) (side c) (offset c t)) (same.cell n lt)

  abbrev value_of_entry : Accounting → Gaussian → Entry → BoxEnds
  value_of_entry C t e = multipole_value P (C.multipole e.c) (side (C.cell e.c)) (offset (C.cell e.c) t)

  far_values : (n : ℕ) (t : Gaussian) → multipoles_at P A n t ≡ multipoles_at P B n t
  far_values n t = total_box-same (value_of_entry A t) (value_of_entry B t) (entries_of B W n)
      (All-weaker (λ (e : Entry). e.c < B.nodes) (λ e. value_of_entry A t e ≡ value_of_entry B t e) one (entries_of B W n) (entries_in W n))
    where
      one : (e : Entry) → e.c < B.nodes → value_of_entry A t e ≡ value_of_entry B t e
      one e below =
          multipole_value-same P (A.multipole e.c) (B.multipole e.c) (side (A.cell e.c)) (offset (A.cell e.c) t) (λ j j_below. same.multipole e.c j below j_below)
          ∙ ap (λ c. multipole_value P (B.multipole e.c) (side c) (offset c t)) (same.cell e.c below)

  lost_by_entries : (n : ℕ) → target_radius P A n ≡ A.radius n + sum_by (λ (e : Entry). single_loss P (weight_of_entry P B e) (side (B.cell e.c))) (entries_of B W n)
  lost_by_entries n = ap (λ s. A.radius n + s) (sum_by-same (λ (e : Entry). single_loss P (weight_of_entry P B e) (side (A.cell e.c))) (λ (e : Entry). single_loss P (weight_of_entry P B e) (side (B.cell e.c))) (entries_of B W n)
      (All-weaker (λ (e : Entry). e.c < B.nodes) (λ e. single_loss P (weight_of_entry P B e) (side (A.cell e.c)) ≡ single_loss P (weight_of_entry P B e) (side (B.cell e.c)))
      (λ e below. ap (λ c. single_loss P (weight_of_entry P B e) (side c)) (same.cell e.c below)) (entries_of B W n) (entries_in W n)))

  lost : (n : ℕ) → n < B.nodes → target_radius P A n ≡ target_radius P B n
  lost n lt = lost_by_entries n ∙ ap (λ r. r + sum_by (λ (e : Entry). single_loss P (weight_of_entry P B e) (side (B.cell e.c))) (entries_of B W n)) (same.radius n lt)

  target_boxes : (t : LeafTarget) → t.leaf < B.nodes → computed_target_box P A t ≡ computed_target_box P B t
  target_boxes t lt = ap₂ (λ b r. widen_box b (pos r)) (ap₂ add_box (own_values t.leaf t.place lt) (ap (λ b. add_box b (pairs_at P B t.leaf t.place)) (far_values t.leaf t.place))) (lost t.leaf lt)

  pub boxes : All (BoxHolds P B) B.targets
  boxes k d lt = inside_same (target_boxes (get_or B.targets k d) (rules.targets k d lt).in_range) refl (rules.boxes k d lt)
