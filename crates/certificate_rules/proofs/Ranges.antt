-- The numbers of a certificate's lines are in their ranges.
use Rattle.std.proofs.Common.{ℕ, zero, suc, ◌≡◌, ◌+◌, ◌<◌, ◌≤◌, List, [], ◌∷◌, ◌++◌, length, inl, inr, refl, subst, arith}
use Rattle.std.specs.Prelude.{ℤ, pos, negsuc, unsigned_abs}
use Rattle.std.proofs.lemmas.Bool.{cases_lt}
use Rattle.std.proofs.lemmas.Int.{ints}
use Rattle.accounting_text.specs.Given.{number_at}
use Rattle.cert_text.specs.Certificate.{Certificate, IsCertificate, nth_line, nth_number}
use Rattle.cert_text.specs.Lines.{Line, Head}
use Rattle.cert_text.specs.Sections.{IsNumberBelow, AreInRange}
use Rattle.cert_text.specs.declared.section.Section.TheVariants.{Node, At, Entry}
use Rattle.cert_text.proofs.Places.{lines_front, lines_back, each_line}

size_below : (n : ℕ) (z : ℤ) → IsNumberBelow n z → unsigned_abs z < n
size_below n (pos a) h = omega (arith, ints, h.most)
size_below n (negsuc a) h = absurd (omega (arith, ints, h.least))

-- ---- of one line
at_below : (h : Head) (n : ℕ) (zs : List ℤ) → AreInRange h At n zs → unsigned_abs (nth_number zs 0) < h.cells
at_below h n [] r = absurd r
at_below h n (z ∷ []) r = size_below h.cells z r
at_below h n (z ∷ y ∷ zs) r = absurd r

entry_below : (h : Head) (n : ℕ) (zs : List ℤ) → AreInRange h Entry n zs → (unsigned_abs (nth_number zs 0) < h.cells) × (unsigned_abs (nth_number zs 1) < h.cells)
entry_below h n [] r = absurd r
entry_below h n (b ∷ []) r = absurd r
entry_below h n (b ∷ c ∷ []) r = (size_below h.cells b r.0, size_below h.cells c r.1)
entry_below h n (b ∷ c ∷ d ∷ zs) r = absurd r

parent_zero : (h : Head) (zs : List ℤ) → AreInRange h Node 0 zs → unsigned_abs (nth_number zs 0) ≡ 0
parent_zero h [] r = refl
parent_zero h (p ∷ []) r = absurd r
parent_zero h (p ∷ l ∷ []) r = absurd r
parent_zero h (p ∷ l ∷ i ∷ []) r = absurd r
parent_zero h (p ∷ l ∷ i ∷ j ∷ []) r = let e : p ≡ pos 0 = r.0 in zero_size p e
  where
    zero_size : (z : ℤ) → z ≡ pos 0 → unsigned_abs z ≡ 0
    zero_size (pos a) e = omega (arith, ints, e)
    zero_size (negsuc a) e = absurd (omega (arith, ints, e))
parent_zero h (p ∷ l ∷ i ∷ j ∷ k ∷ zs) r = absurd r

parent_below : (h : Head) (n : ℕ) (zs : List ℤ) → AreInRange h Node (suc n) zs → unsigned_abs (nth_number zs 0) < suc n
parent_below h n [] r = absurd r
parent_below h n (p ∷ []) r = absurd r
parent_below h n (p ∷ l ∷ []) r = absurd r
parent_below h n (p ∷ l ∷ i ∷ []) r = absurd r
parent_below h n (p ∷ l ∷ i ∷ j ∷ []) r = size_below (suc n) p r.0
parent_below h n (p ∷ l ∷ i ∷ j ∷ k ∷ zs) r = absurd r

-- past the last line all numbers are 0
past_last : (ls : List Line) (n : ℕ) → length ls ≤ n → number_at (nth_line ls n) 0 ≡ 0
past_last [] n le = refl
past_last (l ∷ ls) zero le = absurd (omega (arith, le))
past_last (l ∷ ls) (suc n) le = past_last ls n (omega (arith, le))

-- ---- of a certificate
module _ (c : Certificate) (is : IsCertificate c) where
  node_range : (n : ℕ) → n < length c.nodes → AreInRange c.head Node n (nth_line c.nodes n).numbers
  node_range n lt =
      let nodes = lines_front c.head 0 c.nodes (c.ats ++ (c.multipoles ++ (c.entries ++ (c.locals ++ c.targets)))) is.lines_are in
      let same : 0 + n ≡ n = omega arith in
      subst (λ m. AreInRange c.head Node m (nth_line c.nodes n).numbers) same (each_line c.head Node 0 0 n c.nodes refl (omega (arith, is.nodes_are)) nodes lt).1

  pub at_in_nodes : (k : ℕ) → k < c.head.points → number_at (nth_line c.ats k) 0 < c.head.cells
  at_in_nodes k lt =
      let behind_nodes = lines_back c.head 0 c.head.cells c.nodes (c.ats ++ (c.multipoles ++ (c.entries ++ (c.locals ++ c.targets)))) (omega (arith, is.nodes_are)) is.lines_are in
      let ats = lines_front c.head c.head.cells c.ats (c.multipoles ++ (c.entries ++ (c.locals ++ c.targets))) behind_nodes in
      at_below c.head (0 + k) (nth_line c.ats k).numbers (each_line c.head At 0 c.head.cells k c.ats (omega arith) (omega (arith, is.ats_are)) ats (omega (arith, lt, is.ats_are))).1

  pub entry_in_nodes : (k : ℕ) → k < c.head.entries → (number_at (nth_line c.entries k) 0 < c.head.cells) × (number_at (nth_line c.entries k) 1 < c.head.cells)
  entry_in_nodes k lt =
      let behind_nodes = lines_back c.head 0 c.head.cells c.nodes (c.ats ++ (c.multipoles ++ (c.entries ++ (c.locals ++ c.targets)))) (omega (arith, is.nodes_are)) is.lines_are in
      let behind_ats = lines_back c.head c.head.cells (c.head.cells + c.head.points) c.ats (c.multipoles ++ (c.entries ++ (c.locals ++ c.targets))) (omega (arith, is.ats_are)) behind_nodes in
      let start = c.head.cells + c.head.points + c.head.cells in
      let behind_rows = lines_back c.head (c.head.cells + c.head.points) start c.multipoles (c.entries ++ (c.locals ++ c.targets)) (omega (arith, is.multipoles_are)) behind_ats in
      let entries = lines_front c.head start c.entries (c.locals ++ c.targets) behind_rows in
      entry_below c.head (0 + k) (nth_line c.entries k).numbers (each_line c.head Entry 0 start k c.entries (omega arith) (omega (arith, is.entries_are)) entries (omega (arith, lt, is.entries_are))).1

  pub root_parent : number_at (nth_line c.nodes 0) 0 ≡ 0
  root_parent = elim (cases_lt 0 (length c.nodes)) [ inl lt ↦ parent_zero c.head (nth_line c.nodes 0).numbers (node_range 0 lt) | inr le ↦ past_last c.nodes 0 le ]

  pub parent_less : (n : ℕ) → 0 < n → number_at (nth_line c.nodes n) 0 < n
  parent_less zero positive = absurd (omega (arith, positive))
  parent_less (suc n) positive = elim (cases_lt (suc n) (length c.nodes)) [
    | inl lt ↦ parent_below c.head n (nth_line c.nodes (suc n)).numbers (node_range (suc n) lt)
    | inr le ↦ let none = past_last c.nodes (suc n) le in omega (arith, none)
  ]
