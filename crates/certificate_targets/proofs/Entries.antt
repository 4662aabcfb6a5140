-- The entries of a node, by the numbers of their lines.
use Rattle.std.proofs.Common.{ℕ, ◌≡◌, ◌^◌, ◌<◌, ◌≤◌, [], length, get_or, map, Bool, true, false, ◌&&◌, ◌==◌, filter, refl, sym, ap, ◌∙◌, subst, arith}
use Rattle.std.specs.Prelude.{All}
use Rattle.std.specs.List.{range_with_len}
use Rattle.std.proofs.lemmas.Bool.{eqb-true, eq-eqb, ne_eqb, cases_eq}
use Rattle.std.proofs.lemmas.List.{get_or-map, length-map}
use Rattle.std.proofs.lemmas.List.Elements.{All-filter, filter_passes}
use Rattle.std.proofs.lemmas.List.FromFn.{fill_by_all, length-range_with_len}
use Rattle.std.proofs.lemmas.List.Sums.{length-filter, count_by-le-length}
use Rattle.std.proofs.lemmas.Int.{ints}
use mathlib.Core.Logic.{⊎_elim, inl, inr}
use Rattle.accounting_text.specs.Given.{given_entry}
use Rattle.cert_text.specs.Certificate.{Certificate, IsCertificate}
use Rattle.cert_text.specs.Lines.{line}
use Rattle.certificate_nodes.specs.AtNodes.{entry_numbers_at}
use Rattle.certificate_rules.specs.LineRules.{presented}
use Rattle.exact_math.proofs.Lists.{All-from_members, filter-map, filter-filter, filter_same, range_below}
use Rattle.letters.specs.declared.Entry.{Entry}
use Rattle.letters.specs.declared.Letter.{Letter}
use Rattle.limits.proofs.Grids.{grid_cases, version_has_grid}
use Rattle.limits.specs.Limits.{IsGrid, grid_of, most_entries}
use Rattle.points.specs.declared.Points.{Points}
use Rattle.soundness.specs.Accounts.{is_letter, entries_of}
use Rattle.certificate_targets.specs.Parts.{entry_of}

same_test : (m n : ℕ) → (m == n) ≡ (n == m)
same_test m n = ⊎_elim (λ e. eq-eqb m n e ∙ sym (eq-eqb n m (sym e))) (λ ne. ne_eqb m n ne ∙ sym (ne_eqb n m (λ e. ne (sym e)))) (cases_eq m n)

turned : (a b : Bool) → (a && b) ≡ (b && a)
turned true true = refl
turned true false = refl
turned false true = refl
turned false false = refl

-- those of a letter
pub entries_by_number : (points : Points) (c : Certificate) (letter : Letter) (n : ℕ)
    → entries_of (presented points c) letter n ≡ filter (λ (e : Entry). is_letter letter e.letter) (map (entry_of c) (entry_numbers_at c n))
entries_by_number points c letter n =
    let g : ℕ → Entry = entry_of c in
    let numbers = range_with_len 0 (length c.entries) in
    ap (filter (λ (e : Entry). is_letter letter e.letter && (n == e.b)))
    (fill_by_all g (map given_entry c.entries) (length c.entries) (given_entry (line [] [])) (length-map c.entries given_entry) (λ k lt. get_or-map given_entry c.entries k (line [] []) (given_entry (line [] [])) lt))
    ∙ filter-map (λ (e : Entry). is_letter letter e.letter && (n == e.b)) g numbers
    ∙ ap (map g) (
    filter_same (λ k. is_letter letter (g k).letter && (n == (g k).b)) (λ k. ((g k).b == n) && is_letter letter (g k).letter) numbers
    (λ k d lt. let e = g (get_or numbers k d) in turned (is_letter letter e.letter) (n == e.b) ∙ ap (λ b. b && is_letter letter e.letter) (same_test n e.b))
    ∙ sym (filter-filter (λ k. is_letter letter (g k).letter) (λ k. (g k).b == n) numbers))
    ∙ sym (filter-map (λ (e : Entry). is_letter letter e.letter) g (entry_numbers_at c n))

-- ---- the numbers
most_entries_le : (grid : ℕ) → IsGrid grid → most_entries grid ≤ 2 ^ 29
most_entries_le grid is =
    elim (grid_cases grid is) [ inl e ↦ subst (λ n. most_entries n ≤ 2 ^ 29) (sym e) (omega arith) | inr e ↦ subst (λ n. most_entries n ≤ 2 ^ 29) (sym e) (omega arith) ]

pub few_numbers : (c : Certificate) → IsCertificate c → (n : ℕ) → length (entry_numbers_at c n) ≤ 2 ^ 29
few_numbers c is n =
    let p : ℕ → Bool = λ e. (entry_of c e).b == n in
    let numbers = range_with_len 0 (length c.entries) in
    let f = length-filter p numbers in
    let g = count_by-le-length p numbers in
    let l = length-range_with_len 0 (length c.entries) in
    let most = most_entries_le (grid_of c.head.version) (version_has_grid c.head.version) in
    omega (arith, ints, f, g, l, is.entries_are, is.head_is.counts.3.most, most)

-- each is that of an entry of the node
pub record IsNumberAt (c : Certificate) (n e : ℕ) : Type 0 where
  pub below : e < length c.entries
  pub of_node : (entry_of c e).b ≡ n

pub numbers_are : (c : Certificate) (n : ℕ) → All (IsNumberAt c n) (entry_numbers_at c n)
numbers_are c n i d lt =
    let p : ℕ → Bool = λ e. (entry_of c e).b == n in
    let numbers = range_with_len 0 (length c.entries) in
    record {
      below = All-filter p (λ e. e < length c.entries) numbers (All-from_members (λ e. e < length c.entries) numbers (range_below (length c.entries))) i d lt;
      of_node = eqb-true _ n (filter_passes p numbers i d lt);
    }
