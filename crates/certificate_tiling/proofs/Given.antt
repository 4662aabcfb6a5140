-- What a certificate gives: the entries on a node, and where the entries and the sources stand.
use Rattle.std.proofs.Common.{ℕ, ◌≡◌, ◌+◌, ◌<◌, ◌^◌, List, [], ◌∷◌, length, get_or, drop, add-one, map, Bool, true, false, ◌&&◌, cond, sym, ap, ap₂, ◌∙◌, arith}
use Rattle.std.specs.Prelude.{sum_by, ◌==◌, All}
use Rattle.std.specs.List.{range_with_len}
use Rattle.std.proofs.Math.Seq.{drop-cons}
use Rattle.std.proofs.lemmas.List.{get_or-map, length-map}
use Rattle.std.proofs.lemmas.List.Elements.{All-map, All-from_get_or}
use Rattle.std.proofs.lemmas.List.FromFn.{length-range_with_len}
use Rattle.std.proofs.lemmas.List.Sums.{sum-map, length-filter, count_by-le-length}
use Rattle.accounting_text.specs.Given.{given_entry, given_sources, number_at}
use Rattle.cert_text.specs.Certificate.{Certificate, IsCertificate, nth_line}
use Rattle.cert_text.specs.Lines.{Line, line}
use Rattle.certificate_nodes.specs.AtNodes.{entry_numbers_at}
use Rattle.certificate_nodes.specs.Presented.{PresentedModel, accounting_of}
use Rattle.certificate_nodes.proofs.Counts.{few_entries, few_points}
use Rattle.certificate_rules.specs.LineRules.{presented, HeadHolds, EntryHolds, IsFit}
use Rattle.certificate_rules.proofs.GivenPoints.{sources_hold, sources_are}
use Rattle.certificate_rules.proofs.Ranges.{at_in_nodes, entry_in_nodes}
use Rattle.letters.specs.declared.Entry.{Entry}
use Rattle.letters.specs.declared.Letter.{Letter}
use Rattle.letters.specs.declared.Letter.TheVariants.{U, V, W, X}
use Rattle.node_sums.proofs.RangeSums.{sum_by-filter, range-same, sum-places, sum_by-each}
use Rattle.points.specs.Points.{is_source}
use Rattle.points.specs.declared.Point.{Point}
use Rattle.points.specs.declared.Points.{Points}
use Rattle.soundness.proofs.Sums.{sum_by-map}
use Rattle.soundness.specs.Accounts.{Accounting, LeafSource}
use Rattle.certificate_tiling.specs.Walk.{times_named, leaves_of}
use Rattle.certificate_tiling.proofs.Over.{times_on, and_cond}
use Rattle.certificate_tiling.proofs.Reach.{NamesLeaf}

-- a sum over a list, by its places
by_place : {X : Type 0} (f : X → ℕ) (xs : List X) (d : X) → sum_by f xs ≡ sum_by (λ k. f (get_or xs k d)) (range_with_len 0 (length xs))
by_place f xs d =
    sym (sum-map f xs) ∙ sum-places (map f xs)
    ∙ ap (λ n. sum_by (λ k. get_or (map f xs) k 0) (range_with_len 0 n)) (length-map xs f)
    ∙ range-same (λ k. get_or (map f xs) k 0) (λ k. f (get_or xs k d)) 0 (length xs) (λ k l h. get_or-map f xs k d 0 (omega arith))

-- ---- the sources from the k-th point on
module _ (ps : List Point) (ls : List Line) (k : ℕ) (d : Point) (inside_points : k < length ps) (inside_lines : k < length ls) where
  abbrev leaves_from : ℕ → List ℕ
  leaves_from n = map (λ x. x.leaf) (given_sources (drop n ps) (drop n ls))

  from_here : leaves_from k ≡ map (λ x. x.leaf) (given_sources (get_or ps k d ∷ drop (k + 1) ps) (nth_line ls k ∷ drop (k + 1) ls))
  from_here = ap₂ (λ qs ms. map (λ x. x.leaf) (given_sources qs ms)) (drop-cons ps k d inside_points ∙ ap (λ n. get_or ps k d ∷ drop n ps) (sym (add-one k)))
      (drop-cons ls k (line [] []) inside_lines ∙ ap (λ n. nth_line ls k ∷ drop n ls) (sym (add-one k)))

  abbrev here_or_not : Bool → List LeafSource
  here_or_not b = cond b (record { point = get_or ps k d; leaf = number_at (nth_line ls k) 0 } ∷ given_sources (drop (k + 1) ps) (drop (k + 1) ls)) (given_sources (drop (k + 1) ps) (drop (k + 1) ls))

  pub source-here : is_source (get_or ps k d).kind ≡ true → leaves_from k ≡ number_at (nth_line ls k) 0 ∷ leaves_from (k + 1)
  source-here e = from_here ∙ ap (λ b. map (λ x. x.leaf) (here_or_not b)) e

  pub no_source-here : is_source (get_or ps k d).kind ≡ false → leaves_from k ≡ leaves_from (k + 1)
  no_source-here e = from_here ∙ ap (λ b. map (λ x. x.leaf) (here_or_not b)) e

module _ (points : Points) (c : Certificate) where
  abbrev A : Accounting
  A = presented points c

  abbrev nth_entry : ℕ → Entry
  nth_entry e = given_entry (nth_line c.entries e)

  -- ---- the entries on a node
  pub named-on : (n k : ℕ) → times_named c (entry_numbers_at c n) k ≡ times_on A n k
  unfolding times_named
  named-on n k =
      sum_by-filter (λ e. (nth_entry e).b == n) (λ e. cond ((nth_entry e).c == k) 1 0) (range_with_len 0 (length c.entries))
      ∙ sum_by-each (λ e. cond ((nth_entry e).b == n) (cond ((nth_entry e).c == k) 1 0) 0) (λ e. of_entry (nth_entry e)) (λ e. sym (and_cond ((nth_entry e).b == n) ((nth_entry e).c == k))) (range_with_len 0 (length c.entries))
      ∙ sym (by_place (λ l. of_entry (given_entry l)) c.entries (line [] []))
      ∙ sym (sum_by-map of_entry given_entry c.entries)
    where
      of_entry : Entry → ℕ
      of_entry e = cond ((e.b == n) && (e.c == k)) 1 0

  module _ (is : IsCertificate c) where
    pub few_on : (n : ℕ) → length (entry_numbers_at c n) < 2 ^ 29
    few_on n =
        let numbers = range_with_len 0 (length c.entries) in
        omega (arith, length-filter (λ e. (nth_entry e).b == n) numbers, count_by-le-length (λ e. (nth_entry e).b == n) numbers, length-range_with_len 0 (length c.entries), is.entries_are, few_entries c is)

    pub few_in_all : length A.entries < 2 ^ 29
    few_in_all = omega (arith, length-map c.entries given_entry, is.entries_are, few_entries c is)

    pub inside : All (λ e. e.c < A.nodes) A.entries
    inside = All-map (λ e. e.c < A.nodes) given_entry c.entries
        (All-from_get_or (λ l. (given_entry l).c < A.nodes) c.entries (line [] []) (λ k lt. (entry_in_nodes c is k (omega (arith, lt, is.entries_are))).1))

    names_leaf : (letter : Letter) (b d : ℕ) → IsFit points c letter b d → NamesLeaf A letter b
    names_leaf U b d h = h.0
    names_leaf V b d h = tt
    names_leaf W b d h = h.0
    names_leaf X b d h = tt

    pub fit : ((e : ℕ) → e < c.head.entries → EntryHolds points c e) → All (λ e. NamesLeaf A e.letter e.b) A.entries
    fit hold = All-map (λ e. NamesLeaf A e.letter e.b) given_entry c.entries
        (All-from_get_or (λ l. NamesLeaf A (given_entry l).letter (given_entry l).b) c.entries (line [] [])
        (λ k lt. names_leaf _ _ (nth_entry k).c (hold k (omega (arith, lt, is.entries_are)))))

    pub stand : length c.ats ≡ length points.list → All (λ x. x.leaf < A.nodes) A.sources
    stand as_many = sources_hold (λ z n. n < A.nodes) points.list c.ats as_many (λ k lt. at_in_nodes c is k (omega (arith, lt, as_many, is.ats_are)))

-- ---- the entries on a node, as they are read
module _ (g : PresentedModel) (is : IsCertificate g.certificate) (cert : Certificate) (es : List ℕ) (n : ℕ) (cert_is : cert ≡ g.certificate) (es_are : es ≡ entry_numbers_at g.certificate n) where
  pub read_named : (k : ℕ) → times_named cert es k ≡ times_on (accounting_of g) n k
  read_named k = ap₂ (λ x xs. times_named x xs k) cert_is es_are ∙ named-on g.points g.certificate n k

  pub read_few : length es < 2 ^ 29
  read_few = omega (arith, ap length es_are, few_on g.points g.certificate is n)

-- ---- how many sources there are
pub few_sources : (g : PresentedModel) → IsCertificate g.certificate → HeadHolds g.points g.certificate → length (leaves_of (accounting_of g)) < 2 ^ 32
few_sources g is head =
    let A = accounting_of g in
    let as_many : length g.certificate.ats ≡ length g.points.list = is.ats_are ∙ head.point_count in
    omega (
      arith,
      length-map A.sources (λ x. x.leaf),
      length-map A.sources (λ x. x.point),
      ap length (sources_are g.points.list g.certificate.ats as_many),
      length-filter (λ p. is_source p.kind) g.points.list,
      count_by-le-length (λ p. is_source p.kind) g.points.list,
      few_points g.certificate is,
      head.point_count,
    )
