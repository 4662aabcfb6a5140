-- The sources of an X entry.
use Rattle.std.proofs.Common.{ℕ, ◌≡◌, true, cond, List, sym, ap, ◌∙◌, subst}
use Rattle.std.specs.Prelude.{All}
use Rattle.std.proofs.lemmas.Bool.{false≢true}
use Rattle.std.proofs.lemmas.List.Elements.{All-map, All-filter, filter_passes}
use Rattle.exact_math.specs.Ends.{zero_box}
use Rattle.cell_name.specs.Square.{Square}
use Rattle.cert_text.specs.Certificate.{Certificate}
use Rattle.letters.specs.declared.Entry.{Entry}
use Rattle.letters.specs.declared.Letter.{Letter}
use Rattle.letters.specs.declared.Letter.TheVariants.{U, V, W, X}
use Rattle.limits.specs.Limits.{grid_of}
use Rattle.points.specs.Limits.{InRange}
use Rattle.points.specs.Points.{place}
use Rattle.points.specs.declared.Point.{Point}
use Rattle.points.specs.declared.Points.{Points}
use Rattle.row_recursions.specs.Cells.{far_coefficients_in}
use Rattle.soundness.specs.Accounts.{Accounting, LeafSource, is_letter, under, sources_under}
use Rattle.soundness.specs.Computed.{point_of}
use Rattle.soundness.specs.Squares.{IsFarFrom}
use Rattle.soundness.specs.Steps.{total_row}
use Rattle.soundness.proofs.Sums.{total_box-map}
use Rattle.certificate_nodes.specs.AtNodes.{sources_at}
use Rattle.certificate_nodes.specs.Presented.{PresentedModel, accounting_of, PointsHold}
use Rattle.certificate_rules.specs.LineRules.{IsFit}
use Rattle.certificate_rows.specs.Entries.{x_row}
use Rattle.certificate_rows.specs.Given.{IsOverList, cell_at}
use Rattle.certificate_rows.proofs.Standing.{in_node, in_leaf}

fit_x : (points : Points) (c : Certificate) (l : Letter) (n d : ℕ) → IsFit points c l n d → is_letter X l ≡ true → IsFit points c X n d
fit_x points c X n d h is = h
fit_x points c U n d h is = absurd (false≢true is)
fit_x points c V n d h is = absurd (false≢true is)
fit_x points c W n d h is = absurd (false≢true is)

-- sources in range of the list's grid are in range of that of a node's cell
pub x_sources_in_range : (g : PresentedModel) → IsOverList g → (n : ℕ) (cell : Square) → cell ≡ cell_at g.certificate n → (sources : List Point) → All (InRange (grid_of g.points.version)) sources
    → All (InRange cell.grid) sources
x_sources_in_range g over n cell is sources range =
    let same : cell.grid ≡ grid_of g.points.version = ap (λ (q : Square). q.grid) is ∙ ap grid_of over.head.version in
    subst (λ grid. All (InRange grid) sources) (sym same) range

module _ (g : PresentedModel) (over : IsOverList g) (points : PointsHold g) (n : ℕ) (e : Entry) (fits : IsFit g.points g.certificate e.letter n e.c) (yes : is_letter X e.letter ≡ true) where
  abbrev A : Accounting
  A = accounting_of g

  fit : IsFit g.points g.certificate X n e.c
  fit = fit_x g.points g.certificate e.letter n e.c fits yes

  whole : sources_under A e.c ≡ in_node A e.c
  whole = in_leaf g.points g.certificate over.is_certificate over.within over.head points e.c fit.0

  module _ (sources : List Point) (are : sources ≡ sources_at A e.c) (cell : Square) (is : cell ≡ cell_at g.certificate n) where
    pub x_sources_far : All (λ p. IsFarFrom cell (place p)) sources
    x_sources_far =
        let Q : Square → Type 0 = λ q. All (λ p. IsFarFrom q (place p)) sources in
        let R : List Point → Type 0 = λ l. All (λ p. IsFarFrom (A.cell n) (place p)) l in
        let S : List LeafSource → Type 0 = λ l. All (λ x. IsFarFrom (A.cell n) (place x.point)) l in
        let each : All (λ x. IsFarFrom (A.cell n) (place x.point)) (sources_under A e.c) = λ k d lt.
        All-filter (λ x. under A.parent x.leaf e.c) (λ x. under A.parent x.leaf e.c ≡ true → IsFarFrom (A.cell n) (place x.point)) A.sources fit.1 k d lt
        (filter_passes (λ x. under A.parent x.leaf e.c) A.sources k d lt) in
        subst Q (sym is) (subst R (sym are) (All-map (λ p. IsFarFrom (A.cell n) (place p)) point_of (in_node A e.c) (subst S whole each)))

    pub x_row_is : (k : ℕ) → total_row (far_coefficients_in cell) sources k ≡ x_row A cell e k
    x_row_is k =
        ap (λ l. total_row (far_coefficients_in cell) l k) are
        ∙ total_box-map (λ p. far_coefficients_in cell p k) point_of (in_node A e.c)
        ∙ ap (λ xs. total_row (λ x. far_coefficients_in cell (point_of x)) xs k) (sym whole)
        ∙ ap (λ b. cond b (total_row (λ x. far_coefficients_in cell (point_of x)) (sources_under A e.c) k) zero_box) (sym yes)
