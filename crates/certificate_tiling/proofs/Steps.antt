-- One entry more, or one less.
use Rattle.std.proofs.Common.{ℕ, inl, inr, ◌≡◌, ◌+◌, ◌<◌, ◌≤◌, List, length, get_or, take, cond, refl, ap, ◌∙◌, arith}
use Rattle.std.specs.Prelude.{sum, ◌==◌}
use Rattle.std.proofs.Math.ListN.{length-set}
use Rattle.std.proofs.lemmas.Bool.{eq-eqb, cases_lt}
use Rattle.std.proofs.lemmas.List.{get_or_past}
use Rattle.std.proofs.lemmas.List.Sums.{sum_by_more, sum_by_more_le, sum_by-set}
use Rattle.accounting_text.specs.Given.{given_entry}
use Rattle.cert_text.specs.Certificate.{Certificate, nth_line}
use Rattle.node_sums.specs.Sums.{value_at}
use Rattle.path_cover.specs.Covers.{CoverModel, covered_more}
use Rattle.path_cover.proofs.Parents.{set_more}
use Rattle.certificate_tiling.specs.Walk.{times_named, CoversMore}

-- ---- how often a node is named
module _ (c : Certificate) where
  abbrev names : ℕ → ℕ → ℕ
  names k e = cond ((given_entry (nth_line c.entries e)).c == k) 1 0

  pub named-more : (es : List ℕ) (i node k : ℕ) → i < length es → (given_entry (nth_line c.entries (get_or es i 0))).c ≡ node → times_named c (take (i + 1) es) k ≡ times_named c (take i es) k + cond (node == k) 1 0
  unfolding times_named
  named-more es i node k lt is = sum_by_more (names k) es i 0 lt ∙ ap (λ n. times_named c (take i es) k + cond (n == k) 1 0) is

  pub named-room : (es : List ℕ) (i node : ℕ) → i < length es → (given_entry (nth_line c.entries (get_or es i 0))).c ≡ node → times_named c (take i es) node + 1 ≤ times_named c es node
  unfolding times_named
  named-room es i node lt is =
      let here : names node (get_or es i 0) ≡ 1 = ap (λ b. cond b 1 0) (eq-eqb _ _ is) in
      omega (arith, here, sum_by_more_le (names node) es i 0 lt)

-- ---- covers
listed : (xs : List ℕ) (k : ℕ) → 0 < value_at xs k → k < length xs
listed xs k some = elim (cases_lt k (length xs)) [ inl lt ↦ lt | inr le ↦ absurd (omega (arith, get_or_past xs k 0 le)) ]

pub more-none : (c : Certificate) (m : CoverModel) (es : List ℕ) → CoversMore m m (times_named c (take 0 es))
unfolding times_named
more-none c m es = record { parents = refl; leaves = refl; len = refl; each = λ k. omega arith }

pub more-same : (m n : CoverModel) (f g : ℕ → ℕ) → CoversMore m n f → ((k : ℕ) → f k ≡ g k) → CoversMore m n g
more-same m n f g h same = record { parents = h.parents; leaves = h.leaves; len = h.len; each = λ k. omega (arith, h.each k, same k) }

pub more-step : (m old : CoverModel) (f g : ℕ → ℕ) (node : ℕ) → CoversMore m old f → node < length old.covers → ((k : ℕ) → g k ≡ f k + cond (node == k) 1 0) → CoversMore m (covered_more old node) g
more-step m old f g node h lt more = record {
  parents = h.parents;
  leaves = h.leaves;
  len = length-set old.covers node _ ∙ h.len;
  each = λ k. omega (arith, set_more old.covers node k 1 lt, h.each k, more k);
}

pub less-step : (m old new : CoverModel) (f g : ℕ → ℕ) (node : ℕ) → CoversMore old m f → old ≡ covered_more new node → 0 < value_at old.covers node → ((k : ℕ) → g k ≡ f k + cond (node == k) 1 0) → CoversMore new m g
less-step m old new f g node h is some more =
    let len : length old.covers ≡ length new.covers = ap (λ x. length x.covers) is ∙ length-set new.covers node _ in
    let lt : node < length new.covers = omega (arith, listed old.covers node some) in
    record {
      parents = h.parents ∙ ap (λ x. x.parents) is;
      leaves = h.leaves ∙ ap (λ x. x.leaves) is;
      len = h.len ∙ len;
      each = λ k. omega (arith, set_more new.covers node k 1 lt, ap (λ x. value_at x.covers k) is, h.each k, more k);
    }

pub sum-more : (m : CoverModel) (node : ℕ) → node < length m.covers → sum (covered_more m node).covers ≡ sum m.covers + 1
sum-more m node lt = omega (arith, sum_by-set (λ x. x) m.covers node (value_at m.covers node + 1) 0 lt)
