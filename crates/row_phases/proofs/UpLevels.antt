-- One level of multipole rows, made from those behind it.
use Rattle.std.proofs.Common.{ℕ, ◌≡◌, ◌+◌, ◌-◌, ◌<◌, ◌≤◌, inl, inr, List, ◌++◌, length, refl, sym, ap, ◌∙◌, subst, arith, length-append}
use Rattle.std.proofs.lemmas.Bool.{cases_lt}
use Rattle.std.proofs.lemmas.List.{get_or_append_left, get_or-append_right}
use Rattle.exact_math.proofs.Lists.{All-from_members}
use Rattle.field_basis.proofs.Trees.{tree_of_basis}
use Rattle.field_basis.specs.Basis.{BasisModel, IsBasis}
use Rattle.field_basis.specs.FieldPlaces.{IsMultipolePlace}
use Rattle.field_basis.specs.MadePlaces.{IsMadeUp}
use Rattle.field_basis.specs.Place.{PlaceModel, no_place, place_at}
use Rattle.quadtree.specs.TreeModel.{size, square_of, IsLevel}
use Rattle.tree_field.specs.Program.{source_children}
use Rattle.upward_rows.proofs.Children.{source_child_is}
use Rattle.upward_rows.specs.Behind.{AreBehind, IsBehind}
use Rattle.row_phases.specs.Levels.{AreAllMadeUp, AreMadeFrom}
use Rattle.row_phases.specs.UpRuns.{IsRunAbove}

-- places are cut at `first` and at `end`
pub record IsCut (first end : ℕ) (places front run behind : List PlaceModel) : Type 0 where
  pub whole : places ≡ (front ++ run) ++ behind
  pub before : length front ≡ first
  pub until : length run + first ≡ end

pub cut_of : (first end : ℕ) (places half front run behind : List PlaceModel) → places ≡ half ++ behind → length half ≡ end → half ≡ front ++ run → length front ≡ first → length run + first ≡ length half → IsCut first end places front run behind
cut_of first end places half front run behind outer long inner before rest = record { whole = outer ∙ ap (λ (l : List PlaceModel). l ++ behind) inner; before = before; until = omega (arith, rest, long) }

-- ---- where a place stands
module _ (first end : ℕ) (places front run behind : List PlaceModel) (cut : IsCut first end places front run behind) where
  up_to_run : (some : List PlaceModel) → length some ≡ length run → length (front ++ some) ≡ end
  up_to_run some e = omega (arith, length-append front some, e, cut.before, cut.until)

  as_many : (some : List PlaceModel) → length some ≡ length run → length ((front ++ some) ++ behind) ≡ end + length behind
  as_many some e = omega (arith, length-append (front ++ some) behind, up_to_run some e)

  early : (some : List PlaceModel) (n : ℕ) → n < first → place_at ((front ++ some) ++ behind) n ≡ place_at front n
  early some n lt =
      let inside : n < length front = omega (arith, lt, cut.before) in
      get_or_append_left (front ++ some) behind no_place n (omega (arith, inside, length-append front some)) ∙ get_or_append_left front some no_place n inside

  own : (some : List PlaceModel) → length some ≡ length run → (n : ℕ) → first ≤ n → n < end → place_at ((front ++ some) ++ behind) n ≡ place_at some (n - first)
  own some e n from lt = get_or_append_left (front ++ some) behind no_place n (omega (arith, lt, up_to_run some e)) ∙ get_or-append_right front some first n no_place cut.before from

  late : (some : List PlaceModel) → length some ≡ length run → (n : ℕ) → end ≤ n → place_at ((front ++ some) ++ behind) n ≡ place_at behind (n - end)
  late some e n le = get_or-append_right (front ++ some) behind end n no_place (up_to_run some e) le

module _ (P : ℕ) (b : BasisModel) (level first end : ℕ) (is_level : IsLevel b.tree level first end) (places front run behind : List PlaceModel) (cut : IsCut first end places front run behind) (made : AreMadeFrom P b (level + 1) places) where
  many : end + length behind ≡ size b.tree
  many = sym (as_many first end places front run behind cut run refl) ∙ sym (ap length cut.whole) ∙ made.as_many

  -- ---- the quarters of a cell of the level have their places behind it
  child_behind : (n : ℕ) → first ≤ n → n < end → (m : ℕ) → m < size b.tree → n < m → (square_of b.tree m).level ≡ (square_of b.tree n).level + 1 → IsBehind P b.points b.tree behind m
  child_behind n from before m inside after deeper =
      let here : (square_of b.tree n).level ≡ level = (is_level.exact n (omega (arith, before, is_level.in_range))).0 (from, before) in
      let past : end ≤ m =
      elim (cases_lt m end) [
        | inr fine ↦ fine
        | inl before ↦ let same = (is_level.exact m inside).0 (omega (arith, from, after), before) in absurd (omega (arith, deeper, here, same))
      ] in
      let e : size b.tree - length behind ≡ end = omega (arith, many) in
      let read : place_at places m ≡ place_at behind (m - end) = ap (λ (l : List PlaceModel). place_at l m) cut.whole ∙ late first end places front run behind cut run refl m past in
      record {
        is_behind = omega (arith, past, e);
        row = subst (λ k. IsMultipolePlace P b.points b.tree m (place_at behind (m - k))) (sym e) (subst (IsMultipolePlace P b.points b.tree m) read (made.each m inside (omega (arith, deeper, here))).place_is);
      }

  quarters_behind : IsBasis P b → (n : ℕ) → first ≤ n → n < end → AreBehind P b.points b.tree behind (source_children b.tree n)
  quarters_behind is n from before =
      record {
        few = omega (arith, many);
        each = All-from_members (IsBehind P b.points b.tree behind) (source_children b.tree n) (λ m listed.
            let child = source_child_is b.points b.tree (tree_of_basis P b is) n (omega (arith, before, is_level.in_range)) m listed in
            child_behind n from before m child.in_range child.behind child.level_is);
      }

  pub level_run : IsBasis P b → IsRunAbove P b behind first (length run)
  level_run is = record { in_range = omega (arith, cut.until, is_level.in_range); quarters = λ n from before. quarters_behind is n from (omega (arith, cut.until, before)) }

  -- ---- the level is made
  module _ (now : List PlaceModel) (as_long : length now ≡ length run) (run_made : (k : ℕ) → k < length run → IsMadeUp P b.points b.tree (first + k) (place_at now k)) where
    deeper_stays : (n : ℕ) → n < size b.tree → level ≤ (square_of b.tree n).level → (first ≤ n → n < end → ⊥) → place_at places n ≡ place_at ((front ++ now) ++ behind) n → IsMadeUp P b.points b.tree n (place_at ((front ++ now) ++ behind) n)
    deeper_stays n inside deep apart same =
        let deeper : level + 1 ≤ (square_of b.tree n).level =
        elim (cases_lt level (square_of b.tree n).level) [
          | inl fine ↦ omega (arith, fine)
          | inr high ↦ let here = (is_level.exact n inside).1 (omega (arith, high, deep)) in absurd (apart here.0 here.1)
        ] in
        subst (IsMadeUp P b.points b.tree n) same (made.each n inside deeper)

    pub level_made : AreMadeFrom P b level ((front ++ now) ++ behind)
    level_made =
        record {
          as_many = as_many first end places front run behind cut now as_long ∙ many;
          each = λ n inside deep.
              let was = ap (λ (l : List PlaceModel). place_at l n) cut.whole in
              elim (cases_lt n first) [
                | inl before ↦
                    deeper_stays n inside deep (λ from lt. omega (arith, before, from))
                    (was ∙ early first end places front run behind cut run n before ∙ sym (early first end places front run behind cut now n before))
                | inr from ↦
                    elim (cases_lt n end) [
                      | inr past ↦
                          deeper_stays n inside deep (λ from lt. omega (arith, past, lt))
                          (was ∙ late first end places front run behind cut run refl n past ∙ sym (late first end places front run behind cut now as_long n past))
                      | inl lt ↦
                          let e : first + (n - first) ≡ n = omega (arith, from) in
                          subst (IsMadeUp P b.points b.tree n) (sym (own first end places front run behind cut now as_long n from lt))
                          (subst (λ m. IsMadeUp P b.points b.tree m (place_at now (n - first))) e (run_made (n - first) (omega (arith, lt, from, cut.until))))
                    ]
              ];
        }

-- ---- from no level to all
pub none_made : (P : ℕ) (b : BasisModel) (levels : ℕ) (places : List PlaceModel) → length places ≡ size b.tree → ((n : ℕ) → n < size b.tree → (square_of b.tree n).level < levels) → AreMadeFrom P b levels places
none_made P b levels places many last = record { as_many = many; each = λ n inside deep. absurd (let lt = last n inside in omega (arith, lt, deep)) }

pub one_more : (P : ℕ) (b : BasisModel) (level : ℕ) (places : List PlaceModel) → 0 < level → AreMadeFrom P b level places → AreMadeFrom P b (level - 1 + 1) places
one_more P b level places lo made = let e : level ≡ level - 1 + 1 = omega (arith, lo) in subst (λ l. AreMadeFrom P b l places) e made

pub all_made : (P : ℕ) (b : BasisModel) (level : ℕ) (places : List PlaceModel) → level ≤ 0 → AreMadeFrom P b level places → AreAllMadeUp P b places
all_made P b level places none made = record { as_many = made.as_many; each = λ n inside. made.each n inside (omega (arith, none)) }
