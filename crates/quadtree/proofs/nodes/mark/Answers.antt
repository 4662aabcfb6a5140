-- One more position is marked.
use Rattle.std.proofs.Common.{ℕ, ◌≡◌, ◌≢◌, ◌+◌, ◌<◌, List, [], ◌∷◌, ◌++◌, length, get_or, set, take, inl, inr, sym, ap, ◌∙◌, subst, arith}
use Rattle.std.specs.Prelude.{Contains}
use Rattle.std.proofs.lemmas.Bool.{cases_eq}
use Rattle.std.proofs.lemmas.List.{get_or-set_same, get_or-set_other, take_more, take_all}
use Rattle.std.proofs.lemmas.List.Elements.{All-get_or, Contains-push, Contains-append_left, Contains-push_cases}
use Rattle.quadtree.proofs.nodes.mark.Goals as goal

-- what holds after the positions so far
record MarkedTo (was now members : List ℕ) (leaf i : ℕ) : Type 0 where
  marked : (k : ℕ) → Contains (take i members) k → get_or now k 0 ≡ leaf
  others : (k : ℕ) → (Contains (take i members) k → ⊥) → get_or now k 0 ≡ get_or was k 0

mark_more : (was now members : List ℕ) (leaf i : ℕ) → i < length members → get_or members i 0 < length now → MarkedTo was now members leaf i → MarkedTo was (set now (get_or members i 0) leaf) members leaf (i + 1)
mark_more was now members leaf i lt inside h =
    let x : ℕ = get_or members i 0 in
    let more = take_more members i 0 lt in
    record {
      marked = λ k c.
          elim (cases_eq k x) [
            | inl e ↦ ap (λ n. get_or (set now x leaf) n 0) e ∙ get_or-set_same now x leaf 0 inside
            | inr ne ↦ get_or-set_other now x k leaf 0 ne ∙ h.marked k (older k ne (let P : List ℕ → Type 0 = λ l. Contains l k in subst P more c))
          ];
      others = λ k c.
          let Q : List ℕ → Type 0 = λ l. Contains l k → ⊥ in
          let apart : Contains (take i members ++ x ∷ []) k → ⊥ = subst Q more c in
          get_or-set_other now x k leaf 0 (λ e. apart (let R : ℕ → Type 0 = λ n. Contains (take i members ++ x ∷ []) n in subst R (sym e) (Contains-push (take i members) x))) ∙
          h.others k (λ d. apart (Contains-append_left (take i members) (x ∷ []) k d));
    }
  where
    older : (k : ℕ) → k ≢ get_or members i 0 → Contains (take i members ++ get_or members i 0 ∷ []) k → Contains (take i members) k
    older k ne c = elim (Contains-push_cases (take i members) (get_or members i 0) k c) [ inl d ↦ d | inr e ↦ absurd (ne (sym e)) ]

pub loop-k-preserved : goal.loop-k-preserved
loop-k-preserved c =
    let members = c.args.members.now in
    let lt : c.loop-k.k-index < length members = omega arith in
    let inside : get_or members c.loop-k.k-index 0 < length c.loop-k.leaves = omega (arith, All-get_or (λ k. k < length c.args.leaves.now) members c.loop-k.k-index 0 lt c.requires, c.loop-k.auto.leaves) in
    let m = mark_more c.args.leaves.now c.loop-k.leaves members c.args.leaf c.loop-k.k-index lt inside (record { marked = c.loop-k.invariant.marked; others = c.loop-k.invariant.others }) in
    record { marked = m.marked; others = m.others }

pub returns-clause-marked : goal.returns-clause-marked
returns-clause-marked c k h =
    let members = c.args.members.now in
    let P : List ℕ → Type 0 = λ l. Contains l k in
    c.loop-k.invariant.marked k (subst P (sym (take_all c.loop-k.k-index members (omega arith))) h)
