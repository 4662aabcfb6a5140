-- One more cell is picked for its letter, if it has one.
use Rattle.std.proofs.Common.{ℕ, ◌≡◌, ◌+◌, ◌<◌, ◌++◌, [], ◌∷◌, ◌⊎◌, inl, inr, List, length, Some, None, refl, sym, ap, subst, arith}
use Rattle.std.specs.Prelude.{slice_index}
use Rattle.letters.specs.declared.Letter.{Letter}
use Rattle.letters.specs.declared.Letter.TheVariants.{U, V, W, X}
use Rattle.cell_lists.specs.declared.picked.Picked.{Picked}
use Rattle.cell_lists.specs.Picked.{picked_of}
use Rattle.cell_lists.proofs.Picks.{PicksTo, picks_push, picks_skip, picks_all}
use Rattle.cell_lists.proofs.picked.Picked.pick.Goals as goal
use Rattle.cell_lists.proofs.picked.Picked.pick.Goals.{in-Some+in_ok-push, in_default}

same_letter : (a b : Letter) → (a ≡ b) ⊎ (a ≡ b → ⊥)
same_letter U U = inl refl
same_letter U V = inr (λ e. cc)
same_letter U W = inr (λ e. cc)
same_letter U X = inr (λ e. cc)
same_letter V U = inr (λ e. cc)
same_letter V V = inl refl
same_letter V W = inr (λ e. cc)
same_letter V X = inr (λ e. cc)
same_letter W U = inr (λ e. cc)
same_letter W V = inr (λ e. cc)
same_letter W W = inl refl
same_letter W X = inr (λ e. cc)
same_letter X U = inr (λ e. cc)
same_letter X V = inr (λ e. cc)
same_letter X W = inr (λ e. cc)
same_letter X X = inl refl

pub loop-c-preserved : goal.loop-c-preserved
loop-c-preserved c =
    let tree = c.args.tree.now in
    let met : List ℕ = c.args.met.now in
    let count : ℕ = c.loop-c.c-index in
    let n : ℕ = slice_index met count in
    let inside : count < length met = omega arith in
    elim c.match-letter_of.branch [
      | in-Some+in_ok-push w ↦ λ letter.
          let was : List ℕ = picked_of c.loop-c.self letter in
          let P : Picked → Type 0 = λ p. PicksTo tree letter c.args.b met (count + 1) (picked_of p letter) in
          subst P (sym w.self-is) (elim (same_letter letter w.in-Some.letter) [
            | inl mine ↦
                let E : Letter → Type 0 = λ l. picked_of w.push.new.self l ≡ picked_of c.loop-c.self l ++ n ∷ [] in
                picks_push tree letter c.args.b met count n was (picked_of w.push.new.self letter) (λ points cap inside h. (w.in-Some.ensures points cap inside h letter).0 (ap Some (sym mine))) refl (c.requires.numbers count 0 inside) inside c.requires.ascending (subst E (sym mine) w.in_ok-push.ensures.pushed) (c.loop-c.invariant letter)
            | inr other ↦
                let Q : List ℕ → Type 0 = λ l. PicksTo tree letter c.args.b met (count + 1) l in
                subst Q (sym (w.in_ok-push.ensures.others letter other)) (picks_skip tree letter c.args.b met count was (λ points cap inside h entry. other (let e : Some w.in-Some.letter ≡ Some letter = (w.in-Some.ensures points cap inside h letter).1 entry in cc)) (c.loop-c.invariant letter))
          ])
      | in_default w ↦ λ letter.
          let was : List ℕ = picked_of c.loop-c.self letter in
          let P : Picked → Type 0 = λ p. PicksTo tree letter c.args.b met (count + 1) (picked_of p letter) in
          subst P (sym w.self-is) (picks_skip tree letter c.args.b met count was (λ points cap inside h entry. let e : None ≡ Some letter = (w.in_default.ensures points cap inside h letter).1 entry in cc) (c.loop-c.invariant letter))
    ]

pub returns : goal.returns
returns c points cap inside h letter = picks_all c.args.tree.now letter c.args.b c.args.met.now c.loop-c.c-index (picked_of c.loop-c.self letter) (omega arith) c.requires.whole (c.loop-c.invariant letter) points cap inside h
