-- The cells found around have the colleagues among them.
use Rattle.std.proofs.Common.{◌≡◌, ◌++◌, [], ◌∷◌, ℕ, List, ap, ◌∙◌, subst}
use Rattle.cell_lists.specs.Walks.{KeepsTouching}
use Rattle.cell_lists.proofs.WalkSteps.{colleagues_more}
use Rattle.cell_lists.proofs.gather.Gathering.find.Goals as goal

pub returns-clause-near : goal.returns-clause-near
returns-clause-near c =
    let tree = c.args.tree.now in
    let b : ℕ = c.args.b in
    let near : List (List ℕ) = c.args.self.now.near in
    let found : List ℕ = c.find_around.new.found.items in
    let touching : List ℕ = c.find_touching.new.touching.items in
    let grown : c.push.new.self ≡ near ++ touching ∷ [] = c.in_ok-push.ensures ∙ ap (λ l. near ++ l ∷ []) c.deref-2.ensures.value in
    let P : List ℕ → Type 0 = λ l. KeepsTouching tree b l touching in
    colleagues_more tree near c.push.new.self found touching b c.requires.tree c.requires.cell c.requires.colleagues grown c.in_ok-find_touching.ensures.numbers c.in_ok-find_around.ensures.whole (subst P c.deref.ensures.value c.in_ok-find_touching.ensures.whole)
