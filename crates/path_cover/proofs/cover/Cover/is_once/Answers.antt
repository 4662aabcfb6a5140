use Rattle.std.proofs.Common.{◌≡◌, length, subst, sym, ◌∙◌, ap, arith}
use Rattle.std.proofs.lemmas.Bool.{eq-eqb, eqb-true}
use Rattle.path_cover.specs.Kept.{IsKept}
use Rattle.path_cover.proofs.Once.{once_from_sums, total-from_once, squares-from_once}
use Rattle.path_cover.proofs.cover.Cover.is_once.Goals as goal

pub returns-then-self-sources : goal.returns-then-self-sources
returns-then-self-sources c =
    let m = c.args.self.now in
    let s = c.self.inside in
    let kept : IsKept m s.sizes.items s.below.items s.total s.squares = subst (λ m. IsKept m s.sizes.items s.below.items s.total s.squares) c.self.view_is c.self.invariant in
    let count : c.len-sources.result ≡ length m.leaves = (let ok = s.leaves.ok.0 in let same : length s.leaves.items ≡ length m.leaves = ap (λ m. length m.leaves) c.self.view_is in omega arith) in
    (λ e. once_from_sums m _ _ _ _ kept (c.if-self-sources.true ∙ count) (eqb-true _ _ e ∙ count), λ h. eq-eqb _ _ (squares-from_once m _ _ _ _ kept h ∙ sym count))

pub returns-else-self-sources : goal.returns-else-self-sources
returns-else-self-sources c =
    let m = c.args.self.now in
    let s = c.self.inside in
    let kept : IsKept m s.sizes.items s.below.items s.total s.squares = subst (λ m. IsKept m s.sizes.items s.below.items s.total s.squares) c.self.view_is c.self.invariant in
    let count : c.len-sources.result ≡ length m.leaves = (let ok = s.leaves.ok.0 in let same : length s.leaves.items ≡ length m.leaves = ap (λ m. length m.leaves) c.self.view_is in omega arith) in
    (λ e. absurd (c.if-self-sources.false (eqb-true _ _ e)), λ h. eq-eqb _ _ (total-from_once m _ _ _ _ kept h ∙ sym count))
