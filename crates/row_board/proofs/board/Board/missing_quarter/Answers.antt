-- A quarter's row is missing where its mark is.
use Rattle.std.proofs.Common.{ap, ◌∙◌, subst}
use Rattle.field_basis.specs.Basis.{BasisModel}
use Rattle.tree_field.specs.Program.{source_children}
use Rattle.row_board.specs.Parts.{BoardParts}
use Rattle.row_board.specs.Search.{AreMarked, IsFirstUnmarked}
use Rattle.row_board.proofs.Missing.{same_basis, up_filled, up_missing}
use Rattle.row_board.proofs.board.Board.missing_quarter.Goals as goal

pub returns-in-Some : goal.returns-in-Some
returns-in-Some g c =
    let cells = source_children c.args.self.now.basis.tree c.args.n in
    up_missing c.args.self.now cells c.in-Some.m
    (subst (λ l. IsFirstUnmarked l cells c.in-Some.m) (c.deref.ensures.value ∙ ap (λ (b : BoardParts). b.has_up) c.self.view_is)
    (subst (λ (b : BasisModel). IsFirstUnmarked c.deref.result.now (source_children b.tree c.args.n) c.in-Some.m) (same_basis _ _ _ c.basis.view_is c.self.view_is) c.in-Some.ensures))

pub returns-in-None : goal.returns-in-None
returns-in-None g c =
    let cells = source_children c.args.self.now.basis.tree c.args.n in
    up_filled c.args.self.now cells
    (subst (λ l. AreMarked l cells) (c.deref.ensures.value ∙ ap (λ (b : BoardParts). b.has_up) c.self.view_is)
    (subst (λ (b : BasisModel). AreMarked c.deref.result.now (source_children b.tree c.args.n)) (same_basis _ _ _ c.basis.view_is c.self.view_is) c.in-None.ensures))
