-- The local row first, then the multipole rows.
use Rattle.std.proofs.Common.{map, ap, ◌∙◌, subst}
use Rattle.row_board.specs.Parts.{BoardParts}
use Rattle.row_board.specs.Search.{AreMarked, IsFirstUnmarked}
use Rattle.row_board.specs.declared.name.Name.TheVariants.{Up, Local}
use Rattle.row_board.proofs.Missing.{up_filled, up_missing, first_one, later_one, all_filled, local_mark}
use Rattle.row_board.proofs.board.Board.first_missing.Goals as goal

pub returns-then-not-index : goal.returns-then-not-index
returns-then-not-index g c =
    first_one c.args.self.now (Local c.args.cell) (map Up c.args.far.now) (local_mark c.args.self.now _ c.args.cell c.index.result.now c.self.view_is c.self.invariant.local_marks c.requires.cell c.index.ensures ∙ c.if-not-index.true)

pub returns-in-Some : goal.returns-in-Some
returns-in-Some g c =
    later_one c.args.self.now (Local c.args.cell) (map Up c.args.far.now) (Up c.in-Some.n)
    (local_mark c.args.self.now _ c.args.cell c.index.result.now c.self.view_is c.self.invariant.local_marks c.requires.cell c.index.ensures ∙ c.if-not-index.false)
    (up_missing c.args.self.now c.args.far.now c.in-Some.n (subst (λ l. IsFirstUnmarked l c.args.far.now c.in-Some.n) (c.deref.ensures.value ∙ ap (λ (v : BoardParts). v.has_up) c.self.view_is) c.in-Some.ensures))

pub returns-in-None : goal.returns-in-None
returns-in-None g c =
    all_filled c.args.self.now (Local c.args.cell) (map Up c.args.far.now)
    (local_mark c.args.self.now _ c.args.cell c.index.result.now c.self.view_is c.self.invariant.local_marks c.requires.cell c.index.ensures ∙ c.if-not-index.false)
    (up_filled c.args.self.now c.args.far.now (subst (λ l. AreMarked l c.args.far.now) (c.deref.ensures.value ∙ ap (λ (v : BoardParts). v.has_up) c.self.view_is) c.in-None.ensures))
