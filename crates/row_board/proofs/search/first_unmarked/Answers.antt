-- Those before are marked.
use Rattle.std.proofs.Common.{◌≡◌, ◌+◌, ◌++◌, take, drop, get_or, false, true, sym, ◌∙◌, ap, subst, arith}
use Rattle.std.proofs.lemmas.List.{drop_more, take_more, take_all, take-append-drop}
use Rattle.std.proofs.lemmas.List.Elements.{All-push}
use Rattle.row_board.specs.Search.{AreMarked}
use Rattle.row_board.proofs.search.first_unmarked.Goals as goal

pub returns-then-not-marks-n : goal.returns-then-not-marks-n
returns-then-not-marks-n c =
    let cells = c.args.cells.now in
    let k = c.loop-c.c-index in
    record { before = take k cells; behind = drop (k + 1) cells; split = sym (take-append-drop k cells) ∙ ap (λ l. take k cells ++ l) (drop_more cells k 0 c.loop-c-test.true); marked = c.loop-c.invariant; unmarked = c.if-not-marks-n.true }

pub loop-c-preserved : goal.loop-c-preserved
loop-c-preserved c =
    let cells = c.args.cells.now in
    let k = c.loop-c.c-index in
    subst (AreMarked c.args.marks.now) (sym (take_more cells k 0 c.loop-c-test.true)) (All-push (λ d. get_or c.args.marks.now d false ≡ true) (take k cells) (get_or cells k 0) c.loop-c.invariant c.if-not-marks-n.false)

pub returns : goal.returns
returns c = subst (AreMarked c.args.marks.now) (take_all c.loop-c.c-index c.args.cells.now (omega (arith, c.loop-c-test.false))) c.loop-c.invariant
