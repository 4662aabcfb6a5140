-- What the box of a target needs is there, and what a place takes.
use Rattle.std.proofs.Common.{subst, lit<}
use Rattle.row_board.specs.Names.{IsName, needs, AreFilled}
use Rattle.row_board.specs.declared.name.Name.{Name}
use Rattle.row_board.proofs.FewCounts.{few_for_local, few_for_value}
use Rattle.row_board.proofs.board.Board.fill.Goals as goal

pub fill_value-requires : goal.fill_value-requires
fill_value-requires g c =
    let named = subst (λ (name : Name). IsName c.args.self.now name) c.in-Value.is c.requires.name in
    let ready = subst (λ (name : Name). AreFilled c.args.self.now (needs c.args.self.now name)) c.in-Value.is c.in_default.ensures in
    (lit< tt, (named, (ready, c.requires.pairs)))

pub returns-in-Local-clause-few : goal.returns-in-Local-clause-few
returns-in-Local-clause-few g c =
    let named = subst (λ (name : Name). IsName c.args.self.now name) c.in-Local.is c.requires.name in
    few_for_local g.row.P c.args.self.now.basis c.filled.ensures.board.basis_is c.args.work.now c.fill_local.new.work c.in-Local.n named.0 c.fill_local.ensures.work

pub returns-in-Value-clause-few : goal.returns-in-Value-clause-few
returns-in-Value-clause-few g c =
    let named = subst (λ (name : Name). IsName c.args.self.now name) c.in-Value.is c.requires.name in
    few_for_value g.row.P c.args.self.now.basis c.filled.ensures.board.basis_is c.args.work.now c.fill_value.new.work c.in-Value.k named c.fill_value.ensures.work
