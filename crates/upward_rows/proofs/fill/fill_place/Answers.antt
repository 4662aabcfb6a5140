-- The places behind that of the cell.
use Rattle.std.proofs.Common.{◌<◌, length, ◌∙◌, arith, subst, sym}
use Rattle.std.proofs.lemmas.List.Elements.{All-contains}
use Rattle.exact_math.proofs.Orders.{order_bounds}
use Rattle.field_basis.specs.FieldPlaces.{IsMultipolePlace}
use Rattle.field_basis.specs.Place.{place_at}
use Rattle.exact_math.proofs.Lists.{All-from_members}
use Rattle.tree_field.specs.Program.{source_children}
use Rattle.upward_rows.specs.Behind.{IsBehind}
use Rattle.upward_rows.proofs.Behind.{others_stay, own_place, place_behind}
use Rattle.upward_rows.proofs.Children.{source_child_is}
use Rattle.upward_rows.proofs.fill.fill_place.Goals as goal

pub make_place-requires : goal.make_place-requires
make_place-requires g c =
    let P = g.row.P in
    let n = c.args.n in
    let tree = c.args.tree.now in
    let points = c.args.points.now in
    let places = c.args.places.now in
    let behind = c.split_at_mut-front.result.1.now in
    let few = order_bounds P c.requires.order in
    let whole = c.split_at_mut-front.ensures.back_len ∙ c.requires.len in
    let each = All-from_members (IsBehind P points tree behind) (source_children tree n) (λ m listed.
    let child = source_child_is points tree c.requires.tree n c.requires.cell m listed in
    let held = All-contains (λ m. (m < length places) × IsMultipolePlace P points tree m (place_at places m)) (source_children tree n) m c.requires.quarters listed in
    place_behind P points tree behind m child.in_range n places whole child.behind c.split_at_mut-front.ensures.by_index.1 held.1) in
    (omega (arith, few), (c.requires.order, (c.requires.tree, (c.requires.cell, (record { few = omega (arith, whole); each = each }, c.requires.room)))))

pub returns-clause-others : goal.returns-clause-others
returns-clause-others g c =
    let h = c.split_at_mut-front.ensures in
    others_stay c.args.places.now c.split_at_mut-front.result.0.now c.split_at_mut-front.result.1.now c.args.n c.make_place.new.place h.value (omega (arith, h.front_len)) (omega (arith, c.requires.cell, c.requires.len))

pub returns-clause-row : goal.returns-clause-row
returns-clause-row g c =
    let h = c.split_at_mut-front.ensures in
    subst (IsMultipolePlace g.row.P c.args.points.now c.args.tree.now c.args.n)
    (sym (own_place c.args.places.now c.split_at_mut-front.result.0.now c.split_at_mut-front.result.1.now c.args.n c.make_place.new.place h.value (omega (arith, h.front_len)) (omega (arith, c.requires.cell, c.requires.len))))
    c.make_place.ensures.row

pub split_at_mut-front-requires : goal.split_at_mut-front-requires
split_at_mut-front-requires g c = omega (arith, c.requires.cell, c.requires.len)

pub bounds-front-n : goal.bounds-front-n
bounds-front-n g c = omega (arith, c.split_at_mut-front.ensures.front_len)

pub returns-clause-work : goal.returns-clause-work
returns-clause-work g c = c.make_place.ensures.work
