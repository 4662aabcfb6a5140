-- A node in range is the line that was read.
use Rattle.std.proofs.Common.{List, ℤ, refl, sym, subst, arith}
use Rattle.cert_text.specs.declared.section.Section.TheVariants.{Node}
use Rattle.cert_text.specs.Certificate.{Certificate}
use Rattle.cert_text.specs.Inside.{kept_node, head_of}
use Rattle.cert_text.specs.Kept.{seen}
use Rattle.cert_text.specs.Sections.{AreInRange}
use Rattle.cert_text.proofs.Grown.{refused, grown, taken, more_nodes, count_is}
use Rattle.cert_text.proofs.stored.Stored.push_node.Goals as goal

pub invariant_of-self-2 : goal.invariant_of-self-2
invariant_of-self-2 c =
    let old : Certificate = seen c.self.inside in
    let node = c.in-Some.node in
    let found = c.in-Some.ensures.some in
    let more = more_nodes kept_node old c.self.inside.nodes.items c.push.new.self.items node refl c.in_ok-push.ensures.items in
    let count = count_is kept_node c.self.inside.nodes.items c.len.result (omega arith) in
    let R : List ℤ → Type 0 = λ zs. AreInRange (head_of c.self.inside.header) Node c.len.result zs in
    grown Node old _ c.len.result (kept_node node) c.self.invariant count (record { word_is = refl; count_is = refl }) (subst R (sym found.1) found.0) more

pub returns : goal.returns
returns c =
    let old : Certificate = seen c.self.inside in
    let node = c.in-Some.node in
    let found = c.in-Some.ensures.some in
    let more = more_nodes kept_node old c.self.inside.nodes.items c.push.new.self.items node refl c.in_ok-push.ensures.items in
    let count = count_is kept_node c.self.inside.nodes.items c.len.result (omega arith) in
    λ word l read. taken Node old _ c.args.self.now word c.args.numbers.now c.len.result (kept_node node) c.self.view_is c.self.invariant.head_is (omega arith) count found.0 found.1 more l read (sym read.form.word_is)

pub returns-in_default : goal.returns-in_default
returns-in_default c =
    let count = count_is kept_node c.self.inside.nodes.items c.len.result (omega arith) in
    λ word l read. (refused Node (seen c.self.inside) c.args.self.now word c.args.numbers.now c.len.result c.self.view_is c.self.invariant.head_is (omega arith) count c.in_default.ensures.none l read, refl)
