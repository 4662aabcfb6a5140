-- A point's node in range is the line that was read.
use Rattle.std.proofs.Common.{List, ℤ, refl, sym, subst, arith}
use Rattle.cert_text.specs.declared.section.Section.TheVariants.{At}
use Rattle.cert_text.specs.Certificate.{Certificate}
use Rattle.cert_text.specs.Inside.{kept_at, head_of}
use Rattle.cert_text.specs.Kept.{seen}
use Rattle.cert_text.specs.Sections.{AreInRange}
use Rattle.cert_text.proofs.Grown.{grown, refused, taken, more_ats, count_is}
use Rattle.cert_text.proofs.stored.Stored.push_at.Goals as goal

pub invariant_of-self-2 : goal.invariant_of-self-2
invariant_of-self-2 c =
    let old : Certificate = seen c.self.inside in
    let found = c.in-Some.ensures.some in
    let more = more_ats kept_at old c.self.inside.ats.items c.push.new.self.items c.in-Some.at refl c.in_ok-push.ensures.items in
    let count = count_is kept_at c.self.inside.ats.items c.len.result (omega arith) in
    let R : List ℤ → Type 0 = λ zs. AreInRange (head_of c.self.inside.header) At c.len.result zs in
    grown At old _ c.len.result (kept_at c.in-Some.at) c.self.invariant count (record { word_is = refl; count_is = refl }) (subst R (sym found.1) found.0) more

pub returns : goal.returns
returns c =
    let old : Certificate = seen c.self.inside in
    let found = c.in-Some.ensures.some in
    let more = more_ats kept_at old c.self.inside.ats.items c.push.new.self.items c.in-Some.at refl c.in_ok-push.ensures.items in
    let count = count_is kept_at c.self.inside.ats.items c.len.result (omega arith) in
    λ word l read. taken At old _ c.args.self.now word c.args.numbers.now c.len.result (kept_at c.in-Some.at) c.self.view_is c.self.invariant.head_is (omega arith) count found.0 found.1 more l read (sym read.form.word_is)

pub returns-in_default : goal.returns-in_default
returns-in_default c =
    let count = count_is kept_at c.self.inside.ats.items c.len.result (omega arith) in
    λ word l read. (refused At (seen c.self.inside) c.args.self.now word c.args.numbers.now c.len.result c.self.view_is c.self.invariant.head_is (omega arith) count c.in_default.ensures.none l read, refl)
