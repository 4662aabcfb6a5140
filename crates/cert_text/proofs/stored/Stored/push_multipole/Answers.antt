-- A row in range is the line that was read.
use Rattle.std.proofs.Common.{length, rules, refl, sym, subst, ap, ◌∙◌, arith}
use Rattle.cert_text.specs.declared.section.Section.TheVariants.{Multipole}
use Rattle.cert_text.specs.Certificate.{Certificate}
use Rattle.cert_text.specs.Inside.{kept_multipole}
use Rattle.cert_text.specs.Kept.{seen}
use Rattle.cert_text.specs.Sections.{AreOrderedEnds}
use Rattle.cert_text.specs.Storage.{IsLineRead}
use Rattle.limits.specs.Limits.{most_given_multipole}
use Rattle.cert_text.proofs.BoxRows.{multipole_boxes}
use Rattle.cert_text.proofs.Cuts.{ends_read, read_ends}
use Rattle.cert_text.proofs.Grown.{grown, taken_as, more_multipoles}
use Rattle.cert_text.proofs.RowLines.{form_same, read_length, head_order, multipole_numbers, multipole_word}
use Rattle.cert_text.proofs.stored.Stored.push_multipole.Goals as goal

pub returns-then-not-are_ends : goal.returns-then-not-are_ends
returns-then-not-are_ends c = λ word l read. (λ r. let r' = ends_read most_given_multipole l.numbers c.args.numbers.now (omega arith) read.numbers_are r in search (rules, r', c.if-not-are_ends.ensures), refl)

pub push-requires : goal.push-requires
push-requires c =
    let range : AreOrderedEnds most_given_multipole c.args.numbers.now = search (rules, c.if-not-are_ends.ensures) in
    multipole_boxes c.args.self.now.head c.requires.0 c.args.numbers.now c.requires.1 c.requires.2 range

pub invariant_of-self-2 : goal.invariant_of-self-2
invariant_of-self-2 c =
    let old : Certificate = seen c.self.inside in
    let numbers = c.args.numbers.now in
    let more = more_multipoles kept_multipole old c.self.inside.multipoles c.push.new.self numbers refl c.in_ok-push.ensures.pushed in
    let word = c.requires.0 in
    let l = c.requires.1 in
    let H : Certificate → Type 0 = λ s. IsLineRead s.head Multipole word numbers l in
    let read = subst H (sym c.self.view_is) c.requires.2 in
    let long = read_length old.head Multipole word numbers l read in
    let same = multipole_word old.head numbers l (head_order old.head c.self.invariant.head_is) long read.form in
    let form = form_same old.head Multipole l (kept_multipole numbers) same (ap length (multipole_numbers numbers) ∙ long) read.form in
    let range : AreOrderedEnds most_given_multipole numbers = search (rules, c.if-not-are_ends.ensures) in
    grown Multipole old _ (length old.multipoles) (kept_multipole numbers) c.self.invariant refl form (subst (AreOrderedEnds most_given_multipole) (sym (multipole_numbers numbers)) range) more

pub returns : goal.returns
returns c =
    let old : Certificate = seen c.self.inside in
    let numbers = c.args.numbers.now in
    let more = more_multipoles kept_multipole old c.self.inside.multipoles c.push.new.self numbers refl c.in_ok-push.ensures.pushed in
    let range : AreOrderedEnds most_given_multipole numbers = search (rules, c.if-not-are_ends.ensures) in
    λ word l read.
    let H : Certificate → Type 0 = λ s. IsLineRead s.head Multipole word numbers l in
    let read' = subst H (sym c.self.view_is) read in
    let long = read_length old.head Multipole word numbers l read' in
    let same = multipole_word old.head numbers l (head_order old.head c.self.invariant.head_is) long read'.form in
    let e = read_ends most_given_multipole l.numbers numbers (omega arith) read.numbers_are range in
    taken_as Multipole old _ c.args.self.now (kept_multipole numbers) l c.self.view_is (subst (AreOrderedEnds most_given_multipole) (sym e) range) more (multipole_numbers numbers ∙ sym e) same
