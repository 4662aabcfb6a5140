-- An entry in range is the line that was read.
use Rattle.std.proofs.Common.{List, ℤ, subst, refl, sym, ap, ◌∙◌, arith}
use Rattle.cert_text.specs.declared.section.Section.TheVariants.{Entry}
use Rattle.cert_text.specs.Certificate.{Certificate}
use Rattle.cert_text.specs.Inside.{kept_entry, head_of}
use Rattle.cert_text.specs.Kept.{seen}
use Rattle.cert_text.specs.Lines.{letter_word}
use Rattle.cert_text.specs.Sections.{AreInRange}
use Rattle.cert_text.proofs.Grown.{refused, grown, taken, more_entries, count_is}
use Rattle.cert_text.proofs.stored.Stored.push_entry.Goals as goal

pub invariant_of-self-2 : goal.invariant_of-self-2
invariant_of-self-2 c =
    let old : Certificate = seen c.self.inside in
    let entry = c.in-Some.entry in
    let found = c.in-Some.ensures.some in
    let more = more_entries kept_entry old c.self.inside.entries.items c.push.new.self.items entry refl c.in_ok-push.ensures.items in
    let count = count_is kept_entry c.self.inside.entries.items c.len.result (omega arith) in
    let R : List ℤ → Type 0 = λ zs. AreInRange (head_of c.self.inside.header) Entry c.len.result zs in
    grown Entry old _ c.len.result (kept_entry entry) c.self.invariant count (entry.letter, record { word_is = refl; count_is = refl }) (subst R (sym found.2) found.0) more

pub returns : goal.returns
returns c =
    let old : Certificate = seen c.self.inside in
    let found = c.in-Some.ensures.some in
    let more = more_entries kept_entry old c.self.inside.entries.items c.push.new.self.items c.in-Some.entry refl c.in_ok-push.ensures.items in
    let count = count_is kept_entry c.self.inside.entries.items c.len.result (omega arith) in
    λ l read.
    let letter = read.form.0 in
    let same = c.letter_of-letter.ensures letter (sym read.word_is ∙ read.form.1.word_is) in
    taken Entry old _ c.args.self.now c.args.word.now c.args.numbers.now c.len.result (kept_entry c.in-Some.entry) c.self.view_is c.self.invariant.head_is (omega arith) count found.0 found.2 more l read (ap letter_word (found.1 ∙ same) ∙ sym read.form.1.word_is)

pub returns-in_default : goal.returns-in_default
returns-in_default c =
    let count = count_is kept_entry c.self.inside.entries.items c.len.result (omega arith) in
    λ l read. (refused Entry (seen c.self.inside) c.args.self.now c.args.word.now c.args.numbers.now c.len.result c.self.view_is c.self.invariant.head_is (omega arith) count c.in_default.ensures.none l read, refl)
