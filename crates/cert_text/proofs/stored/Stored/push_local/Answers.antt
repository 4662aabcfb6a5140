-- A row in range is the line that was read.
use Rattle.std.proofs.Common.{List, ℤ, length, rules, refl, sym, subst, ap, ◌∙◌}
use Rattle.cert_text.specs.declared.section.Section.TheVariants.{Local}
use Rattle.cert_text.specs.Certificate.{Certificate}
use Rattle.cert_text.specs.Inside.{kept_local}
use Rattle.cert_text.specs.Kept.{seen}
use Rattle.cert_text.specs.Sections.{IsHead, AreInRange}
use Rattle.cert_text.specs.Storage.{IsLineRead}
use Rattle.cert_text.proofs.BoxRows.{local_boxes}
use Rattle.cert_text.proofs.Cuts.{local_read, read_local}
use Rattle.cert_text.proofs.Grown.{grown, taken_as, more_locals}
use Rattle.cert_text.proofs.RowLines.{form_same, read_length, local_numbers, local_word}
use Rattle.cert_text.proofs.stored.Stored.push_local.Goals as goal

pub returns-then-not-is_local : goal.returns-then-not-is_local
returns-then-not-is_local c = λ word l read. (λ r. let r' = local_read c.args.self.now.head (length c.args.self.now.locals) l.numbers c.args.numbers.now read.numbers_are r in search (rules, r', c.if-not-is_local.ensures c.args.self.now.head (length c.args.self.now.locals)), refl)

pub push-requires : goal.push-requires
push-requires c =
    let is = subst (λ (s : Certificate). IsHead s.head) c.self.view_is c.self.invariant.head_is in
    let range : AreInRange c.args.self.now.head Local 0 c.args.numbers.now = search (rules, c.if-not-is_local.ensures c.args.self.now.head 0) in
    local_boxes c.args.self.now.head c.requires.0 c.args.numbers.now c.requires.1 0 is c.requires.2 range

pub invariant_of-self-2 : goal.invariant_of-self-2
invariant_of-self-2 c =
    let old : Certificate = seen c.self.inside in
    let numbers = c.args.numbers.now in
    let more = more_locals kept_local old c.self.inside.locals c.push.new.self numbers refl c.in_ok-push.ensures.pushed in
    let word = c.requires.0 in
    let l = c.requires.1 in
    let H : Certificate → Type 0 = λ s. IsLineRead s.head Local word numbers l in
    let read = subst H (sym c.self.view_is) c.requires.2 in
    let long = read_length old.head Local word numbers l read in
    let same = local_word old.head numbers l long read.form in
    let form = form_same old.head Local l (kept_local numbers) same (ap length (local_numbers numbers) ∙ long) read.form in
    let R : List ℤ → Type 0 = λ zs. AreInRange old.head Local (length old.locals) zs in
    let range : R numbers = search (rules, c.if-not-is_local.ensures old.head (length old.locals)) in
    grown Local old _ (length old.locals) (kept_local numbers) c.self.invariant refl form (subst R (sym (local_numbers numbers)) range) more

pub returns : goal.returns
returns c =
    let old : Certificate = seen c.self.inside in
    let numbers = c.args.numbers.now in
    let more = more_locals kept_local old c.self.inside.locals c.push.new.self numbers refl c.in_ok-push.ensures.pushed in
    let R : List ℤ → Type 0 = λ zs. AreInRange old.head Local (length old.locals) zs in
    let range : R numbers = search (rules, c.if-not-is_local.ensures old.head (length old.locals)) in
    λ word l read.
    let H : Certificate → Type 0 = λ s. IsLineRead s.head Local word numbers l in
    let read' = subst H (sym c.self.view_is) read in
    let long = read_length old.head Local word numbers l read' in
    let same = local_word old.head numbers l long read'.form in
    let e = read_local old.head (length old.locals) l.numbers numbers read.numbers_are range in
    taken_as Local old _ c.args.self.now (kept_local numbers) l c.self.view_is (subst R (sym e) range) more (local_numbers numbers ∙ sym e) same
