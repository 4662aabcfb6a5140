-- A target in range is the line that was read.
use Rattle.std.proofs.Common.{length, rules, refl, sym, subst, ap, ◌∙◌}
use Rattle.cert_text.specs.declared.section.Section.TheVariants.{Target}
use Rattle.cert_text.specs.Certificate.{Certificate}
use Rattle.cert_text.specs.Inside.{kept_target}
use Rattle.cert_text.specs.Kept.{seen}
use Rattle.cert_text.specs.Sections.{AreOrderedEnds}
use Rattle.cert_text.specs.Storage.{IsLineRead}
use Rattle.limits.specs.Limits.{grid_of, most_given_target}
use Rattle.cert_text.proofs.BoxRows.{target_boxes}
use Rattle.cert_text.proofs.Cuts.{ends_read, read_ends, target_limit}
use Rattle.cert_text.proofs.Grown.{grown, taken_as, more_targets}
use Rattle.cert_text.proofs.RowLines.{form_same, read_length}
use Rattle.cert_text.proofs.stored.Stored.push_target.Goals as goal

pub returns-then-not-are_ends : goal.returns-then-not-are_ends
returns-then-not-are_ends c =
    let numbers = c.args.numbers.now in
    let version = c.args.self.now.head.version in
    let limit = c.most_target.ensures ∙ ap most_given_target c.grid_of.ensures ∙ ap (λ (s : Certificate). most_given_target (grid_of s.head.version)) c.self.view_is in
    λ word l read. (λ r. let r' = subst (λ n. AreOrderedEnds n numbers) (sym limit) (ends_read (most_given_target (grid_of version)) l.numbers numbers (target_limit version) read.numbers_are r) in search (rules, r', c.if-not-are_ends.ensures), refl)

pub push-requires : goal.push-requires
push-requires c =
    let limit = c.most_target.ensures ∙ ap most_given_target c.grid_of.ensures ∙ ap (λ (s : Certificate). most_given_target (grid_of s.head.version)) c.self.view_is in
    let here : AreOrderedEnds c.most_target.result c.args.numbers.now = search (rules, c.if-not-are_ends.ensures) in
    target_boxes c.args.self.now.head c.requires.0 c.args.numbers.now c.requires.1 c.requires.2 (subst (λ n. AreOrderedEnds n c.args.numbers.now) limit here)

pub invariant_of-self-2 : goal.invariant_of-self-2
invariant_of-self-2 c =
    let old : Certificate = seen c.self.inside in
    let numbers = c.args.numbers.now in
    let more = more_targets kept_target old c.self.inside.targets c.push.new.self numbers refl c.in_ok-push.ensures.pushed in
    let word = c.requires.0 in
    let l = c.requires.1 in
    let H : Certificate → Type 0 = λ s. IsLineRead s.head Target word numbers l in
    let read = subst H (sym c.self.view_is) c.requires.2 in
    let long = read_length old.head Target word numbers l read in
    let form = form_same old.head Target l (kept_target numbers) (sym read.form.word_is) long read.form in
    let here : AreOrderedEnds c.most_target.result numbers = search (rules, c.if-not-are_ends.ensures) in
    let range = subst (λ n. AreOrderedEnds n numbers) (c.most_target.ensures ∙ ap most_given_target c.grid_of.ensures) here in
    grown Target old _ (length old.targets) (kept_target numbers) c.self.invariant refl form range more

pub returns : goal.returns
returns c =
    let old : Certificate = seen c.self.inside in
    let numbers = c.args.numbers.now in
    let most = most_given_target (grid_of old.head.version) in
    let more = more_targets kept_target old c.self.inside.targets c.push.new.self numbers refl c.in_ok-push.ensures.pushed in
    let here : AreOrderedEnds c.most_target.result numbers = search (rules, c.if-not-are_ends.ensures) in
    let range : AreOrderedEnds most numbers = subst (λ n. AreOrderedEnds n numbers) (c.most_target.ensures ∙ ap most_given_target c.grid_of.ensures) here in
    λ word l read.
    let e = read_ends most l.numbers numbers (target_limit old.head.version) read.numbers_are range in
    taken_as Target old _ c.args.self.now (kept_target numbers) l c.self.view_is (subst (AreOrderedEnds most) (sym e) range) more (sym e) (sym read.form.word_is)
