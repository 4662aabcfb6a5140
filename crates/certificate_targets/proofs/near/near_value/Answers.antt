-- One entry more.
use Rattle.std.proofs.Common.{◌≡◌, ◌∙◌, ◌<◌, ℕ, ap, sym, subst, arith, List, length, get_or, to_z, of_z, to_z-of_z, w64}
use Rattle.std.specs.Prelude.{All}
use Rattle.std.proofs.lemmas.List.{take_all}
use Rattle.accounting_text.specs.Given.{given_entry}
use Rattle.cert_text.specs.Certificate.{Certificate, nth_line}
use Rattle.certificate_nodes.specs.AtNodes.{entry_numbers_at}
use Rattle.certificate_nodes.specs.Presented.{accounting_of}
use Rattle.certificate_rules.specs.LineRules.{IsFit}
use Rattle.complex_box.proofs.Sizes.{add_box_within, box_wider}
use Rattle.complex_box.specs.Box.{box_ends}
use Rattle.exact_math.specs.Ends.{BoxEnds, add_box}
use Rattle.exact_math.specs.Gaussian.{gaussian}
use Rattle.letters.specs.declared.Entry.{Entry}
use Rattle.soundness.specs.Accounts.{Accounting}
use Rattle.soundness.specs.Computed.{total_box}
use Rattle.certificate_targets.specs.Parts.{entry_of, pairs_of}
use Rattle.certificate_targets.proofs.Entries.{IsNumberAt, few_numbers, numbers_are}
use Rattle.certificate_targets.proofs.Sums.{total-step}
use Rattle.certificate_targets.proofs.near.near_value.Goals as goal

pub entry_at-entry-requires : goal.entry_at-entry-requires
entry_at-entry-requires c =
    let d = c.args.given.now.certificate in
    let i = c.loop-e.e-index in
    let items : List ℕ = c.entries-e-items.result.now in
    let xs : List ℕ = entry_numbers_at d c.args.n in
    let same : items ≡ xs = c.entries-e-items.ensures.numbers in
    let here = subst (All (IsNumberAt d c.args.n)) (sym same) (numbers_are d c.args.n) i 0 c.loop-e-test.true in
    let heads = ap (λ (q : Certificate). q.head.entries) c.cert-cert.ensures.certificate in
    omega (arith, here.below, c.requires.presented.certificate.entries_are, heads)

pub entry_pairs-requires-clause-fit : goal.entry_pairs-requires-clause-fit
entry_pairs-requires-clause-fit c =
    let d = c.args.given.now.certificate in
    let i = c.loop-e.e-index in
    let items : List ℕ = c.entries-e-items.result.now in
    let xs : List ℕ = entry_numbers_at d c.args.n in
    let same : items ≡ xs = c.entries-e-items.ensures.numbers in
    let here = subst (All (IsNumberAt d c.args.n)) (sym same) (numbers_are d c.args.n) i 0 c.loop-e-test.true in
    let read : c.entry_at-entry.result ≡ entry_of d (get_or items i 0) = c.entry_at-entry.ensures.entry ∙ ap (λ (q : Certificate). given_entry (nth_line q.entries (get_or items i 0))) c.cert-cert.ensures.certificate in
    subst (λ (e : Entry). IsFit c.args.given.now.points d e.letter e.b e.c) (sym read) (c.requires.entries (get_or items i 0) (omega (arith, here.below, c.requires.presented.certificate.entries_are)))

pub add-sum-requires : goal.add-sum-requires
add-sum-requires c =
    let few = few_numbers c.args.given.now.certificate c.requires.presented.certificate c.args.n in
    let long = ap length c.entries-e-items.ensures.numbers in
    box_wider _ _ _ (omega (arith, few, long, c.loop-e-test.true)) (add_box_within _ _ (box_ends c.loop-e.sum) (box_ends c.entry_pairs.result) c.loop-e.invariant.size c.entry_pairs.ensures.size)

pub loop-e-preserved : goal.loop-e-preserved
loop-e-preserved c =
    let d = c.args.given.now.certificate in
    let i = c.loop-e.e-index in
    let items : List ℕ = c.entries-e-items.result.now in
    let xs : List ℕ = entry_numbers_at d c.args.n in
    let same : items ≡ xs = c.entries-e-items.ensures.numbers in
    let A : Accounting = accounting_of c.args.given.now in
    let z = gaussian (to_z w64 (of_z w64 c.args.x)) (to_z w64 (of_z w64 c.args.y)) in
    let f : ℕ → BoxEnds = (λ e. pairs_of A z (entry_of d e)) in
    let lt : i < length xs = omega (arith, ap length same, c.loop-e-test.true) in
    let read : c.entry_at-entry.result ≡ entry_of d (get_or items i 0) = c.entry_at-entry.ensures.entry ∙ ap (λ (q : Certificate). given_entry (nth_line q.entries (get_or items i 0))) c.cert-cert.ensures.certificate in
    let brings : box_ends c.entry_pairs.result ≡ f (get_or xs i 0) = c.entry_pairs.ensures.ends ∙ ap (pairs_of A z) read ∙ ap (λ (l : List ℕ). f (get_or l i 0)) same in
    record {
      ends = total-step f xs i 0 lt c.loop-e.invariant.ends (c.add-sum.ensures.ends ∙ ap (add_box (box_ends c.loop-e.sum)) brings);
      size = rw c.add-sum.ensures.ends (box_wider _ _ _ (omega arith) (add_box_within _ _ (box_ends c.loop-e.sum) (box_ends c.entry_pairs.result) c.loop-e.invariant.size c.entry_pairs.ensures.size));
    }

pub returns-clause-ends : goal.returns-clause-ends
returns-clause-ends c =
    let x = c.ranges.x in
    let y = c.ranges.y in
    let d = c.args.given.now.certificate in
    let A : Accounting = accounting_of c.args.given.now in
    let f : ℕ → BoxEnds = (λ e. pairs_of A (gaussian c.args.x c.args.y) (entry_of d e)) in
    let xs : List ℕ = entry_numbers_at d c.args.n in
    let so_far = simp to_z-of_z at c.loop-e.invariant.ends in
    so_far ∙ ap (total_box f) (take_all c.loop-e.e-index xs (omega (arith, ap length c.entries-e-items.ensures.numbers, c.loop-e-test.false)))

pub returns-clause-size : goal.returns-clause-size
returns-clause-size c =
    let few = few_numbers c.args.given.now.certificate c.requires.presented.certificate c.args.n in
    let long = ap length c.entries-e-items.ensures.numbers in
    box_wider _ _ _ (omega (arith, few, long, c.loop-e.auto.e-index-end)) c.loop-e.invariant.size
