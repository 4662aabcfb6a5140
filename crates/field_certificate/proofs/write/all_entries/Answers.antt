use Rattle.std.proofs.Common.{◌∙◌, ap, arith}
use Rattle.letters.specs.declared.Letter.TheVariants.{U, V, W, X}
use Rattle.field_certificate.specs.ProgramLines.{total_of}
use Rattle.field_certificate.proofs.write.all_entries.Goals as goal

pub overflow_add-result : goal.overflow_add-result
overflow_add-result g c = omega (arith, c.requires.few U, c.requires.few V, c.total.ensures ∙ ap (λ l. total_of l U) c.lists-lists.ensures, c.total-2.ensures ∙ ap (λ l. total_of l V) c.lists-lists.ensures)

pub overflow_add-result-2 : goal.overflow_add-result-2
overflow_add-result-2 g c = omega (arith, c.requires.few U, c.requires.few V, c.requires.few W, c.total.ensures ∙ ap (λ l. total_of l U) c.lists-lists.ensures, c.total-2.ensures ∙ ap (λ l. total_of l V) c.lists-lists.ensures, c.total-3.ensures ∙ ap (λ l. total_of l W) c.lists-lists.ensures)

pub overflow_add-result-3 : goal.overflow_add-result-3
overflow_add-result-3 g c = omega (arith, c.requires.few U, c.requires.few V, c.requires.few W, c.requires.few X, c.total.ensures ∙ ap (λ l. total_of l U) c.lists-lists.ensures, c.total-2.ensures ∙ ap (λ l. total_of l V) c.lists-lists.ensures, c.total-3.ensures ∙ ap (λ l. total_of l W) c.lists-lists.ensures, c.total-4.ensures ∙ ap (λ l. total_of l X) c.lists-lists.ensures)
