-- The lines of a whole section, each of its form and in its range.
use Rattle.std.proofs.Common.{ℕ, ◌≡◌, ◌+◌, ◌<◌, List, [], length, map, sym, ◌∙◌, subst, arith}
use Rattle.std.specs.List.{range_with_len}
use Rattle.std.proofs.lemmas.List.FromFn.{get_or-map-range_with_len, length-map-range_with_len}
use Rattle.cert_text.specs.declared.section.Section.{Section}
use Rattle.cert_text.specs.Certificate.{nth_line}
use Rattle.cert_text.specs.Lines.{Line, line, Head}
use Rattle.cert_text.specs.Sections.{IsFormOf, AreInRange, AreLinesFrom}
use Rattle.cert_text.proofs.Places.{lines_in, start_of, section_from}

-- the n-th line of a section is right
abbrev pub IsLineOf : Head → Section → ℕ → Line → Type 0
IsLineOf h section n l = IsFormOf h section l × AreInRange h section n l.numbers

pub whole_section : (h : Head) (section : Section) (k : ℕ) (ls : List Line) → k ≡ start_of h section → length ls ≡ lines_in h section
    → ((n : ℕ) → n < length ls → IsLineOf h section n (nth_line ls n)) → AreLinesFrom h k ls
whole_section h section k ls e fits each =
    section_from h section 0 k ls (omega (arith, e)) (omega (arith, fits)) (λ n lt.
    let there : n ≡ 0 + n = omega arith in
    ((each n lt).0, subst (λ i. AreInRange h section i (nth_line ls n).numbers) there (each n lt).1))

-- lines by their numbers
pub numbered_section : (h : Head) (section : Section) (k m : ℕ) (f : ℕ → Line) → k ≡ start_of h section → m ≡ lines_in h section
    → ((n : ℕ) → n < m → IsLineOf h section n (f n)) → AreLinesFrom h k (map f (range_with_len 0 m))
numbered_section h section k m f e fits each =
    whole_section h section k (map f (range_with_len 0 m)) e (length-map-range_with_len f 0 m ∙ fits) (λ n lt.
    let inside : n < m = omega (arith, lt, length-map-range_with_len f 0 m) in
    subst (IsLineOf h section n) (sym (get_or-map-range_with_len f 0 m n n (line [] []) inside (omega arith))) (each n inside))
