-- Lines of one form at the front of a text.
use Rattle.std.proofs.Common.{◌≡◌, ◌≢◌, ◌≤◌, ℕ, ℤ, List, ◌++◌, length, take, map, sym, ap, ◌∙◌, append_assoc, arith, Bor}
use Rattle.std.specs.Prelude.{Option, Some, None, MatchOption, IfSome, IfNone}
use Rattle.std.proofs.Math.Seq.{take-append_seam}
use Rattle.std.proofs.lemmas.List.{append_cancel_left, length-map, length-take-le}
use Rattle.number_text.specs.Numbers.{numbers_text, cut_wide}
use Rattle.cert_text.specs.Lines.{line}
use Rattle.cert_text.specs.Sections.{HasWord}
use Rattle.cert_text.specs.Private.{HasNone}
use Rattle.cert_text.specs.Faults.{BeginWith}

-- a word, and as many numbers as there were places
pub word_line : (word text behind rest : List ℕ) (zs : List ℤ) → text ≡ word ++ behind → behind ≡ numbers_text zs ++ rest → BeginWith text (line word zs) rest
word_line word text behind rest zs front numbers = front ∙ ap (λ t. word ++ t) numbers ∙ sym (append_assoc word (numbers_text zs) rest)

-- the places are the first of some more
pub first_places : (count : ℕ) (old new tail zs : List ℤ) → count ≤ length old → length zs ≡ length (take count old) → new ≡ map cut_wide zs → take count (new ++ tail) ≡ map cut_wide zs
first_places count old new tail zs few many are =
    let n : count ≡ length new = omega (arith, few, many, length-take-le count old few, ap length are, length-map zs cut_wide) in
    ap (λ k. take k (new ++ tail)) n ∙ take-append_seam new tail ∙ are

pub so_many : (count : ℕ) (old zs : List ℤ) → count ≤ length old → length zs ≡ length (take count old) → length zs ≡ count
so_many count old zs few many = omega (arith, few, many, length-take-le count old few)

-- another word begins the text
pub no_word : (word text : List ℕ) (count : ℕ) → ((rest : List ℕ) → text ≢ word ++ rest) → HasNone (HasWord word count) text
no_word word text count none l rest has begin =
    none (numbers_text l.numbers ++ rest) (begin ∙ append_assoc l.word (numbers_text l.numbers) rest ∙ ap (λ w. w ++ (numbers_text l.numbers ++ rest)) has.word_is)

-- the word isn't followed by so many numbers
pub no_numbers : (word text behind : List ℕ) (count : ℕ) (old : List ℤ) → text ≡ word ++ behind → count ≤ length old
    → ((zs : List ℤ) (rest : List ℕ) → length zs ≡ length (take count old) → behind ≡ numbers_text zs ++ rest → ⊥) → HasNone (HasWord word count) text
no_numbers word text behind count old front few none l rest has begin =
    let same : word ++ behind ≡ word ++ (numbers_text l.numbers ++ rest) = sym front ∙ begin ∙ append_assoc l.word (numbers_text l.numbers) rest ∙ ap (λ w. w ++ (numbers_text l.numbers ++ rest)) has.word_is in
    none l.numbers rest (omega (arith, has.count_is, few, length-take-le count old few)) (append_cancel_left word behind (numbers_text l.numbers ++ rest) same)

-- what is behind a word, where it begins the text, and that it doesn't
pub word_there : (text word : List ℕ) (r : Option (Bor (List ℕ))) → MatchOption r ((rest : List ℕ) → text ≢ word ++ rest) (λ x. text ≡ word ++ x.now) → IfSome r (λ rest. text ≡ word ++ rest.now)
word_there text word (Some x) h = h
word_there text word None h = tt

pub word_missing : (text word : List ℕ) (r : Option (Bor (List ℕ))) → MatchOption r ((rest : List ℕ) → text ≢ word ++ rest) (λ x. text ≡ word ++ x.now) → IfNone r ((rest : List ℕ) → text ≢ word ++ rest)
word_missing text word (Some x) h = tt
word_missing text word None h = h
