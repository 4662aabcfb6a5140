-- Bytes begin with one line at most of the form of a section, and with one line 1.
use Rattle.std.proofs.Common.{◌≡◌, ℕ, suc, ◌*◌, ℤ, pos, negsuc, List, [], ◌∷◌, ◌++◌, length, sym, ap, ◌∙◌, subst, refl, inl, inr, arith}
use Rattle.std.specs.Prelude.{codes}
use Rattle.std.proofs.lemmas.Int.{ints}
use Rattle.std.proofs.lemmas.List.{append_assoc, append_cancel_left}
use Rattle.letters.specs.declared.Letter.{Letter}
use Rattle.letters.specs.declared.Letter.TheVariants.{U, V, W, X}
use Rattle.number_text.specs.Numbers.{IsDigit, IsPlainNumber, numbers_text, int_text, uint_text}
use Rattle.number_text.proofs.Cuts.{head_of, tail_of}
use Rattle.number_text.proofs.NumbersText.{numbers_text-once, uint_of_text, plain_digits_all}
use Rattle.cert_text.specs.declared.section.Section.{Section}
use Rattle.cert_text.specs.declared.section.Section.TheVariants.{Node, At, Multipole, Entry, Local, Target, End}
use Rattle.cert_text.specs.Lines.{Line, Head, line_bytes, letter_word, first_line, head_counts}
use Rattle.cert_text.specs.Sections.{HasWord, IsFormOf}

pub record SameLine (l other : Line) (r s : List ℕ) : Type 0 where
  pub lines : l ≡ other
  pub rests : r ≡ s

-- the bytes of a line and of what follows
line_apart : (word : List ℕ) (count : ℕ) (l : Line) (r : List ℕ) → HasWord word count l → line_bytes l ++ r ≡ word ++ (numbers_text l.numbers ++ r)
line_apart word count l r form = ap (λ w. (w ++ numbers_text l.numbers) ++ r) form.word_is ∙ append_assoc word (numbers_text l.numbers) r

-- one word, and as many numbers
pub same_form : (word : List ℕ) (count : ℕ) (l other : Line) (r s : List ℕ) → HasWord word count l → HasWord word count other → line_bytes l ++ r ≡ line_bytes other ++ s → SameLine l other r s
same_form word count l other r s a b e =
    let texts = append_cancel_left word (numbers_text l.numbers ++ r) (numbers_text other.numbers ++ s) (sym (line_apart word count l r a) ∙ e ∙ line_apart word count other s b) in
    let same = numbers_text-once l.numbers other.numbers r s (a.count_is ∙ sym b.count_is) texts in
    let words : l.word ≡ other.word = a.word_is ∙ sym b.word_is in
    let numbers : l.numbers ≡ other.numbers = same.0 in
    record { lines = λ i. record { word = words i; numbers = numbers i }; rests = same.1 }

-- ---- no row of numbers begins with `-` and a line feed
first_digit : (c : ℕ) (cs word rest : List ℕ) → IsPlainNumber word → c ∷ cs ≡ word ++ rest → IsDigit c
first_digit c cs [] rest form e = absurd form
first_digit c cs (d ∷ word) rest form e = subst IsDigit (sym (head_of _ _ _ _ e)) (plain_digits_all (d ∷ word) form).0

no_dash_number : (z : ℤ) (r s : List ℕ) → 45 ∷ 10 ∷ r ≡ int_text z ++ s → ⊥
no_dash_number (pos n) r s e = let digit = first_digit 45 (10 ∷ r) (uint_text n) s (uint_of_text n).form e in omega (arith, digit.0)
no_dash_number (negsuc n) r s e = let digit = first_digit 10 r (uint_text (suc n)) s (uint_of_text (suc n)).form (tail_of _ _ _ _ e) in omega (arith, digit.0)

pub no_dash : (zs : List ℤ) (r s : List ℕ) → 32 ∷ 45 ∷ 10 ∷ r ≡ numbers_text zs ++ s → ⊥
no_dash [] r s e = let heads : 32 ≡ 10 = head_of _ _ _ _ e in omega (arith, heads)
no_dash (z ∷ zs) r s e = no_dash_number z r (numbers_text zs ++ s) (tail_of _ _ _ _ e ∙ append_assoc (int_text z) (numbers_text zs) s)

-- a zero row given by `-` against a row of numbers
dash_apart : (c count : ℕ) (l other : Line) (r s : List ℕ) → HasWord (c ∷ 32 ∷ 45 ∷ []) 0 l → HasWord (c ∷ []) count other → line_bytes l ++ r ≡ line_bytes other ++ s → ⊥
dash_apart c count l other r s a b e =
    no_dash other.numbers r s (sym (empty l.numbers a.count_is) ∙ tail_of _ _ _ _ (sym (line_apart (c ∷ 32 ∷ 45 ∷ []) 0 l r a) ∙ e ∙ line_apart (c ∷ []) count other s b))
  where
    empty : (zs : List ℤ) → length zs ≡ 0 → 32 ∷ 45 ∷ (numbers_text zs ++ r) ≡ 32 ∷ 45 ∷ 10 ∷ r
    empty [] none = refl
    empty (z ∷ zs) none = absurd (omega (arith, none))

-- ---- the letters of entries
first_byte : (a b : ℕ) (xs ys : List ℕ) → a ∷ xs ≡ b ∷ ys → a ≡ b
first_byte a b xs ys e = head_of a b xs ys e

same_letter : (a b : Letter) (x y : List ℕ) → letter_word a ++ x ≡ letter_word b ++ y → a ≡ b
same_letter U U x y e = refl
same_letter V V x y e = refl
same_letter W W x y e = refl
same_letter X X x y e = refl
same_letter U V x y e = absurd (omega (arith, first_byte 117 118 x y e))
same_letter U W x y e = absurd (omega (arith, first_byte 117 119 x y e))
same_letter U X x y e = absurd (omega (arith, first_byte 117 120 x y e))
same_letter V U x y e = absurd (omega (arith, first_byte 118 117 x y e))
same_letter V W x y e = absurd (omega (arith, first_byte 118 119 x y e))
same_letter V X x y e = absurd (omega (arith, first_byte 118 120 x y e))
same_letter W U x y e = absurd (omega (arith, first_byte 119 117 x y e))
same_letter W V x y e = absurd (omega (arith, first_byte 119 118 x y e))
same_letter W X x y e = absurd (omega (arith, first_byte 119 120 x y e))
same_letter X U x y e = absurd (omega (arith, first_byte 120 117 x y e))
same_letter X V x y e = absurd (omega (arith, first_byte 120 118 x y e))
same_letter X W x y e = absurd (omega (arith, first_byte 120 119 x y e))

same_entry : (a b : Letter) (l other : Line) (r s : List ℕ) → HasWord (letter_word a) 2 l → HasWord (letter_word b) 2 other → line_bytes l ++ r ≡ line_bytes other ++ s → SameLine l other r s
same_entry a b l other r s f g e =
    let letters = same_letter a b _ _ (sym (line_apart (letter_word a) 2 l r f) ∙ e ∙ line_apart (letter_word b) 2 other s g) in
    same_form (letter_word b) 2 l other r s (subst (λ letter. HasWord (letter_word letter) 2 l) letters f) g e

-- ---- lines behind line 1
one_line : (h : Head) (section : Section) (l other : Line) (r s : List ℕ) → IsFormOf h section l → IsFormOf h section other → line_bytes l ++ r ≡ line_bytes other ++ s → SameLine l other r s
one_line h Node l other r s a b e = same_form (codes "node") 4 l other r s a b e
one_line h At l other r s a b e = same_form (codes "at") 1 l other r s a b e
one_line h Multipole l other r s (inl a) (inl b) e = same_form (codes "m -") 0 l other r s a b e
one_line h Multipole l other r s (inl a) (inr b) e = absurd (dash_apart 109 (4 * h.order) l other r s a b e)
one_line h Multipole l other r s (inr a) (inl b) e = absurd (dash_apart 109 (4 * h.order) other l s r b a (sym e))
one_line h Multipole l other r s (inr a) (inr b) e = same_form (codes "m") (4 * h.order) l other r s a b e
one_line h Entry l other r s a b e = same_entry a.0 b.0 l other r s a.1 b.1 e
one_line h Local l other r s (inl a) (inl b) e = same_form (codes "l -") 0 l other r s a b e
one_line h Local l other r s (inl a) (inr b) e = absurd (dash_apart 108 (suc (4 * h.order)) l other r s a b e)
one_line h Local l other r s (inr a) (inl b) e = absurd (dash_apart 108 (suc (4 * h.order)) other l s r b a (sym e))
one_line h Local l other r s (inr a) (inr b) e = same_form (codes "l") (suc (4 * h.order)) l other r s a b e
one_line h Target l other r s a b e = same_form (codes "t") 8 l other r s a b e
one_line h End l other r s a b e = same_form (codes "end") 0 l other r s a b e

pub unique_line : (h : Head) (section : Section) (l other : Line) (r s : List ℕ) → IsFormOf h section l → IsFormOf h section other → line_bytes l ++ r ≡ line_bytes other ++ s → (l ≡ other) × (r ≡ s)
unique_line h section l other r s a b e = let same = one_line h section l other r s a b e in (same.lines, same.rests)

-- ---- line 1
pub record SameStart (version order : ℕ) (counts : List ℤ) (other size : ℕ) (numbers : List ℤ) (r s : List ℕ) : Type 0 where
  pub versions : version ≡ other
  pub orders : order ≡ size
  pub counts_are : counts ≡ numbers
  pub rests : r ≡ s

number_head : (x y : ℤ) (xs ys : List ℤ) → x ∷ xs ≡ y ∷ ys → x ≡ y
number_head x y xs ys e = cc

number_tail : (x y : ℤ) (xs ys : List ℤ) → x ∷ xs ≡ y ∷ ys → xs ≡ ys
number_tail x y xs ys e = cc

same_natural : (m n : ℕ) → pos m ≡ pos n → m ≡ n
same_natural m n e = omega (arith, ints, e)

pub same_start : (version order : ℕ) (counts : List ℤ) (other size : ℕ) (numbers : List ℤ) (r s : List ℕ) → length counts ≡ 4 → length numbers ≡ 4
    → line_bytes (first_line version order counts) ++ r ≡ line_bytes (first_line other size numbers) ++ s → SameStart version order counts other size numbers r s
same_start version order counts other size numbers r s four also e =
    let texts = append_cancel_left (codes "fmmcert") (numbers_text (pos version ∷ pos order ∷ counts) ++ r) (numbers_text (pos other ∷ pos size ∷ numbers) ++ s) e in
    let same = numbers_text-once (pos version ∷ pos order ∷ counts) (pos other ∷ pos size ∷ numbers) r s (omega (arith, four, also)) texts in
    let behind = number_tail _ _ _ _ same.0 in
    record {
      versions = same_natural version other (number_head _ _ _ _ same.0);
      orders = same_natural order size (number_head _ _ _ _ behind);
      counts_are = number_tail _ _ _ _ behind;
      rests = same.1;
    }

-- heads that agree in all numbers
pub same_head : (h other : Head) → h.version ≡ other.version → h.order ≡ other.order → head_counts h ≡ head_counts other → h ≡ other
same_head h other versions orders counts =
    let behind = number_tail _ _ _ _ counts in
    let last = number_tail _ _ _ _ behind in
    let points = same_natural h.points other.points (number_head _ _ _ _ counts) in
    let targets = same_natural h.targets other.targets (number_head _ _ _ _ behind) in
    let cells = same_natural h.cells other.cells (number_head _ _ _ _ last) in
    let entries = same_natural h.entries other.entries (number_head _ _ _ _ (number_tail _ _ _ _ last)) in
    λ i. record { version = versions i; order = orders i; points = points i; targets = targets i; cells = cells i; entries = entries i }
