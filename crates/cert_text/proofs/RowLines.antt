-- The lines of rows.
use Rattle.std.proofs.Common.{ℕ, suc, ◌≡◌, ◌*◌, ◌<◌, ℤ, List, [], ◌∷◌, length, map, refl, sym, ap, ◌∙◌, subst, arith, inl, inr}
use Rattle.std.proofs.lemmas.List.{length-map}
use Rattle.exact_math.specs.Orders.{IsOrder}
use Rattle.number_text.specs.Numbers.{cut_wide}
use Rattle.cert_text.specs.declared.section.Section.{Section}
use Rattle.cert_text.specs.declared.section.Section.TheVariants.{Node, At, Multipole, Entry, Local, Target, End}
use Rattle.cert_text.specs.Inside.{kept_multipole, kept_local}
use Rattle.cert_text.specs.Lines.{Line, line, Head}
use Rattle.cert_text.specs.Sections.{IsHead, HasWord, IsFormOf}
use Rattle.cert_text.specs.Storage.{IsLineRead}

word_same : (word : List ℕ) (count : ℕ) (l k : Line) → k.word ≡ l.word → length k.numbers ≡ length l.numbers → HasWord word count l → HasWord word count k
word_same word count l k same long h = record { word_is = same ∙ h.word_is; count_is = long ∙ h.count_is }

-- a form is one of the word and of how many numbers there are
pub form_same : (h : Head) (section : Section) (l k : Line) → k.word ≡ l.word → length k.numbers ≡ length l.numbers → IsFormOf h section l → IsFormOf h section k
form_same h Node l k same long f = word_same _ _ l k same long f
form_same h At l k same long f = word_same _ _ l k same long f
form_same h Multipole l k same long (inl f) = inl (word_same _ _ l k same long f)
form_same h Multipole l k same long (inr f) = inr (word_same _ _ l k same long f)
form_same h Entry l k same long f = (f.0, word_same _ _ l k same long f.1)
form_same h Local l k same long (inl f) = inl (word_same _ _ l k same long f)
form_same h Local l k same long (inr f) = inr (word_same _ _ l k same long f)
form_same h Target l k same long f = word_same _ _ l k same long f
form_same h End l k same long f = word_same _ _ l k same long f

pub read_length : (h : Head) (section : Section) (word : List ℕ) (numbers : List ℤ) (l : Line) → IsLineRead h section word numbers l → length numbers ≡ length l.numbers
read_length h section word numbers l read = ap length read.numbers_are ∙ length-map l.numbers cut_wide

order_some : (order : ℕ) → IsOrder order → 0 < order
order_some order is = grind arith

pub head_order : (h : Head) → IsHead h → 0 < h.order
head_order h is = order_some h.order is.order.is_order

pub multipole_numbers : (zs : List ℤ) → (kept_multipole zs).numbers ≡ zs
multipole_numbers [] = refl
multipole_numbers (z ∷ zs) = refl

pub local_numbers : (zs : List ℤ) → (kept_local zs).numbers ≡ zs
local_numbers [] = refl
local_numbers (z ∷ zs) = refl

-- the word tells whether there are numbers
pub multipole_word : (h : Head) (zs : List ℤ) (l : Line) → 0 < h.order → length zs ≡ length l.numbers → IsFormOf h Multipole l → (kept_multipole zs).word ≡ l.word
multipole_word h [] l some long (inl f) = sym f.word_is
multipole_word h [] l some long (inr f) = absurd (omega (arith, some, long, f.count_is))
multipole_word h (z ∷ zs) l some long (inl f) = absurd (omega (arith, long, f.count_is))
multipole_word h (z ∷ zs) l some long (inr f) = sym f.word_is

pub local_word : (h : Head) (zs : List ℤ) (l : Line) → length zs ≡ length l.numbers → IsFormOf h Local l → (kept_local zs).word ≡ l.word
local_word h [] l long (inl f) = sym f.word_is
local_word h [] l long (inr f) = absurd (omega (arith, long, f.count_is))
local_word h (z ∷ zs) l long (inl f) = absurd (omega (arith, long, f.count_is))
local_word h (z ∷ zs) l long (inr f) = sym f.word_is
