-- Rows of boxes as the numbers of lines.
use Rattle.std.proofs.Common.{ℕ, zero, suc, ◌≡◌, ◌<◌, ◌≤◌, ◌+◌, ◌*◌, ◌^◌, ℤ, List, [], ◌∷◌, length, drop, get_or, refl, sym, ap, ap₂, ◌∙◌, subst, arith, inl, inr}
use Rattle.exact_math.specs.Ends.{Ends, BoxEnds, BoxEndsWithin}
use Rattle.exact_math.specs.Within.{Within}
use Rattle.fixed_interval.specs.Interval.{AreEnds}
use Rattle.complex_box.specs.declared.CBox.{CBox}
use Rattle.row_recursions.specs.Rows.{row_of}
use Rattle.limits.specs.Limits.{grid_of, most_given_local, most_given_multipole, most_given_target}
use Rattle.cert_text.specs.declared.section.Section.TheVariants.{Multipole, Local, Target}
use Rattle.cert_text.specs.Certificate.{nth_box, nth_number}
use Rattle.cert_text.specs.Lines.{Line, Head}
use Rattle.cert_text.specs.Rows.{numbers_of, AreBoxEnds, AreLocalNumbers, HasRowLength}
use Rattle.cert_text.specs.Sections.{IsHead, IsFormOf, AreInRange, AreOrderedEnds}
use Rattle.cert_text.specs.Storage.{IsLineRead}
use Rattle.cert_text.proofs.Cuts.{target_most}
use Rattle.cert_text.proofs.KeptLines.{wider, ends_at}
use Rattle.cert_text.proofs.RowLines.{read_length, head_order}
use Rattle.cert_text.proofs.StoredRows.{numbers_length}

-- ---- the numbers of lines are the ends of boxes
ends_are : (m : ℕ) (lo hi : ℤ) (zs : List ℤ) → m ≤ 2 ^ 126 → AreOrderedEnds m (lo ∷ hi ∷ zs) → AreEnds (record { lo = lo; hi = hi })
ends_are m lo hi zs le h = record { ordered = h.2; within = record { lo = wider m (2 ^ 126) lo le h.0; hi = wider m (2 ^ 126) hi le h.1 } }

pub four_ends : (m k : ℕ) (zs : List ℤ) → m ≤ 2 ^ 126 → length zs ≡ 4 * k → AreOrderedEnds m zs → AreBoxEnds zs
four_ends m k [] le e h = tt
four_ends m k (a ∷ []) le e h = absurd h
four_ends m zero (a ∷ b ∷ []) le e h = absurd (omega (arith, e))
four_ends m (suc k) (a ∷ b ∷ []) le e h = absurd (omega (arith, e))
four_ends m k (a ∷ b ∷ c ∷ []) le e h = absurd h.3
four_ends m zero (a ∷ b ∷ c ∷ d ∷ zs) le e h = absurd (omega (arith, e))
four_ends m (suc k) (a ∷ b ∷ c ∷ d ∷ zs) le e h =
    (ends_are m a b (c ∷ d ∷ zs) le h, ends_are m c d zs le h.3, four_ends m k zs le (omega (arith, e)) h.3.3)

module _ (h : Head) (word : List ℕ) (numbers : List ℤ) (l : Line) where
  multipole_fours : length numbers ≡ length l.numbers → IsFormOf h Multipole l → (k : ℕ) × (length numbers ≡ 4 * k)
  multipole_fours long (inl f) = (0, long ∙ f.count_is)
  multipole_fours long (inr f) = (h.order, long ∙ f.count_is)

  pub multipole_boxes : IsLineRead h Multipole word numbers l → AreOrderedEnds most_given_multipole numbers → AreBoxEnds numbers
  multipole_boxes read range =
      let fours = multipole_fours (read_length h Multipole word numbers l read) read.form in
      four_ends most_given_multipole fours.0 numbers (omega arith) fours.1 range

  pub target_boxes : IsLineRead h Target word numbers l → AreOrderedEnds (most_given_target (grid_of h.version)) numbers → AreBoxEnds numbers
  target_boxes read range =
      let long = read_length h Target word numbers l read ∙ read.form.count_is in
      four_ends (most_given_target (grid_of h.version)) 2 numbers (omega (arith, target_most h.version)) long range

local_fours : (h : Head) (n : ℕ) (zs : List ℤ) (l : Line) → 0 < h.order → length zs ≡ length l.numbers → IsFormOf h Local l → AreInRange h Local n zs → AreLocalNumbers zs
local_fours h n [] l some long form r = tt
local_fours h n (radius ∷ []) l some long (inl f) r = absurd (omega (arith, long, f.count_is))
local_fours h n (radius ∷ []) l some long (inr f) r = absurd (omega (arith, some, long, f.count_is))
local_fours h n (radius ∷ z ∷ zs) l some long (inl f) r = absurd (omega (arith, long, f.count_is))
local_fours h n (radius ∷ z ∷ zs) l some long (inr f) r = four_ends most_given_local h.order (z ∷ zs) (omega arith) (omega (arith, long, f.count_is)) r.1

pub local_boxes : (h : Head) (word : List ℕ) (numbers : List ℤ) (l : Line) (n : ℕ) → IsHead h → IsLineRead h Local word numbers l → AreInRange h Local n numbers → AreLocalNumbers numbers
local_boxes h word numbers l n is read range =
    local_fours h n numbers l (head_order h is) (read_length h Local word numbers l read) read.form range

-- ---- a row is the boxes of its numbers
abbrev two : ℤ → ℤ → Ends
two lo hi = record { lo = lo; hi = hi }

abbrev both : Ends → Ends → BoxEnds
both re im = record { re = re; im = im }

number_next : (a b c d : ℤ) (zs : List ℤ) (j i : ℕ) → suc (suc (suc (suc j))) ≡ i → nth_number zs j ≡ nth_number (a ∷ b ∷ c ∷ d ∷ zs) i
number_next a b c d zs j i e = ap (nth_number (a ∷ b ∷ c ∷ d ∷ zs)) e

box_next : (a b c d : ℤ) (zs : List ℤ) (k : ℕ) → nth_box zs k ≡ nth_box (a ∷ b ∷ c ∷ d ∷ zs) (suc k)
box_next a b c d zs k =
    let n = number_next a b c d zs in
    ap₂ both
    (ap₂ two (n (4 * k) (4 * suc k) (omega arith)) (n (4 * k + 1) (4 * suc k + 1) (omega arith)))
    (ap₂ two (n (4 * k + 2) (4 * suc k + 2) (omega arith)) (n (4 * k + 3) (4 * suc k + 3) (omega arith)))

pub row_is : (bs : List CBox) (k : ℕ) → row_of bs k ≡ nth_box (numbers_of bs) k
row_is [] k = refl
row_is (b ∷ bs) zero = refl
row_is (b ∷ bs) (suc k) = row_is bs k ∙ box_next b.re.lo b.re.hi b.im.lo b.im.hi (numbers_of bs) k

-- within the size of its numbers
pub box_within : (m : ℕ) (zs : List ℤ) (k : ℕ) → AreOrderedEnds m zs → BoxEndsWithin m (nth_box zs k)
box_within m zs k h =
    let re = ends_at m zs (2 * k) (4 * k) (omega arith) h in
    let im = ends_at m zs (2 * k + 1) (4 * k + 2) (omega arith) h in
    let W : ℕ → Type 0 = λ j. Within m (nth_number zs j) in
    let e : suc (4 * k) ≡ 4 * k + 1 = omega arith in
    let f : suc (4 * k + 2) ≡ 4 * k + 3 = omega arith in
    record { re = record { lo = re.low_end; hi = subst W e re.high_end }; im = record { lo = im.low_end; hi = subst W f im.high_end } }

-- ---- how long a row is

pub multipole_long : (h : Head) (l : Line) (row : List CBox) → l.numbers ≡ numbers_of row → IsFormOf h Multipole l → HasRowLength h.order row
multipole_long h l row same (inl f) = inl (omega (arith, f.count_is, ap (λ (zs : List ℤ). length zs) same, numbers_length row))
multipole_long h l row same (inr f) = inr (omega (arith, f.count_is, ap (λ (zs : List ℤ). length zs) same, numbers_length row))

behind_one : (zs : List ℤ) (n : ℕ) → length zs ≡ suc n → length (drop 1 zs) ≡ n
behind_one [] n e = absurd (omega (arith, e))
behind_one (z ∷ zs) n e = omega (arith, e)

behind_none : (zs : List ℤ) → length zs ≡ 0 → length (drop 1 zs) ≡ 0
behind_none [] e = refl
behind_none (z ∷ zs) e = absurd (omega (arith, e))

pub local_long : (h : Head) (l : Line) (row : List CBox) → drop 1 l.numbers ≡ numbers_of row → IsFormOf h Local l → HasRowLength h.order row
local_long h l row same (inl f) = inl (omega (arith, behind_none l.numbers f.count_is, ap (λ (zs : List ℤ). length zs) same, numbers_length row))
local_long h l row same (inr f) = inr (omega (arith, behind_one l.numbers (4 * h.order) f.count_is, ap (λ (zs : List ℤ). length zs) same, numbers_length row))

pub two_boxes : (row : List CBox) → length (numbers_of row) ≡ 8 → length row ≡ 2
two_boxes row e = omega (arith, e, numbers_length row)

-- the second of two boxes has the last four of eight numbers
pub second_box : (row : List CBox) (b : CBox) → length row ≡ 2 → b ≡ get_or row 1 b → drop 4 (numbers_of row) ≡ b.re.lo ∷ b.re.hi ∷ b.im.lo ∷ b.im.hi ∷ []
second_box [] b e is = absurd (omega (arith, e))
second_box (a ∷ []) b e is = absurd (omega (arith, e))
second_box (a ∷ x ∷ []) b e is = ap (λ (y : CBox). y.re.lo ∷ y.re.hi ∷ y.im.lo ∷ y.im.hi ∷ []) (sym is)
second_box (a ∷ x ∷ y ∷ row) b e is = absurd (omega (arith, e))
