-- Two chains of cells, one down to level `m` and one down to level `n`, and a relation `T` that passes from two levels to those above.
-- Going down both chains, and down the longer one alone once the other has ended, `T` stops at one level or never.
use Rattle.std.proofs.Common.{ℕ, ◌≡◌, ◌+◌, ◌-◌, ◌<◌, ◌≤◌, suc, min, max, ◌⊎◌, inl, inr, refl, sym, ◌∙◌, ap, subst, arith}
use Rattle.std.proofs.lemmas.Bool.{cases_lt}
use Rattle.cell_name.proofs.Levels.{above_le, StopsAt, stop_exists, stop_unique}
use Rattle.cell_lists.specs.Cases.{IsCase, Both, letter_at}
use Rattle.letters.specs.declared.Letter.{Letter}
use Rattle.letters.specs.declared.Letter.TheVariants.{U, V, W, X}

-- what is known of `T`: it passes to the level above on either side, and is decided
pub record PassesUp (T : ℕ → ℕ → Type 0) : Type 0 where
  pub first : (k l : ℕ) → T (suc k) l → T k l
  pub second : (k l : ℕ) → T k (suc l) → T k l
  pub decided : (k l : ℕ) → T k l ⊎ (T k l → ⊥)

at_equal : (T : ℕ → ℕ → Type 0) (k k' l l' : ℕ) → k ≡ k' → l ≡ l' → T k l → T k' l'
at_equal T k k' l l' p q h = let P : ℕ → Type 0 = λ a. T a l' in let Q : ℕ → Type 0 = λ b. T k b in subst P p (subst Q q h)

Both-up : (T : ℕ → ℕ → Type 0) → PassesUp T → (m n t : ℕ) → Both T m n (suc t) → Both T m n t
Both-up T up m n t h =
    elim (cases_lt t m) [
      | inl t_m ↦
          elim (cases_lt t n) [
            | inl t_n ↦ at_equal T t (min t m) t (min t n) (omega arith) (omega arith) (up.first t t (up.second (suc t) t (at_equal T (min (suc t) m) (suc t) (min (suc t) n) (suc t) (omega arith) (omega arith) h)))
            | inr n_t ↦ at_equal T t (min t m) n (min t n) (omega arith) (omega arith) (up.first t n (at_equal T (min (suc t) m) (suc t) (min (suc t) n) n (omega arith) (omega arith) h))
          ]
      | inr m_t ↦
          elim (cases_lt t n) [
            | inl t_n ↦ at_equal T m (min t m) t (min t n) (omega arith) (omega arith) (up.second m t (at_equal T (min (suc t) m) m (min (suc t) n) (suc t) (omega arith) (omega arith) h))
            | inr n_t ↦ at_equal T (min (suc t) m) (min t m) (min (suc t) n) (min t n) (omega arith) (omega arith) h
          ]
    ]

-- a case is where the descent stops, and the level at which it stops tells the case
pub record IsStop (T : ℕ → ℕ → Type 0) (m n : ℕ) (letter : Letter) (k l t : ℕ) : Type 0 where
  pub stops : StopsAt (Both T m n) (max m n) t
  pub first_level : k ≡ min t m
  pub second_level : l ≡ min t n
  pub letter_is : letter ≡ letter_at m n t

Both-above : (T : ℕ → ℕ → Type 0) → PassesUp T → (m n t u : ℕ) → t ≤ u → Both T m n u → Both T m n t
Both-above T up m n t u le h = above_le (Both T m n) (Both-up T up m n) t u le h

letter_u : (m n t : ℕ) → m < t → n < t → U ≡ letter_at m n t
letter_u m n t p q = grind arith

letter_v : (m n t : ℕ) → t ≤ m → t ≤ n → V ≡ letter_at m n t
letter_v m n t p q = grind arith

letter_w : (m n t : ℕ) → m < t → t ≤ n → W ≡ letter_at m n t
letter_w m n t p q = grind arith

letter_x : (m n t : ℕ) → t ≤ m → n < t → X ≡ letter_at m n t
letter_x m n t p q = grind arith

-- the descent stops at a level `t` before the end, where `T` fails
stop_here : (T : ℕ → ℕ → Type 0) → PassesUp T → (m n : ℕ) (letter : Letter) (k l t : ℕ) → t ≤ max m n → k ≡ min t m → l ≡ min t n → letter ≡ letter_at m n t → ((u : ℕ) → u < t → Both T m n u) → (T k l → ⊥) → (t : ℕ) × IsStop T m n letter k l t
stop_here T up m n letter k l t le p q e before fails = (
  t,
  record {
    stops = record {
      at_most = omega arith;
      holds_above = before;
      not_here = λ _ here. fails (at_equal T (min t m) k (min t n) l (sym p) (sym q) here);
    };
    first_level = p;
    second_level = q;
    letter_is = e;
  },
)

pub stop_of : (T : ℕ → ℕ → Type 0) → PassesUp T → (m n : ℕ) (letter : Letter) (k l : ℕ) → IsCase T m n letter k l → (t : ℕ) × IsStop T m n letter k l t
stop_of T up m n U k l h = (
  max m n + 1,
  record {
    stops = record {
      at_most = omega arith;
      holds_above = λ t lt. Both-above T up m n t (max m n) (omega arith) (at_equal T k (min (max m n) m) l (min (max m n) n) (omega (arith, h.first_ends)) (omega (arith, h.second_ends)) h.holds);
      not_here = λ le. absurd (omega arith);
    };
    first_level = omega (arith, h.first_ends);
    second_level = omega (arith, h.second_ends);
    letter_is = letter_u m n (max m n + 1) (omega arith) (omega arith);
  },
)
stop_of T up m n V k l h =
    stop_here T up m n V k l k (omega (arith, h.in_first)) (omega (arith, h.in_first)) (omega (arith, h.in_second, h.same)) (letter_v m n k h.in_first (omega (arith, h.in_second, h.same)))
    (λ u lt. Both-above T up m n u (k - 1) (omega arith) (at_equal T (k - 1) (min (k - 1) m) (l - 1) (min (k - 1) n) (omega (arith, h.in_first)) (omega (arith, h.in_second, h.same)) h.holds_above))
    h.fails
stop_of T up m n W k l h =
    stop_here T up m n W k l l (omega (arith, h.in_second)) (omega (arith, h.first_ends, h.deeper)) (omega (arith, h.in_second)) (letter_w m n l (omega (arith, h.first_ends, h.deeper)) h.in_second)
    (λ u lt. Both-above T up m n u (l - 1) (omega arith) (at_equal T k (min (l - 1) m) (l - 1) (min (l - 1) n) (omega (arith, h.first_ends, h.deeper)) (omega (arith, h.in_second)) h.holds_above))
    h.fails
stop_of T up m n X k l h =
    stop_here T up m n X k l k (omega (arith, h.in_second)) (omega (arith, h.in_second)) (omega (arith, h.first_ends, h.deeper)) (letter_x m n k h.in_second (omega (arith, h.first_ends, h.deeper)))
    (λ u lt. Both-above T up m n u (k - 1) (omega arith) (at_equal T (k - 1) (min (k - 1) m) l (min (k - 1) n) (omega (arith, h.in_second)) (omega (arith, h.first_ends, h.deeper)) h.holds_above))
    h.fails

pub case_along : (T : ℕ → ℕ → Type 0) (m n : ℕ) (letter letter' : Letter) (k k' l l' : ℕ) → letter ≡ letter' → k ≡ k' → l ≡ l' → IsCase T m n letter k l → IsCase T m n letter' k' l'
case_along T m n letter letter' k k' l l' e p q h =
    let A : Letter → Type 0 = λ v. IsCase T m n v k' l' in
    let B : ℕ → Type 0 = λ v. IsCase T m n letter v l' in
    let C : ℕ → Type 0 = λ v. IsCase T m n letter k v in
    subst A e (subst B p (subst C q h))

-- ---- exactly one case

pub record IsSameCase (letter letter' : Letter) (k l k' l' : ℕ) : Type 0 where
  pub same_letter : letter ≡ letter'
  pub same_first : k ≡ k'
  pub same_second : l ≡ l'

pub case_unique : (T : ℕ → ℕ → Type 0) → PassesUp T → (m n : ℕ) (letter letter' : Letter) (k l k' l' : ℕ) → IsCase T m n letter k l → IsCase T m n letter' k' l' → IsSameCase letter letter' k l k' l'
case_unique T up m n letter letter' k l k' l' p q =
    let a = stop_of T up m n letter k l p in
    let b = stop_of T up m n letter' k' l' q in
    let e : a.0 ≡ b.0 = stop_unique (Both T m n) (max m n) a.0 b.0 a.1.stops b.1.stops in
    record {
      same_letter = a.1.letter_is ∙ ap (letter_at m n) e ∙ sym b.1.letter_is;
      same_first = a.1.first_level ∙ ap (λ t. min t m) e ∙ sym b.1.first_level;
      same_second = a.1.second_level ∙ ap (λ t. min t n) e ∙ sym b.1.second_level;
    }

pub case_exists : (T : ℕ → ℕ → Type 0) → PassesUp T → T 0 0 → (m n : ℕ) → (letter : Letter) × (k : ℕ) × (l : ℕ) × IsCase T m n letter k l
case_exists T up begin m n =
    case_at (stop_exists (Both T m n) (Both-up T up m n) (both_begin 0 refl) (λ t. up.decided (min t m) (min t n)) (max m n))
  where
    both_begin : (t : ℕ) → t ≡ 0 → Both T m n t
    both_begin t e = at_equal T 0 (min t m) 0 (min t n) (omega arith) (omega arith) begin

    case_at : (t : ℕ) × StopsAt (Both T m n) (max m n) t → (letter : Letter) × (k : ℕ) × (l : ℕ) × IsCase T m n letter k l
    case_at (t, stop) =
        elim (cases_lt m t) [
          | inl m_t ↦
              elim (cases_lt n t) [
                | inl n_t ↦ (U, m, n, record { first_ends = refl; second_ends = refl; holds = at_equal T (min (max m n) m) m (min (max m n) n) n (omega arith) (omega arith) (stop.holds_above (max m n) (omega arith)) })
                | inr t_n ↦ (
                  W,
                  m,
                  t,
                  record {
                    first_ends = refl;
                    deeper = m_t;
                    in_second = t_n;
                    holds_above = at_equal T (min (t - 1) m) m (min (t - 1) n) (t - 1) (omega arith) (omega arith) (stop.holds_above (t - 1) (omega arith));
                    fails = λ h. stop.not_here (omega arith) (at_equal T m (min t m) t (min t n) (omega arith) (omega arith) h);
                  },
                )
              ]
          | inr t_m ↦
              elim (cases_lt n t) [
                | inl n_t ↦ (
                  X,
                  t,
                  n,
                  record {
                    first_ends = refl;
                    deeper = n_t;
                    in_second = t_m;
                    holds_above = at_equal T (min (t - 1) m) (t - 1) (min (t - 1) n) n (omega arith) (omega arith) (stop.holds_above (t - 1) (omega arith));
                    fails = λ h. stop.not_here (omega arith) (at_equal T t (min t m) n (min t n) (omega arith) (omega arith) h);
                  },
                )
                | inr t_n ↦
                    let positive : 0 < t = elim (cases_lt 0 t) [ inl lt ↦ lt | inr zero_t ↦ absurd (stop.not_here (omega arith) (both_begin t (omega arith))) ] in (
                      V,
                      t,
                      t,
                      record {
                        same = refl;
                        below = positive;
                        in_first = t_m;
                        in_second = t_n;
                        holds_above = at_equal T (min (t - 1) m) (t - 1) (min (t - 1) n) (t - 1) (omega arith) (omega arith) (stop.holds_above (t - 1) (omega arith));
                        fails = λ h. stop.not_here (omega arith) (at_equal T t (min t m) t (min t n) (omega arith) (omega arith) h);
                      },
                    )
              ]
        ]

-- ---- the two ends of a descent that a program makes

-- the descent touches at the level above `t`, and not at `t`
pub case_at_stop : (T : ℕ → ℕ → Type 0) (m n t : ℕ) → 0 < t → t ≤ max m n → Both T m n (t - 1) → (Both T m n t → ⊥) → IsCase T m n (letter_at m n t) (min t m) (min t n)
case_at_stop T m n t positive le before fails =
    elim (cases_lt m t) [
      | inl m_t ↦
          let t_n : t ≤ n = omega arith in
          case_along T m n W (letter_at m n t) m (min t m) t (min t n) (letter_w m n t m_t t_n) (omega arith) (omega arith) (record {
            first_ends = refl;
            deeper = m_t;
            in_second = t_n;
            holds_above = at_equal T (min (t - 1) m) m (min (t - 1) n) (t - 1) (omega arith) (omega arith) before;
            fails = λ h. fails (at_equal T m (min t m) t (min t n) (omega arith) (omega arith) h);
          })
      | inr t_m ↦
          elim (cases_lt n t) [
            | inl n_t ↦
                case_along T m n X (letter_at m n t) t (min t m) n (min t n) (letter_x m n t t_m n_t) (omega arith) (omega arith) (record {
                  first_ends = refl;
                  deeper = n_t;
                  in_second = t_m;
                  holds_above = at_equal T (min (t - 1) m) (t - 1) (min (t - 1) n) n (omega arith) (omega arith) before;
                  fails = λ h. fails (at_equal T t (min t m) n (min t n) (omega arith) (omega arith) h);
                })
            | inr t_n ↦
                case_along T m n V (letter_at m n t) t (min t m) t (min t n) (letter_v m n t t_m t_n) (omega arith) (omega arith) (record {
                  same = refl;
                  below = positive;
                  in_first = t_m;
                  in_second = t_n;
                  holds_above = at_equal T (min (t - 1) m) (t - 1) (min (t - 1) n) (t - 1) (omega arith) (omega arith) before;
                  fails = λ h. fails (at_equal T t (min t m) t (min t n) (omega arith) (omega arith) h);
                })
          ]
    ]

-- the descent touches to the end
pub case_at_end : (T : ℕ → ℕ → Type 0) (m n : ℕ) → Both T m n (max m n) → IsCase T m n U m n
case_at_end T m n h = record { first_ends = refl; second_ends = refl; holds = at_equal T (min (max m n) m) m (min (max m n) n) n (omega arith) (omega arith) h }
