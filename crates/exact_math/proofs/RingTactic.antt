-- `ring` as a call: the two sides of an equation are read by `search`, and their normal forms are compared.
--     ring2 R a b (λ a b. search quotes depth 9) tt : x ≡ y      for x and y built from a and b by R's operations
-- The variables may be any terms. In a named ring its own set is listed: `int_quotes` for the integers.
use mathlib.Core.Path.{◌≡◌, refl, sym, ap, ◌∙◌}
use mathlib.Core.List.{List, [], ◌∷◌}
use Prim.Native.Nat.{ℕ}
use lib.IntN.{ℤ, pos, negsuc}
use Rattle.exact_math.proofs.Ring.{CommutativeRing, int_ring}
use Rattle.exact_math.proofs.RingSolver.{Expr, var, lit, plus, minus, times, negate, ring, Same, count, denote}

module _ (R : CommutativeRing) (env : List R.carrier) where
  -- x as an expression over env
  pub record Quoted (x : R.carrier) : Type 0 where
    pub expr : Expr
    pub is : denote R env expr ≡ x

  -- both sides of an equation as expressions over env
  pub record Sides (x y : R.carrier) : Type 0 where
    pub left : Expr
    pub right : Expr
    pub left_is : denote R env left ≡ x
    pub right_is : denote R env right ≡ y

  abbrev pub quote_sides : (x y : R.carrier) → Quoted x → Quoted y → Sides x y
  quote_sides x y p q = record { left = p.expr; right = q.expr; left_is = p.is; right_is = q.is }

  -- equal where the normal forms of both readings are one
  pub ring_by : {x y : R.carrier} (s : Sides x y) → Same (count env) s.left s.right → x ≡ y
  ring_by s c = sym s.left_is ∙ ring R env s.left s.right c ∙ s.right_is

  abbrev pub quote_add : (a b : R.carrier) → Quoted a → Quoted b → Quoted (R.add a b)
  quote_add a b p q = record { expr = plus p.expr q.expr; is = λ i. R.add (p.is i) (q.is i) }

  abbrev pub quote_sub : (a b : R.carrier) → Quoted a → Quoted b → Quoted (R.add a (R.neg b))
  quote_sub a b p q = record { expr = minus p.expr q.expr; is = λ i. R.add (p.is i) (R.neg (q.is i)) }

  abbrev pub quote_mul : (a b : R.carrier) → Quoted a → Quoted b → Quoted (R.mul a b)
  quote_mul a b p q = record { expr = times p.expr q.expr; is = λ i. R.mul (p.is i) (q.is i) }

  abbrev pub quote_neg : (a : R.carrier) → Quoted a → Quoted (R.neg a)
  quote_neg a p = record { expr = negate p.expr; is = λ i. R.neg (p.is i) }

  abbrev pub quote_int : (k : ℤ) → Quoted (R.of_int k)
  quote_int k = record { expr = lit k; is = refl }

  abbrev pub variable : (i : ℕ) → Quoted (denote R env (var i))
  variable i = record { expr = var i; is = refl }

abbrev pub quote_pos : (env : List ℤ) (n : ℕ) → Quoted int_ring env (pos n)
quote_pos env n = record { expr = lit (pos n); is = refl }

abbrev pub quote_negsuc : (env : List ℤ) (n : ℕ) → Quoted int_ring env (negsuc n)
quote_negsuc env n = record { expr = lit (negsuc n); is = refl }

-- x - y is c times p - q, where p and q are equal. The last argument is one more call of `ring`
module _ (R : CommutativeRing) where
  cancel_right : (x y z : R.carrier) → R.add x z ≡ R.add y z → x ≡ y
  cancel_right x y z e = sym (back x) ∙ ap (λ w. R.add w (R.neg z)) e ∙ back y
    where
      back : (x : R.carrier) → R.add (R.add x z) (R.neg z) ≡ x
      back x = R.add_assoc x z (R.neg z) ∙ ap (R.add x) (R.add_neg z) ∙ R.add_zero x

  -- x = y from p = q, where x - y = c (p - q)
  pub combine : (c : R.carrier) {p q x y : R.carrier} → p ≡ q → R.add x (R.mul c q) ≡ R.add y (R.mul c p) → x ≡ y
  combine c {q} {x} {y} e h = cancel_right x y (R.mul c q) (h ∙ ap (λ w. R.add y (R.mul c w)) e)

pub ruleset quotes = (quote_sides, quote_add, quote_sub, quote_mul, quote_neg, quote_int)

pub ruleset int_quotes = (quote_sides, quote_add, quote_sub, quote_mul, quote_neg, quote_pos, quote_negsuc)

-- ---- `ring` in n letters: Reading is how a user's λ reads the two sides, and read gives it the letters
abbrev letters1 : {A : Type 0} → A → List A
letters1 a = a ∷ []

abbrev Reading1 : (R : CommutativeRing) (a x y : R.carrier) → Type 0
Reading1 R a x y = let env = letters1 a in Quoted R env a → Sides R env x y

abbrev read1 : (R : CommutativeRing) (a : R.carrier) {x y : R.carrier} → Reading1 R a x y → Sides R (letters1 a) x y
read1 R a quote = let env = letters1 a in quote (variable R env 0)

pub ring1 : (R : CommutativeRing) (a : R.carrier) {x y : R.carrier} (quote : Reading1 R a x y) → Same 1 (read1 R a quote).left (read1 R a quote).right → x ≡ y
ring1 R a quote same = ring_by R (letters1 a) (read1 R a quote) same

abbrev letters2 : {A : Type 0} → A → A → List A
letters2 a b = a ∷ b ∷ []

abbrev Reading2 : (R : CommutativeRing) (a b x y : R.carrier) → Type 0
Reading2 R a b x y = let env = letters2 a b in Quoted R env a → Quoted R env b → Sides R env x y

abbrev read2 : (R : CommutativeRing) (a b : R.carrier) {x y : R.carrier} → Reading2 R a b x y → Sides R (letters2 a b) x y
read2 R a b quote = let env = letters2 a b in quote (variable R env 0) (variable R env 1)

pub ring2 : (R : CommutativeRing) (a b : R.carrier) {x y : R.carrier} (quote : Reading2 R a b x y) → Same 2 (read2 R a b quote).left (read2 R a b quote).right → x ≡ y
ring2 R a b quote same = ring_by R (letters2 a b) (read2 R a b quote) same

abbrev letters3 : {A : Type 0} → A → A → A → List A
letters3 a b c = a ∷ b ∷ c ∷ []

abbrev Reading3 : (R : CommutativeRing) (a b c x y : R.carrier) → Type 0
Reading3 R a b c x y = let env = letters3 a b c in Quoted R env a → Quoted R env b → Quoted R env c → Sides R env x y

abbrev read3 : (R : CommutativeRing) (a b c : R.carrier) {x y : R.carrier} → Reading3 R a b c x y → Sides R (letters3 a b c) x y
read3 R a b c quote = let env = letters3 a b c in quote (variable R env 0) (variable R env 1) (variable R env 2)

pub ring3 : (R : CommutativeRing) (a b c : R.carrier) {x y : R.carrier} (quote : Reading3 R a b c x y) → Same 3 (read3 R a b c quote).left (read3 R a b c quote).right → x ≡ y
ring3 R a b c quote same = ring_by R (letters3 a b c) (read3 R a b c quote) same

abbrev letters4 : {A : Type 0} → A → A → A → A → List A
letters4 a b c d = a ∷ b ∷ c ∷ d ∷ []

abbrev Reading4 : (R : CommutativeRing) (a b c d x y : R.carrier) → Type 0
Reading4 R a b c d x y = let env = letters4 a b c d in Quoted R env a → Quoted R env b → Quoted R env c → Quoted R env d → Sides R env x y

abbrev read4 : (R : CommutativeRing) (a b c d : R.carrier) {x y : R.carrier} → Reading4 R a b c d x y → Sides R (letters4 a b c d) x y
read4 R a b c d quote = let env = letters4 a b c d in quote (variable R env 0) (variable R env 1) (variable R env 2) (variable R env 3)

pub ring4 : (R : CommutativeRing) (a b c d : R.carrier) {x y : R.carrier} (quote : Reading4 R a b c d x y) → Same 4 (read4 R a b c d quote).left (read4 R a b c d quote).right → x ≡ y
ring4 R a b c d quote same = ring_by R (letters4 a b c d) (read4 R a b c d quote) same

abbrev letters5 : {A : Type 0} → A → A → A → A → A → List A
letters5 a b c d e = a ∷ b ∷ c ∷ d ∷ e ∷ []

abbrev Reading5 : (R : CommutativeRing) (a b c d e x y : R.carrier) → Type 0
Reading5 R a b c d e x y = let env = letters5 a b c d e in Quoted R env a → Quoted R env b → Quoted R env c → Quoted R env d → Quoted R env e → Sides R env x y

abbrev read5 : (R : CommutativeRing) (a b c d e : R.carrier) {x y : R.carrier} → Reading5 R a b c d e x y → Sides R (letters5 a b c d e) x y
read5 R a b c d e quote = let env = letters5 a b c d e in quote (variable R env 0) (variable R env 1) (variable R env 2) (variable R env 3) (variable R env 4)

pub ring5 : (R : CommutativeRing) (a b c d e : R.carrier) {x y : R.carrier} (quote : Reading5 R a b c d e x y) → Same 5 (read5 R a b c d e quote).left (read5 R a b c d e quote).right → x ≡ y
ring5 R a b c d e quote same = ring_by R (letters5 a b c d e) (read5 R a b c d e quote) same

abbrev letters6 : {A : Type 0} → A → A → A → A → A → A → List A
letters6 a b c d e f = a ∷ b ∷ c ∷ d ∷ e ∷ f ∷ []

abbrev Reading6 : (R : CommutativeRing) (a b c d e f x y : R.carrier) → Type 0
Reading6 R a b c d e f x y = let env = letters6 a b c d e f in Quoted R env a → Quoted R env b → Quoted R env c → Quoted R env d → Quoted R env e → Quoted R env f → Sides R env x y

abbrev read6 : (R : CommutativeRing) (a b c d e f : R.carrier) {x y : R.carrier} → Reading6 R a b c d e f x y → Sides R (letters6 a b c d e f) x y
read6 R a b c d e f quote = let env = letters6 a b c d e f in quote (variable R env 0) (variable R env 1) (variable R env 2) (variable R env 3) (variable R env 4) (variable R env 5)

pub ring6 : (R : CommutativeRing) (a b c d e f : R.carrier) {x y : R.carrier} (quote : Reading6 R a b c d e f x y) → Same 6 (read6 R a b c d e f quote).left (read6 R a b c d e f quote).right → x ≡ y
ring6 R a b c d e f quote same = ring_by R (letters6 a b c d e f) (read6 R a b c d e f quote) same

abbrev letters7 : {A : Type 0} → A → A → A → A → A → A → A → List A
letters7 a b c d e f g = a ∷ b ∷ c ∷ d ∷ e ∷ f ∷ g ∷ []

abbrev Reading7 : (R : CommutativeRing) (a b c d e f g x y : R.carrier) → Type 0
Reading7 R a b c d e f g x y = let env = letters7 a b c d e f g in Quoted R env a → Quoted R env b → Quoted R env c → Quoted R env d → Quoted R env e → Quoted R env f → Quoted R env g → Sides R env x y

abbrev read7 : (R : CommutativeRing) (a b c d e f g : R.carrier) {x y : R.carrier} → Reading7 R a b c d e f g x y → Sides R (letters7 a b c d e f g) x y
read7 R a b c d e f g quote = let env = letters7 a b c d e f g in quote (variable R env 0) (variable R env 1) (variable R env 2) (variable R env 3) (variable R env 4) (variable R env 5) (variable R env 6)

pub ring7 : (R : CommutativeRing) (a b c d e f g : R.carrier) {x y : R.carrier} (quote : Reading7 R a b c d e f g x y) → Same 7 (read7 R a b c d e f g quote).left (read7 R a b c d e f g quote).right → x ≡ y
ring7 R a b c d e f g quote same = ring_by R (letters7 a b c d e f g) (read7 R a b c d e f g quote) same

abbrev letters8 : {A : Type 0} → A → A → A → A → A → A → A → A → List A
letters8 a b c d e f g h = a ∷ b ∷ c ∷ d ∷ e ∷ f ∷ g ∷ h ∷ []

abbrev Reading8 : (R : CommutativeRing) (a b c d e f g h x y : R.carrier) → Type 0
Reading8 R a b c d e f g h x y = let env = letters8 a b c d e f g h in Quoted R env a → Quoted R env b → Quoted R env c → Quoted R env d → Quoted R env e → Quoted R env f → Quoted R env g → Quoted R env h → Sides R env x y

abbrev read8 : (R : CommutativeRing) (a b c d e f g h : R.carrier) {x y : R.carrier} → Reading8 R a b c d e f g h x y → Sides R (letters8 a b c d e f g h) x y
read8 R a b c d e f g h quote = let env = letters8 a b c d e f g h in quote (variable R env 0) (variable R env 1) (variable R env 2) (variable R env 3) (variable R env 4) (variable R env 5) (variable R env 6) (variable R env 7)

pub ring8 : (R : CommutativeRing) (a b c d e f g h : R.carrier) {x y : R.carrier} (quote : Reading8 R a b c d e f g h x y) → Same 8 (read8 R a b c d e f g h quote).left (read8 R a b c d e f g h quote).right → x ≡ y
ring8 R a b c d e f g h quote same = ring_by R (letters8 a b c d e f g h) (read8 R a b c d e f g h quote) same

abbrev letters9 : {A : Type 0} → A → A → A → A → A → A → A → A → A → List A
letters9 a b c d e f g h k = a ∷ b ∷ c ∷ d ∷ e ∷ f ∷ g ∷ h ∷ k ∷ []

abbrev Reading9 : (R : CommutativeRing) (a b c d e f g h k x y : R.carrier) → Type 0
Reading9 R a b c d e f g h k x y = let env = letters9 a b c d e f g h k in Quoted R env a → Quoted R env b → Quoted R env c → Quoted R env d → Quoted R env e → Quoted R env f → Quoted R env g → Quoted R env h → Quoted R env k → Sides R env x y

abbrev read9 : (R : CommutativeRing) (a b c d e f g h k : R.carrier) {x y : R.carrier} → Reading9 R a b c d e f g h k x y → Sides R (letters9 a b c d e f g h k) x y
read9 R a b c d e f g h k quote = let env = letters9 a b c d e f g h k in quote (variable R env 0) (variable R env 1) (variable R env 2) (variable R env 3) (variable R env 4) (variable R env 5) (variable R env 6) (variable R env 7) (variable R env 8)

pub ring9 : (R : CommutativeRing) (a b c d e f g h k : R.carrier) {x y : R.carrier} (quote : Reading9 R a b c d e f g h k x y) → Same 9 (read9 R a b c d e f g h k quote).left (read9 R a b c d e f g h k quote).right → x ≡ y
ring9 R a b c d e f g h k quote same = ring_by R (letters9 a b c d e f g h k) (read9 R a b c d e f g h k quote) same

abbrev letters10 : {A : Type 0} → A → A → A → A → A → A → A → A → A → A → List A
letters10 a b c d e f g h k l = a ∷ b ∷ c ∷ d ∷ e ∷ f ∷ g ∷ h ∷ k ∷ l ∷ []

abbrev Reading10 : (R : CommutativeRing) (a b c d e f g h k l x y : R.carrier) → Type 0
Reading10 R a b c d e f g h k l x y = let env = letters10 a b c d e f g h k l in Quoted R env a → Quoted R env b → Quoted R env c → Quoted R env d → Quoted R env e → Quoted R env f → Quoted R env g → Quoted R env h → Quoted R env k → Quoted R env l → Sides R env x y

abbrev read10 : (R : CommutativeRing) (a b c d e f g h k l : R.carrier) {x y : R.carrier} → Reading10 R a b c d e f g h k l x y → Sides R (letters10 a b c d e f g h k l) x y
read10 R a b c d e f g h k l quote = let env = letters10 a b c d e f g h k l in quote (variable R env 0) (variable R env 1) (variable R env 2) (variable R env 3) (variable R env 4) (variable R env 5) (variable R env 6) (variable R env 7) (variable R env 8) (variable R env 9)

pub ring10 : (R : CommutativeRing) (a b c d e f g h k l : R.carrier) {x y : R.carrier} (quote : Reading10 R a b c d e f g h k l x y) → Same 10 (read10 R a b c d e f g h k l quote).left (read10 R a b c d e f g h k l quote).right → x ≡ y
ring10 R a b c d e f g h k l quote same = ring_by R (letters10 a b c d e f g h k l) (read10 R a b c d e f g h k l quote) same
