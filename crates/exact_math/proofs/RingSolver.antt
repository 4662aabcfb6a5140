-- Equations between polynomials over any commutative ring, by normal forms.
use mathlib.Core.Path.{◌≡◌, refl, sym, ap, ap₂, ◌∙◌, subst}
use mathlib.Core.List.{List, [], ◌∷◌, map}
use mathlib.Core.Bool.{Bool, true, false}
use Prim.Native.Nat.{ℕ, zero, suc}
use lib.IntN.{ℤ, pos, negsuc, ◌+ℤ◌, ◌*ℤ◌}
use lib.Dec.{T}
use Rattle.exact_math.proofs.Ring.{CommutativeRing, pow}

-- ---- expressions
pub data Expr : Type 0 where
  var : ℕ → Expr
  lit : ℤ → Expr
  plus : Expr → Expr → Expr
  minus : Expr → Expr → Expr
  times : Expr → Expr → Expr
  negate : Expr → Expr
  power : Expr → ℕ → Expr

-- ---- polynomials in n variables, densely: the coefficients of the first variable's powers, lowest first
abbrev pub Polynomial : ℕ → Type 0
Polynomial zero = ℤ
Polynomial (suc n) = List (Polynomial n)

abbrev add_list : {A : Type 0} → (A → A → A) → List A → List A → List A
add_list f [] q = q
add_list f (a ∷ p) [] = a ∷ p
add_list f (a ∷ p) (b ∷ q) = f a b ∷ add_list f p q

abbrev mul_list : {A : Type 0} → A → (A → A → A) → (A → A → A) → List A → List A → List A
mul_list z f g [] q = []
mul_list z f g (a ∷ p) [] = []
mul_list z f g (a ∷ p) (b ∷ q) = add_list f (map (g a) (b ∷ q)) (z ∷ mul_list z f g p (b ∷ q))

abbrev all_list : {A : Type 0} → (A → Bool) → List A → Bool
all_list t [] = true
all_list t (a ∷ p) = elim (t a) [ true ↦ all_list t p | false ↦ false ]

abbrev constant : (n : ℕ) → ℤ → Polynomial n
constant zero k = k
constant (suc n) k = constant n k ∷ []

abbrev zero_poly : (n : ℕ) → Polynomial n
zero_poly zero = pos 0
zero_poly (suc n) = []

abbrev variable : (n : ℕ) → ℕ → Polynomial n
variable zero i = pos 0
variable (suc n) zero = zero_poly n ∷ constant n (pos 1) ∷ []
variable (suc n) (suc i) = variable n i ∷ []

abbrev add_poly : (n : ℕ) → Polynomial n → Polynomial n → Polynomial n
add_poly zero a b = a +ℤ b
add_poly (suc n) p q = add_list (add_poly n) p q

abbrev mul_poly : (n : ℕ) → Polynomial n → Polynomial n → Polynomial n
mul_poly zero a b = a *ℤ b
mul_poly (suc n) p q = mul_list (zero_poly n) (add_poly n) (mul_poly n) p q

abbrev pow_poly : (n : ℕ) → Polynomial n → ℕ → Polynomial n
pow_poly n p zero = constant n (pos 1)
pow_poly n p (suc k) = mul_poly n p (pow_poly n p k)

abbrev is_zero_int : ℤ → Bool
is_zero_int (pos zero) = true
is_zero_int (pos (suc n)) = false
is_zero_int (negsuc n) = false

abbrev is_zero : (n : ℕ) → Polynomial n → Bool
is_zero zero k = is_zero_int k
is_zero (suc n) p = all_list (is_zero n) p

-- the normal form of an expression in n variables
abbrev pub normalise : (n : ℕ) → Expr → Polynomial n
normalise n (var i) = variable n i
normalise n (lit k) = constant n k
normalise n (plus a b) = add_poly n (normalise n a) (normalise n b)
normalise n (minus a b) = add_poly n (normalise n a) (mul_poly n (constant n (negsuc 0)) (normalise n b))
normalise n (times a b) = mul_poly n (normalise n a) (normalise n b)
normalise n (negate a) = mul_poly n (constant n (negsuc 0)) (normalise n a)
normalise n (power a k) = pow_poly n (normalise n a) k

-- two expressions have one normal form
abbrev pub Same : ℕ → Expr → Expr → Type 0
Same n a b = T (is_zero n (normalise n (minus a b)))

-- the length of a list, which computes
abbrev pub count : {A : Type 0} → List A → ℕ
count [] = zero
count (x ∷ xs) = suc (count xs)

module _ (R : CommutativeRing) where
  zero_mul : (a : R.carrier) → R.mul a (R.of_int (pos 0)) ≡ R.of_int (pos 0)
  zero_mul a =
      let z = R.of_int (pos 0) in
      let x = R.mul a z in
      let double : R.add x x ≡ x = sym (R.mul_add a z z) ∙ ap (R.mul a) (R.add_zero z) in
      sym (R.add_zero x) ∙ ap (R.add x) (sym (R.add_neg x)) ∙ sym (R.add_assoc x x (R.neg x)) ∙ ap (λ y. R.add y (R.neg x)) double ∙ R.add_neg x

  zero_add : (a : R.carrier) → R.add (R.of_int (pos 0)) a ≡ a
  zero_add a = R.add_comm _ a ∙ R.add_zero a

  one_mul : (a : R.carrier) → R.mul (R.of_int (pos 1)) a ≡ a
  one_mul a = R.mul_comm _ a ∙ R.mul_one a

  add_left_comm : (a b c : R.carrier) → R.add a (R.add b c) ≡ R.add b (R.add a c)
  add_left_comm a b c = sym (R.add_assoc a b c) ∙ ap (λ y. R.add y c) (R.add_comm a b) ∙ R.add_assoc b a c

  mul_left_comm : (a b c : R.carrier) → R.mul a (R.mul b c) ≡ R.mul b (R.mul a c)
  mul_left_comm a b c = sym (R.mul_assoc a b c) ∙ ap (λ y. R.mul y c) (R.mul_comm a b) ∙ R.mul_assoc b a c

  add_mul : (a b c : R.carrier) → R.mul (R.add a b) c ≡ R.add (R.mul a c) (R.mul b c)
  add_mul a b c = R.mul_comm _ c ∙ R.mul_add c a b ∙ ap₂ R.add (R.mul_comm c a) (R.mul_comm c b)

  add_swap : (a b c d : R.carrier) → R.add (R.add a b) (R.add c d) ≡ R.add (R.add a c) (R.add b d)
  add_swap a b c d = R.add_assoc a b _ ∙ ap (R.add a) (add_left_comm b c d) ∙ sym (R.add_assoc a c _)

  neg_unique : (a b : R.carrier) → R.add a b ≡ R.of_int (pos 0) → b ≡ R.neg a
  neg_unique a b e = sym (zero_add b) ∙ ap (λ y. R.add y b) (sym (R.add_neg a) ∙ R.add_comm a (R.neg a)) ∙ R.add_assoc (R.neg a) a b ∙ ap (R.add (R.neg a)) e ∙ R.add_zero (R.neg a)

  neg_by_mul : (a : R.carrier) → R.mul (R.of_int (negsuc 0)) a ≡ R.neg a
  neg_by_mul a = neg_unique a _ (ap (λ y. R.add y (R.mul (R.of_int (negsuc 0)) a)) (sym (one_mul a)) ∙ sym (add_mul _ _ a) ∙ ap (λ y. R.mul y a) (sym (R.of_int-add (pos 1) (negsuc 0))) ∙ R.mul_comm _ a ∙ zero_mul a)

  -- ---- values
  abbrev pub nth : List R.carrier → ℕ → R.carrier
  nth [] i = R.of_int (pos 0)
  nth (x ∷ xs) zero = x
  nth (x ∷ xs) (suc i) = nth xs i

  -- the value of an expression
  abbrev pub denote : List R.carrier → Expr → R.carrier
  denote env (var i) = nth env i
  denote env (lit k) = R.of_int k
  denote env (plus a b) = R.add (denote env a) (denote env b)
  denote env (minus a b) = R.add (denote env a) (R.neg (denote env b))
  denote env (times a b) = R.mul (denote env a) (denote env b)
  denote env (negate a) = R.neg (denote env a)
  denote env (power a k) = pow R (denote env a) k

  abbrev horner : {A : Type 0} → R.carrier → (A → R.carrier) → List A → R.carrier
  horner x e [] = R.of_int (pos 0)
  horner x e (a ∷ p) = R.add (e a) (R.mul x (horner x e p))

  abbrev evaluate : (env : List R.carrier) → Polynomial (count env) → R.carrier
  evaluate [] k = R.of_int k
  evaluate (x ∷ env) p = horner x (evaluate env) p

  -- ---- what the operations on lists evaluate to
  horner-add : {A : Type 0} (x : R.carrier) (e : A → R.carrier) (f : A → A → A) → ((a b : A) → e (f a b) ≡ R.add (e a) (e b))
      → (p q : List A) → horner x e (add_list f p q) ≡ R.add (horner x e p) (horner x e q)
  horner-add x e f h [] q = sym (zero_add _)
  horner-add x e f h (a ∷ p) [] = sym (R.add_zero _)
  horner-add x e f h (a ∷ p) (b ∷ q) =
      ap₂ (λ u v. R.add u (R.mul x v)) (h a b) (horner-add x e f h p q)
      ∙ ap (R.add (R.add (e a) (e b))) (R.mul_add x _ _) ∙ add_swap (e a) (e b) _ _

  horner-scale : {A : Type 0} (x : R.carrier) (e : A → R.carrier) (g : A → A → A) → ((a b : A) → e (g a b) ≡ R.mul (e a) (e b))
      → (a : A) (q : List A) → horner x e (map (g a) q) ≡ R.mul (e a) (horner x e q)
  horner-scale x e g h a [] = sym (zero_mul (e a))
  horner-scale x e g h a (b ∷ q) =
      ap₂ (λ u v. R.add u (R.mul x v)) (h a b) (horner-scale x e g h a q)
      ∙ ap (R.add (R.mul (e a) (e b))) (mul_left_comm x (e a) _) ∙ sym (R.mul_add (e a) _ _)

  horner-mul : {A : Type 0} (x : R.carrier) (e : A → R.carrier) (z : A) (f g : A → A → A) → e z ≡ R.of_int (pos 0)
      → ((a b : A) → e (f a b) ≡ R.add (e a) (e b)) → ((a b : A) → e (g a b) ≡ R.mul (e a) (e b))
      → (p q : List A) → horner x e (mul_list z f g p q) ≡ R.mul (horner x e p) (horner x e q)
  horner-mul x e z f g hz hf hg [] q = sym (R.mul_comm _ _ ∙ zero_mul _)
  horner-mul x e z f g hz hf hg (a ∷ p) [] = sym (zero_mul _)
  horner-mul x e z f g hz hf hg (a ∷ p) (b ∷ q) =
      let r = horner x e (b ∷ q) in
      horner-add x e f hf (map (g a) (b ∷ q)) (z ∷ mul_list z f g p (b ∷ q))
      ∙ ap₂ R.add (horner-scale x e g hg a (b ∷ q))
      (ap₂ (λ u v. R.add u (R.mul x v)) hz (horner-mul x e z f g hz hf hg p (b ∷ q)) ∙ zero_add _ ∙ sym (R.mul_assoc x _ r))
      ∙ sym (add_mul (e a) _ r)

  -- ---- the same at each number of variables
  evaluate-zero : (env : List R.carrier) → evaluate env (zero_poly (count env)) ≡ R.of_int (pos 0)
  evaluate-zero [] = refl
  evaluate-zero (x ∷ env) = refl

  evaluate-constant : (env : List R.carrier) (k : ℤ) → evaluate env (constant (count env) k) ≡ R.of_int k
  evaluate-constant [] k = refl
  evaluate-constant (x ∷ env) k = ap₂ R.add (evaluate-constant env k) (zero_mul x) ∙ R.add_zero _

  evaluate-variable : (env : List R.carrier) (i : ℕ) → evaluate env (variable (count env) i) ≡ nth env i
  evaluate-variable [] i = refl
  evaluate-variable (x ∷ env) zero =
      ap₂ R.add (evaluate-zero env) (ap (R.mul x) (ap₂ R.add (evaluate-constant env (pos 1)) (zero_mul x) ∙ R.add_zero _) ∙ R.mul_one x) ∙ zero_add x
  evaluate-variable (x ∷ env) (suc i) = ap₂ R.add (evaluate-variable env i) (zero_mul x) ∙ R.add_zero _

  evaluate-add : (env : List R.carrier) (p q : Polynomial (count env)) → evaluate env (add_poly (count env) p q) ≡ R.add (evaluate env p) (evaluate env q)
  evaluate-add [] p q = R.of_int-add p q
  evaluate-add (x ∷ env) p q = horner-add x (evaluate env) (add_poly (count env)) (evaluate-add env) p q

  evaluate-mul : (env : List R.carrier) (p q : Polynomial (count env)) → evaluate env (mul_poly (count env) p q) ≡ R.mul (evaluate env p) (evaluate env q)
  evaluate-mul [] p q = R.of_int-mul p q
  evaluate-mul (x ∷ env) p q = horner-mul x (evaluate env) (zero_poly (count env)) (add_poly (count env)) (mul_poly (count env)) (evaluate-zero env) (evaluate-add env) (evaluate-mul env) p q

  evaluate-pow : (env : List R.carrier) (p : Polynomial (count env)) (k : ℕ) → evaluate env (pow_poly (count env) p k) ≡ pow R (evaluate env p) k
  evaluate-pow env p zero = evaluate-constant env (pos 1)
  evaluate-pow env p (suc k) = evaluate-mul env p (pow_poly (count env) p k) ∙ ap (R.mul (evaluate env p)) (evaluate-pow env p k)

  evaluate-neg : (env : List R.carrier) (p : Polynomial (count env)) → evaluate env (mul_poly (count env) (constant (count env) (negsuc 0)) p) ≡ R.neg (evaluate env p)
  evaluate-neg env p = evaluate-mul env _ p ∙ ap (λ y. R.mul y (evaluate env p)) (evaluate-constant env (negsuc 0)) ∙ neg_by_mul _

  evaluate-normalise : (env : List R.carrier) (e : Expr) → evaluate env (normalise (count env) e) ≡ denote env e
  evaluate-normalise env (var i) = evaluate-variable env i
  evaluate-normalise env (lit k) = evaluate-constant env k
  evaluate-normalise env (plus a b) = evaluate-add env _ _ ∙ ap₂ R.add (evaluate-normalise env a) (evaluate-normalise env b)
  evaluate-normalise env (minus a b) = evaluate-add env _ _ ∙ ap₂ R.add (evaluate-normalise env a) (evaluate-neg env _ ∙ ap R.neg (evaluate-normalise env b))
  evaluate-normalise env (times a b) = evaluate-mul env _ _ ∙ ap₂ R.mul (evaluate-normalise env a) (evaluate-normalise env b)
  evaluate-normalise env (negate a) = evaluate-neg env _ ∙ ap R.neg (evaluate-normalise env a)
  evaluate-normalise env (power a k) = evaluate-pow env _ k ∙ ap (λ y. pow R y k) (evaluate-normalise env a)

  -- ---- a polynomial without coefficients other than 0 evaluates to 0
  horner-all_zero : {A : Type 0} (x : R.carrier) (e : A → R.carrier) (t : A → Bool) → ((a : A) → T (t a) → e a ≡ R.of_int (pos 0))
      → (p : List A) → T (all_list t p) → horner x e p ≡ R.of_int (pos 0)
  horner-all_zero x e t h [] c = refl
  horner-all_zero x e t h (a ∷ p) c = step (t a) refl c (horner-all_zero x e t h p)
    where
      step : (b : Bool) → t a ≡ b → T (elim b [ true ↦ all_list t p | false ↦ false ]) → (T (all_list t p) → horner x e p ≡ R.of_int (pos 0)) → horner x e (a ∷ p) ≡ R.of_int (pos 0)
      step true q c rest = ap₂ (λ u v. R.add u (R.mul x v)) (h a (subst T (sym q) tt)) (rest c) ∙ R.add_comm _ _ ∙ R.add_zero _ ∙ zero_mul x
      step false q c rest = absurd c

  int-zero : (k : ℤ) → T (is_zero_int k) → R.of_int k ≡ R.of_int (pos 0)
  int-zero (pos zero) c = refl
  int-zero (pos (suc n)) c = absurd c
  int-zero (negsuc n) c = absurd c

  evaluate-is_zero : (env : List R.carrier) (p : Polynomial (count env)) → T (is_zero (count env) p) → evaluate env p ≡ R.of_int (pos 0)
  evaluate-is_zero [] k c = int-zero k c
  evaluate-is_zero (x ∷ env) p c = horner-all_zero x (evaluate env) (is_zero (count env)) (evaluate-is_zero env) p c

  same_from_difference : (a b : R.carrier) → R.add a (R.neg b) ≡ R.of_int (pos 0) → a ≡ b
  same_from_difference a b e =
      sym (R.add_zero a) ∙ ap (R.add a) (sym (R.add_neg b) ∙ R.add_comm b _) ∙ sym (R.add_assoc a _ b) ∙ ap (λ y. R.add y b) e ∙ zero_add b

  -- two expressions whose difference has the normal form 0 are equal: the last argument is `tt`
  pub ring : (env : List R.carrier) (a b : Expr) → Same (count env) a b → denote env a ≡ denote env b
  ring env a b c = same_from_difference _ _ (sym (evaluate-normalise env (minus a b)) ∙ evaluate-is_zero env _ c)
