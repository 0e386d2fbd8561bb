-- Commutative rings, and a normaliser for their identities: an expression over variables (`E`) is multiplied out into a sorted sum of
-- monomials with integer coefficients (`norm`), and two expressions whose difference has only zero coefficients have one value (`by_norm`).
use mathlib.Core.Path.{◌≡◌, refl, sym, ◌∙◌, ap, ap₂, subst}
use mathlib.Core.List.{List, [], ◌∷◌}
use mathlib.Core.Bool.{Bool, true, false, ◌&&◌}
use Prim.Native.Nat.{ℕ, zero, suc, compare, Ordering}
use lib.Dec.{T, eqb, eqb→eq, compare_is_eq}
use lib.IntN.{ℤ, pos, negsuc, suc_ℤ, pred_ℤ, neg_ℤ, ◌+ℤ◌, ◌*ℤ◌, suc-pred, +ℤ_idl, +ℤ_idr, +ℤ_assoc, +ℤ_comm, +ℤ_invl, +ℤ_invr, suc_ℤ-+ℤ, pred_ℤ-+ℤ, suc_ℤ-*ℤ, pred_ℤ-*ℤ, zero-*ℤ, *ℤ_comm}
use Rattle.solver.proofs.Integer.{ℤ-step, *ℤ_unit, *ℤ_ldist, *ℤ_assoc}

pub record CRing (A : Type 0) : Type 0 where
  pub add : A → A → A
  pub mul : A → A → A
  pub neg : A → A
  pub nil : A
  pub unit : A
  pub add_assoc : (a b c : A) → add (add a b) c ≡ add a (add b c)
  pub add_comm : (a b : A) → add a b ≡ add b a
  pub add-nil : (a : A) → add a nil ≡ a
  pub add-neg : (a : A) → add a (neg a) ≡ nil
  pub mul_assoc : (a b c : A) → mul (mul a b) c ≡ mul a (mul b c)
  pub mul_comm : (a b : A) → mul a b ≡ mul b a
  pub mul-unit : (a : A) → mul a unit ≡ a
  pub mul-add : (a b c : A) → mul a (add b c) ≡ add (mul a b) (mul a c)

-- ---- expressions
pub data E : Type 0 where
  var : ℕ → E
  con : ℤ → E
  plus : E → E → E
  minus : E → E → E
  times : E → E → E
  opp : E → E

-- ---- normal forms: a sum of terms, each a coefficient and a monomial (the variables of its factors, in order)
pub data Poly : Type 0 where
  none : Poly
  term : ℤ → List ℕ → Poly → Poly

abbrev pub cmp_m : List ℕ → List ℕ → Ordering
cmp_m [] [] = Ordering.eq
cmp_m [] (j ∷ n) = Ordering.lt
cmp_m (i ∷ m) [] = Ordering.gt
cmp_m (i ∷ m) (j ∷ n) = elim (compare i j) [ Ordering.lt ↦ Ordering.lt | Ordering.eq ↦ cmp_m m n | Ordering.gt ↦ Ordering.gt ]

abbrev pub ins_m : ℕ → List ℕ → List ℕ
ins_m i [] = i ∷ []
ins_m i (j ∷ m) = elim (compare i j) [ Ordering.lt ↦ i ∷ j ∷ m | Ordering.eq ↦ i ∷ j ∷ m | Ordering.gt ↦ j ∷ ins_m i m ]

abbrev pub mul_m : List ℕ → List ℕ → List ℕ
mul_m [] n = n
mul_m (i ∷ m) n = ins_m i (mul_m m n)

abbrev pub add_t : ℤ → List ℕ → Poly → Poly
add_t c m none = term c m none
add_t c m (term d n p) = elim (cmp_m m n) [ Ordering.lt ↦ term c m (term d n p) | Ordering.eq ↦ term (c +ℤ d) n p | Ordering.gt ↦ term d n (add_t c m p) ]

abbrev pub add_p : Poly → Poly → Poly
add_p none q = q
add_p (term c m p) q = add_t c m (add_p p q)

abbrev pub scale_p : ℤ → List ℕ → Poly → Poly
scale_p c m none = none
scale_p c m (term d n p) = add_t (c *ℤ d) (mul_m m n) (scale_p c m p)

abbrev pub mul_p : Poly → Poly → Poly
mul_p none q = none
mul_p (term c m p) q = add_p (scale_p c m q) (mul_p p q)

abbrev pub neg_p : Poly → Poly
neg_p none = none
neg_p (term c m p) = term (neg_ℤ c) m (neg_p p)

abbrev pub norm : E → Poly
norm (var i) = term (pos 1) (i ∷ []) none
norm (con c) = term c [] none
norm (plus a b) = add_p (norm a) (norm b)
norm (minus a b) = add_p (norm a) (neg_p (norm b))
norm (times a b) = mul_p (norm a) (norm b)
norm (opp a) = neg_p (norm a)

-- every coefficient is zero
abbrev pub is_nil : ℤ → Bool
is_nil (pos n) = eqb n 0
is_nil (negsuc n) = false

abbrev pub all_nil_lem : Poly → Bool
all_nil_lem none = true
all_nil_lem (term c m p) = is_nil c && all_nil_lem p

is_nil_is : (c : ℤ) → T (is_nil c) → c ≡ pos zero
is_nil_is (pos n) t = ap pos (eqb→eq n 0 t)
is_nil_is (negsuc n) t = absurd t

and_l : (a b : Bool) → T (a && b) → T a
and_l true b t = tt
and_l false b t = t

and_r : (a b : Bool) → T (a && b) → T b
and_r true b t = t
and_r false b t = absurd t

cmp-eq : (i j : ℕ) → compare i j ≡ Ordering.eq → i ≡ j
cmp-eq i j h = eqb→eq i j (subst (λ (o : Ordering). T (compare_is_eq o)) (sym h) tt)

-- two monomials that compare as equal are equal
NotEq : Ordering → Type 0
NotEq Ordering.lt = Unit {0}
NotEq Ordering.eq = ⊥
NotEq Ordering.gt = Unit {0}

not-eq : {X : Type 0} (o : Ordering) → NotEq o → o ≡ Ordering.eq → X
unfolding NotEq
not-eq o n h = absurd (subst NotEq h n)

cmp_m_eq : (m n : List ℕ) → cmp_m m n ≡ Ordering.eq → m ≡ n
unfolding NotEq
cmp_m_eq [] [] h = refl
cmp_m_eq [] (j ∷ n) h = not-eq Ordering.lt tt h
cmp_m_eq (i ∷ m) [] h = not-eq Ordering.gt tt h
cmp_m_eq (i ∷ m) (j ∷ n) h = go (λ k. cmp_m_eq m n k) (compare i j) refl h
  where
    go : (cmp_m m n ≡ Ordering.eq → m ≡ n) → (o : Ordering) → compare i j ≡ o → elim o [ Ordering.lt ↦ Ordering.lt | Ordering.eq ↦ cmp_m m n | Ordering.gt ↦ Ordering.gt ] ≡ Ordering.eq → i ∷ m ≡ j ∷ n
    go r Ordering.lt e k = not-eq Ordering.lt tt k
    go r Ordering.eq e k = ap₂ ◌∷◌ (cmp-eq i j e) (r k)
    go r Ordering.gt e k = not-eq Ordering.gt tt k

-- ---- what an expression and a normal form mean in a ring
module _ {A : Type 0} (𝓡 : CRing A) where
  open 𝓡 use {add as ◌⊕◌, mul as ◌⊗◌, neg as ⊝◌, nil as 𝟘, unit as 𝟙, add_assoc, add_comm, add-nil, add-neg, mul_assoc, mul_comm, mul-unit, mul-add}

  infixl 6 ◌⊕◌
  infixl 7 ◌⊗◌
  infix 8 ⊝◌
  abbrev pub nth : List A → ℕ → A
  nth [] i = 𝟘
  nth (x ∷ ρ) zero = x
  nth (x ∷ ρ) (suc i) = nth ρ i

  abbrev pub ofℕ : ℕ → A
  ofℕ zero = 𝟘
  ofℕ (suc n) = ofℕ n ⊕ 𝟙

  abbrev pub ofℤ : ℤ → A
  ofℤ (pos n) = ofℕ n
  ofℤ (negsuc n) = ⊝ (ofℕ n ⊕ 𝟙)

  abbrev pub den : E → List A → A
  den (var i) ρ = nth ρ i
  den (con c) ρ = ofℤ c
  den (plus a b) ρ = den a ρ ⊕ den b ρ
  den (minus a b) ρ = den a ρ ⊕ ⊝ den b ρ
  den (times a b) ρ = den a ρ ⊗ den b ρ
  den (opp a) ρ = ⊝ den a ρ

  ev_m : List ℕ → List A → A
  ev_m [] ρ = 𝟙
  ev_m (i ∷ m) ρ = nth ρ i ⊗ ev_m m ρ

  ev_p : Poly → List A → A
  ev_p none ρ = 𝟘
  ev_p (term c m p) ρ = ofℤ c ⊗ ev_m m ρ ⊕ ev_p p ρ

  -- ---- what follows from the laws
  pub nil-add : (a : A) → 𝟘 ⊕ a ≡ a
  nil-add a = add_comm 𝟘 a ∙ add-nil a

  unit-mul : (a : A) → 𝟙 ⊗ a ≡ a
  unit-mul a = mul_comm 𝟙 a ∙ mul-unit a

  neg-add : (a : A) → ⊝ a ⊕ a ≡ 𝟘
  neg-add a = add_comm (⊝ a) a ∙ add-neg a

  pub add-mul : (a b c : A) → (a ⊕ b) ⊗ c ≡ a ⊗ c ⊕ b ⊗ c
  add-mul a b c = mul_comm (a ⊕ b) c ∙ mul-add c a b ∙ ap₂ ◌⊕◌ (mul_comm c a) (mul_comm c b)

  pub add_left : (a b c : A) → a ⊕ (b ⊕ c) ≡ b ⊕ (a ⊕ c)
  add_left a b c = sym (add_assoc a b c) ∙ ap (λ x. x ⊕ c) (add_comm a b) ∙ add_assoc b a c

  add-swap : (a b c : A) → a ⊕ b ⊕ c ≡ a ⊕ c ⊕ b
  add-swap a b c = add_assoc a b c ∙ ap (λ x. a ⊕ x) (add_comm b c) ∙ sym (add_assoc a c b)

  pub mul_left : (a b c : A) → a ⊗ (b ⊗ c) ≡ b ⊗ (a ⊗ c)
  mul_left a b c = sym (mul_assoc a b c) ∙ ap (λ x. x ⊗ c) (mul_comm a b) ∙ mul_assoc b a c

  cancel : (a b c : A) → a ⊕ c ≡ b ⊕ c → a ≡ b
  cancel a b c h = sym (add-nil a) ∙ ap (λ x. a ⊕ x) (sym (add-neg c)) ∙ sym (add_assoc a c (⊝ c)) ∙ ap (λ x. x ⊕ ⊝ c) h ∙ add_assoc b c (⊝ c) ∙ ap (λ x. b ⊕ x) (add-neg c) ∙ add-nil b

  nil-mul : (a : A) → 𝟘 ⊗ a ≡ 𝟘
  nil-mul a = cancel (𝟘 ⊗ a) 𝟘 (𝟘 ⊗ a) (sym (add-mul 𝟘 𝟘 a) ∙ ap (λ x. x ⊗ a) (add-nil 𝟘) ∙ sym (nil-add (𝟘 ⊗ a)))

  mul-nil : (a : A) → a ⊗ 𝟘 ≡ 𝟘
  mul-nil a = mul_comm a 𝟘 ∙ nil-mul a

  neg-mul : (a b : A) → (⊝ a) ⊗ b ≡ ⊝ (a ⊗ b)
  neg-mul a b = cancel ((⊝ a) ⊗ b) (⊝ (a ⊗ b)) (a ⊗ b) (sym (add-mul (⊝ a) a b) ∙ ap (λ x. x ⊗ b) (neg-add a) ∙ nil-mul b ∙ sym (neg-add (a ⊗ b)))

  neg_sum : (a b : A) → ⊝ (a ⊕ b) ≡ ⊝ a ⊕ ⊝ b
  neg_sum a b = cancel (⊝ (a ⊕ b)) (⊝ a ⊕ ⊝ b) (a ⊕ b) (neg-add (a ⊕ b) ∙ sym (sym (add_assoc (⊝ a ⊕ ⊝ b) a b) ∙ ap (λ x. x ⊕ b) (add-swap (⊝ a) (⊝ b) a ∙ ap (λ x. x ⊕ ⊝ b) (neg-add a) ∙ nil-add (⊝ b)) ∙ neg-add b))

  neg-nil : ⊝ 𝟘 ≡ 𝟘
  neg-nil = sym (add-nil (⊝ 𝟘)) ∙ neg-add 𝟘

  -- ---- the integers in the ring
  of_suc : (m : ℤ) → ofℤ (suc_ℤ m) ≡ ofℤ m ⊕ 𝟙
  of_suc (pos n) = refl
  of_suc (negsuc zero) = sym (ap (λ x. ⊝ x ⊕ 𝟙) (nil-add 𝟙) ∙ neg-add 𝟙)
  of_suc (negsuc (suc n)) = sym (ap (λ x. x ⊕ 𝟙) (neg_sum (ofℕ n ⊕ 𝟙) 𝟙) ∙ add_assoc (⊝ (ofℕ n ⊕ 𝟙)) (⊝ 𝟙) 𝟙 ∙ ap (λ x. ⊝ (ofℕ n ⊕ 𝟙) ⊕ x) (neg-add 𝟙) ∙ add-nil (⊝ (ofℕ n ⊕ 𝟙)))

  of_pred : (m : ℤ) → ofℤ (pred_ℤ m) ≡ ofℤ m ⊕ ⊝ 𝟙
  of_pred m = cancel (ofℤ (pred_ℤ m)) (ofℤ m ⊕ ⊝ 𝟙) 𝟙 (sym (of_suc (pred_ℤ m)) ∙ ap ofℤ (suc-pred m) ∙ sym (add_assoc (ofℤ m) (⊝ 𝟙) 𝟙 ∙ ap (λ x. ofℤ m ⊕ x) (neg-add 𝟙) ∙ add-nil (ofℤ m)))

  pub of_add : (m k : ℤ) → ofℤ (m +ℤ k) ≡ ofℤ m ⊕ ofℤ k
  of_add m k = ℤ-step (λ m. ofℤ (m +ℤ k) ≡ ofℤ m ⊕ ofℤ k)
      (ap ofℤ (+ℤ_idl k) ∙ sym (nil-add (ofℤ k)))
      (λ m h. ap ofℤ (suc_ℤ-+ℤ m k) ∙ of_suc (m +ℤ k) ∙ ap (λ x. x ⊕ 𝟙) h ∙ add-swap (ofℤ m) (ofℤ k) 𝟙 ∙ ap (λ x. x ⊕ ofℤ k) (sym (of_suc m)))
      (λ m h. ap ofℤ (pred_ℤ-+ℤ m k) ∙ of_pred (m +ℤ k) ∙ ap (λ x. x ⊕ ⊝ 𝟙) h ∙ add-swap (ofℤ m) (ofℤ k) (⊝ 𝟙) ∙ ap (λ x. x ⊕ ofℤ k) (sym (of_pred m)))
      m

  pub of_neg : (k : ℤ) → ofℤ (neg_ℤ k) ≡ ⊝ ofℤ k
  of_neg k = cancel (ofℤ (neg_ℤ k)) (⊝ ofℤ k) (ofℤ k) (sym (of_add (neg_ℤ k) k) ∙ ap ofℤ (+ℤ_invl k) ∙ sym (neg-add (ofℤ k)))

  pub of_mul : (m k : ℤ) → ofℤ (m *ℤ k) ≡ ofℤ m ⊗ ofℤ k
  of_mul m k = ℤ-step (λ m. ofℤ (m *ℤ k) ≡ ofℤ m ⊗ ofℤ k)
      (ap ofℤ (zero-*ℤ k) ∙ sym (nil-mul (ofℤ k)))
      (λ m h. ap ofℤ (suc_ℤ-*ℤ m k) ∙ of_add (m *ℤ k) k ∙ ap₂ ◌⊕◌ h (sym (unit-mul (ofℤ k))) ∙ sym (add-mul (ofℤ m) 𝟙 (ofℤ k)) ∙ ap (λ x. x ⊗ ofℤ k) (sym (of_suc m)))
      (λ m h. ap ofℤ (pred_ℤ-*ℤ m k) ∙ of_add (m *ℤ k) (neg_ℤ k) ∙ ap₂ ◌⊕◌ h (of_neg k ∙ ap ⊝◌ (sym (unit-mul (ofℤ k))) ∙ sym (neg-mul 𝟙 (ofℤ k))) ∙ sym (add-mul (ofℤ m) (⊝ 𝟙) (ofℤ k)) ∙ ap (λ x. x ⊗ ofℤ k) (sym (of_pred m)))
      m

  -- ---- each operation on normal forms means the ring's
  ev_m_ins : (i : ℕ) (m : List ℕ) (ρ : List A) → ev_m (ins_m i m) ρ ≡ nth ρ i ⊗ ev_m m ρ
  unfolding ev_m
  ev_m_ins i [] ρ = refl
  ev_m_ins i (j ∷ m) ρ = go (compare i j) (ev_m_ins i m ρ)
    where
      go : (o : Ordering) → ev_m (ins_m i m) ρ ≡ nth ρ i ⊗ ev_m m ρ → ev_m (elim o [ Ordering.lt ↦ i ∷ j ∷ m | Ordering.eq ↦ i ∷ j ∷ m | Ordering.gt ↦ j ∷ ins_m i m ]) ρ ≡ nth ρ i ⊗ (nth ρ j ⊗ ev_m m ρ)
      go Ordering.lt h = refl
      go Ordering.eq h = refl
      go Ordering.gt h = ap (λ x. nth ρ j ⊗ x) h ∙ mul_left (nth ρ j) (nth ρ i) (ev_m m ρ)

  ev_m_mul : (m n : List ℕ) (ρ : List A) → ev_m (mul_m m n) ρ ≡ ev_m m ρ ⊗ ev_m n ρ
  unfolding ev_m
  ev_m_mul [] n ρ = sym (unit-mul (ev_m n ρ))
  ev_m_mul (i ∷ m) n ρ = ev_m_ins i (mul_m m n) ρ ∙ ap (λ x. nth ρ i ⊗ x) (ev_m_mul m n ρ) ∙ sym (mul_assoc (nth ρ i) (ev_m m ρ) (ev_m n ρ))

  ev_p_add_t : (c : ℤ) (m : List ℕ) (p : Poly) (ρ : List A) → ev_p (add_t c m p) ρ ≡ ofℤ c ⊗ ev_m m ρ ⊕ ev_p p ρ
  unfolding ev_p
  ev_p_add_t c m none ρ = refl
  ev_p_add_t c m (term d n p) ρ = go (cmp_m m n) refl (ev_p_add_t c m p ρ)
    where
      go : (o : Ordering) → cmp_m m n ≡ o → ev_p (add_t c m p) ρ ≡ ofℤ c ⊗ ev_m m ρ ⊕ ev_p p ρ
          → ev_p (elim o [ Ordering.lt ↦ term c m (term d n p) | Ordering.eq ↦ term (c +ℤ d) n p | Ordering.gt ↦ term d n (add_t c m p) ]) ρ ≡ ofℤ c ⊗ ev_m m ρ ⊕ (ofℤ d ⊗ ev_m n ρ ⊕ ev_p p ρ)
      go Ordering.lt e h = refl
      go Ordering.eq e h = ap (λ x. x ⊕ ev_p p ρ) (ap (λ x. x ⊗ ev_m n ρ) (of_add c d) ∙ add-mul (ofℤ c) (ofℤ d) (ev_m n ρ)) ∙ add_assoc (ofℤ c ⊗ ev_m n ρ) (ofℤ d ⊗ ev_m n ρ) (ev_p p ρ) ∙ ap (λ (k : List ℕ). ofℤ c ⊗ ev_m k ρ ⊕ (ofℤ d ⊗ ev_m n ρ ⊕ ev_p p ρ)) (sym (cmp_m_eq m n e))
      go Ordering.gt e h = ap (λ x. ofℤ d ⊗ ev_m n ρ ⊕ x) h ∙ add_left (ofℤ d ⊗ ev_m n ρ) (ofℤ c ⊗ ev_m m ρ) (ev_p p ρ)

  ev_p_add : (p q : Poly) (ρ : List A) → ev_p (add_p p q) ρ ≡ ev_p p ρ ⊕ ev_p q ρ
  unfolding ev_p
  ev_p_add none q ρ = sym (nil-add (ev_p q ρ))
  ev_p_add (term c m p) q ρ = ev_p_add_t c m (add_p p q) ρ ∙ ap (λ x. ofℤ c ⊗ ev_m m ρ ⊕ x) (ev_p_add p q ρ) ∙ sym (add_assoc (ofℤ c ⊗ ev_m m ρ) (ev_p p ρ) (ev_p q ρ))

  four : (a b c d : A) → (a ⊗ b) ⊗ (c ⊗ d) ≡ (a ⊗ c) ⊗ (b ⊗ d)
  four a b c d = mul_assoc a b (c ⊗ d) ∙ ap (λ x. a ⊗ x) (mul_left b c d) ∙ sym (mul_assoc a c (b ⊗ d))

  ev_p_scale : (c : ℤ) (m : List ℕ) (p : Poly) (ρ : List A) → ev_p (scale_p c m p) ρ ≡ (ofℤ c ⊗ ev_m m ρ) ⊗ ev_p p ρ
  unfolding ev_p
  ev_p_scale c m none ρ = sym (mul-nil (ofℤ c ⊗ ev_m m ρ))
  ev_p_scale c m (term d n p) ρ = ev_p_add_t (c *ℤ d) (mul_m m n) (scale_p c m p) ρ
      ∙ ap₂ ◌⊕◌ (ap₂ ◌⊗◌ (of_mul c d) (ev_m_mul m n ρ) ∙ four (ofℤ c) (ofℤ d) (ev_m m ρ) (ev_m n ρ)) (ev_p_scale c m p ρ)
      ∙ sym (mul-add (ofℤ c ⊗ ev_m m ρ) (ofℤ d ⊗ ev_m n ρ) (ev_p p ρ))

  ev_p_mul : (p q : Poly) (ρ : List A) → ev_p (mul_p p q) ρ ≡ ev_p p ρ ⊗ ev_p q ρ
  unfolding ev_p
  ev_p_mul none q ρ = sym (nil-mul (ev_p q ρ))
  ev_p_mul (term c m p) q ρ = ev_p_add (scale_p c m q) (mul_p p q) ρ ∙ ap₂ ◌⊕◌ (ev_p_scale c m q ρ) (ev_p_mul p q ρ) ∙ sym (add-mul (ofℤ c ⊗ ev_m m ρ) (ev_p p ρ) (ev_p q ρ))

  ev_p_neg : (p : Poly) (ρ : List A) → ev_p (neg_p p) ρ ≡ ⊝ ev_p p ρ
  unfolding ev_p
  ev_p_neg none ρ = sym neg-nil
  ev_p_neg (term c m p) ρ = ap₂ ◌⊕◌ (ap (λ x. x ⊗ ev_m m ρ) (of_neg c) ∙ neg-mul (ofℤ c) (ev_m m ρ)) (ev_p_neg p ρ) ∙ sym (neg_sum (ofℤ c ⊗ ev_m m ρ) (ev_p p ρ))

  norm-sound : (e : E) (ρ : List A) → den e ρ ≡ ev_p (norm e) ρ
  unfolding ev_p ev_m
  norm-sound (var i) ρ = sym (add-nil ((𝟘 ⊕ 𝟙) ⊗ (nth ρ i ⊗ 𝟙)) ∙ ap₂ ◌⊗◌ (nil-add 𝟙) (mul-unit (nth ρ i)) ∙ unit-mul (nth ρ i))
  norm-sound (con c) ρ = sym (add-nil (ofℤ c ⊗ 𝟙) ∙ mul-unit (ofℤ c))
  norm-sound (plus a b) ρ = ap₂ ◌⊕◌ (norm-sound a ρ) (norm-sound b ρ) ∙ sym (ev_p_add (norm a) (norm b) ρ)
  norm-sound (minus a b) ρ = ap₂ ◌⊕◌ (norm-sound a ρ) (ap ⊝◌ (norm-sound b ρ) ∙ sym (ev_p_neg (norm b) ρ)) ∙ sym (ev_p_add (norm a) (neg_p (norm b)) ρ)
  norm-sound (times a b) ρ = ap₂ ◌⊗◌ (norm-sound a ρ) (norm-sound b ρ) ∙ sym (ev_p_mul (norm a) (norm b) ρ)
  norm-sound (opp a) ρ = ap ⊝◌ (norm-sound a ρ) ∙ sym (ev_p_neg (norm a) ρ)

  all_nil : (p : Poly) (ρ : List A) → T (all_nil_lem p) → ev_p p ρ ≡ 𝟘
  unfolding ev_p
  all_nil none ρ t = refl
  all_nil (term c m p) ρ t = ap₂ ◌⊕◌ (ap (λ (k : ℤ). ofℤ k ⊗ ev_m m ρ) (is_nil_is c (and_l (is_nil c) (all_nil_lem p) t)) ∙ nil-mul (ev_m m ρ)) (all_nil p ρ (and_r (is_nil c) (all_nil_lem p) t)) ∙ add-nil 𝟘

  -- ---- THE THEOREM
  pub by_norm : (ρ : List A) (e f : E) → T (all_nil_lem (norm (minus e f))) → den e ρ ≡ den f ρ
  by_norm ρ e f t = cancel (den e ρ) (den f ρ) (⊝ den f ρ) (norm-sound (minus e f) ρ ∙ all_nil (norm (minus e f)) ρ t ∙ sym (add-neg (den f ρ)))

-- ---- reading an expression off a term: `Rep ρ x` is an expression whose value is x. `search read` finds it, one lemma for each operation
-- and one for each of the first places of ρ
module _ {A : Type 0} (𝓡 : CRing A) where
  open 𝓡 use {add as ◌⊕◌, mul as ◌⊗◌, neg as ⊝◌, nil as 𝟘, unit as 𝟙, add-nil}

  infixl 6 ◌⊕◌
  infixl 7 ◌⊗◌
  infix 8 ⊝◌
  pub data Rep (ρ : List A) (x : A) : Type 0 where
    rep : (e : E) → den 𝓡 e ρ ≡ x → Rep ρ x

  abbrev pub code : {ρ : List A} {x : A} → Rep ρ x → E
  code (rep e h) = e

  abbrev pub means : {ρ : List A} {x : A} (p : Rep ρ x) → den 𝓡 (code p) ρ ≡ x
  means (rep e h) = h

  abbrev pub rep_add : {x y : A} {ρ : List A} → Rep ρ x → Rep ρ y → Rep ρ (x ⊕ y)
  rep_add p q = rep (plus (code p) (code q)) (ap₂ ◌⊕◌ (means p) (means q))

  abbrev pub rep_mul : {x y : A} {ρ : List A} → Rep ρ x → Rep ρ y → Rep ρ (x ⊗ y)
  rep_mul p q = rep (times (code p) (code q)) (ap₂ ◌⊗◌ (means p) (means q))

  abbrev pub rep_neg : {x : A} {ρ : List A} → Rep ρ x → Rep ρ (⊝ x)
  rep_neg p = rep (opp (code p)) (ap ⊝◌ (means p))

  abbrev pub rep-nil : {ρ : List A} → Rep ρ 𝟘
  rep-nil = rep (con (pos 0)) refl

  abbrev pub rep-unit : {ρ : List A} → Rep ρ 𝟙
  rep-unit = rep (con (pos 1)) (nil-add 𝓡 𝟙)

  abbrev pub rep_0 : {x : A} {ρ : List A} → Rep (x ∷ ρ) x
  rep_0 = rep (var 0) refl

  abbrev pub rep_1 : {a x : A} {ρ : List A} → Rep (a ∷ x ∷ ρ) x
  rep_1 = rep (var 1) refl

  abbrev pub rep_2 : {a b x : A} {ρ : List A} → Rep (a ∷ b ∷ x ∷ ρ) x
  rep_2 = rep (var 2) refl

  abbrev pub rep_3 : {a b c x : A} {ρ : List A} → Rep (a ∷ b ∷ c ∷ x ∷ ρ) x
  rep_3 = rep (var 3) refl

  abbrev pub rep_4 : {a b c d x : A} {ρ : List A} → Rep (a ∷ b ∷ c ∷ d ∷ x ∷ ρ) x
  rep_4 = rep (var 4) refl

  abbrev pub rep_5 : {a b c d e x : A} {ρ : List A} → Rep (a ∷ b ∷ c ∷ d ∷ e ∷ x ∷ ρ) x
  rep_5 = rep (var 5) refl

  abbrev pub rep_6 : {a b c d e f x : A} {ρ : List A} → Rep (a ∷ b ∷ c ∷ d ∷ e ∷ f ∷ x ∷ ρ) x
  rep_6 = rep (var 6) refl

  abbrev pub rep_7 : {a b c d e f g x : A} {ρ : List A} → Rep (a ∷ b ∷ c ∷ d ∷ e ∷ f ∷ g ∷ x ∷ ρ) x
  rep_7 = rep (var 7) refl

  abbrev pub rep_8 : {a b c d e f g h x : A} {ρ : List A} → Rep (a ∷ b ∷ c ∷ d ∷ e ∷ f ∷ g ∷ h ∷ x ∷ ρ) x
  rep_8 = rep (var 8) refl

  abbrev pub rep_9 : {a b c d e f g h i x : A} {ρ : List A} → Rep (a ∷ b ∷ c ∷ d ∷ e ∷ f ∷ g ∷ h ∷ i ∷ x ∷ ρ) x
  rep_9 = rep (var 9) refl

  abbrev pub rep_10 : {a b c d e f g h i j x : A} {ρ : List A} → Rep (a ∷ b ∷ c ∷ d ∷ e ∷ f ∷ g ∷ h ∷ i ∷ j ∷ x ∷ ρ) x
  rep_10 = rep (var 10) refl

  abbrev pub rep_11 : {a b c d e f g h i j k x : A} {ρ : List A} → Rep (a ∷ b ∷ c ∷ d ∷ e ∷ f ∷ g ∷ h ∷ i ∷ j ∷ k ∷ x ∷ ρ) x
  rep_11 = rep (var 11) refl

  abbrev pub rep_12 : {a b c d e f g h i j k l x : A} {ρ : List A} → Rep (a ∷ b ∷ c ∷ d ∷ e ∷ f ∷ g ∷ h ∷ i ∷ j ∷ k ∷ l ∷ x ∷ ρ) x
  rep_12 = rep (var 12) refl

  abbrev pub rep_13 : {a b c d e f g h i j k l m x : A} {ρ : List A} → Rep (a ∷ b ∷ c ∷ d ∷ e ∷ f ∷ g ∷ h ∷ i ∷ j ∷ k ∷ l ∷ m ∷ x ∷ ρ) x
  rep_13 = rep (var 13) refl

  pub by_rep : (ρ : List A) {x y : A} (p : Rep ρ x) (q : Rep ρ y) → T (all_nil_lem (norm (minus (code p) (code q)))) → x ≡ y
  by_rep ρ p q t = sym (means p) ∙ by_norm 𝓡 ρ (code p) (code q) t ∙ means q

  -- x and y differ by a multiple of p and q, which are equal
  pub by_eq : {x y : A} (k : A) {p q : A} → p ≡ q → x ⊕ k ⊗ q ≡ y ⊕ k ⊗ p → x ≡ y
  by_eq {x} {y} k {p} {q} h e = cancel 𝓡 x y (k ⊗ q) (e ∙ ap (λ z. y ⊕ k ⊗ z) h)

pub ruleset read = (rep_add, rep_mul, rep_neg, rep-nil, rep-unit, rep_0, rep_1, rep_2, rep_3, rep_4, rep_5, rep_6, rep_7, rep_8, rep_9, rep_10, rep_11, rep_12, rep_13)

-- ---- the integers as a ring
abbrev pub ℤring : CRing ℤ
ℤring = record {
  add = ◌+ℤ◌;
  mul = ◌*ℤ◌;
  neg = neg_ℤ;
  nil = pos 0;
  unit = pos 1;
  add_assoc = +ℤ_assoc;
  add_comm = +ℤ_comm;
  add-nil = +ℤ_idr;
  add-neg = +ℤ_invr;
  mul_assoc = *ℤ_assoc;
  mul_comm = *ℤ_comm;
  mul-unit = *ℤ_unit;
  mul-add = *ℤ_ldist;
}
