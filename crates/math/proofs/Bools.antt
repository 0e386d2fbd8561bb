-- Tests, and what a test that passed or failed says. Assumes nothing.
use mathlib.Core.Path.{◌≡◌, refl, sym, ap, ◌∙◌, subst}
use mathlib.Core.Logic.{◌⊎◌, inl, inr}
use mathlib.Core.Bool.{Bool, true, false, not, ◌&&◌, ◌||◌, cond, false≢true}
use Prim.Native.Nat.{ℕ, ◌≤◌, ◌<◌}
use lib.Dec.{T, eqb, eqb_refl, leb, leb→le, nleb→lt}

-- ---- a test as a fact
pub yes : (b : Bool) → b ≡ true → T b
yes b e = subst T (sym e) tt

pub no : (b : Bool) → b ≡ false → T b → ⊥
no b e t = subst T e t

pub decide : (b : Bool) → T b ⊎ T (not b)
decide true = inl tt
decide false = inr tt

pub never : (b : Bool) → T (not b) → T b → ⊥
never true n t = n
never false n t = t

pub compare_le : (a b : ℕ) → (a ≤ b) ⊎ (b < a)
compare_le a b = go (leb a b) (leb→le a b) (nleb→lt a b)
  where
    go : (t : Bool) → (T t → a ≤ b) → (T (not t) → b < a) → (a ≤ b) ⊎ (b < a)
    go true h k = inl (h tt)
    go false h k = inr (k tt)

-- ---- and, or
pub and_i : (a b : Bool) → T a → T b → T (a && b)
and_i true b t u = u
and_i false b t u = t

pub and_l : (a b : Bool) → T (a && b) → T a
and_l true b t = tt
and_l false b t = t

pub and_r : (a b : Bool) → T (a && b) → T b
and_r true b t = t
and_r false b t = absurd t

pub and_both : (s t : Bool) → (s && t) ≡ true → (s ≡ true) × (t ≡ true)
and_both true t h = (refl, h)
and_both false t h = absurd (false≢true h)

pub or_l : (a b : Bool) → T a → T (a || b)
or_l true b t = tt
or_l false b t = absurd t

pub or_r : (a b : Bool) → T b → T (a || b)
or_r true b t = tt
or_r false b t = t

pub or_split : (a b : Bool) → T (a || b) → T a ⊎ T b
or_split true b t = inl tt
or_split false b t = inr t

-- two tests that say the same are one
pub same_test : (p q : Bool) → (T p → T q) → (T q → T p) → p ≡ q
same_test true true f g = refl
same_test true false f g = absurd (f tt)
same_test false true f g = absurd (g tt)
same_test false false f g = refl

pub same_eqb : (a b : ℕ) → a ≡ b → T (eqb a b)
same_eqb a b e = subst (λ (x : ℕ). T (eqb a x)) e (eqb_refl a)

-- ---- `&&`, `||` and `if` as the code has them: of `&&` the second where the first passed, of `||` where it failed, and else the first
pub and_yes : (t u : Bool) → t ≡ true → u ≡ (t && u)
and_yes t u e = sym (ap (λ (b : Bool). b && u) e)

pub and_no : (t u : Bool) → t ≡ false → t ≡ (t && u)
and_no t u e = e ∙ sym (ap (λ (b : Bool). b && u) e)

pub or_yes : (t u : Bool) → t ≡ true → t ≡ (t || u)
or_yes t u e = e ∙ sym (ap (λ (b : Bool). b || u) e)

pub or_no : (t u : Bool) → t ≡ false → u ≡ (t || u)
or_no t u e = sym (ap (λ (b : Bool). b || u) e)

pub pick_yes : {X : Type 0} (t : Bool) (a b : X) → t ≡ true → a ≡ cond t a b
pick_yes t a b e = sym (ap (λ (s : Bool). cond s a b) e)

pub pick_no : {X : Type 0} (t : Bool) (a b : X) → t ≡ false → b ≡ cond t a b
pick_no t a b e = sym (ap (λ (s : Bool). cond s a b) e)

-- what holds of both arms, each under its test
pub pick : {X : Type 0} (P : X → Type 0) (t : Bool) (x y : X) → (T t → P x) → (T (not t) → P y) → P (cond t x y)
pick P true x y h k = h tt
pick P false x y h k = k tt

-- what holds of the first arm, where its test passed
pub taken : {X : Type 0} (P : X → Type 0) (t : Bool) (x y : X) → T t → P x → P (cond t x y)
taken P true x y t h = h
taken P false x y t h = absurd t
