-- What holds of all elements of a list holds of all elements of what is made of it. Assumes nothing.
use mathlib.Core.Path.{sym, subst}
use mathlib.Core.List.{List, [], ◌∷◌, ◌++◌, map, zip_with, reverse, reverse-cons}
use Prim.Native.Nat.{ℕ, zero, suc, ◌<◌}
use native.Mathlib.Omega.{arith}
use lib.ListN.{length, get_or, take, drop}
use Rattle.lists.specs.Lists.{tab, foldl}
use Rattle.model.specs.Enclosure.{Every}

-- ---- of parts and sums of lists
pub every_append : {A : Type 0} (P : A → Type 0) (l m : List A) → Every P l → Every P m → Every P (l ++ m)
every_append P [] m h k = k
every_append P (x ∷ l) m h k = (h.0, every_append P l m h.1 k)

pub every_take : {A : Type 0} (P : A → Type 0) (n : ℕ) (l : List A) → Every P l → Every P (take n l)
every_take P zero l h = tt
every_take P (suc n) [] h = tt
every_take P (suc n) (x ∷ l) h = (h.0, every_take P n l h.1)

pub every_drop : {A : Type 0} (P : A → Type 0) (n : ℕ) (l : List A) → Every P l → Every P (drop n l)
every_drop P zero l h = h
every_drop P (suc n) [] h = tt
every_drop P (suc n) (x ∷ l) h = every_drop P n l h.1

pub every-reverse : {A : Type 0} (P : A → Type 0) (l : List A) → Every P l → Every P (reverse l)
every-reverse P [] h = tt
every-reverse P (x ∷ l) h = subst (Every P) (sym (reverse-cons x l)) (every_append P (reverse l) (x ∷ []) (every-reverse P l h.1) (h.0, tt))

-- ---- of lists made of other things
pub every-tab : {A : Type 0} (P : A → Type 0) (n : ℕ) (f : ℕ → A) → ((i : ℕ) → i < n → P (f i)) → Every P (tab n f)
every-tab P zero f h = tt
every-tab P (suc n) f h = every_append P (tab n f) (f n ∷ []) (every-tab P n f (λ i l. h i (omega arith))) (h n (omega arith), tt)

pub every_map : {A B : Type 0} (P : A → Type 0) (Q : B → Type 0) (g : A → B) → ((x : A) → P x → Q (g x)) → (l : List A) → Every P l → Every Q (map g l)
every_map P Q g f [] h = tt
every_map P Q g f (x ∷ l) h = (f x h.0, every_map P Q g f l h.1)

pub every-zip : {A B C : Type 0} (P : A → Type 0) (Q : B → Type 0) (R : C → Type 0) (g : A → B → C) → ((x : A) (y : B) → P x → Q y → R (g x y))
    → (l : List A) (m : List B) → Every P l → Every Q m → Every R (zip_with g l m)
unfolding zip_with
every-zip P Q R g f [] m h k = tt
every-zip P Q R g f (x ∷ l) [] h k = tt
every-zip P Q R g f (x ∷ l) (y ∷ m) h k = (f x y h.0 k.0, every-zip P Q R g f l m h.1 k.1)

-- what each step of a fold keeps, the fold keeps
pub fold-keeps : {A B : Type 0} (P : B → Type 0) (Q : A → Type 0) (g : B → A → B) → ((b : B) (x : A) → P b → Q x → P (g b x)) → (b : B) (l : List A) → P b → Every Q l → P (foldl g b l)
unfolding foldl
fold-keeps P Q g keep b [] h k = h
fold-keeps P Q g keep b (x ∷ l) h k = fold-keeps P Q g keep (g b x) l (keep b x h k.0) k.1

-- ---- of one element, from each of them, from something else, and from nothing
pub every_at : {A : Type 0} (P : A → Type 0) (l : List A) (i : ℕ) (d : A) → Every P l → i < length l → P (get_or l i d)
every_at P [] i d h k = absurd (omega arith)
every_at P (x ∷ l) zero d h k = h.0
every_at P (x ∷ l) (suc i) d h k = every_at P l i d h.1 (omega arith)

pub every_of : {A : Type 0} (P : A → Type 0) (l : List A) (d : A) → ((i : ℕ) → i < length l → P (get_or l i d)) → Every P l
every_of P [] d h = tt
every_of P (x ∷ l) d h = (h zero (omega arith), every_of P l d (λ i k. h (suc i) (omega arith)))

pub every-imp : {A : Type 0} (P Q : A → Type 0) → ((x : A) → P x → Q x) → (l : List A) → Every P l → Every Q l
every-imp P Q f [] h = tt
every-imp P Q f (x ∷ l) h = (f x h.0, every-imp P Q f l h.1)

pub every_any : {A : Type 0} (l : List A) → Every (λ _. Unit {0}) l
every_any [] = tt
every_any (x ∷ l) = (tt, every_any l)
