-- Lists whose making fires no test. Assumes nothing.
use mathlib.Core.Path.{◌≡◌, refl}
use mathlib.Core.List.{List, [], ◌∷◌, map, zip_with}
use Prim.Native.Nat.{ℕ, zero, suc, ◌<◌}
use native.Mathlib.Omega.{arith}
use Rattle.lists.specs.Lists.{tab, foldl}
use Rattle.model.specs.Enclosure.{Every}
use Rattle.model.specs.Tested as tested
use Rattle.model.specs.Tested.{Tested, fine}

pub tab_fine : {A : Type 0} (n : ℕ) (f : ℕ → Tested A) (g : ℕ → A) → ((i : ℕ) → i < n → f i ≡ fine (g i)) → tested.tab n f ≡ fine (tab n g)
unfolding tested.tab
tab_fine zero f g h = refl
tab_fine (suc n) f g h = rw (tab_fine n f g (λ i l. h i (omega arith)), h n (omega arith)) refl

pub map_fine : {A B : Type 0} (P : A → Type 0) (f : A → Tested B) (g : A → B) → ((x : A) → P x → f x ≡ fine (g x)) → (l : List A) → Every P l → tested.map f l ≡ fine (map g l)
unfolding tested.map
map_fine P f g h [] k = refl
map_fine P f g h (x ∷ l) k = rw (h x k.0, map_fine P f g h l k.1) refl

pub zip_fine : {A B C : Type 0} (P : A → Type 0) (Q : B → Type 0) (f : A → B → Tested C) (g : A → B → C) → ((x : A) (y : B) → P x → Q y → f x y ≡ fine (g x y))
    → (l : List A) (m : List B) → Every P l → Every Q m → tested.zip f l m ≡ fine (zip_with g l m)
unfolding tested.zip zip_with
zip_fine P Q f g h [] m k e = refl
zip_fine P Q f g h (x ∷ l) [] k e = refl
zip_fine P Q f g h (x ∷ l) (y ∷ m) k e = rw (h x y k.0 e.0, zip_fine P Q f g h l m k.1 e.1) refl

pub fold_fine : {A B : Type 0} (P : B → Type 0) (Q : A → Type 0) (f : B → A → Tested B) (g : B → A → B) → ((b : B) (x : A) → P b → Q x → f b x ≡ fine (g b x)) → ((b : B) (x : A) → P b → Q x → P (g b x))
    → (b : B) (l : List A) → P b → Every Q l → tested.fold f b l ≡ fine (foldl g b l)
unfolding tested.fold foldl
fold_fine P Q f g h keep b [] p k = refl
fold_fine P Q f g h keep b (x ∷ l) p k = rw (h b x p k.0) (fold_fine P Q f g h keep (g b x) l (keep b x p k.0) k.1)
