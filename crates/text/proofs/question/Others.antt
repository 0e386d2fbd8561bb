-- Laws of the other lines: the limits, the shape, and both.
use mathlib.Core.Path.{◌≡◌, refl, sym, ap, ◌∙◌, subst}
use mathlib.Core.List.{List, [], ◌∷◌, ◌++◌}
use Prim.Native.Nat.{ℕ, ◌+◌, ◌*◌, ◌≤◌}
use native.Mathlib.Nat.{mul-le-mul}
use native.Mathlib.Omega.{arith}
use lib.ListN.{length, length-append}
use lib.Ieee.{Float}
use Rattle.lists.specs.Lists.{put}
use Rattle.lists.proofs.Put.{put-put}
use Rattle.std.specs.Borrow.{Bor}
use Rattle.std.specs.Prelude.{Option, Some, None}
use Rattle.text.specs.Bytes.{bytes, Read, bad, got, then}
use Rattle.text.specs.Question.{small_line, line, lines, Sizes, knot_doubles, point_doubles, box_doubles}
use Rattle.text.specs.Question.{Numbers, numbers}
use Rattle.text.specs.Cursor.{SmallRead, ValuesAt, ValuesRead, limits, LimitsAt, LimitsRead}
use Rattle.text.specs.Cursor.{shape, ShapeRead, NumbersAt}
use Rattle.text.proofs.question.Words.{then-bad, then-got}

-- a write behind another
put_next : (l : List Float) (a b : ℕ) (xs ys : List Float) → b ≡ a + length xs → a + length xs ≤ length l
    → put (put l a xs) b ys ≡ put l a (xs ++ ys)
put_next l a b xs ys e h = rw e (put-put l a xs ys h)

-- ---- the limits, by how many of their lines are there

module _ (t : List ℕ) (r : Option (ℕ × Bor (List ℕ))) (one : SmallRead (small_line (bytes "nodes=") t) r)
    (l m : List Float) where
  pub limits_none : r ≡ None → limits t ≡ bad
  unfolding limits
  limits_none e = then-bad (small_line (bytes "nodes=") t) _ (subst (SmallRead _) e one)

  module _ (n : ℕ) (a : Bor (List ℕ)) (e : r ≡ Some (n, a)) (q : Option (Bor (List ℕ)))
      (two : ValuesRead (line (bytes "resolution=") 1 a.now) 1 0 l m q) where
    nodes_there : SmallRead (small_line (bytes "nodes=") t) (Some (n, a))
    nodes_there = subst (SmallRead _) e one

    pub limits_one : q ≡ None → limits t ≡ bad
    unfolding limits
    limits_one f =
        then-got (small_line (bytes "nodes=") t) _ n a.now nodes_there.1 ∙ subst (ValuesRead _ 1 0 l m) f two

    pub limits_two : (c : Bor (List ℕ)) → q ≡ Some c → LimitsAt t l m n c.now
    limits_two c f =
        let v = subst (ValuesRead _ 1 0 l m) f two in
        by v.xs v.reads v.long v.wrote
      where
        by : (xs : List Float) → line (bytes "resolution=") 1 a.now ≡ got xs c.now → length xs ≡ 1 → m ≡ put l 0 xs
            → LimitsAt t l m n c.now
        by [] g h k = absurd (omega arith)
        by (x ∷ []) g h k = record {
          few = nodes_there.0;
          behind_nodes = a.now;
          resolution = x;
          nodes_read = nodes_there.1;
          resolution_read = g;
          wrote = k;
        }
        by (x ∷ y ∷ xs) g h k = absurd (omega arith)

-- ---- the shape, by how many of its lines are there

-- few points have few numbers
pub few_numbers : (w n : ℕ) → w ≤ 8 → n ≤ 32 → w * n ≤ 256
few_numbers w n h k = mul-le-mul h k

module _ (t : List ℕ) (s : Sizes) (l m₁ : List Float) (r : Option (Bor (List ℕ)))
    (one : ValuesRead (line (bytes "knots=") (knot_doubles s) t) (knot_doubles s) 1 l m₁ r) where
  pub shape_none : r ≡ None → shape s t ≡ bad
  unfolding shape
  shape_none e = then-bad (line (bytes "knots=") (knot_doubles s) t) _ (subst (ValuesRead _ _ 1 l m₁) e one)

  -- the code counts the numbers of a point as w
  module _ (w : ℕ) (a : Bor (List ℕ)) (e : r ≡ Some a) (wide : w ≡ point_doubles s) (m₂ : List Float)
      (q : Option (Bor (List ℕ)))
      (two : ValuesRead (lines (bytes "point=") w s.count a.now) (w * s.count) (1 + knot_doubles s) m₁ m₂ q) where
    knots_there : ValuesAt (line (bytes "knots=") (knot_doubles s) t) (knot_doubles s) 1 l m₁ a.now
    knots_there = subst (ValuesRead _ _ 1 l m₁) e one

    points-line : Read (List Float)
    points-line = lines (bytes "point=") (point_doubles s) s.count a.now

    same : points-line ≡ lines (bytes "point=") w s.count a.now
    unfolding points-line
    same = ap (λ (n : ℕ). lines (bytes "point=") n s.count a.now) (sym wide)

    shape-next : shape s t
        ≡ then points-line (λ points b.
        then (line (bytes "box=") (box_doubles s) b) (λ box rest.
        got (knots_there.xs ++ points ++ box) rest))
    unfolding shape points-line
    shape-next = then-got (line (bytes "knots=") (knot_doubles s) t) _ knots_there.xs a.now knots_there.reads

    pub shape_one : q ≡ None → shape s t ≡ bad
    shape_one f = shape-next ∙ then-bad points-line _ (same ∙ subst (ValuesRead _ _ _ m₁ m₂) f two)

    module _ (b : Bor (List ℕ)) (f : q ≡ Some b) where
      points_there :
          ValuesAt (lines (bytes "point=") w s.count a.now) (w * s.count) (1 + knot_doubles s) m₁ m₂ b.now
      points_there = subst (ValuesRead _ _ _ m₁ m₂) f two

      pub shape_two : (m₃ : List Float) (z : Option (Bor (List ℕ)))
          → ValuesRead (line (bytes "box=") (box_doubles s) b.now) (box_doubles s)
          (1 + knot_doubles s + w * s.count) m₂ m₃ z
          → 1 + knot_doubles s + w * s.count + box_doubles s ≤ length l → ShapeRead t s l m₃ z
      shape_two m₃ None three h =
          shape-next
          ∙ then-got points-line _ points_there.xs b.now (same ∙ points_there.reads)
          ∙ then-bad (line (bytes "box=") (box_doubles s) b.now) _ three
      shape_two m₃ (Some c) three h =
          let u = knots_there in
          let v = points_there in
          let x : 1 + knot_doubles s ≡ 1 + length u.xs = omega (arith, u.long) in
          let y : 1 + knot_doubles s + w * s.count ≡ 1 + length (u.xs ++ v.xs) =
          simp length-append (omega (arith, u.long, v.long)) in
          let before : m₂ ≡ put l 1 (u.xs ++ v.xs) =
          v.wrote
          ∙ ap (λ (o : List Float). put o (1 + knot_doubles s) v.xs) u.wrote
          ∙ put_next l 1 (1 + knot_doubles s) u.xs v.xs x (omega arith) in
          record {
            knots = u.xs;
            points = v.xs;
            box = three.xs;
            behind_knots = a.now;
            behind_points = b.now;
            knots_read = u.reads;
            points_read = unfold points-line in same ∙ v.reads;
            box_read = three.reads;
            long = record {
              knots_long = u.long;
              points_long = v.long ∙ ap (λ (n : ℕ). n * s.count) wide;
              box_long = three.long;
            };
            wrote =
                three.wrote
                ∙ ap (λ (o : List Float). put o (1 + knot_doubles s + w * s.count) three.xs) before
                ∙ put_next l 1 (1 + knot_doubles s + w * s.count) (u.xs ++ v.xs) three.xs y (omega arith);
          }

-- ---- both

-- where a first part cannot be read, neither can more
part-bad : {A B C : Type 0} (r : Read A) (g : A → List ℕ → Read B) (f : A → B → List ℕ → Read C) → then r g ≡ bad
    → then r (λ x a. then (g x a) (f x)) ≡ bad
unfolding then
part-bad bad g f e = refl
part-bad (got x t) g f e = ap (λ (q : Read _). then q (f x)) e

last_bad : {A B C : Type 0} (r : Read A) (f : A → B) (g : A → C) → then r (λ x t. got (f x) t) ≡ bad
    → then r (λ x t. got (g x) t) ≡ bad
unfolding then
last_bad bad f g e = refl
last_bad (got x t) f g e = absurd (never e)
  where
    never : got (f x) t ≡ bad → ⊥
    never q = let z : ◌≡◌ {A = ℕ} 0 1 = cc in omega arith

two_bad : {A B C D : Type 0} (r : Read A) (h : List ℕ → Read B) (f : A → B → C) (g : A → B → D)
    → then r (λ x a. then (h a) (λ y t. got (f x y) t)) ≡ bad
    → then r (λ x a. then (h a) (λ y t. got (g x y) t)) ≡ bad
unfolding then
two_bad bad h f g e = refl
two_bad (got x t) h f g e = last_bad (h t) (f x) (g x) e

three-bad : {A B C D E : Type 0} (r : Read A) (h : List ℕ → Read B) (k : List ℕ → Read C)
    (f : A → B → C → D) (g : A → B → C → E)
    → then r (λ x a. then (h a) (λ y b. then (k b) (λ z t. got (f x y z) t))) ≡ bad
    → then r (λ x a. then (h a) (λ y b. then (k b) (λ z t. got (g x y z) t))) ≡ bad
unfolding then
three-bad bad h k f g e = refl
three-bad (got x t) h k f g e = two_bad (h t) k (f x) (g x) e

module _ (t : List ℕ) (s : Sizes) (l m₁ : List Float) (r : Option (ℕ × Bor (List ℕ))) (one : LimitsRead t l m₁ r) where
  pub numbers_none : r ≡ None → numbers s t ≡ bad
  unfolding numbers limits
  numbers_none e =
      part-bad (small_line (bytes "nodes=") t) (λ _ a. line (bytes "resolution=") 1 a) _
      (subst (LimitsRead t l m₁) e one)

  module _ (n : ℕ) (a : Bor (List ℕ)) (e : r ≡ Some (n, a)) (m₂ : List Float) (q : Option (Bor (List ℕ)))
      (two : ShapeRead a.now s m₁ m₂ q) where
    front : LimitsAt t l m₁ n a.now
    front = subst (LimitsRead t l m₁) e one

    -- What the other lines say where the limits are read.
    abbrev saying : List Float → List Float → List Float → Numbers
    saying knots points box =
        record { nodes = n; resolution = front.resolution; knots = knots; points = points; box = box }

    numbers_next : numbers s t
        ≡ then (line (bytes "knots=") (knot_doubles s) a.now) (λ knots c.
        then (lines (bytes "point=") (point_doubles s) s.count c) (λ points d.
        then (line (bytes "box=") (box_doubles s) d) (λ box rest.
        got (saying knots points box) rest)))
    unfolding numbers
    numbers_next =
        then-got (small_line (bytes "nodes=") t) _ n front.behind_nodes front.nodes_read
        ∙ then-got (line (bytes "resolution=") 1 front.behind_nodes) _ (front.resolution ∷ []) a.now
        front.resolution_read

    pub numbers_one : q ≡ None → numbers s t ≡ bad
    unfolding shape
    numbers_one f =
        numbers_next
        ∙ three-bad (line (bytes "knots=") (knot_doubles s) a.now)
        (λ c. lines (bytes "point=") (point_doubles s) s.count c)
        (λ d. line (bytes "box=") (box_doubles s) d) (λ knots points box. knots ++ points ++ box) _
        (subst (ShapeRead a.now s m₁ m₂) f two)

    pub numbers_two : (b : Bor (List ℕ)) → q ≡ Some b → 1 ≤ length l → NumbersAt (numbers s t) s l m₂ n b.now
    numbers_two b f h =
        let v = subst (ShapeRead a.now s m₁ m₂) f two in
        record {
          says = saying v.knots v.points v.box;
          reads =
              numbers_next
              ∙ then-got (line (bytes "knots=") (knot_doubles s) a.now) _ v.knots _ v.knots_read
              ∙ then-got (lines (bytes "point=") (point_doubles s) s.count v.behind_knots) _ v.points _ v.points_read
              ∙ then-got (line (bytes "box=") (box_doubles s) v.behind_points) _ v.box b.now v.box_read;
          nodes_same = refl;
          few = front.few;
          long = v.long;
          wrote =
              v.wrote
              ∙ ap (λ (y : List Float). put y 1 (v.knots ++ v.points ++ v.box)) front.wrote
              ∙ put_next l 0 1 (front.resolution ∷ []) (v.knots ++ v.points ++ v.box) refl h;
        }
