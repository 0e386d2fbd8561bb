-- Which number comes where several could: cases of the cart's answer, by computation.
use Prim.Native.Nat.{ℕ}
use mathlib.Core.Path.{◌≡◌, refl}
use mathlib.Core.List.{[]}
use lib.Ieee.{nan}
use Rattle.model.specs.Call.{lent, first_failed, or_else, revision_fits, dim_fits, degree_fits, count_fits, lengths_fit, revision_refusal, sizes_refusal, curve_refusal}
use Rattle.model.specs.Call.{question_refusal, refusal, searched_by, searched}
use Rattle.model.specs.Subdivide.{no_counts}
use Rattle.model.specs.declared.contains.Found.{Found}
use Rattle.model.specs.declared.refusal.Refusal.TheVariants as reason
use Rattle.model.specs.declared.contains.Found.TheVariants.{Refused}
use Rattle.cart.specs.Cart.{is_beyond, own_words, cart_answer}

-- The answer to a call without knots, points and box, of this revision, dim, degree, count and nodes.
unfoldable given : ℕ → ℕ → ℕ → ℕ → ℕ → Found
unfolding is_beyond cart_answer first_failed or_else revision_fits dim_fits degree_fits count_fits lengths_fit revision_refusal sizes_refusal curve_refusal question_refusal refusal searched_by searched
given rev dim degree count nodes = cart_answer (lent rev dim degree count [] [] [] nan nodes own_words)

-- A degree of 4, a count of 9, 49 nodes: 14.
K1 : given 1 2 4 8 48 ≡ Refused reason.Cart no_counts
unfolding given
K1 = refl

K2 : given 2 3 3 9 48 ≡ Refused reason.Cart no_counts
unfolding given
K2 = refl

K3 : given 1 3 3 8 49 ≡ Refused reason.Cart no_counts
unfolding given
K3 = refl

-- A degree of 9 is 14, not 2; a count of 33, not 3; 5,000 nodes, not 9.
K4 : given 1 2 9 10 48 ≡ Refused reason.Cart no_counts
unfolding given
K4 = refl

K5 : given 1 2 3 33 48 ≡ Refused reason.Cart no_counts
unfolding given
K5 = refl

K6 : given 1 2 3 8 5000 ≡ Refused reason.Cart no_counts
unfolding given
K6 = refl

-- 14 comes before 16, and before 1.
K7 : given 3 2 4 8 48 ≡ Refused reason.Cart no_counts
unfolding given
K7 = refl

K8 : given 1 9 3 8 49 ≡ Refused reason.Cart no_counts
unfolding given
K8 = refl

-- Within the limits, each at its limit: revision 3 is 16, and dim 9 is 1; then, with nothing lent, it is 4.
K9 : given 3 9 3 8 48 ≡ Refused reason.Revision no_counts
unfolding given
K9 = refl

K10 : given 2 9 3 8 48 ≡ Refused reason.Dim no_counts
unfolding given
K10 = refl

K11 : given 1 3 3 8 48 ≡ Refused reason.Length no_counts
unfolding given
K11 = refl

-- A count of 0, and a count that is not above the degree: 3.
K12 : given 1 3 0 0 0 ≡ Refused reason.Count no_counts
unfolding given
K12 = refl

K13 : given 2 2 3 3 0 ≡ Refused reason.Count no_counts
unfolding given
K13 = refl
