-- Which product `low_of` chooses, by the seven ways that its tests leave. Assumes nothing.
use mathlib.Core.Path.{◌≡◌, ap, ◌∙◌}
use mathlib.Core.Bool.{true, false, cond}
use lib.Ieee.{Float, le}
use Rattle.math.specs.Picks.{min_f}
use Rattle.math.specs.Scalars.{zero_f}
use Rattle.math.specs.Directed.{product_down}
use Rattle.math.specs.Tight.{low_of}
use Rattle.math.proofs.Bools.{pick_yes, pick_no}

module _ (a b c d : Float) where
  abbrev mixed : Float
  mixed = cond (le zero_f a) (product_down b c) (cond (le b zero_f) (product_down a d) (min_f (product_down a d) (product_down b c)))

  abbrev falling : Float
  falling = cond (le d zero_f) (product_down b (cond (le zero_f b) c d)) mixed

  pub low_low : le zero_f c ≡ true → le zero_f a ≡ true → product_down a c ≡ low_of a b c d
  unfolding low_of
  low_low hc ha = ap (product_down a) (pick_yes (le zero_f a) c d ha) ∙ pick_yes (le zero_f c) (product_down a (cond (le zero_f a) c d)) falling hc

  pub low_high : le zero_f c ≡ true → le zero_f a ≡ false → product_down a d ≡ low_of a b c d
  unfolding low_of
  low_high hc ha = ap (product_down a) (pick_no (le zero_f a) c d ha) ∙ pick_yes (le zero_f c) (product_down a (cond (le zero_f a) c d)) falling hc

  past_c : le zero_f c ≡ false → falling ≡ low_of a b c d
  unfolding low_of
  past_c hc = pick_no (le zero_f c) (product_down a (cond (le zero_f a) c d)) falling hc

  pub high_low : le zero_f c ≡ false → le d zero_f ≡ true → le zero_f b ≡ true → product_down b c ≡ low_of a b c d
  high_low hc hd hb = ap (product_down b) (pick_yes (le zero_f b) c d hb) ∙ pick_yes (le d zero_f) (product_down b (cond (le zero_f b) c d)) mixed hd ∙ past_c hc

  pub high_high : le zero_f c ≡ false → le d zero_f ≡ true → le zero_f b ≡ false → product_down b d ≡ low_of a b c d
  high_high hc hd hb = ap (product_down b) (pick_no (le zero_f b) c d hb) ∙ pick_yes (le d zero_f) (product_down b (cond (le zero_f b) c d)) mixed hd ∙ past_c hc

  past_d : le zero_f c ≡ false → le d zero_f ≡ false → mixed ≡ low_of a b c d
  past_d hc hd = pick_no (le d zero_f) (product_down b (cond (le zero_f b) c d)) mixed hd ∙ past_c hc

  pub mixed-above : le zero_f c ≡ false → le d zero_f ≡ false → le zero_f a ≡ true → product_down b c ≡ low_of a b c d
  mixed-above hc hd ha = pick_yes (le zero_f a) (product_down b c) (cond (le b zero_f) (product_down a d) (min_f (product_down a d) (product_down b c))) ha ∙ past_d hc hd

  past_a : le zero_f c ≡ false → le d zero_f ≡ false → le zero_f a ≡ false → cond (le b zero_f) (product_down a d) (min_f (product_down a d) (product_down b c)) ≡ low_of a b c d
  past_a hc hd ha = pick_no (le zero_f a) (product_down b c) (cond (le b zero_f) (product_down a d) (min_f (product_down a d) (product_down b c))) ha ∙ past_d hc hd

  pub mixed-below : le zero_f c ≡ false → le d zero_f ≡ false → le zero_f a ≡ false → le b zero_f ≡ true → product_down a d ≡ low_of a b c d
  mixed-below hc hd ha hb = pick_yes (le b zero_f) (product_down a d) (min_f (product_down a d) (product_down b c)) hb ∙ past_a hc hd ha

  pub mixed-both : le zero_f c ≡ false → le d zero_f ≡ false → le zero_f a ≡ false → le b zero_f ≡ false → min_f (product_down a d) (product_down b c) ≡ low_of a b c d
  mixed-both hc hd ha hb = pick_no (le b zero_f) (product_down a d) (min_f (product_down a d) (product_down b c)) hb ∙ past_a hc hd ha
