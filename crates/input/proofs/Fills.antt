-- A write to a slice fills a part of it, and parts that are filled one behind the other are one. Assumes nothing.
use Rattle.std.proofs.Common.{ℕ, ◌≡◌, ◌+◌, ◌-◌, ◌≤◌, List, ◌++◌, Option, length, take, drop, refl, sym, ap, subst, ◌∙◌, arith, take-append-drop}
use Rattle.std.proofs.lemmas.Slice.{take-put_mid_below, drop-put_mid, between_is}
use Rattle.std.proofs.KnownBytes.{Consumes-trans}
use Rattle.std.specs.Io.KnownBytes.{Consumes}
use Rattle.std.specs.List.{between}
use borrow.Rule.Slice.PartMut.{put_mid, mid_of, same_len_mid, mid_len}
use lib.Seq.{drop-drop, take-take}
use Rattle.lists.specs.Lists.{put}
use Rattle.lists.proofs.Put.{length-put}
use Rattle.lists.proofs.Read.{take_put, drop-put}
use Rattle.input.specs.Filled.{Filled}

-- Nothing was written yet.
pub filled_none : (l : List ℕ) → Filled l l 0 0
filled_none l = record { from = omega arith; upto = omega arith; length = refl; front = refl; back = refl }

-- The bytes ws were written from number a on, and end in front of number n.
pub filled_put : (l m ws : List ℕ) (a n : ℕ) → m ≡ put l a ws → n ≡ a + length ws → a + length ws ≤ length l → Filled l m a n
filled_put l m ws a n e f h = record {
  from = omega arith;
  upto = rw e (omega (arith, length-put l a ws h));
  length = rw e (length-put l a ws h);
  front = rw e (take_put l a ws a (omega arith) (omega arith));
  back = rw (e, f) (drop-put l a ws (a + length ws) (omega arith) h);
}

-- The part of l from number a on and up to number n holds y now.
pub filled_part : (l y : List ℕ) (a n : ℕ) → a ≤ n → n ≤ length l → length y ≡ length (mid_of a (n - a) l) → Filled l (put_mid a (n - a) l y) a n
filled_part l y a n f h p =
    let same : length (put_mid a (n - a) l y) ≡ length l = same_len_mid a (n - a) l y p in
    record {
      from = f;
      upto = omega (arith, same);
      length = same;
      front = take-put_mid_below a (n - a) l y a (omega arith) (omega arith);
      back = drop-put_mid a (n - a) l y n (omega arith) (omega arith) (p ∙ mid_len a n l h);
    }

-- What lies behind number n lies behind number a, where a is at most n.
drop_more : (l m : List ℕ) (a n : ℕ) → a ≤ n → drop a l ≡ drop a m → drop n l ≡ drop n m
drop_more l m a n h e =
    let k : n ≡ a + (n - a) = omega arith in
    rw k (sym (drop-drop (n - a) a l) ∙ ap (drop (n - a)) e ∙ drop-drop (n - a) a m)

-- From the front to number a, and then from there to number n.
pub filled_on : (l m o : List ℕ) (a n : ℕ) → Filled l m 0 a → Filled m o a n → Filled l o 0 n
filled_on l m o a n f g = record {
  from = omega arith;
  upto = g.upto;
  length = g.length ∙ f.length;
  front = refl;
  back = g.back ∙ drop_more m l a n g.from f.back;
}

-- What was read to the front as far as number a, and what was read from there on, is what was read to the front.
pub consumed_on : (r s t : Option (List ℕ)) (l m : List ℕ) (a n : ℕ) → Filled l m a n
    → Consumes r s (take a l) → Consumes s t (between a n m) → Consumes r t (take n m)
consumed_on r s t l m a n f p q =
    let joined : take a l ++ between a n m ≡ take n m =
    rw (← f.front, between_is m a n, ← take-take a n m f.from) (take-append-drop a (take n m)) in
    subst (Consumes r t) joined (Consumes-trans r s t (take a l) (between a n m) p q)
