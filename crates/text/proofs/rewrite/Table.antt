-- Cases of the writer, by computation: texts word by word, and what is given for them with so many bytes of room.
use mathlib.Core.Path.{◌≡◌, refl}
use mathlib.Core.Bool.{Bool, true, false, ◌&&◌}
use mathlib.Core.List.{List, [], ◌∷◌, ◌++◌}
use Prim.Native.Nat.{ℕ}
use Prim.Native.String.{String}
use lib.ListN.{length, replicate}
use lib.Dec.{eqb}
use lib.Count.{count_trailing_zeros}
use lib.Ieee.{lt, le, eq, of_bits, to_bits, nan_bits}
use Rattle.lists.specs.Lists.{put, all, count, foldl}
use Rattle.model.specs.NurbCurve.{weights_positive}
use Rattle.model.specs.Subdivide.{positive_zero}
use Rattle.model.specs.Layout.{point_at, points_of, slot_words}
use Rattle.model.specs.Call.{dim_fits, degree_fits, count_fits, lengths_fit, numbers_usable, bounds_ordered, weights_fit, rising}
use Rattle.model.specs.Call.{multiplicity_ok, knots_valid, knots_fit, first_failed, or_else, revision_fits, revision_refusal}
use Rattle.model.specs.Call.{sizes_refusal, curve_refusal, question_refusal, stated, area_fits, refusal}
use Rattle.text.specs.Bytes.{bytes, then, word}
use Rattle.text.specs.Numerals.{in_base, digits, small, nibble, double_of, double}
use Rattle.text.specs.Numerals.{last_digits, decimal_length, decimal, hexadecimal}
use Rattle.text.specs.Question.{small_line, values, line, lines, revision_by, revision, sizes, numbers}
use Rattle.text.specs.Question.{complete_by, opened_by, read_by, named_by, begun_by, reading}
use Rattle.text.specs.Form.{small_text, values_text, line_text, lines_text, sizes_text, limits_text, shape_text, form}
use Rattle.text.specs.Form.{checked_by, accepted_by, accepted, count_for, output_for, rewritten_by, output_by}
use Rattle.std.specs.Prelude.{Result, Ok, Err}

-- ---- what a case says

alike : List ℕ → List ℕ → Bool
alike [] [] = true
alike [] (y ∷ ys) = false
alike (x ∷ xs) [] = false
alike (x ∷ xs) (y ∷ ys) = eqb x y && alike xs ys

same : Result ℕ ℕ → Result ℕ ℕ → Bool
same (Ok m) (Ok n) = eqb m n
same (Err m) (Err n) = eqb m n
same (Ok m) (Err n) = false
same (Err m) (Ok n) = false

-- For the text, lent these bytes, the writer gives r and leaves m. What it would take to look at a work area is open too, so that
-- a writer that does is decided, and refused.
gives : List ℕ → List ℕ → Result ℕ ℕ → List ℕ → Bool
unfolding lt le eq of_bits to_bits nan_bits count_trailing_zeros put all count foldl weights_positive positive_zero point_at points_of
    dim_fits degree_fits count_fits lengths_fit numbers_usable bounds_ordered weights_fit rising multiplicity_ok knots_valid knots_fit
    first_failed or_else revision_fits revision_refusal sizes_refusal curve_refusal question_refusal slot_words stated area_fits refusal
    then word in_base digits small nibble double_of double last_digits decimal_length decimal hexadecimal
    small_line values line lines revision_by revision sizes numbers complete_by opened_by read_by named_by begun_by reading
    small_text values_text line_text lines_text sizes_text limits_text shape_text form
    checked_by accepted_by accepted count_for output_for rewritten_by output_by alike same
gives text l r m = same (rewritten_by (length l) (accepted text)) r && alike (output_by l (accepted text)) m

-- ---- texts: one point of degree 0, with 4,096 nodes, which the search refuses by 10 where 8,192 numbers are lent

-- In upper case and with negative zeros, behind these lines.
mixed : String → List ℕ
unfolding bytes
mixed head =
    bytes head
    ++ bytes "dim=2\ndegree=0\ncount=1\nnodes=4096\nresolution=8000000000000000\nknots=8000000000000000 3FF0000000000000\n"
    ++ bytes "point=4008000000000000 400AAAAAAAAAAAAB 8000000000000000 0000000000000000 3ff0000000000000 3FF0000000000000\n"
    ++ bytes "box=8000000000000000 8000000000000000 c008000000000000 400abcdefABCDEF0\n"

-- Their one form, in this revision.
whole : String → List ℕ
unfolding bytes
whole head =
    bytes head
    ++ bytes "dim=2\ndegree=0\ncount=1\nnodes=4096\nresolution=0000000000000000\nknots=0000000000000000 3ff0000000000000\n"
    ++ bytes "point=4008000000000000 400aaaaaaaaaaaab 0000000000000000 0000000000000000 3ff0000000000000 3ff0000000000000\n"
    ++ bytes "box=0000000000000000 0000000000000000 c008000000000000 400abcdefabcdef0\n"

-- Knots that fall, which is 8.
falling : List ℕ
unfolding bytes
falling =
    bytes "dim=2\ndegree=0\ncount=1\nnodes=4096\nresolution=0000000000000000\nknots=3ff0000000000000 0000000000000000\n"
    ++ bytes "point=4008000000000000 4008000000000000 0000000000000000 0000000000000000 3ff0000000000000 3ff0000000000000\n"
    ++ bytes "box=0000000000000000 0000000000000000 0000000000000000 0000000000000000\n"

-- Bytes that are lent.
lent : ℕ → List ℕ
lent n = replicate n 7

-- ---- the cases

-- F1: the form is written, with positive zeros and lower-case digits, and what stands behind it stays; nodes=4096 is no matter.
F1 : gives (mixed "") (lent 300) (Ok 288) (whole "rev=1\n" ++ lent 12) ≡ true
unfolding gives mixed whole lent
F1 = refl

-- F2: with exactly as much room.
F2 : gives (mixed "rev=1\n") (lent 288) (Ok 288) (whole "rev=1\n") ≡ true
unfolding gives mixed whole lent
F2 = refl

-- F3: with a byte less, 15, and nothing is written.
F3 : gives (mixed "") (lent 287) (Err 15) (lent 287) ≡ true
unfolding gives mixed whole lent
F3 = refl

-- F4: the revision is kept.
F4 : gives (mixed "rev=2\n") (lent 288) (Ok 288) (whole "rev=2\n") ≡ true
unfolding gives mixed whole lent
F4 = refl

-- F5: a text that is refused has its own number, with no room at all.
F5 : gives falling [] (Err 8) [] ≡ true
unfolding gives falling
F5 = refl

-- F6: another revision is 16, before anything else is read.
F6 : gives (mixed "rev=3\n") [] (Err 16) [] ≡ true
unfolding gives mixed
F6 = refl
