-- How many pieces a row of bytes has at most. Assumes nothing.
use Rattle.std.proofs.Common.{ℕ, suc, ◌≤◌, Bool, true, false, cond, List, [], ◌∷◌, length, arith}
use Rattle.cutting.specs.Pieces.{Newline, Blank, ends, onto, pieces_by, lines, filled, words}

few_pieces : (end : ℕ → Bool) (bs : List ℕ) → length (pieces_by end bs) ≤ length bs
few_pieces end [] = omega arith
few_pieces end (b ∷ bs) = by_end (end b) (pieces_by end bs) (few_pieces end bs)
  where
    by_end : (v : Bool) (ps : List (List ℕ)) → length ps ≤ length bs → length (cond v ([] ∷ ps) (onto b ps)) ≤ suc (length bs)
    by_end true ps few = omega arith
    by_end false [] few = omega arith
    by_end false (p ∷ ps) few = omega arith

few_filled : (ps : List (List ℕ)) → length (filled ps) ≤ length ps
few_filled [] = omega arith
few_filled ([] ∷ ps) = omega (arith, few_filled ps)
few_filled ((b ∷ bs) ∷ ps) = omega (arith, few_filled ps)

pub few_lines : (bs : List ℕ) → length (lines bs) ≤ length bs
few_lines bs = few_pieces (ends Newline) bs

pub few_words : (bs : List ℕ) → length (words bs) ≤ length bs
few_words bs = omega (arith, few_filled (pieces_by (ends Blank) bs), few_pieces (ends Blank) bs)
