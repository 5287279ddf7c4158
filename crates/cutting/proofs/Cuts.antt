-- Where a row of bytes is cut. Assumes nothing.
use Rattle.std.proofs.Common.{◌≡◌, ℕ, suc, ◌+◌, ◌-◌, ◌<◌, Bool, true, false, cond, List, [], ◌∷◌, length, take, drop, sym, refl, ap, ◌∙◌, ⊎_elim, add-one, arith}
use Rattle.std.proofs.lemmas.List.{take_rest}
use Rattle.std.proofs.Math.Nat.{eq-zero-or-pos}
use Rattle.std.proofs.lemmas.Grind.{common_steps}
use Rattle.std.proofs.lemmas.List.Recursion.{is_position_or_len}
use Rattle.std.specs.List.{after_first, before_first, position_or_len, prefix_len}
use Rattle.cutting.specs.Pieces.{Begins, Blank, ends, onto, first, pieces_by, filled, words}

-- how many bytes stand in front of the first that ends a piece
abbrev size : (ℕ → Bool) → List ℕ → ℕ
size end [] = 0
size end (b ∷ bs) = cond (end b) 0 (suc (size end bs))

one_more : (v : Bool) (n : ℕ) → cond v 0 (suc n) ≡ cond v 0 (1 + n)
one_more true n = refl
one_more false n = omega arith

size_is : (end : ℕ → Bool) (bs : List ℕ) → size end bs ≡ position_or_len end bs
size_is end bs = is_position_or_len (size end) end refl (λ b bs. one_more (end b) (size end bs)) bs

-- the first piece goes up to the first byte that ends it, here with one byte more in front
onto_pieces : (end : ℕ → Bool) (b : ℕ) (bs : List ℕ) → onto b (pieces_by end bs) ≡ (b ∷ take (size end bs) bs) ∷ pieces_by end (drop (suc (size end bs)) bs)
onto_pieces end b [] = refl
onto_pieces end b (c ∷ bs) = by_end (end c) (onto_pieces end c bs)
  where
    by_end : (v : Bool) → onto c (pieces_by end bs) ≡ (c ∷ take (size end bs) bs) ∷ pieces_by end (drop (suc (size end bs)) bs) → onto b (cond v ([] ∷ pieces_by end bs) (onto c (pieces_by end bs))) ≡ (b ∷ take (cond v 0 (suc (size end bs))) (c ∷ bs)) ∷ pieces_by end (drop (suc (cond v 0 (suc (size end bs)))) (c ∷ bs))
    by_end true more = refl
    by_end false more = ap (onto b) more

by_size : (end : ℕ → Bool) (bs : List ℕ) → 0 < length bs → pieces_by end bs ≡ take (size end bs) bs ∷ pieces_by end (drop (suc (size end bs)) bs)
by_size end [] some = absurd (omega arith)
by_size end (b ∷ bs) some = by_end (end b) (onto_pieces end b bs)
  where
    by_end : (v : Bool) → onto b (pieces_by end bs) ≡ (b ∷ take (size end bs) bs) ∷ pieces_by end (drop (suc (size end bs)) bs) → cond v ([] ∷ pieces_by end bs) (onto b (pieces_by end bs)) ≡ take (cond v 0 (suc (size end bs))) (b ∷ bs) ∷ pieces_by end (drop (suc (cond v 0 (suc (size end bs)))) (b ∷ bs))
    by_end true more = refl
    by_end false more = more

-- the first piece goes up to the first byte that ends it, and the others are those of what follows
pub pieces_first : (end : ℕ → Bool) (bs : List ℕ) → 0 < length bs → pieces_by end bs ≡ before_first end bs ∷ pieces_by end (after_first end bs)
pieces_first end bs some = rw (add-one, ← size_is) (by_size end bs some)

pub first_piece : (end : ℕ → Bool) (bs : List ℕ) → first (pieces_by end bs) ≡ before_first end bs
first_piece end [] = refl
first_piece end (b ∷ bs) = ap first (pieces_first end (b ∷ bs) (omega arith))

abbrev words_cons : ℕ → List ℕ → Bool → List (List ℕ)
words_cons b bs v = filled (cond v ([] ∷ pieces_by (ends Blank) bs) (onto b (pieces_by (ends Blank) bs)))

-- what stands behind a word, with its blank or without
behind_word : (bs : List ℕ) → words (drop (size (ends Blank) bs) bs) ≡ words (drop (suc (size (ends Blank) bs)) bs)
behind_word [] = refl
behind_word (b ∷ bs) = by_end (ends Blank b) refl (behind_word bs)
  where
    by_end : (v : Bool) → ends Blank b ≡ v → words (drop (size (ends Blank) bs) bs) ≡ words (drop (suc (size (ends Blank) bs)) bs) → words (drop (cond v 0 (suc (size (ends Blank) bs))) (b ∷ bs)) ≡ words (drop (suc (cond v 0 (suc (size (ends Blank) bs)))) (b ∷ bs))
    by_end true blank more = ap (words_cons b bs) blank
    by_end false other more = more

-- the words of bytes that do not begin with a blank
words_from : (b : ℕ) (bs : List ℕ) → ends Blank b ≡ false → words (b ∷ bs) ≡ take (size (ends Blank) (b ∷ bs)) (b ∷ bs) ∷ words (drop (size (ends Blank) (b ∷ bs)) (b ∷ bs))
words_from b bs other =
    by_end (ends Blank b) other (by_size (ends Blank) (b ∷ bs) (omega arith))
    ∙ ap (λ ws. take (size (ends Blank) (b ∷ bs)) (b ∷ bs) ∷ ws) (sym (behind_word (b ∷ bs)))
  where
    by_end : (v : Bool) → v ≡ false → pieces_by (ends Blank) (b ∷ bs) ≡ take (cond v 0 (suc (size (ends Blank) bs))) (b ∷ bs) ∷ pieces_by (ends Blank) (drop (suc (cond v 0 (suc (size (ends Blank) bs)))) (b ∷ bs)) → filled (pieces_by (ends Blank) (b ∷ bs)) ≡ take (cond v 0 (suc (size (ends Blank) bs))) (b ∷ bs) ∷ filled (pieces_by (ends Blank) (drop (suc (cond v 0 (suc (size (ends Blank) bs)))) (b ∷ bs)))
    by_end true e all = cc
    by_end false e all = ap filled all

-- how many blanks stand in front
abbrev blanks : List ℕ → ℕ
blanks [] = 0
blanks (b ∷ bs) = cond (ends Blank b) (suc (blanks bs)) 0

blanks_is : (bs : List ℕ) → blanks bs ≡ prefix_len (ends Blank) bs
blanks_is [] = refl
blanks_is (b ∷ bs) = by_end (ends Blank b) (blanks_is bs)
  where
    by_end : (v : Bool) → blanks bs ≡ prefix_len (ends Blank) bs → cond v (suc (blanks bs)) 0 ≡ cond v (1 + prefix_len (ends Blank) bs) 0
    by_end true is = omega arith
    by_end false is = refl

-- the words of bytes, of which the first begins behind the blanks in front
by_blanks : (bs : List ℕ) → 0 < length (drop (blanks bs) bs) → words bs ≡ take (size (ends Blank) (drop (blanks bs) bs)) (drop (blanks bs) bs) ∷ words (drop (size (ends Blank) (drop (blanks bs) bs)) (drop (blanks bs) bs))
by_blanks [] some = absurd (omega arith)
by_blanks (b ∷ bs) some = by_end (ends Blank b) refl some (by_blanks bs)
  where
    text : Bool → List ℕ
    text v = drop (cond v (suc (blanks bs)) 0) (b ∷ bs)

    by_end : (v : Bool) → ends Blank b ≡ v → 0 < length (text v) → (0 < length (drop (blanks bs) bs) → words bs ≡ take (size (ends Blank) (drop (blanks bs) bs)) (drop (blanks bs) bs) ∷ words (drop (size (ends Blank) (drop (blanks bs) bs)) (drop (blanks bs) bs))) → words (b ∷ bs) ≡ take (size (ends Blank) (text v)) (text v) ∷ words (drop (size (ends Blank) (text v)) (text v))
    by_end true blank some more = ap (words_cons b bs) blank ∙ more some
    by_end false other some more = words_from b bs other

-- blanks alone hold no word
by_none : (bs : List ℕ) → length (drop (blanks bs) bs) ≡ 0 → words bs ≡ []
by_none [] none = refl
by_none (b ∷ bs) none = by_end (ends Blank b) refl none (by_none bs)
  where
    by_end : (v : Bool) → ends Blank b ≡ v → length (drop (cond v (suc (blanks bs)) 0) (b ∷ bs)) ≡ 0 → (length (drop (blanks bs) bs) ≡ 0 → words bs ≡ []) → words (b ∷ bs) ≡ []
    by_end true blank none more = ap (words_cons b bs) blank ∙ more none
    by_end false other none more = absurd (omega arith)

-- the bytes from the first word on
abbrev pub word_on : List ℕ → List ℕ
word_on bs = drop (prefix_len (ends Blank) bs) bs

pub part_from : (bs : List ℕ) (n : ℕ) → n ≡ prefix_len (ends Blank) bs → take (length bs - n) (drop n bs) ≡ word_on bs
part_from bs n is = take_rest bs n ∙ ap (λ k. drop k bs) is

-- the first word, and the words of what stands behind it, from the blank that ends it on
pub first_word : (bs : List ℕ) → 0 < length (word_on bs) → words bs ≡ before_first (ends Blank) (word_on bs) ∷ words (drop (position_or_len (ends Blank) (word_on bs)) (word_on bs))
first_word bs some =
    let size_there = size_is (ends Blank) (word_on bs) in
    rw (← size_there, ← blanks_is) (by_blanks bs (rw (← blanks_is) at some))

pub no_word : (bs : List ℕ) → length (word_on bs) ≡ 0 → words bs ≡ []
no_word bs none = by_none bs (rw (← blanks_is) at none)

-- the words behind the first word are those behind the blank that ends it
words_behind : (bs : List ℕ) → words (drop (position_or_len (ends Blank) bs) bs) ≡ words (after_first (ends Blank) bs)
words_behind bs = rw (add-one, ← size_is) (behind_word bs)

-- the first word, and the words of what follows the blank that ends it
pub first_word_cut : (bs : List ℕ) → 0 < length (word_on bs) → words bs ≡ before_first (ends Blank) (word_on bs) ∷ words (after_first (ends Blank) (word_on bs))
first_word_cut bs some = first_word bs some ∙ ap (λ ws. before_first (ends Blank) (word_on bs) ∷ ws) (words_behind (word_on bs))

-- no word is empty
filled_some : (ps : List (List ℕ)) (w : List ℕ) (ws : List (List ℕ)) → filled ps ≡ w ∷ ws → 0 < length w
filled_some [] w ws is = omega (arith, ap length is)
filled_some ([] ∷ ps) w ws is = filled_some ps w ws is
filled_some ((b ∷ bs) ∷ ps) w ws is = let same : b ∷ bs ≡ w = cc in omega (arith, ap length same)

-- the first word of a text, and what follows the blank that ends it
pub begins : (text : List ℕ) → Begins text (before_first (ends Blank) (word_on text)) (after_first (ends Blank) (word_on text))
begins text = record { some = λ long. first_word_cut text (some_on long); none = none; shorter = λ long. shorter (some_on long) }
  where
    some_on : 0 < length (before_first (ends Blank) (word_on text)) → 0 < length (word_on text)
    some_on long = grind (arith, common_steps)

    none : length (before_first (ends Blank) (word_on text)) ≡ 0 → words text ≡ []
    none short =
        let word = before_first (ends Blank) (word_on text) in
        let long = filled_some (pieces_by (ends Blank) text) word (words (after_first (ends Blank) (word_on text))) in
        ⊎_elim (no_word text) (λ some. absurd (omega (arith, short, long (first_word_cut text some)))) (eq-zero-or-pos (length (word_on text)))

    shorter : 0 < length (word_on text) → length (after_first (ends Blank) (word_on text)) < length text
    shorter some = grind (arith, common_steps)

-- one piece less is left behind the first
pub fewer : {X : Type 0} (x : X) (xs ys : List X) → xs ≡ x ∷ ys → length ys < length xs
fewer x xs ys is = omega (arith, ap length is)
