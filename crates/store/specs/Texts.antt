-- Texts, which are lists of numbers, and what it means to replace a part of one. Assumes nothing.
use Rattle.std.specs.Prelude.{◌≡◌, ℕ, ◌+◌, min, Bool, cond, ◌&&◌, List, ◌++◌, length, take, drop, nat_le}

-- the first `place` numbers of the text, the list `put`, and the text from `place` plus `count` on
abbrev pub spliced : ℕ → ℕ → List ℕ → List ℕ → List ℕ
spliced place count put text = take place text ++ (put ++ drop (place + count) text)

-- whether what is taken lies within the text, and the new text within the capacity
abbrev pub replaceable : ℕ → ℕ → ℕ → List ℕ → List ℕ → Bool
replaceable capacity place count put text = nat_le (place + count) (length text) && nat_le (length (spliced place count put text)) capacity

-- a replacement tells whether it is possible, and is then done; else the text stays
pub record Replaced (capacity place count : ℕ) (put : List ℕ) (before : List ℕ) (done : Bool) (after : List ℕ) : Type 0 where
  pub told : done ≡ replaceable capacity place count put before
  pub text : after ≡ cond done (spliced place count put before) before

-- no store holds more numbers than this
abbrev pub capacity_limit : ℕ
capacity_limit = 4096

-- the capacity of a store over an array with this many cells
abbrev pub capacity_of : ℕ → ℕ
capacity_of cells = min cells capacity_limit
