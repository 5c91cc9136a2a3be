-- The two words in which the contents of a lent buffer are said.
use Rattle.std.specs.Prelude.{ℕ, List, ◌++◌, length, replicate, drop}

-- the first k zero, the rest as it was
abbrev pub zeroed : ℕ → List ℕ → List ℕ
zeroed k xs = replicate k 0 ++ drop k xs

-- ys at the front, the rest as it was
abbrev pub filled : List ℕ → List ℕ → List ℕ
filled ys xs = ys ++ drop (length ys) xs
