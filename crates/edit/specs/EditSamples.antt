-- The edit's samples: P7 to P9, a longer path, a larger Hall set, and a refusal of each kind, each over buffers that hold junk.
use Rattle.std.specs.Prelude.{ℕ, ◌+◌, List, [], ◌∷◌, ◌++◌, Ok, Err, replicate}
use Rattle.graph.specs.Matchings.{Row, Col}
use Rattle.sparse.specs.Refusals.{as_row}
use Rattle.sparse.specs.declared.refusal.Refusal.{Refusal}
use Rattle.sparse.specs.declared.refusal.Refusal.TheVariants.{TooLarge, Misshapen, RowOutside, RepeatedRow, NoRoom}
use Rattle.sparse.specs.declared.refusal.Refusal.TheVariants.{ColumnOutside, UnfitRow, MismatchedRow}
use Rattle.triangular.specs.Outcome.{Work, work, Outputs, outputs, Lent, lent, BlockAnswer, Outcome, ended, unmatchable}

-- a matrix, a column and what replaces it, the buffers lent, and what comes of it
pub record EditSample : Type 0 where
  pub size : ℕ
  pub starts : List ℕ
  pub rows : List Row
  pub edited : Col
  pub new : List Row
  pub before : Lent
  pub gives : Outcome

-- the sample of these
abbrev sample : ℕ → List ℕ → List Row → Col → List Row → Lent → Outcome → EditSample
sample size starts rows edited new before gives =
    record { size = size; starts = starts; rows = rows; edited = edited; new = new; before = before; gives = gives }

-- two numbers
abbrev two : ℕ → ℕ → List ℕ
two a b = a ∷ b ∷ []

-- three numbers
abbrev three : ℕ → ℕ → ℕ → List ℕ
three a b c = a ∷ b ∷ c ∷ []

-- four numbers
abbrev four : ℕ → ℕ → ℕ → ℕ → List ℕ
four a b c d = a ∷ b ∷ c ∷ d ∷ []

-- workspace and stack for n columns, with k places for rows of the reversed graph: x over each need, and what lies beyond
abbrev inside : ℕ → ℕ → ℕ → List ℕ → Work
inside n k x beyond =
    let by_column = replicate n x ++ beyond in
    work by_column by_column by_column by_column (replicate (n + 1) x ++ beyond) (replicate k x ++ beyond) by_column by_column

-- ---- P6, the full matrix of size 2

-- buffers for it to the need, with its matching 0 1
abbrev tight : Lent
tight = lent (inside 2 6 7 []) (outputs (two 0 1) (two 7 8) (two 7 8) (three 7 8 9))

-- its column 1 replaced
abbrev full_edited : List Row → Outcome → EditSample
full_edited new gives = sample 2 (three 0 2 4) (four 0 1 0 1) 1 new tight gives

-- what is left: the matching, the marks, the blocks' columns and their starts
abbrev left : List Col → List ℕ → List Col → List ℕ → Lent
left row2col hall cols starts = lent (inside 2 6 0 []) (outputs row2col hall cols starts)

-- ---- the matrix {1}, {2,0}, {0,1}, whose matching 2 0 1 reads otherwise from column to row

-- its outputs, with a number beyond each need: the matching, the marks, the blocks' columns and their starts
abbrev written : List Col → List ℕ → List Col → List ℕ → Outputs
written row2col hall cols starts =
    outputs (row2col ++ (3 ∷ [])) (hall ++ (4 ∷ [])) (cols ++ (5 ∷ [])) (starts ++ (6 ∷ []))

-- outputs that hold a matching and junk
abbrev holding : List Col → Outputs
holding row2col = written row2col (three 7 8 9) (three 7 8 9) (four 7 8 9 2)

-- buffers with a number beyond each need, workspace and stack holding junk
abbrev wide : Outputs → Lent
wide o = lent (inside 3 8 7 (6 ∷ [])) o

-- the same with workspace and stack zero over their needs
abbrev clean : Outputs → Lent
clean o = lent (inside 3 8 0 (6 ∷ [])) o

-- its edit, from a list of columns by row, and what answer and outputs come of it
abbrev cyclic_edited : Col → List Row → List Col → BlockAnswer → Outputs → EditSample
cyclic_edited e new row2col answer o =
    sample 3 (four 0 1 3 5) (1 ∷ 2 ∷ 0 ∷ 0 ∷ 1 ∷ []) e new (wide (holding row2col)) (ended answer (clean o))

-- and where it is refused with every output as it was
abbrev cyclic_refused : Col → List Row → List Col → Refusal → EditSample
cyclic_refused e new row2col r = cyclic_edited e new row2col (Err r) (holding row2col)

-- ---- the others

-- buffers for size 0, to the need, with x where the workspace has a place
abbrev least : ℕ → Lent
least x = lent (inside 0 0 x []) (outputs [] [] [] (8 ∷ []))

-- buffers for size 3 and five entries that would do for the block form, with one place too few for the edit
abbrev short : Lent
short = lent (inside 3 7 7 []) (holding (three 2 0 1))

-- another matrix of size 3, with faults of the edit besides its own
abbrev faulty : List ℕ → List Row → Lent → Outcome → EditSample
faulty starts rows before gives = sample 3 starts rows 3 (two 3 3) before gives

-- P7 to P9; a path of three rows; a Hall set of two columns; then a refusal each by 1, 2, 5, 3 and 4; by 13 where there is no column
-- and where there are three; by 14 for a row not below n and for a repeated one; by 15 for a column not below n, for one used before
-- and for one that lacks the row in the old matrix, though not in the edited one
abbrev pub edit_samples : List EditSample
edit_samples =
    full_edited (0 ∷ []) (ended (Ok 2) (left (two 1 0) (two 0 0) (two 0 1) (three 0 1 2)))
    ∷ full_edited (1 ∷ []) (ended (Ok 2) (left (two 0 1) (two 0 0) (two 0 1) (three 0 1 2)))
    ∷ full_edited [] (ended (unmatchable 1) (left (two 0 1) (two 0 1) (two 0 0) (three 0 0 0)))
    ∷ cyclic_edited 0 (two 2 0) (three 2 0 1) (Ok 2) (written (three 1 2 0) (three 0 0 0) (three 2 0 1) (four 0 1 3 0))
    ∷ cyclic_edited 1 (1 ∷ []) (three 2 0 1) (unmatchable 1) (written (three 2 0 1) (three 1 1 0) (three 0 0 0) (four 0 0 0 0))
    ∷ sample 4097 [] [] 0 [] (least 7) (ended (Err TooLarge) (least 7))
    ∷ faulty (four 0 1 3 6) (1 ∷ 2 ∷ 0 ∷ 0 ∷ 9 ∷ []) short (ended (Err Misshapen) short)
    ∷ faulty (four 0 1 3 5) (1 ∷ 2 ∷ 0 ∷ 0 ∷ 9 ∷ []) short (ended (Err NoRoom) short)
    ∷ faulty (four 0 1 3 5) (1 ∷ 2 ∷ 2 ∷ 0 ∷ 3 ∷ []) (wide (holding (three 2 0 1)))
    (ended (Err (RowOutside 4)) (wide (holding (three 2 0 1))))
    ∷ faulty (four 0 1 3 5) (1 ∷ 2 ∷ 2 ∷ 0 ∷ 1 ∷ []) (wide (holding (three 2 2 1)))
    (ended (Err (RepeatedRow 2)) (clean (holding (three 2 2 1))))
    ∷ sample 0 (0 ∷ []) [] 0 [] (least 7) (ended (Err ColumnOutside) (least 0))
    ∷ cyclic_refused 3 (two 3 3) (three 0 0 0) ColumnOutside
    ∷ cyclic_refused 2 (three 0 3 0) (three 0 0 0) (UnfitRow 1)
    ∷ cyclic_refused 2 (three 0 2 0) (three 0 0 0) (UnfitRow 2)
    ∷ cyclic_refused 1 (two 2 0) (three 2 0 3) (MismatchedRow (as_row 2))
    ∷ cyclic_refused 1 (two 2 0) (three 2 2 1) (MismatchedRow (as_row 1))
    ∷ cyclic_refused 0 (0 ∷ []) (three 0 2 1) (MismatchedRow (as_row 0))
    ∷ []

-- the number and the place of each sample's answer, in the same order
abbrev pub edit_answers : List (ℕ × ℕ)
edit_answers =
    (0, 0) ∷ (0, 0) ∷ (9, 1) ∷ (0, 0) ∷ (9, 1) ∷ (1, 0) ∷ (2, 0) ∷ (5, 0) ∷ (3, 4) ∷ (4, 2) ∷ (13, 0)
    ∷ (13, 0) ∷ (14, 1) ∷ (14, 2) ∷ (15, 2) ∷ (15, 1) ∷ (15, 0) ∷ []
