-- The block form's samples: P1 to P6 and a refusal of each kind, each over buffers that hold junk.
use Rattle.std.specs.Prelude.{ℕ, List, [], ◌∷◌, Ok, Err}
use Rattle.graph.specs.Matchings.{Row, Col}
use Rattle.sparse.specs.declared.refusal.Refusal.TheVariants.{TooLarge, Misshapen, RowOutside, RepeatedRow, NoRoom}
use Rattle.triangular.specs.Outcome.{Work, work, Outputs, outputs, Lent, lent, Outcome, ended, unmatchable}

-- a matrix, the buffers lent, and what comes of it
pub record FormSample : Type 0 where
  pub size : ℕ
  pub starts : List ℕ
  pub rows : List Row
  pub before : Lent
  pub gives : Outcome

abbrev sample : ℕ → List ℕ → List Row → Lent → Outcome → FormSample
sample size starts rows before gives = record { size = size; starts = starts; rows = rows; before = before; gives = gives }

-- two numbers, three numbers and three zeros
abbrev two : ℕ → ℕ → List ℕ
two a b = a ∷ b ∷ []

abbrev three : List ℕ → List ℕ
three rest = 7 ∷ 8 ∷ 9 ∷ rest

abbrev zeros : List ℕ → List ℕ
zeros rest = 0 ∷ 0 ∷ 0 ∷ rest

-- workspace and stack, with the same in each slice that goes by columns
abbrev inside : List ℕ → List ℕ → List ℕ → Work
inside n starts rows = work n n n n starts rows n n

-- buffers for size 3 and five entries, with a number beyond each need
abbrev wide : Lent
wide =
    lent (inside (three (6 ∷ [])) (three (5 ∷ 6 ∷ [])) (three (4 ∷ 5 ∷ 6 ∷ [])))
    (outputs (three (3 ∷ [])) (three (4 ∷ [])) (three (5 ∷ [])) (three (2 ∷ 6 ∷ [])))

-- their workspace and stack zero over the need, for five entries and for four
abbrev clean : Work
clean = inside (zeros (6 ∷ [])) (zeros (0 ∷ 6 ∷ [])) (zeros (0 ∷ 0 ∷ 6 ∷ []))

abbrev clean_four : Work
clean_four = inside (zeros (6 ∷ [])) (zeros (0 ∷ 6 ∷ [])) (zeros (0 ∷ 5 ∷ 6 ∷ []))

-- their outputs, and what they hold in front: the matching, the marks, the blocks' columns and their starts
abbrev written : (List ℕ → List Col) → (List ℕ → List ℕ) → (List ℕ → List Col) → (List ℕ → List ℕ) → Outputs
written row2col hall cols starts = outputs (row2col (3 ∷ [])) (hall (4 ∷ [])) (cols (5 ∷ [])) (starts (6 ∷ []))

-- buffers for size 2 and four entries, to the need
abbrev full : Lent
full = lent (inside (two 7 8) (three []) (three (7 ∷ []))) (outputs (two 7 8) (two 7 8) (two 7 8) (three []))

-- buffers for size 1 and no entries, with a number beyond each need
abbrev small : Lent
small = lent (inside (two 7 8) (three []) (9 ∷ [])) (outputs (two 7 8) (two 7 8) (two 7 8) (three []))

-- buffers for size 0, to the need
abbrev least : Lent
least = lent (inside [] (7 ∷ []) []) (outputs [] [] [] (8 ∷ []))

-- P1 to P6; a matching that reads otherwise from column to row, with a block of two columns behind one of one; and a refusal each by
-- 1, 2, 5, 3 and 4
abbrev pub form_samples : List FormSample
form_samples =
    sample 0 (0 ∷ []) [] least (ended (Ok 0) (lent (inside [] (0 ∷ []) []) (outputs [] [] [] (0 ∷ []))))
    ∷ sample 1 (0 ∷ 0 ∷ []) [] small
    (ended (unmatchable 0)
    (lent (inside (two 0 8) (0 ∷ 0 ∷ 9 ∷ []) (9 ∷ [])) (outputs (two 0 8) (two 1 8) (two 0 8) (0 ∷ 0 ∷ 9 ∷ []))))
    ∷ sample 3 (0 ∷ 2 ∷ 3 ∷ 5 ∷ []) (0 ∷ 1 ∷ 1 ∷ 0 ∷ 2 ∷ []) wide
    (ended (Ok 3) (lent clean (written (λ t. 0 ∷ 1 ∷ 2 ∷ t) zeros (λ t. 2 ∷ 0 ∷ 1 ∷ t) (λ t. 0 ∷ 1 ∷ 2 ∷ 3 ∷ t))))
    ∷ sample 3 (0 ∷ 2 ∷ 3 ∷ 5 ∷ []) (0 ∷ 1 ∷ 0 ∷ 1 ∷ 2 ∷ []) wide
    (ended (Ok 3) (lent clean (written (λ t. 1 ∷ 0 ∷ 2 ∷ t) zeros (λ t. 2 ∷ 0 ∷ 1 ∷ t) (λ t. 0 ∷ 1 ∷ 2 ∷ 3 ∷ t))))
    ∷ sample 3 (0 ∷ 1 ∷ 2 ∷ 4 ∷ []) (0 ∷ 0 ∷ 1 ∷ 2 ∷ []) wide
    (ended (unmatchable 1) (lent clean_four (written zeros (λ t. 1 ∷ 1 ∷ 0 ∷ t) zeros (λ t. zeros (0 ∷ t)))))
    ∷ sample 2 (0 ∷ 2 ∷ 4 ∷ []) (0 ∷ 1 ∷ 0 ∷ 1 ∷ []) full
    (ended (Ok 1)
    (lent (inside (two 0 0) (zeros []) (zeros (0 ∷ []))) (outputs (two 0 1) (two 0 0) (two 0 1) (0 ∷ 2 ∷ 0 ∷ []))))
    ∷ sample 3 (0 ∷ 2 ∷ 4 ∷ 5 ∷ []) (1 ∷ 2 ∷ 1 ∷ 2 ∷ 0 ∷ []) wide
    (ended (Ok 2) (lent clean (written (λ t. 2 ∷ 0 ∷ 1 ∷ t) zeros (λ t. 2 ∷ 0 ∷ 1 ∷ t) (λ t. 0 ∷ 1 ∷ 3 ∷ 0 ∷ t))))
    ∷ sample 4097 [] [] least (ended (Err TooLarge) least)
    ∷ sample 1 (0 ∷ 2 ∷ []) (0 ∷ []) small (ended (Err Misshapen) small)
    ∷ sample 1 (0 ∷ 2 ∷ []) (9 ∷ 9 ∷ []) small (ended (Err NoRoom) small)
    ∷ sample 3 (0 ∷ 2 ∷ 3 ∷ 5 ∷ []) (0 ∷ 2 ∷ 3 ∷ 0 ∷ 4 ∷ []) wide (ended (Err (RowOutside 2)) wide)
    ∷ sample 3 (0 ∷ 0 ∷ 3 ∷ 5 ∷ []) (0 ∷ 1 ∷ 0 ∷ 1 ∷ 1 ∷ []) wide (ended (Err (RepeatedRow 2)) (lent clean wide.outer))
    ∷ []

-- the number and the place of each sample's answer, in the same order
abbrev pub form_answers : List (ℕ × ℕ)
form_answers =
    (0, 0) ∷ (9, 0) ∷ (0, 0) ∷ (0, 0) ∷ (9, 1) ∷ (0, 0) ∷ (0, 0) ∷ (1, 0) ∷ (2, 0) ∷ (5, 0) ∷ (3, 2) ∷ (4, 2) ∷ []
