-- The columns of a matrix in its storage, and of one with a column replaced.
use Rattle.std.specs.Prelude.{Option, Some, None}
use Rattle.graph.specs.Matchings.{Pattern}
use Rattle.graph.specs.Edits.{edited}
use Rattle.sparse.specs.Matrix.{column}
use Rattle.sparse.specs.declared.mat.Edit.{Edit}
use Rattle.sparse.specs.declared.mat.EditedMat.{EditedMat}
use Rattle.sparse.specs.declared.mat.SparseMat.{SparseMat}

-- the rows of each column of a matrix
abbrev pub columns : SparseMat → Pattern
columns m = column m.starts.now m.rows.now

-- a pattern after an edit, if there is one
abbrev pub after : Option Edit → Pattern → Pattern
after None col = col
after (Some e) col = edited col e.column.0 e.rows.now

-- the rows of each column of a matrix with its edit
abbrev pub edited_columns : EditedMat → Pattern
edited_columns m = after m.edit (columns m.mat)
