use Rattle.std.proofs.Common.{arith, ◌+◌, get_or}
use Rattle.sparse.proofs.Matrix.{column_end, part_slice}
use Rattle.sparse.proofs.mat.SparseMat.col_rows.Goals as goal

pub slice_bounds-result-end : goal.slice_bounds-result-end
slice_bounds-result-end c = omega (arith, column_end c.args.self.now.shaped c.args.c.0 (omega arith))

pub returns : goal.returns
returns c =
    let starts = c.args.self.now.starts.now in
    let col = c.args.c.0 in
    rw (c.get-lo.ensures, c.get-hi.ensures) (part_slice (get_or starts col 0) (get_or starts (col + 1) 0) c.args.self.now.rows.now)
