-- `advance` meets its contract.
use Rattle.matching.specs.Parts.{back, down}
use Rattle.std.proofs.Common.{arith, length, max}
use Rattle.matching.proofs.search.advance.Goals as goal

pub put-requires-2 : goal.put-requires-2
put-requires-2 c =
    let S = c.in-Some.ensures in
    omega (arith, c.requires.top_lt_max_size.2 c.in-Some.next S.within (S.open_place.here S.within))

pub returns-in_default : goal.returns-in_default
returns-in_default c =
    back (max c.args.from (length c.args.col.now)) c.in_default.ensures.open_place (omega arith)

pub returns : goal.returns
returns c =
    let S = c.in-Some.ensures in
    rw (c.put.ensures, c.put-2.ensures, c.col_at.ensures) (down c.in-Some.next S.open_place S.within)
