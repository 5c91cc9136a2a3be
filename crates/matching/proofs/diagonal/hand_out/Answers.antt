-- `hand_out` meets its contract, whatever the verdict that the searches ended with.
use Rattle.matching.proofs.Outcome.{hand_accepted, hand_refused}
use Rattle.matching.proofs.diagonal.hand_out.Goals as goal

pub returns-in-Some : goal.returns-in-Some
returns-in-Some c =
    λ l v E same h. hand_refused c.args.size _ _ _ _ _ _ l v (rw c.in-Some.is at E) same c.clear.ensures h c.mark_hall.ensures

pub returns : goal.returns
returns c =
    λ l v E same h. hand_accepted c.args.size c.args.work.now.visited.now _ _ _ l v c.requires.roomy.1 (rw c.in_default.is at E)
    same h c.clear-2.ensures
