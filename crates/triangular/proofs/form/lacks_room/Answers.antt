-- `lacks_room` meets its contract: the list that is tested is the list of the buffers.
use Rattle.triangular.proofs.form.lacks_room.Goals as goal

pub returns : goal.returns
returns c =
    rw (c.form_need-need.ensures, c.starts_need.ensures, c.starts_need-2.ensures, c.entries_need.ensures) at c.any_short.ensures
