-- The row that was found is removed, and where none was found nothing is. That it is the row answered is left to a search, so
-- that a body which takes it out before it removes it is proved too: `former` is for that one.
use Rattle.std.proofs.Common.{Ok, rules}
use Rattle.bounded.specs.Rows.{rows_of}
use Rattle.keyed.specs.Order.{lawful}
use Rattle.keyed.specs.Rows.{probe, Searched}
use Rattle.keyed.proofs.Changes.{former, cut_found, cut_none}
use Rattle.keyed.proofs.edits.remove_row.Goals as goal

pub returns : goal.returns
returns g c = λ up.
    let laws = lawful g.met.R.Key.Ord.total g.met.R.Keyed.only_itself in
    let sought = probe g.R.Key.Ord.cmp g.R.Keyed.key_of c.args.key.now in
    let at : Searched sought (rows_of c.args.table.now) (Ok c.in-Ok.i) = rw (← c.as_slice.ensures) (c.in-Ok.ensures.found (rw c.as_slice.ensures up)) in
    let cut = cut_found g.R.Key.Ord.cmp g.R.Keyed.key_of laws (rows_of c.args.table.now) up c.args.key.now c.in-Ok.i (rows_of c.remove.new.self) c.remove.result at c.remove.ensures in
    (search (rules, cut.0, former g.R.Key.Ord.cmp g.R.Keyed.key_of laws (rows_of c.args.table.now) up sought c.in-Ok.i at), cut.1, cut.2)

pub returns-in_default : goal.returns-in_default
returns-in_default g c = λ up.
    let laws = lawful g.met.R.Key.Ord.total g.met.R.Keyed.only_itself in
    cut_none g.R.Key.Ord.cmp g.R.Keyed.key_of laws (rows_of c.args.table.now) up c.args.key.now c.in_default.field-0 (rw (← c.as_slice.ensures) (c.in_default.ensures.found (rw c.as_slice.ensures up)))
