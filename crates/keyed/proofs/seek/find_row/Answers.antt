-- The row at the place that the seek found, or none, is what lookup finds.
use Rattle.std.proofs.Common.{rules, sym}
use Rattle.keyed.specs.Rows.{probe}
use Rattle.keyed.proofs.Places.{found, missing, lookup-found, lookup-missing}
use Rattle.keyed.proofs.seek.find_row.Goals as goal

pub returns : goal.returns
returns g c = λ up. search (rules, found, lookup-found)

pub returns-in_default : goal.returns-in_default
returns-in_default g c = λ up.
    let p = probe g.R.Key.Ord.cmp g.R.Keyed.key_of c.args.key.now in
    sym (lookup-missing p (missing p c.args.rows.now c.in_default.field-0 (c.in_default.ensures.found up)))
