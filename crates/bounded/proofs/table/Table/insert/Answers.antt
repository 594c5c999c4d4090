use Rattle.std.proofs.Common.{arith}
use Rattle.std.proofs.lemmas.List.{length-take-le}
use Rattle.bounded.proofs.Shifts.{opened}
use Rattle.bounded.proofs.table.Table.insert.Goals as goal

pub returns : goal.returns
returns g c =
    let t = c.args.self.now in
    let n = length-take-le t.len t.rows (omega arith) in
    (omega arith, omega arith, opened t.rows c.copy_within.new.self t.len c.args.i c.args.x (omega arith) (omega arith) c.copy_within.ensures.after)
