use Rattle.std.proofs.Common.{arith}
use Rattle.std.proofs.lemmas.List.{length-take-le}
use Rattle.bounded.proofs.Shifts.{closed, among}
use Rattle.bounded.proofs.table.Table.remove.Goals as goal

pub returns : goal.returns
returns g c =
    let t = c.args.self.now in
    let n = length-take-le t.len t.rows (omega arith) in
    (omega arith, among t.rows t.len c.args.i c.index-self-i.result (omega arith) (omega arith), closed t.rows c.copy_within.new.self t.len c.args.i (omega arith) (omega arith) c.copy_within.ensures.after)
