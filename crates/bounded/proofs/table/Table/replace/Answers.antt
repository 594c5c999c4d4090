use Rattle.std.proofs.Common.{arith}
use lib.Seq.{take-set-lt}
use Rattle.std.proofs.lemmas.List.{length-take-le}
use Rattle.bounded.proofs.Shifts.{among}
use Rattle.bounded.proofs.table.Table.replace.Goals as goal

pub returns : goal.returns
returns g c =
    let t = c.args.self.now in
    let n = length-take-le t.len t.rows (omega arith) in
    (omega arith, among t.rows t.len c.args.i c.index-self-i.result (omega arith) (omega arith), take-set-lt t.len t.rows c.args.i c.args.x (omega arith))
