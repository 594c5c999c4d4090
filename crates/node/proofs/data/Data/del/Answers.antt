use Rattle.node.proofs.Changing.{del_done}
use Rattle.node.proofs.data.Data.del.Goals as goal

pub returns : goal.returns
returns c =
    let h = del_done c.args.self.now c.in-Leaf.rows c.remove_row.new.table c.in-Leaf.is c.requires c.args.key.now c.remove_row.result c.remove_row.ensures in
    record { does = h.0; ordered = h.1 }
