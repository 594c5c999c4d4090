-- One comparison says on which side of the middle row what is sought stands.
use Rattle.std.proofs.Common.{Less, Equal, Greater, arith}
use Rattle.keyed.specs.Order.{lawful}
use Rattle.keyed.proofs.Places.{compared}
use Rattle.keyed.proofs.seek.seek.Goals as goal

pub loop-low-preserved-in-Less : goal.loop-low-preserved-in-Less
loop-low-preserved-in-Less g c =
    let laws = lawful g.met.R.Key.Ord.total g.met.R.Keyed.only_itself in
    (omega arith, omega arith, λ up. ((c.loop-low.invariant.2 up).0, compared g.R.Key.Ord.cmp g.R.Keyed.key_of laws c.args.rows.now up c.args.key.now c.key.result.now _ c.index-rows-mid.result Less c.key.ensures c.index-rows-mid.is (omega arith) c.in-Less.ensures))

pub returns-in-Equal : goal.returns-in-Equal
returns-in-Equal g c =
    let laws = lawful g.met.R.Key.Ord.total g.met.R.Keyed.only_itself in
    record {
      within = omega arith;
      found = λ up. compared g.R.Key.Ord.cmp g.R.Keyed.key_of laws c.args.rows.now up c.args.key.now c.key.result.now _ c.index-rows-mid.result Equal c.key.ensures c.index-rows-mid.is (omega arith) c.in-Equal.ensures;
    }

pub loop-low-preserved : goal.loop-low-preserved
loop-low-preserved g c =
    let laws = lawful g.met.R.Key.Ord.total g.met.R.Keyed.only_itself in
    (omega arith, omega arith, λ up. (compared g.R.Key.Ord.cmp g.R.Keyed.key_of laws c.args.rows.now up c.args.key.now c.key.result.now _ c.index-rows-mid.result Greater c.key.ensures c.index-rows-mid.is (omega arith) c.in-Greater.ensures, (c.loop-low.invariant.2 up).1))
