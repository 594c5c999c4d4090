use Rattle.serialization.proofs.Whole.{decode_back, decode_only}
use Rattle.serialization.proofs.serialize.decode.Goals as goal

pub returns-clause-back : goal.returns-clause-back
returns-clause-back g c = let s = g.S.Serialize in decode_back s.value s.bytes s.parse c.args.payload.now c.read_whole.result c.read_whole.ensures s.Fits g.met.S.Serialize.back

pub returns-clause-only : goal.returns-clause-only
returns-clause-only g c = let s = g.S.Serialize in decode_only s.value s.bytes s.parse c.args.payload.now c.read_whole.result c.read_whole.ensures g.met.S.Serialize.only
