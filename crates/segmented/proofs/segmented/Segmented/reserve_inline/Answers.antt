use Rattle.std.proofs.Common.{◌+◌, true, length, arith}
use Rattle.segmented.specs.Segments.{seg_fits}
use Rattle.segmented.proofs.Putting.{reserved, fits_inline}
use Rattle.segmented.proofs.segmented.Segmented.reserve_inline.Goals as goal

pub returns : goal.returns
returns c =
    let s = c.args.self.now in
    let n = length c.args.payload.now in
    let a = c.in_ok-make_ready.ensures in
    let h = c.requires.short in
    reserved s c.make_ready.new.self c.put_inline.new.self c.args.pid c.args.kind c.args.payload.now (32 + n) (seg_fits s.segs s.slots s.active s.fill s.book n) c.put_inline.result c.requires.quiet (fits_inline s.segs s.slots s.active s.fill s.book n true h a.1) (omega arith) a.0 c.put_inline.ensures
