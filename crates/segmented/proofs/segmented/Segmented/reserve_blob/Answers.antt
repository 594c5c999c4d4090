use Rattle.std.proofs.Common.{◌≡◌, ◌≤◌, true, length, arith, rules, Some}
use Rattle.book.specs.Books.{heads_of}
use Rattle.segmented.specs.Layout.{free_slot, Picked}
use Rattle.segmented.specs.Segments.{seg_fits}
use Rattle.segmented.proofs.Putting.{reserved, swept, fits-blob, slot_vacant}
use Rattle.segmented.proofs.segmented.Segmented.reserve_blob.Goals as goal

pub put_blob-requires-clause-able : goal.put_blob-requires-clause-able
put_blob-requires-clause-able c = (swept c.args.self.now c.make_ready.new.self c.sweep.new.self 32 (omega arith) c.in_ok-make_ready.ensures.0 c.sweep.ensures).able

pub put_blob-requires-clause-vacant : goal.put_blob-requires-clause-vacant
put_blob-requires-clause-vacant c =
    let s = c.args.self.now in
    let found : c.free_slot.result ≡ Some c.in_ok-i.i = search rules in
    let b : Picked (free_slot (heads_of s.book)) s.slots (Some c.in_ok-i.i) = rw found at c.free_slot.ensures in
    slot_vacant s c.make_ready.new.self c.sweep.new.self 32 c.in_ok-i.i c.in_ok-make_ready.ensures.0 c.sweep.ensures b.1

pub returns : goal.returns
returns c =
    let s = c.args.self.now in
    let n = length c.args.payload.now in
    let a = c.in_ok-make_ready.ensures in
    let found : c.free_slot.result ≡ Some c.in_ok-i.i = search rules in
    let b : Picked (free_slot (heads_of s.book)) s.slots (Some c.in_ok-i.i) = rw found at c.free_slot.ensures in
    let h : length c.args.payload.now ≤ 1152 = search rules in
    let p = swept s c.make_ready.new.self c.sweep.new.self 32 (omega arith) a.0 c.sweep.ensures in
    reserved s c.sweep.new.self c.put_blob.new.self c.args.pid c.args.kind c.args.payload.now 32 (seg_fits s.segs s.slots s.active s.fill s.book n) c.put_blob.result c.requires.quiet (fits-blob s.segs s.slots s.active s.fill s.book n true c.requires.long h b.2 a.1) h p c.put_blob.ensures
