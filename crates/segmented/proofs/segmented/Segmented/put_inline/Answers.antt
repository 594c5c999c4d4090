use Rattle.std.proofs.Common.{◌+◌, ◌≤◌, length, refl, arith}
use Rattle.book.specs.Books.{heads_of, mem_of}
use Rattle.segmented.proofs.Laying.{Apart}
use Rattle.segmented.proofs.Putting.{inline_room, inline_apart, new_inline, over-ready, over-put, seg_of}
use Rattle.segmented.proofs.segmented.Segmented.put_inline.Goals as goal

pub put-requires : goal.put-requires
put-requires c =
    let s = c.args.self.now in
    let n = length c.args.payload.now in
    let h = c.requires.able in
    let m = c.requires.short in
    let lid = c.next_lid-lid.ensures in
    let room : c.next_lid-lid.result + 32 + n ≤ length (mem_of s.book) = rw lid (inline_room s n h) in
    let apart : Apart (c.next_lid-lid.result + 32) n (heads_of s.book) = rw lid (inline_apart s n h) in
    record {
      ready = over-ready s c.overwrite.new.self _ c.args.payload.now _ c.overwrite.ensures room apart h (omega arith);
      here = rw lid (seg_of s.active s.fill (omega (arith, h.there)));
      least = omega arith;
      there = h.there;
      placed = rw lid (new_inline s.segs s.slots s.active s.fill c.overwrite.new.self.next c.args.pid c.args.kind n s.kept.inside h.there);
    }

pub returns : goal.returns
returns c =
    let s = c.args.self.now in
    let n = length c.args.payload.now in
    let h = c.requires.able in
    let lid = c.next_lid-lid.ensures in
    let room : c.next_lid-lid.result + 32 + n ≤ length (mem_of s.book) = rw lid (inline_room s n h) in
    let apart : Apart (c.next_lid-lid.result + 32) n (heads_of s.book) = rw lid (inline_apart s n h) in
    over-put s c.overwrite.new.self c.put.new.self.book c.args.pid c.args.kind c.args.payload.now _ _ c.put.result c.overwrite.ensures c.put.ensures room apart c.put.new.self refl
