use Rattle.std.proofs.Common.{◌+◌, ◌*◌, length, refl}
use Rattle.book.specs.Books.{Overwritten}
use Rattle.segmented.proofs.Putting.{blob-room, blob_apart, over-able, over-put_on}
use Rattle.segmented.proofs.segmented.Segmented.put_blob.Goals as goal

pub put_pointer-requires-clause-able : goal.put_pointer-requires-clause-able
put_pointer-requires-clause-able c =
    let s = c.args.self.now in
    let n = length c.args.payload.now in
    let i = c.args.i in
    let e = c.slot_place-place.ensures in
    let w : Overwritten s.book c.overwrite.new.self (s.segs * 4096 + i * 1152) c.args.payload.now = rw e.at at c.overwrite.ensures in
    over-able s _ _ c.args.payload.now 32 w refl (blob-room s i n c.requires.slot c.requires.short) (blob_apart s i n c.requires.short c.requires.vacant) c.requires.able

pub returns : goal.returns
returns c =
    let s = c.args.self.now in
    let n = length c.args.payload.now in
    let i = c.args.i in
    let e = c.slot_place-place.ensures in
    let w : Overwritten s.book c.overwrite.new.self (s.segs * 4096 + i * 1152) c.args.payload.now = rw e.at at c.overwrite.ensures in
    over-put_on s _ c.put_pointer.new.self c.args.pid c.args.kind c.args.payload.now _ c.put_pointer.result w (blob-room s i n c.requires.slot c.requires.short) (blob_apart s i n c.requires.short c.requires.vacant) (rw e.len at c.put_pointer.ensures.put)
