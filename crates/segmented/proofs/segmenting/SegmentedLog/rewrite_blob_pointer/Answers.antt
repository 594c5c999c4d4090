use Rattle.std.proofs.Common.{◌≡◌, Some, sym, refl, ◌∙◌, rules, arith}
use Rattle.book.proofs.Pages.{found-index}
use Rattle.segmented.specs.Layout.{SlotOf}
use Rattle.segmented.proofs.Putting.{no_slot, blob-home, there-blob, moved}
use Rattle.segmented.proofs.segmenting.SegmentedLog.rewrite_blob_pointer.Goals as goal

pub returns-in_err-i : goal.returns-in_err-i
returns-in_err-i c = grind (arith, no_slot)

pub returns-then-any_pending : goal.returns-then-any_pending
returns-then-any_pending c =
    let s = c.args.self.now in
    let a = found-index s.book c.args.lsn c.args.pointer c.live_at.result c.in_ok-j.j (search rules) c.live_at.ensures in
    let slot : c.slot_of.result ≡ Some c.in_ok-i.i = search rules in
    let b : SlotOf c.args.pointer (Some c.in_ok-i.i) = rw slot at c.slot_of.ensures in
    (search rules, (refl, there-blob s.book c.args.lsn c.args.pointer c.in_ok-j.j a b.0, sym c.any_pending.ensures ∙ c.if-any_pending.true))

pub put_pointer-requires : goal.put_pointer-requires
put_pointer-requires c =
    let s = c.args.self.now in
    let a = c.in_ok-make_ready.ensures in
    let h = found-index s.book c.args.lsn c.args.pointer c.live_at.result c.in_ok-j.j (search rules) c.live_at.ensures in
    let slot : c.slot_of.result ≡ Some c.in_ok-i.i = search rules in
    let b : SlotOf c.args.pointer (Some c.in_ok-i.i) = rw slot at c.slot_of.ensures in
    let w = blob-home s c.args.lsn c.args.pointer c.in_ok-i.i c.in_ok-j.j c.index-h.result.now h c.index-h.ensures b.1 in
    record { able = a.0.able; short = w.2; slot = rw a.0.slots w.0 }

pub returns : goal.returns
returns c = grind (arith, moved)
