use Rattle.std.proofs.Common.{◌≡◌, ◌+◌, ◌^◌, ◌<◌, ◌≤◌, refl, rules, Some}
use Rattle.book.specs.Books.{heads_of}
use Rattle.segmented.specs.Layout.{free_seg, Picked}
use Rattle.segmented.proofs.Kept.{open_keeps}
use Rattle.segmented.proofs.Putting.{prepared_here, prepared_open, ready-here, ready_open}
use Rattle.segmented.proofs.segmented.Segmented.make_ready.Goals as goal

pub invariant_of-self : goal.invariant_of-self
invariant_of-self c =
    let s = c.args.self.now in
    let found : c.free_segment.result ≡ Some c.in_ok-q.q = search rules in
    let a : Picked (free_seg s.active (heads_of s.book)) s.segs (Some c.in_ok-q.q) = rw found at c.free_segment.ensures in
    record { kept = open_keeps s c.compact.new.self c.compact.ensures c.in_ok-q.q a.0 a.1 }

pub returns-then-self-need-le-SEGMENT_LEN : goal.returns-then-self-need-le-SEGMENT_LEN
returns-then-self-need-le-SEGMENT_LEN c = search (rules, prepared_here, ready-here)

pub returns : goal.returns
returns c =
    let s = c.args.self.now in
    let found : c.free_segment.result ≡ Some c.in_ok-q.q = search rules in
    let a : Picked (free_seg s.active (heads_of s.book)) s.segs (Some c.in_ok-q.q) = rw found at c.free_segment.ensures in
    let low : s.book.next < 2 ^ 62 = search rules in
    let n : 32 ≤ c.args.need = search rules in
    let l : 0 + c.args.need ≤ 4096 = search rules in
    (prepared_open s _ c.args.need c.compact.ensures refl refl low n l, ready_open s.segs s.active s.fill s.book c.args.need low a.2)
