use Rattle.std.proofs.Common.{◌≡◌, ◌<◌, ◌≤◌, take}
use Rattle.segmented.specs.Layout.{count_live, Sparse}
use Rattle.segmented.proofs.scans.sparse_segment.Given as goal

abbrev pub invariant-loop-h : goal.invariant-loop-h
invariant-loop-h l = (l.count < l.fewest) × (l.count ≡ count_live l.q (take l.h-index l.heads)) × (l.fewest ≤ 4)

abbrev pub invariant-segments : goal.invariant-segments
invariant-segments l = Sparse l.heads l.active l.q l.fewest l.best
