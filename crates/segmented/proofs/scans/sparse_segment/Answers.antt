use Rattle.std.proofs.Common.{◌+◌, true, false, sym, ◌∙◌, inr, arith, rules}
use Rattle.segmented.proofs.Sparsest.{count_more, count_take, Sparse_pass}
use Rattle.segmented.proofs.scans.sparse_segment.Goals as goal

pub loop-h-preserved-then-not-live_in : goal.loop-h-preserved-then-not-live_in
loop-h-preserved-then-not-live_in c =
    let e = count_more c.segments.q c.args.heads.now c.loop-h.h-index _ false c.loop-h-test.true (sym c.live_in.ensures ∙ c.if-not-live_in.true) in
    (c.loop-h.invariant.0, omega (arith, c.loop-h.invariant.1, e), c.loop-h.invariant.2)

pub loop-h-preserved : goal.loop-h-preserved
loop-h-preserved c = search (rules, count_more)

pub segments-preserved-then-count-fewest : goal.segments-preserved-then-count-fewest
segments-preserved-then-count-fewest c =
    let e = count_more c.segments.q c.args.heads.now c.loop-h.h-index _ true c.loop-h-test.true (sym c.live_in.ensures ∙ c.if-not-live_in.false) in
    let w = count_take c.segments.q (c.loop-h.h-index + 1) c.args.heads.now in
    Sparse_pass c.args.heads.now c.args.active c.segments.q c.segments.fewest c.segments.best c.segments.invariant (λ _. inr (omega (arith, c.loop-h.invariant.1, e, w, c.if-count-fewest.true)))
