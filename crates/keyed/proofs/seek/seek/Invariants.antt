-- The seek keeps low ≤ high, and in rising rows what is sought stands after those before low and before those from high on.
use Rattle.std.proofs.Common.{◌≡◌, ◌-◌, ◌≤◌, true, length}
use Rattle.keyed.specs.Rows.{between, probe, rising, Passed, Ahead}
use Rattle.keyed.proofs.seek.seek.Given as goal

abbrev pub invariant-loop-low : goal.invariant-loop-low
invariant-loop-low g l =
    let o = g.R.Key.Ord.cmp in
    let k = g.R.Keyed.key_of in
    (l.low ≤ l.high) × (l.high ≤ length l.rows) × (rising (between o k) l.rows ≡ true → Passed (probe o k l.key) l.rows l.low × Ahead (probe o k l.key) l.rows l.high)

abbrev pub decreases-loop-low : goal.decreases-loop-low
decreases-loop-low g l = l.high - l.low
