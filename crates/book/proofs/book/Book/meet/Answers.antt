-- One message meets an event, and only its state may change.
use Rattle.std.proofs.Common.{arith}
use Rattle.book.proofs.Headers.{ranked_restated, calm_restated}
use Rattle.book.proofs.book.Book.meet.Goals as goal

pub invariant_of-self : goal.invariant_of-self
invariant_of-self c = grind (arith, ranked_restated, calm_restated)
