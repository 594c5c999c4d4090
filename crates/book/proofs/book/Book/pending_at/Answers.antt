use Rattle.std.proofs.Common.{arith}
use Rattle.book.proofs.Headers.{pending-at}
use Rattle.book.proofs.book.Book.pending_at.Goals as goal

pub returns : goal.returns
returns c = grind (arith, pending-at)
