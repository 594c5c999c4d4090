use Rattle.std.proofs.Common.{arith}
use Rattle.book.proofs.Headers.{live-at}
use Rattle.book.proofs.book.Book.live_at.Goals as goal

pub returns : goal.returns
returns c = grind (arith, live-at)
