use Rattle.std.proofs.Common.{arith}
use Rattle.book.proofs.Headers.{grown-ranked}
use Rattle.book.proofs.book.Book.extend.Goals as goal

pub invariant_of-self : goal.invariant_of-self
invariant_of-self c = grind (arith, grown-ranked)
