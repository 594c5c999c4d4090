use Rattle.std.proofs.Common.{arith}
use Rattle.book.proofs.Headers.{pushed_ranked, calm_push}
use Rattle.book.proofs.book.Book.append.Goals as goal

pub invariant_of-self : goal.invariant_of-self
invariant_of-self c = grind (arith, pushed_ranked, calm_push)
