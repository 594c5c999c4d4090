use Rattle.std.proofs.Common.{take}
use Rattle.book.specs.Books.{Marks}
use Rattle.book.proofs.book.Book.mark.Given as goal

abbrev pub invariant-loop-e : goal.invariant-loop-e
invariant-loop-e l = Marks l.initial.self l.self l.page (take l.e-index l.entries)
