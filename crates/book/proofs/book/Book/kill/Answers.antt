use Rattle.std.proofs.Common.{arith}
use Rattle.book.proofs.Pages.{killed, spared, missed}
use Rattle.book.proofs.book.Book.kill.Goals as goal
use Rattle.book.proofs.book.Book.kill.Goals.{in_default-via-in-Some+else-index-page}

pub returns-then-index-page : goal.returns-then-index-page
returns-then-index-page c = killed c.args.self.now c.args.page c.args.e.now c.in-Some.i c.index.result.now c.in-Some.ensures c.index.ensures c.meet.new.self c.if-index-page.true c.meet.ensures

pub returns-in_default : goal.returns-in_default
returns-in_default c = grind (arith, spared, missed)
