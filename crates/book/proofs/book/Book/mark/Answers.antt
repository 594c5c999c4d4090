use Rattle.std.proofs.Common.{rules, arith}
use Rattle.std.proofs.lemmas.List.{take_more, take_all}
use Rattle.book.proofs.Pages.{marks_none, marks_more, marks_all}
use Rattle.book.proofs.book.Book.mark.Goals as goal

pub loop-e-init : goal.loop-e-init
loop-e-init c = grind (arith, marks_none)

pub loop-e-preserved : goal.loop-e-preserved
loop-e-preserved c = search (rules, take_more, marks_more)

pub returns : goal.returns
returns c = search (rules, take_all, marks_all)
