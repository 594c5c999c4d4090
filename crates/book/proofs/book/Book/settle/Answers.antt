-- The reservation is spent on its own pending message, or given back.
use Rattle.std.proofs.Common.{◌≡◌, Some, sym, rules}
use Rattle.book.specs.Books.{heads_of, mem_of, PendingIndex}
use Rattle.book.proofs.Pages.{settles}
use Rattle.book.proofs.book.Book.settle.Goals as goal

pub returns : goal.returns
returns c =
    let b = c.args.self.now in
    let r = c.args.reservation in
    let there : PendingIndex (mem_of b) (heads_of b) r.lsn r.pointer (Some c.in-Some.i) = rw (sym c.lsn-lsn.ensures, sym c.pointer-pointer.ensures) c.in-Some.ensures in
    let mine : r.log ≡ b.number = search rules in
    settles b c.meet.new.self r c.in-Some.i c.args.event mine there c.meet.ensures
