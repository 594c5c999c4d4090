use Rattle.std.proofs.Common.{length, rules}
use Rattle.std.proofs.lemmas.List.Sorted.{answers_always}
use Rattle.book.specs.declared.head.Head.{Head}
use Rattle.book.specs.Books.{heads_of, mem_of}
use Rattle.book.proofs.Headers.{searched-heads}
use Rattle.book.proofs.book.Book.find.Goals as goal

pub returns : goal.returns
returns c =
    let b = c.args.self.now in
    let r = c.binary_search_by_key.ensures in
    rw (c.ok.ensures.value) (searched-heads b.next (length (mem_of b)) (heads_of b) c.args.lsn c.binary_search_by_key.result b.ranks (search rules) (rw c.deref.ensures.value at r.position (λ (h : Head). h.lsn) (answers_always _ _ _ (λ f a r g h. search rules))))
