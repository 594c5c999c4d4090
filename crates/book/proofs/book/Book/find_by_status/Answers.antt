use Rattle.std.proofs.Common.{◌≡◌, true, false, length, rules}
use Rattle.book.specs.Books.{heads_of, mem_of}
use Rattle.book.proofs.Headers.{tested}
use Rattle.book.proofs.book.Book.find_by_status.Goals as goal
use Rattle.book.proofs.book.Book.find_by_status.Goals.{then-eq, else-eq}

pub returns : goal.returns
returns c =
    let b = c.args.self.now in
    let x = c.index.result.now in
    let yes : c.if-eq.then_some ≡ true → (x.status ≡ c.args.status) × (x.pointer ≡ c.args.pointer) = elim c.if-eq.branch [ then-eq w ↦ (λ t. search rules) | else-eq w ↦ (λ t. absurd (search rules)) ] in
    let no : c.if-eq.then_some ≡ false → x.status ≡ c.args.status → x.pointer ≡ c.args.pointer → ⊥ = elim c.if-eq.branch [ then-eq w ↦ (λ t p q. search rules) | else-eq w ↦ (λ t p q. search rules) ] in
    rw c.then_some.ensures (tested b.next (length (mem_of b)) (heads_of b) c.args.lsn c.args.pointer c.args.status c.in_ok-i.i x c.if-eq.then_some b.ranks (search rules) c.index.ensures yes no)
