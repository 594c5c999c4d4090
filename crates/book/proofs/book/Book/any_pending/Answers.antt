use Rattle.std.proofs.Common.{◌≡◌, ◌-◌, ◌<◌, ◌≤◌, false, length, rules, MatchOption}
use Rattle.std.specs.List.{HoldsAt}
use denote.Enum.Bare.{sameb}
use Rattle.logs.specs.contracts.messages.Status.{the_type}
use Rattle.logs.specs.declared.messages.Status.TheVariants.{Pending}
use Rattle.book.specs.Books.{heads_of, mem_of}
use Rattle.book.proofs.Headers.{last-told}
use Rattle.book.proofs.book.Book.any_pending.Goals as goal

pub returns : goal.returns
returns c =
    let b = c.args.self.now in
    let e : MatchOption c.last.result (length (heads_of b) ≤ 0) (λ x. (0 < length (heads_of b)) × HoldsAt (λ y. x.now ≡ y) (heads_of b) (length (heads_of b) - 1)) = rw c.deref.ensures.value at c.last.ensures.item.3 in
    let m : MatchOption c.last.result (c.is_some_and.result ≡ false) (λ x. c.is_some_and.result ≡ sameb the_type x.now.status Pending) = search rules in
    last-told (mem_of b) (heads_of b) c.last.result c.is_some_and.result b.last e m
