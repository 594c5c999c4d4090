use Rattle.std.proofs.Common.{◌≡◌, length, refl, rules}
use Rattle.std.proofs.lemmas.Fn.{filter_same}
use Rattle.book.specs.Heads.{live_head, lives}
use Rattle.book.specs.Books.{heads_of, mem_of}
use Rattle.book.proofs.Headers.{lives-ranked, lives-calm, is_live-eq}
use Rattle.book.proofs.book.Book.compact.Goals as goal

pub invariant_of-self : goal.invariant_of-self
invariant_of-self c =
    let b = c.args.self.now in
    let e : c.retain.new.self.items ≡ lives (heads_of b) = filter_same _ live_head _ (λ x r f' k. search (rules, is_live-eq)) _ _ c.retain.ensures.filtered in
    record {
      first = b.first;
      ranks = lives-ranked b.next (length (mem_of b)) (heads_of b) _ e b.ranks;
      last = lives-calm (heads_of b) _ e;
    }

pub returns : goal.returns
returns c =
    let e : c.retain.new.self.items ≡ lives (heads_of c.args.self.now) = filter_same _ live_head _ (λ x r f' k. search (rules, is_live-eq)) _ _ c.retain.ensures.filtered in
    record { number = refl; stable = refl; next = refl; mem = refl; heads = e; cap = c.retain.ensures.capacity }
