use Rattle.std.proofs.Common.{◌≡◌, true, false, rules, tests}
use Rattle.std.proofs.lemmas.Iterator.{first_from_Range}
use Rattle.book.specs.Books.{heads_of}
use Rattle.segmented.specs.Layout.{free_slot}
use Rattle.segmented.proofs.Laying.{picked}
use Rattle.segmented.proofs.segmented.Segmented.free_slot.Goals as goal

pub returns : goal.returns
returns c =
    let s = c.args.self.now in
    let free = free_slot (heads_of s.book) in
    picked free s.slots c.find.result (first_from_Range _ _ _ _ (λ i. free i ≡ true) (λ i. free i ≡ false) c.find.ensures.ran (λ i g k. search (rules, tests)) (λ i g k. search (rules, tests)))
