use Rattle.std.proofs.Common.{◌≡◌, true, false, rules, tests}
use Rattle.std.proofs.lemmas.Iterator.{first_from_Range}
use Rattle.book.specs.Books.{heads_of}
use Rattle.segmented.specs.Layout.{free_seg}
use Rattle.segmented.proofs.Laying.{picked}
use Rattle.segmented.proofs.segmented.Segmented.free_segment.Goals as goal

pub returns : goal.returns
returns c =
    let s = c.args.self.now in
    let free = free_seg s.active (heads_of s.book) in
    picked free s.segs c.find.result (first_from_Range _ _ _ _ (λ q. free q ≡ true) (λ q. free q ≡ false) c.find.ensures.ran (λ q g k. search (rules, tests)) (λ q g k. search (rules, tests)))
