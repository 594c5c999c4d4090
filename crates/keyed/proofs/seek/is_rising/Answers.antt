use Rattle.std.proofs.Common.{rules}
use Rattle.std.specs.Ordering.{is_lt}
use Rattle.std.proofs.lemmas.List.Sorted.{answers_always}
use Rattle.keyed.specs.Rows.{between}
use Rattle.keyed.proofs.Places.{rising_answer}
use Rattle.keyed.proofs.seek.is_rising.Goals as goal

pub returns : goal.returns
returns g c =
    let o = between g.R.Key.Ord.cmp g.R.Keyed.key_of in
    rising_answer o c.args.rows.now c.is_sorted_by.result (c.is_sorted_by.ensures.cases (λ x y. is_lt (o x y)) (answers_always _ _ _ (λ f a r h called. search rules)))
