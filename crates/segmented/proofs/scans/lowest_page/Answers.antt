use Rattle.std.specs.Iterator.Adapters.{filter_callee}
use Rattle.std.proofs.Common.{ap, ◌≡◌, min, rules, tests, sym, ◌∙◌, subst, ℕ, Option}
use Rattle.std.specs.List.{reduce}
use Rattle.std.proofs.lemmas.Iterator.{YieldsList-from_slice, YieldsList-from_map}
use Rattle.std.proofs.lemmas.Iterator.Adapters.{option_map_id}
use Rattle.std.proofs.lemmas.Iterator.Consumers.{YieldsList-from_filter, min_from_yields_List}
use Rattle.book.specs.declared.head.Head.{Head}
use Rattle.segmented.specs.Layout.{Lowest, live_in}
use Rattle.segmented.proofs.Lowered.{lowest, pages}
use Rattle.segmented.proofs.scans.lowest_page.Goals as goal

pub returns : goal.returns
returns c =
    let q = c.args.q in
    let hs = c.args.heads.now in
    let e : c.min.result ≡ reduce min (pages q hs) =
    sym (option_map_id _) ∙ min_from_yields_List _ _ c.min.ensures.ran (YieldsList-from_map _ (λ (h : Head). h.page) (YieldsList-from_filter _ (live_in q) (YieldsList-from_slice hs cc) (ap filter_callee c.map.ensures.source ∙ c.filter.ensures.closure) (λ x r p k. search (rules, tests))) c.map.ensures.closure (λ x r p k. search (rules, tests))) in
    let P : Option ℕ → Type 0 = λ o. Lowest q hs o in
    subst P (sym e) (lowest q hs)
