use Rattle.std.proofs.Common.{◌≡◌, Some, vec_items, ap, ◌∙◌, rules}
use Rattle.payload.specs.Spelling.{before, spelled}
use Rattle.payload.proofs.Spelled.{behind, behind_more}
use Rattle.payload.proofs.strings.decoded.Goals as goal

pub loop-rest-preserved : goal.loop-rest-preserved
loop-rest-preserved c =
    let l = c.loop-rest in
    let first : spelled l.rest.now ≡ before (Some c.in_ok-byte.byte) (spelled c.in_ok-byte.more.now) = search rules in
    behind_more (vec_items l.bytes) (vec_items c.push.new.self) c.in_ok-byte.byte (spelled c.args.text.now) (spelled c.in_ok-byte.more.now) (l.invariant ∙ ap (behind (vec_items l.bytes)) first) (search rules)
