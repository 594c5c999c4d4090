use Rattle.std.proofs.Common.{length, sym, ap, arith}
use Rattle.serialization.specs.Numbering.{tail-limit}
use Rattle.serialization.proofs.Writing.{puts_then, puts_as}
use Rattle.serialization.proofs.groups.+put_groups.Goals as goal

pub returns-else-n-lt128 : goal.returns-else-n-lt128
returns-else-n-lt128 t c =
    let k = tail-limit c.args.more c.args.n c.if-n-lt128.false c.requires.0 in
    let l = ap length k.2 in
    puts_as (sym k.2) (puts_then c.push-else-n-lt128.ensures.puts (omega arith) c.put_groups.ensures)
