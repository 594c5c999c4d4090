-- Each example is computed.
use Rattle.std.proofs.Common.{refl}
use Rattle.serialization.specs.Numbers.{number, parse_number}
use Rattle.serialization.specs.Formats.{str_bytes}
use Rattle.worked.proofs.table_stands.Goals as goal

pub returns : goal.returns
unfolding number parse_number str_bytes
returns c = record { one_group = refl; two-groups = refl; not_shortest = refl; eight = refl; set-a-b = refl; empty_leaf_lem = refl }
