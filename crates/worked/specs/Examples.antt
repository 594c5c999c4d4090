-- The worked examples, as equations over the definitions that the contracts cite. Assumes nothing.
use Rattle.std.specs.Prelude.{◌≡◌, ℕ, List, [], ◌∷◌, Err}
use Rattle.fault.specs.declared.bytes_fault.BytesFault.TheVariants.{BadNumber}
use Rattle.fault.specs.Reports.{bytes_number}
use Rattle.node.specs.Nodes.{empty_leaf}
use Rattle.node.specs.Links.{set}
use Rattle.serialization.specs.Numbers.{number, parse_number}
use Rattle.serialization.specs.Formats.{link_bytes, node_bytes}
use Rattle.serialization.specs.Calls.{whole}

-- the strings of one letter
abbrev pub a : List ℕ
a = 0x61 ∷ []

abbrev pub b : List ℕ
b = 0x62 ∷ []

pub record Examples : Type 0 where
  -- 127 is 7F, and 128 is 80 01
  pub one_group : number 127 ≡ 0x7F ∷ []
  pub two-groups : number 128 ≡ 0x80 ∷ 0x01 ∷ []
  -- 80 00 is refused 8
  pub not_shortest : whole (parse_number (0x80 ∷ 0x00 ∷ [])) ≡ Err BadNumber
  pub eight : bytes_number BadNumber ≡ 8
  -- Set a b is 00 01 61 01 62
  pub set-a-b : link_bytes (set a b) ≡ 0x00 ∷ 0x01 ∷ 0x61 ∷ 0x01 ∷ 0x62 ∷ []
  -- the empty leaf is 00 00 00 00 00 00 01 00
  pub empty_leaf_lem : node_bytes empty_leaf ≡ 0x00 ∷ 0x00 ∷ 0x00 ∷ 0x00 ∷ 0x00 ∷ 0x00 ∷ 0x01 ∷ 0x00 ∷ []
