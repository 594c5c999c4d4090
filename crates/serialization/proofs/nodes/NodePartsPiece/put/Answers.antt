use Rattle.std.proofs.lemmas.Grind.{common_steps}
use Rattle.std.proofs.Common.{◌≡◌, ℕ, List, ◌∷◌, ◌++◌, arith}
use Rattle.bounded.specs.Bytes.{bytes_of}
use Rattle.node.specs.Meanings.{data_of, parts_of}
use Rattle.serialization.specs.Numbers.{number}
use Rattle.serialization.specs.Formats.{flag_byte, str_bytes, data_bytes, node_bytes}
use Rattle.serialization.proofs.Writing.{puts_then, puts_as}
use Rattle.serialization.proofs.nodes.NodePartsPiece.put.Goals as goal

pub returns-clause-puts : goal.returns-clause-puts
returns-clause-puts c =
    let p = c.args.self.now in
    let tail : List ℕ = flag_byte p.merging ∷ (str_bytes (bytes_of p.lo) ++ (str_bytes (bytes_of p.hi) ++ data_bytes (data_of p.«data»))) in
    let e : p.prefix_len ∷ (number c.page_number.result ++ (number c.page_number-2.result ++ tail)) ≡ node_bytes (parts_of p) =
    λ i. p.prefix_len ∷ (number (c.page_number.ensures.value i) ++ (number (c.page_number-2.ensures.value i) ++ tail)) in
    puts_as e (puts_then c.put.ensures.puts (omega arith) (puts_then c.put-2.ensures.puts (omega arith) (puts_then c.put-3.ensures.puts (omega arith) (puts_then c.put-4.ensures.puts (omega arith) (puts_then c.put-5.ensures.puts (omega arith) (puts_then c.put-6.ensures.puts (omega arith) c.put-7.ensures.puts))))))

pub returns-clause-bound : goal.returns-clause-bound
returns-clause-bound c = grind (arith, common_steps)
