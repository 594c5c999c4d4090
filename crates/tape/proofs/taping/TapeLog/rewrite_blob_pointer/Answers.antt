use Rattle.std.proofs.Common.{arith}
use Rattle.book.proofs.Logs.{no_blob}
use Rattle.tape.proofs.taping.TapeLog.rewrite_blob_pointer.Goals as goal

pub returns : goal.returns
returns c = grind (arith, no_blob)
