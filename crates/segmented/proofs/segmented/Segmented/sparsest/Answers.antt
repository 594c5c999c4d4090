use Rattle.std.proofs.Common.{arith}
use Rattle.segmented.proofs.Sparsest.{Sparse_paged}
use Rattle.segmented.proofs.segmented.Segmented.sparsest.Goals as goal

pub returns-in_err-page : goal.returns-in_err-page
returns-in_err-page c = grind (arith, Sparse_paged)
