-- What is read is the payload of the live message, out of the memory.
use Rattle.std.proofs.lemmas.Grind.{common_steps}
use Rattle.std.proofs.Common.{arith}
use Rattle.book.proofs.Pages.{payload-long, payload-small}
use Rattle.book.proofs.book.Book.read.Goals as goal

pub payload-payload-requires : goal.payload-payload-requires
payload-payload-requires c = grind (arith, payload-long)

pub slice_bounds-copy_from_slice-end : goal.slice_bounds-copy_from_slice-end
slice_bounds-copy_from_slice-end c = grind (arith, payload-small)

pub slice_bounds-copy_from_slice-end-2 : goal.slice_bounds-copy_from_slice-end-2
slice_bounds-copy_from_slice-end-2 c = grind (arith, common_steps, payload-small)

pub copy_from_slice-requires : goal.copy_from_slice-requires
copy_from_slice-requires c = grind (arith, common_steps, payload-long, payload-small)

pub returns : goal.returns
returns c = grind (arith, payload-long, payload-small)
