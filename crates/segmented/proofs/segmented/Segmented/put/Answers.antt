-- The header lies in the active segment, behind the others.
use Rattle.std.proofs.Common.{◌+◌, arith, ap, length, vec_items}
use Rattle.book.specs.Books.{new_head}
use Rattle.segmented.proofs.Kept.{push_keeps}
use Rattle.segmented.proofs.segmented.Segmented.put.Goals as goal

pub invariant_of-self : goal.invariant_of-self
invariant_of-self c =
    let s = c.args.self.now in
    let n = c.requires in
    let a = c.append-reservation.ensures in
    record { kept = push_keeps s c.append-reservation.new.self (new_head s.book.next c.args.pid c.args.kind c.args.pointer c.args.place) (s.fill + c.args.taken) a.heads (ap (λ v. length (vec_items v)) a.mem) a.cap n.here (omega (arith, n.least)) n.there n.placed }
