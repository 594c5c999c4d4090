use Rattle.std.proofs.Common.{◌≡◌, false, length, sym, refl, ◌∙◌, rules}
use Rattle.fault.specs.declared.disk_pointer.DiskPtr.TheVariants.{Inline}
use Rattle.book.specs.Books.{mem_of}
use Rattle.book.proofs.Logs.{tape_reserved}
use Rattle.tape.specs.Tapes.{tape_fits}
use Rattle.tape.proofs.Tapes.{fitting, ready, keeps_on}
use Rattle.tape.proofs.taping.TapeLog.reserve.Goals as goal

pub append-requires : goal.append-requires
append-requires c =
    let t = c.args.self.now in
    let bytes = c.args.payload.now in
    let f = fitting t.room t.book (length bytes) (sym c.fits.ensures ∙ c.if-not-fits.false) in
    let w : c.len-at.result ≡ length (mem_of t.book) = search rules in
    ready t.room t.book c.extend.new.self bytes f t.kept c.extend.ensures (sym c.any_pending.ensures ∙ c.if-any_pending.false) c.len-at.result w

pub invariant_of-self : goal.invariant_of-self
invariant_of-self c =
    let t = c.args.self.now in
    let bytes = c.args.payload.now in
    let f = fitting t.room t.book (length bytes) (sym c.fits.ensures ∙ c.if-not-fits.false) in
    let w : c.len-at.result ≡ length (mem_of t.book) = search rules in
    record { kept = keeps_on t.room t.book c.extend.new.self bytes f t.kept c.extend.ensures (sym c.any_pending.ensures ∙ c.if-any_pending.false) c.len-at.result w c.append.new.self c.args.pid c.args.kind (Inline _) c.append.result refl c.append.ensures }

pub returns : goal.returns
returns c =
    let t = c.args.self.now in
    let bytes = c.args.payload.now in
    let e = sym c.fits.ensures ∙ c.if-not-fits.false in
    let f = fitting t.room t.book (length bytes) e in
    let w : c.len-at.result ≡ length (mem_of t.book) = search rules in
    tape_reserved (tape_fits t.room) (λ _. false) t.book c.extend.new.self c.append.new.self c.args.pid c.args.kind bytes (Inline _) c.append.result c.len-at.result w c.extend.ensures c.append.ensures
    (tape_fits t.room t.book (length bytes)) (sym c.any_pending.ensures ∙ c.if-any_pending.false) e f.next f.small
