use Rattle.std.proofs.Common.{sym, ap, ◌∙◌}
use Rattle.std.proofs.lemmas.Slice.Eq.{slice_eq-Decides}
use Rattle.std.proofs.lemmas.Bool.Decides.{Decides-eqb}
use Rattle.bounded.specs.Bytes.{bytes_of}
use Rattle.bounded.proofs.Same.{only_bytes}
use Rattle.bounded.proofs.ivec.ops.IVecPartialEq.eq.Goals as goal

pub returns-clause-value : goal.returns-clause-value
returns-clause-value g c =
    let d = slice_eq-Decides Decides-eqb _ _ _ c.eq.ensures in
    let a = c.as_slice.ensures in
    let b = c.as_slice-2.ensures in
    (λ t. only_bytes _ _ (sym a ∙ d.0 t ∙ b), λ e. d.1 (a ∙ ap bytes_of e ∙ sym b))
