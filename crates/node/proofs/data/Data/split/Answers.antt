use Rattle.std.proofs.Common.{◌≡◌, false, Ok, Err, sym, ap, ◌∙◌, rules}
use Rattle.std.specs.Option.{option_map}
use Rattle.fault.specs.declared.node_fault.NodeFault.TheVariants.{Full}
use Rattle.node.specs.Meanings.{data_of}
use Rattle.node.proofs.Tables.{mapped_some}
use Rattle.node.proofs.Changing.{split_there, split_ok, split_err}
use Rattle.node.proofs.data.Data.split.Goals as goal

pub returns-then-is_some-clause-does : goal.returns-then-is_some-clause-does
returns-then-is_some-clause-does c =
    let there = mapped_some (λ x. x.now) c.find_row.result ∙ sym c.is_some.ensures ∙ c.if-is_some.true in
    split_there c.args.self.now c.in-Index.rows c.in-Index.is c.requires c.args.key c.args.to c.as_slice.result.now c.as_slice.ensures (option_map (λ x. x.now) c.find_row.result) there c.find_row.ensures ∙ ap (λ d. Ok (false, data_of d)) c.in-Index.is

pub returns : goal.returns
returns c =
    let gone = mapped_some (λ x. x.now) c.find_row.result ∙ sym c.is_some.ensures ∙ c.if-is_some.false in
    let h = split_ok c.args.self.now c.in-Index.rows c.in-Index.is c.requires c.args.key c.args.to c.as_slice.result.now c.as_slice.ensures c.set_row.new.table _ (option_map (λ x. x.now) c.find_row.result) gone c.find_row.ensures c.set_row.result (sym c.in_ok-map_err.ensures.variant) c.set_row.ensures in
    record { does = h.0; ordered = h.1 }

pub returns-in_err-map_err : goal.returns-in_err-map_err
returns-in_err-map_err c =
    let r : c.from_residual.result ≡ Err Full = search rules in
    let gone = mapped_some (λ x. x.now) c.find_row.result ∙ sym c.is_some.ensures ∙ c.if-is_some.false in
    let h = split_err c.args.self.now c.in-Index.rows c.in-Index.is c.requires c.args.key c.args.to c.as_slice.result.now c.as_slice.ensures c.set_row.new.table _ (option_map (λ x. x.now) c.find_row.result) gone c.find_row.ensures c.set_row.result (sym c.in_err-map_err.ensures.variant) c.set_row.ensures in
    record { does = rw r (h.0, h.1); ordered = h.2 }
