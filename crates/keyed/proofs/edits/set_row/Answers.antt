-- A row that was found is replaced; one that was not is inserted where the search ended, or finds no room.
use Rattle.std.proofs.Common.{Ok, Err, sym}
use Rattle.bounded.specs.Rows.{rows_of}
use Rattle.keyed.specs.declared.edits.TableFull.{TableFull}
use Rattle.keyed.specs.Order.{lawful}
use Rattle.keyed.proofs.Changes.{sought, set_found, set_new, set_full}
use Rattle.keyed.proofs.edits.set_row.Goals as goal

pub returns-in-Ok : goal.returns-in-Ok
returns-in-Ok g c = λ up.
    let laws = lawful g.met.R.Key.Ord.total g.met.R.Keyed.only_itself in
    let rows = rows_of c.args.table.now in
    let at = sought g.R.Key.Ord.cmp g.R.Keyed.key_of laws rows c.as_slice.result.now c.key.result.now c.args.row (Ok c.in-Ok.i) c.as_slice.ensures c.key.ensures up c.in-Ok.ensures.found in
    set_found g.R.Key.Ord.cmp g.R.Keyed.key_of laws rows up c.args.row c.in-Ok.i g.row.N (rows_of c.replace.new.self) TableFull c.replace.result at c.replace.ensures

pub returns-in_err-map_err-in-Err : goal.returns-in_err-map_err-in-Err
returns-in_err-map_err-in-Err g c = λ up.
    let laws = lawful g.met.R.Key.Ord.total g.met.R.Keyed.only_itself in
    let rows = rows_of c.args.table.now in
    let at = sought g.R.Key.Ord.cmp g.R.Keyed.key_of laws rows c.as_slice.result.now c.key.result.now c.args.row (Err c.in-Err.i) c.as_slice.ensures c.key.ensures up c.in-Err.ensures.found in
    set_full g.R.Key.Ord.cmp g.R.Keyed.key_of laws rows up c.args.row c.in-Err.i g.row.N (rows_of c.insert.new.self) at TableFull c.from_residual.result c.insert.result c.from_residual.ensures.0 (sym c.in_err-map_err-in-Err.ensures.variant) c.insert.ensures

pub returns-in_ok-map_err-in-Err : goal.returns-in_ok-map_err-in-Err
returns-in_ok-map_err-in-Err g c = λ up.
    let laws = lawful g.met.R.Key.Ord.total g.met.R.Keyed.only_itself in
    let rows = rows_of c.args.table.now in
    let at = sought g.R.Key.Ord.cmp g.R.Keyed.key_of laws rows c.as_slice.result.now c.key.result.now c.args.row (Err c.in-Err.i) c.as_slice.ensures c.key.ensures up c.in-Err.ensures.found in
    set_new g.R.Key.Ord.cmp g.R.Keyed.key_of laws rows up c.args.row c.in-Err.i g.row.N (rows_of c.insert.new.self) at TableFull c.insert.result (sym c.in_ok-map_err-in-Err.ensures.variant) c.insert.ensures
