-- `ringrows::row::list_row`: the places of both runs, one after the other.
use native.Mathlib.Omega.{arith}
use Rattle.ringrows.specs.Rows.{row_places}
use Rattle.ringrows.proofs.RingRows.{row_length}
use Rattle.ringlists.proofs.Listing.{listed_more, listed_length}
use Rattle.ringrows.proofs.row.list_row.Goals as goal

pub list_run-middle-requires : goal.list_run-middle-requires
list_run-middle-requires c =
    record {
      cells_in = c.requires.cells_in.first_in;
      few = c.requires.cells_in.few;
      room = omega (arith, c.requires.room, row_length c.args.cells.now c.args.runs);
    }

pub list_run-requires : goal.list_run-requires
list_run-requires c =
    let first = c.list_run-middle.ensures in
    record {
      cells_in = c.requires.cells_in.second_in;
      few = c.requires.cells_in.few;
      room = omega (arith, first.ends, listed_length first, c.requires.room, row_length c.args.cells.now c.args.runs);
    }

pub returns : goal.returns
unfolding row_places
returns c = listed_more c.list_run-middle.ensures c.list_run.ensures
