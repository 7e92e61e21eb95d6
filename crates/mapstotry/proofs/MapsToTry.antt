-- Document 01, "Maps to try": all examples of the table hold. The checker computes their tests.
use Rattle.walkgraph.specs.Lists.{tabulate, grow}
use Rattle.walkgraph.specs.Lanes.{bias, lane_of, half_cost_of}
use Rattle.walkgraph.specs.Map.{walkable, in_box}
use Rattle.walkgraph.specs.Painting.{rectangle, clamp, spans, covers, covered, painted}
use Rattle.walkgraph.specs.Ring.{pixel, body, ring_box, ring, access}
use Rattle.walkgraph.specs.Walk.{distance}
use Rattle.walkgraph.specs.Window.{hull, sources, floor_half, or_zero, window_low, window_high, window, gap, octile, octile_gap, inside}
use Rattle.walkgraph.specs.Sweep.{padded, written, starts, start_table, diagonal_from, least_of_five, right_step, left_step, corner, corner_west, corner_east, relaxed, place, swept_step, sweep, turn, direction}
use Rattle.walkgraph.specs.Buffers.{resource_count, source_box, unblocked, window_of, padded_of, starts_lane, lane_start}
use Rattle.mapstotry.specs.Drawing.{bytes, bytes_of_rows, drawn, open_row, minus, pixels, on_cell, box, window_box}
use Rattle.mapstotry.specs.Table.{call, reading_at, access_of, AllHold, five_by_three, narrowing, walled_in, table}
use Rattle.mapstotry.proofs.Tests.{every, some, same_bool, same_signed, same_box, same_rectangle}
use Rattle.mapstotry.proofs.Runs.{history, same_row, same_table, rows_differ, tables_differ}
use Rattle.mapstotry.proofs.Counting.{histories, table_after, quiet_test, loud_test, count_test}
use Rattle.mapstotry.proofs.Readings.{value_on_map, reading_test, lane_test, readings_test}
use Rattle.mapstotry.proofs.Nearness.{marks, marked, straight_test, diagonal_test, step_test, comes_from, next_test, reached_test, within}
use Rattle.mapstotry.proofs.Linking.{meets, land, around, links}
use Rattle.mapstotry.proofs.Numbers.{used, old_test, numbers_test, same_test}
use Rattle.mapstotry.proofs.Checks.{painting_test, field_test, lanes_test, fields_test, checks, all_check, all_hold}

pub maps_to_try : AllHold table
unfolding
    tabulate grow
    bias lane_of half_cost_of
    walkable in_box
    rectangle clamp spans covers covered painted
    pixel body ring_box ring access
    distance
    hull sources floor_half or_zero window_low window_high window gap octile octile_gap inside
    padded written starts start_table diagonal_from least_of_five right_step left_step corner corner_west corner_east relaxed place swept_step sweep turn direction
    resource_count source_box unblocked window_of padded_of starts_lane lane_start
    bytes bytes_of_rows drawn open_row minus pixels on_cell box window_box
    call reading_at access_of five_by_three narrowing walled_in table
    every some same_bool same_signed same_box same_rectangle
    history same_row same_table rows_differ tables_differ
    histories table_after quiet_test loud_test count_test
    value_on_map reading_test lane_test readings_test
    marks marked straight_test diagonal_test step_test comes_from next_test reached_test within
    meets land around links
    used old_test numbers_test same_test
    painting_test field_test lanes_test fields_test checks all_check
maps_to_try = all_hold table tt
