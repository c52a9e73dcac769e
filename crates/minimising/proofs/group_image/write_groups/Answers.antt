-- `minimising::group_image::write_groups` meets its contract: no room for the text, or all of it is written.
use Rattle.std.proofs.Common.{rules}
use Rattle.minimising.proofs.group_image.WriteCases.{CountedFirst, buffer-lowest, counts, smaller-short, pieces-room, smaller-done}
use Rattle.minimising.proofs.group_image.write_groups.Goals.{After-count_kept-rows}
use Rattle.minimising.proofs.group_image.write_groups.Goals as goal

pub number_groups-groups-requires-clause-lowest_of_class : goal.number_groups-groups-requires-clause-lowest_of_class
number_groups-groups-requires-clause-lowest_of_class c = search (rules, buffer-lowest)

-- what is counted before anything is written
told : (c : After-count_kept-rows) → let n = c.number_groups-groups in
    CountedFirst c.args.table.now c.args.classes.now n.new.numbers c.byte-schemes.result n.result c.count_kept-rows.result
told c = search (rules, counts)

pub returns-then-out-need : goal.returns-then-out-need
returns-then-out-need c =
    smaller-short _ _ _ _ _ _ (told (goal.at.returns-then-out-need c).After-count_kept-rows) _ c.if-out-need.true

pub put_pieces-requires : goal.put_pieces-requires
put_pieces-requires c =
    let known = told (goal.at.put_pieces-requires c).After-count_kept-rows in
    record {
      numbered_groups = known.numbered c.number_groups-groups.array_long;
      groups_counted = known.groups-kept;
      rows_counted = known.rows-kept;
      some_group = known.some;
      few_groups = known.few-groups;
      few_rows = known.few-rows;
      room = pieces-room _ _ _ _ _ _ known c.args.out.now (search rules);
    }

pub returns : goal.returns
returns c =
    smaller-done _ _ _ _ _ _ (told (goal.at.returns c).After-count_kept-rows) c.args.out.now (search rules) _ c.put_pieces.ensures
