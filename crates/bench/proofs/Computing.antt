-- What a computation has to open, under one name each: to unfold the name is to unfold every definition on its line.
use Rattle.words.specs.lists.Numbers.{lowest, any, count, sum, highest}
use Rattle.words.specs.lists.Sequences.{map_from}
use Rattle.words.specs.graph.Reach.{reach}
use Rattle.text.specs.digits.Digit.{digit_of, char_of}
use Rattle.text.specs.frames.Frame.{contents, total, frame_text, text_of}
use Rattle.text.specs.frames.Check.{has_bad_form, has_bad_sum, text_verdict}
use Rattle.charts.specs.Chart.{handler, node_of}
use Rattle.charts.specs.Check.{has_bad_field, chart_verdict}
use Rattle.charts.specs.Entry.{read_verdict, read_chart, write_verdict}
use Rattle.walk.specs.Stops.{is_stop, start, next_stop, stop_at}
use Rattle.walk.specs.Walk.{scheme_course, walk_from, walk}
use Rattle.image.specs.Image.{image_frames, image_text}
use Rattle.image.specs.Decode.{decoded_image}
use Rattle.image.specs.Check.{is_bad_header, position_of, is_stray, has_bad_content, table_verdict, image_verdict}
use Rattle.chart_rows.specs.Labels.{label}
use Rattle.chart_rows.specs.Rows.{paths, rows_of, rows}
use Rattle.translator.specs.Table.{table}
use Rattle.translator.specs.Entry.{translate_verdict, translate}
use Rattle.places.specs.chains.Calls.{is_caller, is_circular, ends_of, places}
use Rattle.places.specs.Entry.{places_verdict, places_needed}
use Rattle.state.specs.State.{fresh_state}
use Rattle.fitness.specs.Fitness.{is_unfit}
use Rattle.ticks.specs.Tick.{tick}
use Rattle.rows.specs.Rows.{best_row}
use Rattle.runs.specs.Run.{ticks, run_verdict, run}
use Rattle.bench.specs.Bench.{characters}

-- texts of frames, read and written
unfoldable pub framing : Unit {0}
unfolding lowest any sum digit_of char_of contents total frame_text text_of has_bad_form has_bad_sum text_verdict characters
framing = tt

-- charts
unfoldable pub charting : Unit {0}
unfolding framing count highest reach handler node_of has_bad_field chart_verdict read_verdict read_chart write_verdict
charting = tt

unfoldable pub walking : Unit {0}
unfolding charting is_stop start next_stop stop_at scheme_course walk_from walk
walking = tt

unfoldable pub translating : Unit {0}
unfolding charting map_from is_stop start label paths rows_of rows table image_frames image_text translate_verdict translate
translating = tt

-- places needed
unfoldable pub counting : Unit {0}
unfolding translating is_caller is_circular ends_of places places_verdict places_needed
counting = tt

-- images
unfoldable pub checking : Unit {0}
unfolding framing is_bad_header position_of is_stray has_bad_content table_verdict image_verdict decoded_image
checking = tt

-- ticks on a table, and whether a state fits it
unfoldable pub ticking : Unit {0}
unfolding any is_unfit best_row tick ticks
ticking = tt

unfoldable pub running : Unit {0}
unfolding checking ticking fresh_state run_verdict run
running = tt
