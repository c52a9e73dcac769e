-- The search by sets finds the charts that the search by records finds: both are computed.
use Rattle.std.proofs.Common.{◌≡◌, refl, [], map}
use Rattle.words.specs.lists.Numbers.{any, lowest, count, highest}
use Rattle.words.specs.graph.Reach.{reach}
use Rattle.charts.specs.Chart.{node_of}
use Rattle.charts.specs.Check.{has_bad_field, chart_verdict}
use Rattle.little_charts.specs.inner.Search.{node_at, is_barred_node, searched_charts}
use Rattle.little_fetch.specs.inner.Trails.{arcs_from, reached, led_to, is_barred, with_node, is_cut_off, start, trails, unpacked}

pub found-two : map (unpacked 2 2) (trails 2 2 start) ≡ searched_charts 2 2 []
unfolding any lowest count highest reach node_of has_bad_field chart_verdict node_at is_barred_node searched_charts arcs_from reached led_to is_barred with_node is_cut_off trails unpacked
found-two = refl

pub found-three : map (unpacked 3 3) (trails 3 3 start) ≡ searched_charts 3 3 []
unfolding any lowest count highest reach node_of has_bad_field chart_verdict node_at is_barred_node searched_charts arcs_from reached led_to is_barred with_node is_cut_off trails unpacked
found-three = refl

pub found-four : map (unpacked 4 4) (trails 4 4 start) ≡ searched_charts 4 4 []
unfolding any lowest count highest reach node_of has_bad_field chart_verdict node_at is_barred_node searched_charts arcs_from reached led_to is_barred with_node is_cut_off trails unpacked
found-four = refl
