-- The image with one label a group and the handler as it is: the group with the lower lowest member has the lower number, and each has
-- its lowest member's rows, in their order.
use Rattle.std.specs.Prelude.{ℕ, List, map, length, filter}
use Rattle.words.specs.lists.Numbers.{range, count}
use Rattle.image.specs.Image.{Image, Row}
use Rattle.state.specs.State.{label_at}
use Rattle.grouping.specs.Classes.{class_of, is_first, grouping}

-- the number of a label's group
abbrev pub renumbered_label : List ℕ → ℕ → ℕ
renumbered_label c l = count (is_first c) 0 (class_of c l)

abbrev pub renumbered_row : List ℕ → Row → Row
renumbered_row c r = record {
  from = renumbered_label c r.from;
  care = r.care;
  values =
      r.values;
  bit = r.bit;
  next = renumbered_label c r.next;
}

unfoldable pub joined_labels : Image → List ℕ → Image
joined_labels i c = record {
  handler = i.handler;
  entries = map (renumbered_label c) i.entries;
  labels = map (label_at i) (filter (is_first c) (range 0 (length i.labels)));
  rows = map (renumbered_row c) (filter (λ r. is_first c r.from) i.rows);
}

abbrev pub smaller_image : Image → Image
smaller_image i = joined_labels i (grouping i)
