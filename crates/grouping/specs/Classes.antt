-- The grouping with fewest groups, found in rounds: labels that hold the same start in one class, and a round parts those whose rows lead
-- to different classes. A list of classes has for each label the lowest one of its class.
use Rattle.std.specs.Prelude.{ℕ, zero, suc, Bool, ◌&&◌, not, List, length, ◌==◌, slice_index}
use Rattle.words.specs.lists.Numbers.{tabulate, lowest}
use Rattle.std.specs.List.{list_any}
use Rattle.image.specs.Image.{Image, Label, Row}
use Rattle.state.specs.State.{label_at}
use Rattle.covering.specs.Matched.{is_together}

abbrev pub has_same_fields : Label → Label → Bool
has_same_fields x y =
    x.kind == y.kind && x.called == y.called && x.owner == y.owner && x.result == y.result
    && x.mask == y.mask

abbrev pub class_of : List ℕ → ℕ → ℕ
class_of c l = slice_index c l

-- the lowest member of its class
abbrev pub is_first : List ℕ → ℕ → Bool
is_first c l = class_of c l == l

-- a row of label l and one of label m that match one word and bit lead to different classes
abbrev pub is_parting : List ℕ → ℕ → ℕ → Row → Row → Bool
is_parting c l m r s = r.from == l && s.from == m && is_together r s && not (class_of c r.next == class_of c s.next)

unfoldable pub is_parted : Image → List ℕ → ℕ → ℕ → Bool
is_parted i c l m = list_any (λ r. list_any (is_parting c l m r) i.rows) i.rows

-- labels l and m stay in one class
abbrev pub is_staying_with : Image → List ℕ → ℕ → ℕ → Bool
is_staying_with i c m l = class_of c m == class_of c l && not (is_parted i c m l)

-- the lowest label that is alike, which may be the label itself
abbrev pub classes_by : Image → (ℕ → ℕ → Bool) → List ℕ
classes_by i alike = tabulate (λ l. lowest (λ m. alike m l) 0 l) (length i.labels)

-- after k rounds
unfoldable pub classes : Image → ℕ → List ℕ
classes i zero = classes_by i (λ m l. has_same_fields (label_at i m) (label_at i l))
classes i (suc k) = let c = classes i k in classes_by i (is_staying_with i c)

-- as many rounds as labels: by then nothing changes
unfoldable pub grouping : Image → List ℕ
grouping i = classes i (length i.labels)
