-- Whether a state fits an image: refusal 15.
use Rattle.std.specs.Prelude.{ℕ, ◌+◌, ◌-◌, Bool, ◌&&◌, ◌||◌, not, length, if◌then◌else◌, nat_lt, nat_le, ◌==◌}
use Rattle.words.specs.lists.Numbers.{any}
use Rattle.bindings.specs.Binding.{server_of}
use Rattle.text.specs.declared.frames.sizes.TheConstants.{SCHEMES}
use Rattle.image.specs.declared.layout.TheConstants.{OPERATION_CALL, FUNCTION_CALL}
use Rattle.image.specs.Image.{Image, Label}
use Rattle.state.specs.declared.layout.TheConstants.{PLACES}
use Rattle.state.specs.State.{State, is_bad_size, label_at, place_at, number_at, server_at}

-- a label that is kept under the one it calls
abbrev pub is_call : Label → Bool
is_call x = x.kind == OPERATION_CALL || x.kind == FUNCTION_CALL

-- a scheme that may be called
abbrev pub is_callable : Image → ℕ → Bool
is_callable i k = nat_le 2 k && nat_le k (length i.entries)

-- above label l, for the number h that it calls, stands one of the scheme k that served it, or label 1
abbrev pub is_able_to_carry : Image → ℕ → ℕ → ℕ → ℕ → Bool
is_able_to_carry i l h k above = is_call (label_at i l) && h == (label_at i l).called && is_callable i k
    && (above == 1 || (label_at i above).owner == k)

abbrev pub is_unfit_place : Image → State → ℕ → Bool
is_unfit_place i s k =
    nat_le (length i.labels) (place_at s k)
    || (nat_lt (k + 1) s.depth && not (is_able_to_carry i (place_at s k) (number_at s (k + 1)) (server_at s (k + 1)) (place_at s (k + 1))))

-- label, number or server of a place that is not in use is not 0
abbrev pub is_filled_place : State → ℕ → Bool
is_filled_place s k = not (place_at s k == 0 && number_at s k == 0 && server_at s k == 0)

-- a label of the handler, as it stands at the bottom: one that the handler owns, or label 1
abbrev pub is_of_handler : Image → ℕ → Bool
is_of_handler i l = not (i.handler == 0) && (l == 1 || (label_at i l).owner == i.handler)

-- the bottom is of scheme 1 or of the handler, by its own number
abbrev pub is_own_bottom : State → ℕ → Bool
is_own_bottom s h = number_at s 0 == h && server_at s 0 == h

abbrev pub has_bad_bottom : Image → State → Bool
has_bad_bottom i s = not (((label_at i (place_at s 0)).owner == 1 && is_own_bottom s 1)
    || (is_of_handler i (place_at s 0) && is_own_bottom s i.handler))

-- number h, where it is of 2 to H and not the handler's, is served by a scheme of 2 to H, any other by itself
abbrev pub is_badly_served : Image → State → ℕ → Bool
is_badly_served i s h = let k = server_of s.serving h in
    not (if nat_le h (length i.entries) && not (h == i.handler) then is_callable i k else k == h)

-- the depth is 1 to Σ
abbrev pub has_bad_depth : State → Bool
has_bad_depth s = is_bad_size s.size || s.depth == 0 || nat_lt s.size s.depth

unfoldable pub is_unfit : Image → State → Bool
is_unfit i s =
    has_bad_depth s || any (is_unfit_place i s) 0 s.depth || has_bad_bottom i s || any (is_filled_place s) s.depth (PLACES - s.depth)
    || any (is_badly_served i s) 2 (SCHEMES - 1)
