-- What the tests of a state's fitness promise.
use Rattle.std.specs.Prelude.{ℕ, List, slice_index, Bool, ◌&&◌, ◌||◌, not, if◌then◌else◌, nat_lt, nat_le, ◌==◌}
use Rattle.bindings.specs.Binding.{server_of}
use Rattle.state.specs.State.{State}

-- label l of that owner may not stand where one of that scheme is open
abbrev pub is_astray : ℕ → ℕ → ℕ → Bool
is_astray owner scheme l = not (l == 1 || owner == scheme)

-- number and server of a place are both h
abbrev pub is_own : ℕ → ℕ → ℕ → Bool
is_own number server h = number == h && server == h

-- the number that a label calls by the byte that names it: with H schemes, one above H names none
abbrev pub called_by : ℕ → ℕ → ℕ
called_by H byte = if nat_lt H byte then 0 else byte

-- with H schemes, number h, which was called as that number, or scheme k, which served it, may not stand
abbrev pub is_miscalled : ℕ → ℕ → ℕ → ℕ → Bool
is_miscalled H h called k = not (h == called && (nat_le 2 k && nat_le k H))

-- label l of that owner may not stand at the bottom with that handler, where number and server stand beside it
abbrev pub is_astray_at_bottom : ℕ → ℕ → ℕ → ℕ → ℕ → Bool
is_astray_at_bottom handler owner l number server =
    not ((owner == 1 && is_own number server 1) || ((not (handler == 0) && (l == 1 || owner == handler))
    && is_own number server handler))

-- with H schemes and handler g, scheme k may not serve number h
abbrev pub is_misserved : ℕ → ℕ → ℕ → ℕ → Bool
is_misserved H g h k = not (if nat_le h H && not (h == g) then nat_le 2 k && nat_le k H else k == h)

-- number h is served by another scheme than its own
abbrev pub is_rebound : State → ℕ → Bool
is_rebound s h = not (server_of s.serving h == h)

-- with H schemes and handler g, number h is served by a scheme that may not serve it
abbrev pub is_served_amiss : ℕ → ℕ → State → ℕ → Bool
is_served_amiss H g s h = is_misserved H g h (server_of s.serving h)

-- byte k is not 0
abbrev pub is_set : List ℕ → ℕ → Bool
is_set b k = not (slice_index b k == 0)
