-- Bindings: the scheme that serves each scheme number. Walk and machine go by them alike.
use Rattle.std.specs.Prelude.{ℕ, ◌-◌, Bool, ◌||◌, List, set, nat_lt, ◌==◌, slice_index}
use Rattle.words.specs.lists.Numbers.{range}

-- the scheme that serves number h stands at h - 1; number 1 is never called
abbrev pub Binding : Type 0
Binding = List ℕ

-- each number is served by its own scheme
abbrev pub own_binding : Binding
own_binding = range 1 16

-- the scheme that serves number h
abbrev pub server_of : Binding → ℕ → ℕ
server_of s h = slice_index s (h - 1)

-- number h is served by scheme k from then on
abbrev pub rebound_binding : ℕ → ℕ → Binding → Binding
rebound_binding h k s = set s (h - 1) k

-- 22, with H schemes and handler g, 0 for none: number h or scheme k is not of 2 to H, or h is the handler's
abbrev pub is_bad_rebinding : ℕ → ℕ → ℕ → ℕ → Bool
is_bad_rebinding H g h k = nat_lt h 2 || nat_lt H h || nat_lt k 2 || nat_lt H k || h == g
