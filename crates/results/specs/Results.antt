-- The result bits, one for each scheme number; walk and machine both keep them.
use Rattle.std.specs.Prelude.{ℕ, ◌-◌, Bool, false, List, set, replicate, if◌then◌else◌, ◌==◌, slice_index_or}

-- number h's bit stands at h - 1
abbrev pub Results : Type 0
Results = List Bool

-- all bits 0
abbrev pub no_results : Results
no_results = replicate 16 false

-- the bit of number h
abbrev pub result_of : ℕ → Results → Bool
result_of h b = slice_index_or b (h - 1) false

-- the result r of a tick of a scheme that was called by number h: 0 keeps the bit, 1 writes 0, 2 writes 1
abbrev pub with_result : ℕ → ℕ → Results → Results
with_result r h b = if r == 0 then b else set b (h - 1) (r == 2)

-- a call of number h sets its bit to 0
abbrev pub cleared_results : ℕ → Results → Results
cleared_results h b = set b (h - 1) false
