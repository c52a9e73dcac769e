-- Which schemes call which; the longest chain of their calls that begins at scheme 1, and refusal 20.
use Rattle.std.specs.Prelude.{ℕ, zero, suc, Bool, ◌&&◌, ◌||◌, not, List, [], ◌∷◌, map, ◌==◌, filter}
use Rattle.words.specs.lists.Numbers.{range, lowest, any}
use Rattle.words.specs.graph.Reach.{is_marked, only_marks, nodes_joined_from}
use Rattle.text.specs.declared.frames.sizes.TheConstants.{SCHEMES}
use Rattle.text.specs.frames.Frame.{size}
use Rattle.charts.specs.declared.layout.TheConstants.{OPERATION, FUNCTION}
use Rattle.charts.specs.Chart.{Chart, scheme, argument, is}

-- a function, or an operation that calls a scheme
abbrev pub has_call : Chart → ℕ → Bool
has_call c v = is c FUNCTION v || (is c OPERATION v && not (argument c v == 0))

abbrev pub is_call_of : Chart → ℕ → ℕ → ℕ → Bool
is_call_of c g h v = has_call c v && (scheme c v == g && argument c v == h)

-- a node of scheme g holds a call of scheme h, whether or not words lead to it
unfoldable pub is_caller : Chart → ℕ → ℕ → Bool
is_caller c g h = any (is_call_of c g h) 0 (size c)

-- no scheme is above 16
abbrev pub calls_of : Chart → ℕ → List ℕ
calls_of c g = filter (is_caller c g) (range 0 (suc SCHEMES))

-- 20. Scheme h is reached by calls from scheme 1, and calls lead from it back to it.
abbrev pub is_calling_itself : Chart → ℕ → Bool
is_calling_itself c h =
    is_marked (nodes_joined_from (suc SCHEMES) (calls_of c) (1 ∷ [])) h
    && is_marked (nodes_joined_from (suc SCHEMES) (calls_of c) (calls_of c h)) h

unfoldable pub is_circular : Chart → Bool
is_circular c = any (is_calling_itself c) 1 SCHEMES

-- the schemes that a chain of k calls from scheme 1 ends in
unfoldable pub ends_of : Chart → ℕ → List Bool
ends_of c zero = only_marks (suc SCHEMES) (1 ∷ [])
ends_of c (suc k) =
    let before = ends_of c k in map (λ h. any (λ g. is_marked before g && is_caller c g h) 0 (suc SCHEMES)) (range 0 (suc SCHEMES))

abbrev pub has_no_end : Chart → ℕ → Bool
has_no_end c k = not (any (is_marked (ends_of c k)) 0 (suc SCHEMES))

-- the lowest number of calls that no chain has; a chain of k calls has one scheme more
unfoldable pub places : Chart → ℕ
places c = lowest (has_no_end c) 0 SCHEMES
