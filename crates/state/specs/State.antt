-- The state, and a fresh one (refusal 14).
use Rattle.std.specs.Prelude.{ℕ, ◌-◌, Bool, ◌||◌, ◌≡◌, List, length, set, replicate, if◌then◌else◌, nat_lt, ◌==◌, slice_index, slice_index_or}
use Rattle.results.specs.Results.{no_results}
use Rattle.bindings.specs.Binding.{own_binding}
use Rattle.text.specs.declared.frames.sizes.TheConstants.{SCHEMES}
use Rattle.text.specs.declared.frames.refusals.TheConstants.{BAD_SIZE}
use Rattle.text.specs.frames.Answer.{Reply, success, refusal}
use Rattle.image.specs.Image.{Image, Label, no_label}
use Rattle.state.specs.declared.layout.TheConstants.{PLACES}

-- the machine's state, with truth values: places hold labels, the bottom first, up to the depth, and 0 above it; beside each stand the
-- number of the call that filled it and the scheme open there; number h's result and the scheme that serves h stand at h - 1
pub record State : Type 0 where
  pub size : ℕ
  pub depth : ℕ
  pub places : List ℕ
  pub bits : List Bool
  pub serving : List ℕ
  pub numbers : List ℕ
  pub servers : List ℕ

abbrev pub no_places : List ℕ
no_places = replicate PLACES 0

-- the bottom alone is filled
abbrev pub bottom_alone : ℕ → List ℕ
bottom_alone l = set no_places 0 l

-- scheme 1 alone is open, by its own number, and each number is served by its own scheme
abbrev pub fresh : ℕ → State
fresh n = record {
  size = n;
  depth = 1;
  places = no_places;
  bits = no_results;
  serving =
      own_binding;
  numbers = bottom_alone 1;
  servers = bottom_alone 1;
}

-- every number 0
abbrev pub no_state : State
no_state = record {
  size = 0;
  depth = 0;
  places = no_places;
  bits = no_results;
  serving = replicate SCHEMES 0;
  numbers = no_places;
  servers = no_places;
}

-- 14, and in a state 15
abbrev pub is_bad_size : ℕ → Bool
is_bad_size n = n == 0 || nat_lt PLACES n

pub record StateOutcome : Type 0 where
  pub reply : Reply
  pub state : State

unfoldable pub fresh_state : ℕ → StateOutcome
fresh_state n =
    if is_bad_size n then record { reply = refusal BAD_SIZE 0 0; state = no_state } else record { reply = success 0; state = fresh n }

-- ---- what an image has, by number
abbrev pub label_at : Image → ℕ → Label
label_at i l = slice_index_or i.labels l no_label

abbrev pub entry_at : Image → ℕ → ℕ
entry_at i h = slice_index i.entries (h - 1)

abbrev pub place_at : State → ℕ → ℕ
place_at s k = slice_index s.places k

-- of the scheme open at a place, the number of its call and the scheme that serves it there
abbrev pub number_at : State → ℕ → ℕ
number_at s k = slice_index s.numbers k

abbrev pub server_at : State → ℕ → ℕ
server_at s k = slice_index s.servers k

-- as many of each part that a place or a number is looked up in as the type has
pub record Sized (s : State) : Type 0 where
  pub places : length s.places ≡ PLACES
  pub serving : length s.serving ≡ SCHEMES
  pub numbers : length s.numbers ≡ PLACES
  pub servers : length s.servers ≡ PLACES
