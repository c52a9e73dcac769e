-- What a run on the smaller image has in place of a label: its group's number.
use Rattle.std.specs.Prelude.{ℕ, List, map}
use Rattle.state.specs.State.{State, StateOutcome}
use Rattle.state.specs.Changes.{with_places}
use Rattle.ticks.specs.Tick.{MachineTick, finished, stopped}
use Rattle.runs.specs.Run.{MachineRun, RunOutcome}
use Rattle.minimising.specs.group_numbers.Smaller.{renumbered_label}

-- a state with each label renumbered; label 0, which also stands above the depth, keeps its number
abbrev pub renumbered_state : List ℕ → State → State
renumbered_state c s = with_places s (map (renumbered_label c) s.places) s.numbers s.servers

-- the same mask and code, or the same number that stops the tick
abbrev pub renamed_tick : List ℕ → MachineTick → MachineTick
renamed_tick c (finished m k t) = finished m k (renumbered_state c t)
renamed_tick c (stopped n) = stopped n

abbrev pub renamed_machine_run : List ℕ → MachineRun → MachineRun
renamed_machine_run c r = record { masks = r.masks; codes = r.codes; state = renumbered_state c r.state; verdict = r.verdict }

abbrev pub renamed_run : List ℕ → RunOutcome → RunOutcome
renamed_run c r = record { reply = r.reply; state = renumbered_state c r.state; masks = r.masks; codes = r.codes }

abbrev pub renamed_state_outcome : List ℕ → StateOutcome → StateOutcome
renamed_state_outcome c r = record { reply = r.reply; state = renumbered_state c r.state }
