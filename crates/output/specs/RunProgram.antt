-- What the run program prints, as a function of the bytes that stand on standard input: 64 words, 0 to 63, from a fresh state with
-- 32 places.
use Rattle.std.specs.Prelude.{ℕ, List, [], ◌++◌, take, replicate, flat_map}
use Rattle.words.specs.lists.Numbers.{range}
use Rattle.text.specs.frames.Answer.{Reply, success, refusal, reply_count}
use Rattle.state.specs.declared.layout.TheConstants.{PLACES}
use Rattle.state.specs.State.{fresh_state}
use Rattle.runs.specs.Run.{RunOutcome, run}
use Rattle.output.specs.Lines.{refusal_line, code_line}

-- the words that it runs
abbrev pub program_words : List ℕ
program_words = range 0 64

-- that run, over buffers of zeros
abbrev pub program_run : List ℕ → RunOutcome
program_run t = run t (fresh_state PLACES).state program_words (replicate 64 0) (replicate 64 0)

-- the frame FF of a refusal, and nothing after success
abbrev pub refusal_lines : Reply → List ℕ
refusal_lines (success n) = []
refusal_lines (refusal k i n) = refusal_line k i

-- a line for each finished tick, its code, and then the refusal
abbrev pub run_lines : Reply → List ℕ → List ℕ
run_lines r codes = flat_map code_line (take (reply_count r) codes) ++ refusal_lines r

-- what it prints of a text
unfoldable pub run_output : List ℕ → List ℕ
run_output t = run_lines (program_run t).reply (program_run t).codes
