-- The cases of a patched image hold, computed.
-- Ones of a care mask are counted here, in causes and in the slips of the rule, and nowhere else on the bench.
use Rattle.std.proofs.Common.{◌≡◌, ap, List, ℕ, arith}
use lib.Count.{ones, ones_in}
use Rattle.results.specs.Results.{no_results}
use Rattle.text.specs.frames.Verdict.{fine}
use Rattle.image.specs.Image.{Image}
use Rattle.state.specs.State.{fresh}
use Rattle.rows.specs.Rows.{best_row}
use Rattle.ticks.specs.Tick.{choice, tick}
use Rattle.runs.specs.Run.{RunOutcome, ticks, run_on}
use Rattle.bench.specs.Bench.{fresh_run}
use Rattle.bench.specs.Patched.{image_plain, image_special, image_equal, answer_words, PatchedCases}
use Rattle.bench.proofs.Tables.{table_plain, of-plain, table_special, of-special, table_equal, of-equal}
use Rattle.bench.proofs.Rounds.{blank, fresh-run, image-run}

abbrev Ran : List ℕ → Image → List ℕ → Type 0
Ran image i ws = fresh_run image 2 ws ≡ run_on fine (λ _. ticks i (fresh 2) ws) (fresh 2) (blank ws) (blank ws)

plain : (ws : List ℕ) → Ran image_plain table_plain ws
plain = fresh-run of-plain 2 (omega arith) (omega arith)

special : (ws : List ℕ) → Ran image_special table_special ws
special = image-run of-special 2 (omega arith) (omega arith)

equal : (ws : List ℕ) → Ran image_equal table_equal ws
equal = image-run of-equal 2 (omega arith) (omega arith)

abbrev codes : RunOutcome → List ℕ
codes r = r.codes

abbrev masks : RunOutcome → List ℕ
masks r = r.masks

pub patched-cases : PatchedCases
unfolding ticks tick best_row ones ones_in table_plain table_special table_equal answer_words
patched-cases = record {
  translated = of-plain.translated;
  accepted = (of-special.passes, of-equal.passes);
  plain-clear = ap masks (plain _);
  plain-set = ap codes (plain _);
  special-second = ap codes (special _);
  special-first = ap codes (special _);
  general-clear = ap masks (special _);
  general-set = ap codes (special _);
  equal-later = ap masks (equal _);
  equal-alone = ap codes (equal _);
  equal-number = ap (λ (i : Image). choice i no_results 2 1) of-equal.decodes;
  answer-plain = ap masks (plain answer_words);
  answer-either = ap masks (equal answer_words);
}
