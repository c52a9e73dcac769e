-- What is expected of a list of runs and rebindings: moved along the ticks, and after the bound.
use Rattle.std.proofs.Common.{if◌then◌else◌, ℕ, ◌+◌, ◌≤◌, Bool, true, false, ◌≡◌, refl, ap, ◌∙◌, sym, List, [], ◌∷◌, ◌++◌, map, nat_lt, length, arith}
use Rattle.std.proofs.Math.Seq.{drop-append-add}
use Rattle.std.proofs.lemmas.Grind.{common_steps}
use Rattle.words.specs.lists.Sequences.{over}
use Rattle.words.proofs.lists.Tests.{same-ltb}
use Rattle.text.specs.frames.Answer.{success, refusal}
use Rattle.charts.specs.Chart.{Chart}
use Rattle.walk.specs.Walk.{Tick}
use Rattle.agreement.specs.Agreement.{RunInput, RunOutput, CallInput, to_run, to_rebind, CallOutput, by_run, by_rebinding, is_short}
use Rattle.agreement.specs.Agreement.{expected_output, output_refused_short, reply_to, expected_outputs}

-- a run that made these ticks, and was stopped by 17 or not
abbrev pub output_told_by : Bool → ℕ → List Tick → RunInput → RunOutput
output_told_by stopped done ts a = record {
  reply = if stopped then refusal 17 0 done else success done;
  masks = over (map (λ (t : Tick). t.mask) ts) a.masks;
  codes = over (map (λ (t : Tick). t.code) ts) a.codes;
}

module _ (c : Chart) (b : ℕ) (ts : List Tick) (p : ℕ) (a : RunInput) (rest : List CallInput) where
  pub all-short : is_short a ≡ true → expected_outputs c b ts p (to_run a ∷ rest)
      ≡ by_run (output_refused_short a) ∷ expected_outputs c b ts p rest
  unfolding expected_outputs
  all-short e = rw (e, expected_outputs)

  pub all-long : is_short a ≡ false
      → expected_outputs c b ts p (to_run a ∷ rest) ≡ by_run (expected_output b ts p a) ∷ expected_outputs c b ts (p + length a.words) rest
  unfolding expected_outputs
  all-long e = rw (e, expected_outputs)

-- two expectations of a list are equal where those of its first run and of the rest are
same-all : (c : Chart) (b : ℕ) (ts : List Tick) (p b' : ℕ) (ts' : List Tick) (p' : ℕ) (a : RunInput) (rest : List CallInput)
    → expected_output b ts p a ≡ expected_output b' ts' p' a → expected_outputs c b ts p rest ≡ expected_outputs c b' ts' p' rest
    → expected_outputs c b ts (p + length a.words) rest ≡ expected_outputs c b' ts' (p' + length a.words) rest
    → expected_outputs c b ts p (to_run a ∷ rest) ≡ expected_outputs c b' ts' p' (to_run a ∷ rest)
same-all c b ts p b' ts' p' a rest one here on = grind (arith, common_steps, all-short, all-long)

-- ticks in front of all others, made already
module _ (us : List Tick) (b : ℕ) (ts : List Tick) where
  expected-shift : (p : ℕ) (a : RunInput) → expected_output (length us + b) (us ++ ts) (length us + p) a ≡ expected_output b ts p a
  expected-shift p a = grind (arith, common_steps, same-ltb, drop-append-add)

  pub shift : (c : Chart) (p : ℕ) (rest : List CallInput)
      → expected_outputs c (length us + b) (us ++ ts) (length us + p) rest ≡ expected_outputs c b ts p rest
  unfolding expected_outputs
  shift c p [] = grind (arith)
  shift c p (to_run a ∷ rest) = grind (arith, shift c p rest, shift c (p + length a.words) rest, same-all, expected-shift)
  shift c p (to_rebind h k ∷ rest) = grind (arith, shift c p rest)

-- after the bound nothing depends on the ticks
expected-halted : (b : ℕ) (ts : List Tick) (p : ℕ) (a : RunInput) → b ≤ p
    → expected_output b ts p a ≡ output_told_by (nat_lt 0 (length a.words)) 0 [] a
expected-halted b ts p a h = grind (arith, common_steps)

pub halted : (c : Chart) (b : ℕ) (ts : List Tick) (p b' : ℕ) (ts' : List Tick) (p' : ℕ) (rest : List CallInput) → b ≤ p → b' ≤ p'
    → expected_outputs c b ts p rest ≡ expected_outputs c b' ts' p' rest
unfolding expected_outputs
halted c b ts p b' ts' p' [] l l' = refl
halted c b ts p b' ts' p' (to_run a ∷ rest) l l' =
    same-all c b ts p b' ts' p' a rest (expected-halted b ts p a l ∙ sym (expected-halted b' ts' p' a l'))
    (halted c b ts p b' ts' p' rest l l')
    (halted c b ts (p + length a.words) b' ts' (p' + length a.words) rest (omega arith) (omega arith))
halted c b ts p b' ts' p' (to_rebind h k ∷ rest) l l' =
    ap (λ (xs : List CallOutput). by_rebinding (reply_to c h k) ∷ xs) (halted c b ts p b' ts' p' rest l l')
