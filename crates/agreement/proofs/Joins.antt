-- The first run and the later ones: what is expected of each from its own ticks is what the ticks of the joined words let expect.
use Rattle.std.proofs.Common.{if◌then◌else◌, ℕ, ◌+◌, ◌≤◌, ◌<◌, min, Bool, true, false, ◌&&◌, ◌≡◌, ap, ap₂, ◌∙◌, sym, List, [], ◌∷◌, nat_lt}
use Rattle.std.proofs.Common.{◌++◌, map, length, take, arith, lt-ltb, le-ltb, ltb-true, ltb-false}
use Rattle.std.proofs.Math.ListN.{length-map}
use Rattle.std.proofs.lemmas.Grind.{common_steps}
use Rattle.bindings.specs.Binding.{Binding}
use Rattle.charts.specs.Chart.{Chart}
use Rattle.walk.specs.Walk.{Signal, signals, Tick}
use Rattle.walk.proofs.Trace.{WalkPosition, trace, trace-length, trace-append}
use Rattle.agreement.specs.Agreement.{RunInput, RunOutput, CallInput, to_run, CallOutput, by_run, is_short, joined_words, bound}
use Rattle.agreement.specs.Agreement.{expected_output, expected_outputs}
use Rattle.agreement.proofs.Bounds.{bound-le, bound-full, bound-part, stand, stand-full, stand-part, bound-here}
use Rattle.agreement.proofs.Expected.{output_told_by, all-long, shift, halted}

module _ (c : Chart) (s : Binding) (a : RunInput) (rest : List CallInput) where
  pub joined-short : is_short a ≡ true → joined_words c s (to_run a ∷ rest) ≡ joined_words c s rest
  unfolding joined_words
  joined-short e = ap (λ (t : Bool). (if t then [] else signals s a.words) ++ joined_words c s rest) e

  pub joined-long : is_short a ≡ false → joined_words c s (to_run a ∷ rest) ≡ signals s a.words ++ joined_words c s rest
  unfolding joined_words
  joined-long e = ap (λ (t : Bool). (if t then [] else signals s a.words) ++ joined_words c s rest) e

-- ---- the first run, which makes the ticks up to the bound b of its own
abbrev pub first_told : ℕ → List Tick → RunInput → RunOutput
first_told b ts a = output_told_by (nat_lt b (length a.words)) (length (map (λ (t : Tick). t.code) (take b ts))) (take b ts) a

-- with B the bound of all ticks
first : (b B : ℕ) (ts us : List Tick) (a : RunInput) → b ≤ length ts → min (length a.words) B ≡ b
    → (nat_lt B (0 + length a.words) && nat_lt 0 (length a.words)) ≡ nat_lt b (length a.words)
    → first_told b ts a ≡ expected_output B (ts ++ us) 0 a
first b B ts us a l e q = grind (arith, common_steps)

module _ (c : Chart) (n : ℕ) (s : Binding) where
  -- what the trace of the joined words from x on lets expect, with binding s before the first call
  abbrev pub Due : WalkPosition → List CallInput → List CallOutput
  Due x given = let ts = trace n c (joined_words c s given) x in expected_outputs c (bound n ts) ts 0 given

  module _ (a : RunInput) (rest : List CallInput) (x : WalkPosition) where
    abbrev ws : List Signal
    ws = signals s a.words

    abbrev mine : List Tick
    mine = trace n c ws x

    abbrev Joins : Type 0
    Joins = by_run (first_told (bound n mine) mine a) ∷ Due (stand c n ws x) rest
        ≡ (let ts = trace n c (ws ++ joined_words c s rest) x in expected_outputs c (bound n ts) ts 0 (to_run a ∷ rest))

    ws-length : length ws ≡ length a.words
    ws-length = length-map a.words (λ w. record { word = w; binding = s })

    mine-length : length mine ≡ length a.words
    mine-length = trace-length n c ws x ∙ ws-length

    -- the bound is not in this run
    joins-full : bound n mine ≡ length a.words → is_short a ≡ false → Joins
    joins-full h e =
        let m : ℕ = length a.words in
        let us : List Tick = trace n c (joined_words c s rest) (stand c n ws x) in
        let B : ℕ = length mine + bound n us in
        let l : length mine ≡ m = mine-length in
        let z : length mine + 0 ≡ 0 + m = omega arith in
        ap₂ (λ (t : RunOutput) (ts : List CallOutput). by_run t ∷ ts)
        (first (bound n mine) B mine us a (bound-le n mine) (omega arith)
        (ap (λ (t : Bool). t && nat_lt 0 m) (le-ltb B (0 + m) (omega arith)) ∙ sym (le-ltb (bound n mine) m (omega arith))))
        (sym (shift mine (bound n us) us c 0 rest) ∙ ap (λ (p : ℕ). expected_outputs c B (mine ++ us) p rest) z)
        ∙ sym (all-long c B (mine ++ us) 0 a rest e)
        ∙ sym (ap (λ (k : ℕ). expected_outputs c k (mine ++ us) 0 (to_run a ∷ rest)) (bound-full n mine us (h ∙ sym l)))
        ∙ sym (ap (λ (ts : List Tick). expected_outputs c (bound n ts) ts 0 (to_run a ∷ rest))
        (trace-append n c ws (joined_words c s rest) x
        ∙ ap (λ (y : WalkPosition). mine ++ trace n c (joined_words c s rest) y) (sym (stand-full c n ws x (h ∙ sym ws-length)))))

    -- the bound is in this run, and no later one makes a tick
    joins_part : bound n mine < length a.words → is_short a ≡ false → Joins
    joins_part h e = grind (arith, common_steps, bound-here, trace-append, lt-ltb, halted, all-long, bound-part, stand-part, bound-le, first, ws-length, mine-length)

    pub joins : is_short a ≡ false → Joins
    joins e = grind (arith, common_steps, bound-le, ltb-true, ltb-false, mine-length, joins-full, joins_part)
