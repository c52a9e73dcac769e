-- On the image of a chart no list of words meets 18, and one meets 17 exactly where its walk goes too deep.
use Rattle.std.proofs.Common.{if◌then◌else◌, ℕ, suc, ◌≤◌, Bool, true, false, ◌≡◌, refl, sym, ◌∙◌, ap, ap₂, List, [], ◌∷◌, length, nat_lt, ◌==◌}
use Rattle.std.proofs.Common.{take, arith, lt-ltb}
use Rattle.std.proofs.Math.Dec.{leb-suc-suc}
use borrow.Author.Tests.{eqb-false}
use Rattle.std.proofs.lemmas.Grind.{common_steps}
use Rattle.words.specs.lists.Numbers.{count}
use Rattle.words.proofs.lists.Tests.{or-l}
use Rattle.words.proofs.lists.Counts.{count-none, count-alike}
use Rattle.words.proofs.lists.Searches.{some-cons}
use Rattle.results.specs.Results.{no_results}
use Rattle.bindings.specs.Binding.{own_binding}
use Rattle.text.specs.frames.Frame.{contents}
use Rattle.text.specs.frames.Verdict.{Verdict, fine, refused}
use Rattle.text.proofs.frames.Verdicts.{next-first, next-rest, when-fine}
use Rattle.charts.specs.Chart.{Chart}
use Rattle.charts.specs.Entry.{read_verdict}
use Rattle.walk.specs.Walk.{Tick, signals}
use Rattle.walk.proofs.Facts.{Facts}
use Rattle.walk.proofs.FactsHold.{facts}
use Rattle.walk.proofs.Trace.{trace, trace-length, position_at_home, home-good}
use Rattle.walk.proofs.Recursion.{walk-trace}
use Rattle.image.specs.Image.{Image}
use Rattle.image.specs.Decode.{decoded_image}
use Rattle.translator.specs.Table.{table}
use Rattle.translator.specs.Entry.{translate_verdict, translate}
use Rattle.translator.proofs.Translated.{translated-read, translated-fine, translated-image}
use Rattle.state.specs.State.{State, fresh, is_bad_size}
use Rattle.runs.specs.Run.{MachineRun, ticks}
use Rattle.state.proofs.Sizes.{size-most}
use Rattle.agreement.specs.Agreement.{bound}
use Rattle.agreement.proofs.TableFacts.{TableFacts}
use Rattle.agreement.proofs.TableFactsHold.{table-facts}
use Rattle.agreement.proofs.Bounds.{bound-stop, bound-go}
use Rattle.agreement.proofs.Ticks.{ticks-are}
use Rattle.agreement.proofs.Images.{translated-passes, translated-decoded}
use Rattle.fillings.specs.Counts.{words_of, lists, number_of, number_met, count_meeting, count_verdict, FillingsOutcome}
use Rattle.fillings.specs.Counts.{fillings_on, count_fillings}
use Rattle.fill_walks.specs.Promises.{is_too_deep, is_walk_too_deep, AlwaysCounted, ByTheWalk}
use Rattle.fillings.proofs.Sums.{counted-fine}
use Rattle.walk.proofs.OwnBinding.{own-serves}
use Rattle.agreement.proofs.Chain.{home-is}

-- some tick is a call at a full stack exactly where the bound is before the end
pub deep-bound : (n : ℕ) (ts : List Tick) → is_too_deep n ts ≡ nat_lt (bound n ts) (length ts)
unfolding bound
deep-bound n [] = grind (arith, common_steps)
deep-bound n (t ∷ ts) = grind (arith, common_steps, deep-bound n ts, some-cons, lt-ltb, bound-go, leb-suc-suc, bound-stop)

signals-length : (ws : List ℕ) → length (signals own_binding ws) ≡ length ws
signals-length [] = refl
signals-length (w ∷ ws) = ap suc (signals-length ws)

seventeen : (b : Bool) → (number_of (if b then refused 17 0 else fine) == 17) ≡ b
seventeen true = refl
seventeen false = refl

never-18 : (b : Bool) → (number_of (if b then refused 17 0 else fine) == 18) ≡ false
never-18 true = refl
never-18 false = refl

module _ (c : Chart) (f : Facts c) (table_facts : TableFacts c) (size : ℕ) (low : 1 ≤ size) (high : size ≤ 32) where
  pub met-is : (ws : List ℕ) → number_met (table c) (fresh size) ws ≡ number_of (if is_walk_too_deep size c ws then refused 17 0 else fine)
  met-is ws =
      let ts : List Tick = trace size c (signals own_binding ws) (position_at_home c no_results) in
      ap (λ (s : State). number_of (ticks (table c) s ws).verdict) (home-is c f size)
      ∙ ap (λ (r : MachineRun). number_of r.verdict)
      (ticks-are c size own_binding f (own-serves c f) high table_facts ws (position_at_home c no_results)
      (record { low = low; good = home-good c f no_results }))
      ∙ ap (λ (m : ℕ). number_of (if nat_lt (bound size ts) m then refused 17 0 else fine))
      (sym (trace-length size c (signals own_binding ws) (position_at_home c no_results) ∙ signals-length ws))
      ∙ ap (λ (b : Bool). number_of (if b then refused 17 0 else fine)) (sym (deep-bound size ts))
      ∙ ap (λ (us : List Tick). number_of (if is_too_deep size us then refused 17 0 else fine))
      (sym (walk-trace size c (signals own_binding ws)))

  no-18 : (n k : ℕ) → count_meeting (table c) (fresh size) n k 18 ≡ 0
  unfolding count_meeting
  no-18 n k = grind (arith, common_steps, count-none, never-18, met-is)

  deep-17 : (n k : ℕ) → count_meeting (table c) (fresh size) n k 17 ≡ count (λ x. is_walk_too_deep size c (words_of n k x)) 0 (lists n k)
  unfolding count_meeting
  deep-17 n k = grind (arith, common_steps, count-alike, seventeen, met-is)

size-told : (t : List ℕ) (size n k : ℕ) → count_verdict t size n k ≡ fine → is_bad_size size ≡ false
unfolding count_verdict
size-told t size n k v = grind (arith, common_steps, next-first, next-rest, when-fine)

pub always-counted : AlwaysCounted
unfolding AlwaysCounted count_fillings count_verdict
always-counted text out m translated size n k s few =
    grind (arith, common_steps, translated-fine, translated-image, translated-passes, translated-read, facts)

pub by-the-walk : ByTheWalk
unfolding ByTheWalk count_fillings
by-the-walk text out m translated size n k e =
    let c : Chart = contents text in
    let ok : translate_verdict text ≡ fine = translated-fine text out m translated in
    let read : read_verdict text ≡ fine = translated-read text ok in
    let f : Facts c = facts text read in
    let image : List ℕ = take m (translate text out).buffer in
    let i : Image = decoded_image (contents image) in
    let v : count_verdict image size n k ≡ fine = counted-fine i size n k (count_verdict image size n k) e in
    let d : i ≡ table c = ap (λ (t : List ℕ). decoded_image (contents t)) (translated-image text out m translated)
    ∙ translated-decoded text ok f in
    let s : is_bad_size size ≡ false = size-told image size n k v in
    let z : size ≡ 0 → ⊥ = eqb-false size 0 (or-l (size == 0) (nat_lt 32 size) s) in
    let is : fillings_on i size n k (count_verdict image size n k) ≡ fillings_on (table c) size n k fine =
    ap₂ (λ (j : Image) (w : Verdict). fillings_on j size n k w) d v in (
      ap (λ (r : FillingsOutcome). r.unmatched) is ∙ no-18 c f (table-facts text read) size (omega arith) (size-most size s) n k,
      ap (λ (r : FillingsOutcome). r.full) is ∙ deep-17 c f (table-facts text read) size (omega arith) (size-most size s) n k,
    )
