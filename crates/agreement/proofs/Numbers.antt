-- No refusal of the translator, of prepare, of minimise, of a little chart, of a listing, of a cause or of the counts has the number
-- 0, so that a caller from C can tell success by it.
use Rattle.std.proofs.Common.{ℕ, ◌≤◌, ◌≡◌, List, arith}
use Rattle.std.proofs.lemmas.Grind.{common_steps}
use Rattle.text.specs.frames.Frame.{contents}
use Rattle.text.specs.frames.Verdict.{Verdict}
use Rattle.text.specs.frames.Answer.{success, reply_number, reply_count, buffer_on}
use Rattle.text.proofs.frames.Refuses.{RefusesWith, next-refuses, when-refuses}
use Rattle.image.specs.Image.{Image, Row, image_text}
use Rattle.image.specs.Check.{image_verdict}
use Rattle.image.proofs.Refuses.{Early, early-image}
use Rattle.tables.specs.Prepare.{noted_table, prepare}
use Rattle.minimising.specs.Entry.{minimise_verdict, minimise}
use Rattle.little_charts.specs.Little.{little_verdict, little_chart}
use Rattle.translator.specs.Table.{table}
use Rattle.translator.specs.Entry.{translate_verdict, translate}
use Rattle.translator.proofs.Refuses.{OfChart, translate-refuses}
use Rattle.rows.specs.listing.Listing.{listing_on, list}
use Rattle.results.specs.Results.{Results}
use Rattle.rows.specs.Rows.{Choice, row, no_choice}
use Rattle.state.specs.State.{State, label_at}
use Rattle.ticks.specs.Tick.{called_bit, choice}
use Rattle.fillings.specs.Counts.{count_verdict, fillings_on, count_fillings}
use Rattle.cause.specs.Cause.{Leaving, leaves_label, nothing, leaving, Caused, because, unexplained, cause_by, cause_at, cause_of, cause_on, explain}
use Rattle.std.proofs.lemmas.Bool.Decides.{nat_tests}

-- 1 or above
abbrev pub Positive : ℕ → Type 0
Positive k = 1 ≤ k

refuses-too : (P Q : ℕ → Type 0) → ((k : ℕ) → P k → Q k) → (v : Verdict) → RefusesWith P v → RefusesWith Q v
refuses-too P Q h v p = grind (arith, nat_tests)

pub translate-positive : (t : List ℕ) → RefusesWith Positive (translate_verdict t)
translate-positive t = refuses-too OfChart Positive (λ k p. p.0) (translate_verdict t) (translate-refuses t)

pub image-positive : (t : List ℕ) → RefusesWith Positive (image_verdict t)
image-positive t = refuses-too Early Positive (λ k p. p.0) (image_verdict t) (early-image t)

-- 16 is the one refusal besides
lent-success : (v : Verdict) (unit : ℕ) (new : Unit {0} → List ℕ) (old : List ℕ) → RefusesWith Positive v
    → let x = buffer_on v unit new old in reply_number x.reply ≡ 0 → x.reply ≡ success (reply_count x.reply)
lent-success v unit new old p e = grind (arith, nat_tests)

pub translate-success : (t old : List ℕ) → let x = translate t old in reply_number x.reply ≡ 0
    → x.reply ≡ success (reply_count x.reply)
unfolding translate
translate-success t old = lent-success (translate_verdict t) 1 (λ _. image_text (table (contents t))) old (translate-positive t)

pub prepare-success : (t old : List ℕ) → let x = prepare t old in reply_number x.reply ≡ 0 → x.reply ≡ success (reply_count x.reply)
unfolding prepare
prepare-success t old = lent-success (image_verdict t) 1 (λ _. noted_table (contents t)) old (image-positive t)

pub minimise-success : (t old : List ℕ) → let x = minimise t old in reply_number x.reply ≡ 0 → x.reply ≡ success (reply_count x.reply)
unfolding minimise minimise_verdict
minimise-success t old = grind (arith, common_steps, when-refuses, next-refuses, image-positive, lent-success)

pub little-chart-success : (n k : ℕ) (old : List ℕ) → let x = little_chart n k old in reply_number x.reply ≡ 0
    → x.reply ≡ success (reply_count x.reply)
unfolding little_chart little_verdict
little-chart-success n k old = grind (arith, common_steps)

-- ---- a listing
listed-success : (v : Verdict) (go : Unit {0} → Image) (xs ys : List ℕ) → RefusesWith Positive v
    → let x = listing_on v go xs ys in reply_number x.reply ≡ 0 → x.reply ≡ success (reply_count x.reply)
listed-success v go xs ys p e = grind (arith, nat_tests)

pub list-success : (t xs ys : List ℕ) → let x = list t xs ys in reply_number x.reply ≡ 0 → x.reply ≡ success (reply_count x.reply)
unfolding list
list-success t xs ys = grind (arith, common_steps, when-refuses, next-refuses, image-positive, listed-success)

-- ---- a cause: 21 and 18 besides
abbrev CausedHigh : Caused → Type 0
CausedHigh (because c) = Unit {0}
CausedHigh (unexplained n) = Positive n

by-choice : (rs : List Row) (kind l w b : ℕ) (x : Choice) → CausedHigh (cause_by rs kind l w b x)
by-choice rs kind l w b (row k r) = tt
by-choice rs kind l w b no_choice = omega arith

by-leaving : (i : Image) (b : Results) (w : ℕ) (x : Leaving) → CausedHigh (cause_at i b w x)
by-leaving i b w (leaves_label l) = by-choice i.rows (label_at i l).kind l w (called_bit i b l) (choice i b l w)
by-leaving i b w nothing = omega arith

cause-high : (i : Image) (s : State) (w : ℕ) → CausedHigh (cause_of i s w)
unfolding cause_of
cause-high i s w = by-leaving i s.bits w (leaving i s)

told-success : (v : Verdict) (x : Caused) → RefusesWith Positive v → CausedHigh x
    → let t = cause_on v (λ _. x) in reply_number t.reply ≡ 0 → t.reply ≡ success (reply_count t.reply)
told-success v x p q e = grind (arith, nat_tests)

pub cause-success : (t : List ℕ) (s : State) (w : ℕ) → let x = explain t s w in reply_number x.reply ≡ 0
    → x.reply ≡ success (reply_count x.reply)
unfolding explain
cause-success t s w = grind (arith, common_steps, when-refuses, next-refuses, image-positive, cause-high, told-success)

-- ---- the counts: 14 and 28 besides
counted-success : (i : Image) (size n k : ℕ) (v : Verdict) → RefusesWith Positive v
    → let x = fillings_on i size n k v in reply_number x.reply ≡ 0 → x.reply ≡ success 0
counted-success i size n k v p e = grind (arith, nat_tests)

pub counts-success : (t : List ℕ) (size n k : ℕ) → let x = count_fillings t size n k in reply_number x.reply ≡ 0 → x.reply ≡ success 0
unfolding count_fillings count_verdict
counts-success t size n k = grind (arith, common_steps, when-refuses, next-refuses, image-positive, counted-success)
