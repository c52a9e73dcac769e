-- A cause and the tick that it explains: the mask decides the row and with it the tick, the row is the one that the tick takes, and a
-- refusal says that it takes none.
use Rattle.std.proofs.Common.{if◌then◌else◌, ℕ, ◌≡◌, refl, sym, ◌∙◌, ap, subst, inl, inr, List, arith, bit_and, bit_or, ◌==◌}
use Rattle.std.specs.Int.{bit_at}
use Rattle.text.specs.frames.Frame.{contents}
use Rattle.image.specs.Image.{Image, Row, nth_row}
use Rattle.image.specs.Decode.{decoded_image}
use Rattle.image.specs.inner.Sound.{SoundImage}
use Rattle.image.proofs.Accepted.{image-sound}
use Rattle.rows.specs.Rows.{Choice, row, no_choice, found, lead_of}
use Rattle.rows.proofs.BestRows.{best-is}
use Rattle.state.specs.State.{State, label_at}
use Rattle.fitness.proofs.Fitness.{Fits, unfits}
use Rattle.ticks.specs.Tick.{called_bit, choice, MachineTick, stopped, tick}
use Rattle.cause.specs.Cause.{mask_against_all, Leaving, leaves_label, nothing, leaving, Cause, Caused, because, unexplained, cause_by}
use Rattle.cause.specs.Cause.{cause_at, cause_of}
use Rattle.cause.specs.Laws.{Fitting, taken_row_from, taken_row, SameRow, SameTick, Arrives, RowTaken, RowLeads, CareNeeded, RefusedCause}
use Rattle.cause.specs.Laws.{RefusedExactly}
use Rattle.cause.proofs.Masks.{mask-decides, care-tells}
use Rattle.cause.proofs.Leaves.{Goes, Leaves, by, stays, leaves, rowless-stays}

no-cause : {A : Type 0} (n : ℕ) (c : Cause) (x : Caused) → x ≡ unexplained n → x ≡ because c → A
no-cause n c x p q = absurd (let z : ◌≡◌ {A = ℕ} 0 1 = cc in omega arith)

no_label : {A : Type 0} (l : ℕ) (x : Leaving) → x ≡ nothing → x ≡ leaves_label l → A
no_label l x p q = absurd (let z : ◌≡◌ {A = ℕ} 0 1 = cc in omega arith)

cause-same : (c d : Cause) → because c ≡ because d → c ≡ d
cause-same c d e = cc

number-same : (m n : ℕ) → unexplained m ≡ unexplained n → m ≡ n
number-same m n e = cc

label-same : (l m : ℕ) → leaves_label l ≡ leaves_label m → l ≡ m
label-same l m e = cc

-- ---- a cause that is told, taken apart
pub record TakenApart (i : Image) (s : State) (w : ℕ) (c : Cause) : Type 0 where
  pub from : ℕ
  pub left : leaving i s ≡ leaves_label from
  pub one : Row
  pub chosen : choice i s.bits from w ≡ row c.row one
  pub masked : c.mask ≡ bit_or one.care (mask_against_all from w (called_bit i s.bits from) i.rows)

module _ (i : Image) (s : State) (w : ℕ) where
  cause-left : (l : ℕ) → leaving i s ≡ leaves_label l
      → cause_of i s w ≡ cause_by i.rows (label_at i l).kind l w (called_bit i s.bits l) (choice i s.bits l w)
  unfolding cause_of
  cause-left l e = ap (cause_at i s.bits w) e

  cause-none : leaving i s ≡ nothing → cause_of i s w ≡ unexplained 21
  unfolding cause_of
  cause-none e = ap (cause_at i s.bits w) e

  module _ (l : ℕ) (left : leaving i s ≡ leaves_label l) where
    abbrev told : Choice → Caused
    told = cause_by i.rows (label_at i l).kind l w (called_bit i s.bits l)

    cause-row : (k : ℕ) (r : Row) → choice i s.bits l w ≡ row k r → cause_of i s w ≡ told (row k r)
    cause-row k r e = cause-left l left ∙ ap told e

    cause-unmatched : choice i s.bits l w ≡ no_choice → cause_of i s w ≡ unexplained 18
    cause-unmatched e = cause-left l left ∙ ap told e

  pub given : (c : Cause) → cause_of i s w ≡ because c → TakenApart i s w c
  given c e = go (leaving i s) refl
    where
      go : (x : Leaving) → leaving i s ≡ x → TakenApart i s w c
      go nothing q = no-cause 21 c (cause_of i s w) (cause-none q) e
      go (leaves_label l) q = at (choice i s.bits l w) refl
        where
          at : (x : Choice) → choice i s.bits l w ≡ x → TakenApart i s w c
          at no_choice p = no-cause 18 c (cause_of i s w) (cause-unmatched l q p) e
          at (row k r) p =
              let d : Cause = record {
                row = k;
                mask = bit_or r.care (mask_against_all l w (called_bit i s.bits l) i.rows);
                bit = if (label_at i l).kind == 2 then called_bit i s.bits l else 2;
              } in
              let same : d ≡ c = cause-same d c (sym (cause-row l q k r p) ∙ e) in
              subst (TakenApart i s w) same (record { from = l; left = q; one = r; chosen = p; masked = refl })

-- ---- the row and the tick
module _ (i : Image) (sound : SoundImage i) (s : State) (f : Fits i s) (w : ℕ) (c : Cause) (e : cause_of i s w ≡ because c) where
  abbrev pub g : TakenApart i s w c
  g = given i s w c e

  abbrev b : ℕ
  b = called_bit i s.bits g.from

  pub row-is : nth_row i c.row ≡ g.one
  row-is = (best-is g.from w b i.rows c.row g.one g.chosen).is

  pub taken-is : (v : ℕ) → taken_row i s v ≡ choice i s.bits g.from v
  taken-is v = ap (taken_row_from i s v) g.left

  pub goes : Goes i s g.from
  goes = at (leaves i sound s f)
    where
      at : Leaves i s → Goes i s g.from
      at (by l q o) = subst (Goes i s) (label-same l g.from (sym q ∙ g.left)) o
      at (stays q o) = no_label g.from (leaving i s) q g.left

  module _ (v : ℕ) (a : bit_and v c.mask ≡ bit_and w c.mask) where
    chosen-too : choice i s.bits g.from v ≡ row c.row g.one
    chosen-too = mask-decides i sound g.from w b c.row g.one g.chosen v
        (subst (λ (m : ℕ). bit_and v m ≡ bit_and w m) g.masked a)

    row-same : taken_row i s v ≡ row c.row (nth_row i c.row)
    row-same = taken-is v ∙ chosen-too ∙ ap (row c.row) (sym row-is)

    tick-same : tick i s v ≡ tick i s w
    tick-same = goes.ticks v ∙ ap (λ (x : Choice). goes.go (lead_of x)) (chosen-too ∙ sym g.chosen) ∙ sym (goes.ticks w)

  arrived : Arrives (tick i s w) (nth_row i c.row).next
  arrived =
      subst (λ (x : MachineTick). Arrives x (nth_row i c.row).next)
      (sym (goes.ticks w ∙ ap (λ (x : Choice). goes.go (lead_of x)) g.chosen))
      (subst (λ (u : ℕ). Arrives (goes.go (found g.one.next)) u)
      (sym (ap (λ (r : Row). r.next) row-is)) (goes.arrives g.one.next))

  needed : (j : ℕ) → bit_at (nth_row i c.row).care j ≡ 1 → (v : ℕ) → (bit_at v j ≡ bit_at w j → ⊥)
      → (r : Row) → taken_row i s v ≡ row c.row r → ⊥
  needed j o v d r z =
      let chosen : choice i s.bits g.from v ≡ row c.row r = sym (taken-is v) ∙ z in
      let same : r ≡ g.one = sym (best-is g.from v b i.rows c.row r chosen).is ∙ row-is in
      care-tells i g.from w b c.row g.one g.chosen v j (subst (λ (x : Row). bit_at x.care j ≡ 1) row-is o) d
      (chosen ∙ ap (row c.row) same)

-- ---- refusals
module _ (i : Image) (sound : SoundImage i) (s : State) (f : Fits i s) (w : ℕ) where
  refusals : RefusedCause i s w
  refusals = go (leaves i sound s f)
    where
      with-row : (l : ℕ) → leaving i s ≡ leaves_label l → Goes i s l → (k : ℕ) (r : Row)
          → choice i s.bits l w ≡ row k r → RefusedCause i s w
      with-row l q o k r p =
          let x : Cause = record {
            row = k;
            mask = bit_or r.care (mask_against_all l w (called_bit i s.bits l) i.rows);
            bit = if (label_at i l).kind == 2 then called_bit i s.bits l else 2;
          } in
          let told : cause_of i s w ≡ because x = cause-row i s w l q k r p in
          let at : tick i s w ≡ o.go (found r.next) = o.ticks w ∙ ap (λ (y : Choice). o.go (lead_of y)) p in
          record {
            rowless = ((λ z. no-cause 21 x (cause_of i s w) z told), (λ y. no_label l (leaving i s) (rowless-stays i sound s f y) q));
            unread = λ z v. no-cause 21 x (cause_of i s w) z told;
            unmatched = (
              (λ z. no-cause 18 x (cause_of i s w) z told),
              (λ z. absurd (subst (λ (y : MachineTick). Arrives y r.next) (sym at ∙ z) (o.arrives r.next))),
            );
            only = λ n z. no-cause n x (cause_of i s w) z told;
          }

      without : (l : ℕ) → leaving i s ≡ leaves_label l → Goes i s l → choice i s.bits l w ≡ no_choice → RefusedCause i s w
      without l q o p =
          let told : cause_of i s w ≡ unexplained 18 = cause-unmatched i s w l q p in
          let stop : tick i s w ≡ stopped 18 = o.ticks w ∙ ap (λ (y : Choice). o.go (lead_of y)) p ∙ o.stops in
          let never : cause_of i s w ≡ unexplained 21
          → ⊥ = λ z. let y : ◌≡◌ {A = ℕ} 18 21 = number-same 18 21 (sym told ∙ z) in omega arith in
          record {
            rowless = ((λ z. absurd (never z)), (λ y. no_label l (leaving i s) (rowless-stays i sound s f y) q));
            unread = λ z v. absurd (never z);
            unmatched = ((λ z. stop), (λ z. told));
            only = λ n z. inr (sym (number-same 18 n (sym told ∙ z)));
          }

      go : Leaves i s → RefusedCause i s w
      go (by l q o) = at (choice i s.bits l w) refl
        where
          at : (x : Choice) → choice i s.bits l w ≡ x → RefusedCause i s w
          at (row k r) p = with-row l q o k r p
          at no_choice p = without l q o p
      go (stays q o) =
          let told : cause_of i s w ≡ unexplained 21 = cause-none i s w q in
          record {
            rowless = ((λ z. o.rowless), (λ z. told));
            unread = λ z v. o.same v w;
            unmatched = (
              (λ z. absurd (let y : ◌≡◌ {A = ℕ} 21 18 = number-same 21 18 (sym told ∙ z) in omega arith)),
              (λ z. absurd (o.never w z)),
            );
            only = λ n z. inl (sym (number-same 21 n (sym told ∙ z)));
          }

-- ---- the laws
module _ {text : List ℕ} {s : State} (y : Fitting text s) where
  pub image : SoundImage (decoded_image (contents text))
  image = image-sound text y.accepted

  pub state : Fits (decoded_image (contents text)) s
  state = unfits (decoded_image (contents text)) s y.sized y.fits

pub same-row : SameRow
unfolding SameRow
same-row text s w c x v a = row-same (decoded_image (contents text)) (image x.fitting) s (state x.fitting) w c x.because v a

pub same-tick : SameTick
unfolding SameTick
same-tick text s w c x v a = tick-same (decoded_image (contents text)) (image x.fitting) s (state x.fitting) w c x.because v a

pub row-taken : RowTaken
unfolding RowTaken
row-taken text s w c x = row-same (decoded_image (contents text)) (image x.fitting) s (state x.fitting) w c x.because w refl

pub row-leads : RowLeads
unfolding RowLeads
row-leads text s w c x = arrived (decoded_image (contents text)) (image x.fitting) s (state x.fitting) w c x.because

pub care-needed : CareNeeded
unfolding CareNeeded
care-needed text s w c x = needed (decoded_image (contents text)) (image x.fitting) s (state x.fitting) w c x.because

pub refuses : RefusedExactly
unfolding RefusedExactly
refuses text s w y = refusals (decoded_image (contents text)) (image y) s (state y) w
