-- Codes and ticks turn into each other with nothing lost: no two ticks share a code.
use Rattle.std.specs.Prelude.{ℕ, ◌≤◌, ◌≡◌, if◌then◌else◌, ◌==◌}
use Rattle.image.specs.Layout.{tick_kind}
use Rattle.ticks.specs.declared.codes.Meaning.{Meaning}
use Rattle.ticks.specs.declared.codes.Meaning.TheVariants.{Drop, Unknown}
use Rattle.ticks.specs.codes.Codes.{code_of, meaning_by, meaning_of, tick_kind_of, called_of}

-- a call is of a scheme of 2 to 16
abbrev pub Called : ℕ → ℕ → Type 0
Called k h = 1 ≤ k → k ≤ 2 → (2 ≤ h) × (h ≤ 16)

-- the code of a tick stands for the tick, so no two ticks share a code
abbrev pub CodeMeans : Type 0
CodeMeans = (k h : ℕ) → Called k h → meaning_of (code_of (tick_kind k) h) ≡ meaning_by (tick_kind k) h

abbrev pub CodesApart : Type 0
CodesApart =
    (k h : ℕ) → Called k h → (j g : ℕ) → Called j g → code_of (tick_kind k) h ≡ code_of (tick_kind j) g
    → meaning_by (tick_kind k) h ≡ meaning_by (tick_kind j) g

-- 96 stands for a drop, and no other tick has it
abbrev pub DropMeans : Type 0
DropMeans = meaning_of 96 ≡ Drop

abbrev pub DropApart : Type 0
DropApart = (k h : ℕ) → Called k h → code_of (tick_kind k) h ≡ 96 → ⊥

-- a tick's kind is read back
abbrev pub KindBack : Type 0
KindBack = (k h : ℕ) → k ≤ 4 → tick_kind_of (meaning_by (tick_kind k) h) ≡ k

-- a code that stands for a tick is that tick's, which is 96 for a drop
abbrev pub Coded : ℕ → Meaning → Type 0
Coded c m = (if tick_kind_of m == 5 then 96 else code_of (tick_kind (tick_kind_of m)) (called_of m)) ≡ c

abbrev pub MeaningCoded : Type 0
MeaningCoded = (c : ℕ) → (meaning_of c ≡ Unknown → ⊥) → Coded c (meaning_of c)
